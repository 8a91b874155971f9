-- A write and a cut, block by block.
use Rattle.std.proofs.Common.{◌≡◌, ◌∙◌, ◌⊎◌, refl, sym, ap, ℕ, ◌+◌, ◌-◌, ◌*◌, ◌/◌, ◌<◌, ◌≤◌, List, [], ◌∷◌, ◌++◌, length, get_or, take, drop, max, min, replicate, length-append, append_assoc, drop-drop, inl, inr, arith}
use Rattle.std.proofs.lemmas.Bool.{cases_lt}
use Rattle.std.proofs.lemmas.List.{get_or-take, get_or-drop, get_or_past, get_or_append_left, get_or-append_right, get_or-replicate, length-take, length-drop, length-replicate}
use Rattle.std.proofs.lemmas.Grind.{same_number_lists}
use Rattle.std.proofs.Math.Seq.{take-add}
use Rattle.afp_base.specs.ForkBytes.{splice, resized, taken, LeavesBefore, PutsBetween, LeavesBehind, Reaches, HasLength, KeepsFront}
use Rattle.fork_bytes.specs.Blocks.{trimmed, block_at}
use Rattle.fork_bytes.proofs.Trimmed.{get_or-block, length-block, is_block}
use Rattle.fork_bytes.proofs.Plans.{same_block}

-- the laws of splicing
pub record Splices : Type 0 where
  pub before : LeavesBefore
  pub between : PutsBetween
  pub behind : LeavesBehind
  pub reaches : Reaches

-- the part of a piece that falls into a block
pub record PartOf (piece : List ℕ) (from i low skip : ℕ) (part : List ℕ) : Type 0 where
  pub some : 0 < length part
  pub bytes : (k : ℕ) → k < length part → get_or part k 0 ≡ get_or piece (skip + k) 0
  pub place : 4096 * i + low ≡ from + skip
  pub start : (low ≡ 0) ⊎ (skip ≡ 0)
  pub end : (skip + length part ≡ length piece) ⊎ (low + length part ≡ 4096)
  pub few : low + length part ≤ 4096
  pub within : skip + length part ≤ length piece

pub spliced_block : Splices → (bytes piece : List ℕ) (from i low skip : ℕ) (part : List ℕ) → PartOf piece from i low skip part
    → trimmed (splice (block_at bytes i) low part) ≡ block_at (splice bytes from piece) i
spliced_block s bytes piece from i low skip part p =
    is_block (splice bytes from piece) i (splice (block_at bytes i) low part) (omega (arith, s.reaches (block_at bytes i) part low p.some, length-block bytes i, p.few))
    (λ j small. elim (cases_lt j low) [
      | inl under ↦ s.before (block_at bytes i) part low j under ∙ get_or-block bytes i j small ∙ sym (s.before bytes piece from (4096 * i + j) (early j under p.start))
      | inr from_low ↦ elim (cases_lt j (low + length part)) [
        | inl inside ↦
            let at : j ≡ low + (j - low) = omega arith in
            let whole : 4096 * i + j ≡ from + (skip + (j - low)) = omega (arith, p.place) in
            ap (λ n. get_or (splice (block_at bytes i) low part) n 0) at ∙ s.between (block_at bytes i) part low (j - low) (omega arith)
            ∙ p.bytes (j - low) (omega arith) ∙ sym (s.between bytes piece from (skip + (j - low)) (omega (arith, p.within)))
            ∙ ap (λ n. get_or (splice bytes from piece) n 0) (sym whole)
        | inr past ↦ s.behind (block_at bytes i) part low j past ∙ get_or-block bytes i j small ∙ sym (s.behind bytes piece from (4096 * i + j) (late j small past p.end))
      ]
    ])
  where
    early : (j : ℕ) → j < low → (low ≡ 0) ⊎ (skip ≡ 0) → 4096 * i + j < from
    early j under (inl none) = absurd (omega arith)
    early j under (inr none) = omega (arith, p.place)

    late : (j : ℕ) → j < 4096 → low + length part ≤ j → (skip + length part ≡ length piece) ⊎ (low + length part ≡ 4096) → from + length piece ≤ 4096 * i + j
    late j small past (inl all) = omega (arith, p.place)
    late j small past (inr full) = absurd (omega arith)

pub before_splice : Splices → (bytes piece : List ℕ) (from k : ℕ) → 4096 * k + 4096 ≤ from → block_at bytes k ≡ block_at (splice bytes from piece) k
before_splice s bytes piece from k under = same_block bytes (splice bytes from piece) k (λ j small. sym (s.before bytes piece from (4096 * k + j) (omega arith)))

pub behind_splice : Splices → (bytes piece : List ℕ) (from k : ℕ) → from + length piece ≤ 4096 * k → block_at bytes k ≡ block_at (splice bytes from piece) k
behind_splice s bytes piece from k past = same_block bytes (splice bytes from piece) k (λ j small. sym (s.behind bytes piece from (4096 * k + j) (omega arith)))

-- a block of bytes that are cut, or made longer by zeros
pub cut_block : HasLength → KeepsFront → (bytes : List ℕ) (len i keep : ℕ) → keep ≡ len - 4096 * i → trimmed (take keep (block_at bytes i)) ≡ block_at (resized bytes len) i
cut_block has_length keeps bytes len i keep is =
    is_block (resized bytes len) i (take keep (block_at bytes i)) (omega (arith, length-take keep (block_at bytes i), length-block bytes i))
    (λ j small. elim (cases_lt j keep) [
      | inl under ↦ get_or-take keep (block_at bytes i) j 0 under ∙ get_or-block bytes i j small ∙ sym (keeps bytes len (4096 * i + j) (omega arith))
      | inr past ↦ get_or_past (take keep (block_at bytes i)) j 0 (omega (arith, length-take keep (block_at bytes i)))
          ∙ sym (get_or_past (resized bytes len) (4096 * i + j) 0 (omega (arith, has_length bytes len)))
    ])

pub longer_block : HasLength → KeepsFront → (bytes : List ℕ) (len i : ℕ) → length bytes ≤ len → block_at bytes i ≡ block_at (resized bytes len) i
longer_block has_length keeps bytes len i longer = same_block bytes (resized bytes len) i (λ j small. elim (cases_lt (4096 * i + j) len) [
  | inl within ↦ sym (keeps bytes len (4096 * i + j) within)
  | inr past ↦ get_or_past bytes (4096 * i + j) 0 (omega arith) ∙ sym (get_or_past (resized bytes len) (4096 * i + j) 0 (omega (arith, has_length bytes len)))
])

-- before the block of the new end nothing differs
pub before_cut : HasLength → KeepsFront → (bytes : List ℕ) (len i : ℕ) → 4096 * i + 4096 ≤ len → block_at bytes i ≡ block_at (resized bytes len) i
before_cut has_length keeps bytes len i within = same_block bytes (resized bytes len) i (λ j small. sym (keeps bytes len (4096 * i + j) (omega arith)))

-- behind all bytes there are none
pub past_all : (a b : List ℕ) (i : ℕ) → length a ≤ 4096 * i → length b ≤ 4096 * i → block_at a i ≡ block_at b i
past_all a b i x y = same_block a b i (λ j small. get_or_past a (4096 * i + j) 0 (omega arith) ∙ sym (get_or_past b (4096 * i + j) 0 (omega arith)))

-- the four pieces that a write into a block makes
pub spliced_is : (old part front gap rest : List ℕ) (low : ℕ) → 0 < length part → front ≡ take low old → gap ≡ replicate (low - length front) 0 → rest ≡ drop (low + length part) old
    → front ++ gap ++ part ++ rest ≡ splice old low part
spliced_is old [] front gap rest low some f g r = absurd (omega arith)
spliced_is old (p ∷ ps) front gap rest low some f g r =
    let zeros : gap ≡ replicate (low - length old) 0 = g ∙ ap (λ n. replicate n 0) (omega (arith, ap length f, length-take low old)) in
    λ i. f i ++ zeros i ++ (p ∷ ps) ++ r i

-- the bytes of a part of a block: those that the block has, and zeros behind them
pub read_is : (bytes part gap : List ℕ) (i low n : ℕ) → low + n ≤ 4096 → 4096 * i + low + n ≤ length bytes → part ≡ take n (drop low (block_at bytes i)) → gap ≡ replicate (n - length part) 0
    → part ++ gap ≡ taken bytes (4096 * i + low) n
read_is bytes part gap i low n few within p g = same_number_lists (part ++ gap) (taken bytes (4096 * i + low) n)
    (omega (arith, length-append part gap, sizes.0, sizes.1, length-take n (drop (4096 * i + low) bytes), length-drop (4096 * i + low) bytes))
    (λ k inside.
    let small : k < n = omega (arith, inside, length-append part gap, sizes.0, sizes.1) in
    byte k small ∙ get_or-block bytes i (low + k) (omega arith) ∙ ap (λ m. get_or bytes m 0) (omega arith) ∙ sym (get_or-take n (drop (4096 * i + low) bytes) k 0 small ∙ get_or-drop (4096 * i + low) bytes k 0))
  where
    sizes : (length part ≤ n) × (length gap ≡ n - length part)
    sizes = (omega (arith, ap length p, length-take n (drop low (block_at bytes i))), ap length g ∙ length-replicate (n - length part) 0)

    byte : (k : ℕ) → k < n → get_or (part ++ gap) k 0 ≡ get_or (block_at bytes i) (low + k) 0
    byte k small = elim (cases_lt k (length part)) [
      | inl in_part ↦ get_or_append_left part gap 0 k in_part ∙ ap (λ l. get_or l k 0) p ∙ get_or-take n (drop low (block_at bytes i)) k 0 small ∙ get_or-drop low (block_at bytes i) k 0
      | inr past ↦ get_or-append_right part gap (length part) k 0 refl past ∙ ap (λ l. get_or l (k - length part) 0) g ∙ get_or-replicate (n - length part) (k - length part) 0 0 (omega arith)
          ∙ sym (get_or_past (block_at bytes i) (low + k) 0 (omega (arith, ap length p, length-take n (drop low (block_at bytes i)), length-drop low (block_at bytes i), past, small)))
    ]

pub taken-join : (bytes : List ℕ) (at m n next all : ℕ) → next ≡ at + m → all ≡ m + n → taken bytes at m ++ taken bytes next n ≡ taken bytes at all
taken-join bytes at m n next all x y =
    ap (λ l. take m (drop at bytes) ++ take n l) (ap (λ k. drop k bytes) x ∙ sym (drop-drop m at bytes)) ∙ sym (take-add m n (drop at bytes)) ∙ ap (λ k. take k (drop at bytes)) (sym y)

-- what was read before, and the next bytes
pub read_on : (bytes first old new : List ℕ) (from at stop : ℕ) → from ≤ at → at ≤ stop → old ≡ first ++ taken bytes from (at - from) → new ≡ old ++ taken bytes at (stop - at)
    → new ≡ first ++ taken bytes from (stop - from)
read_on bytes first old new from at stop x y o n =
    n ∙ ap (λ l. l ++ taken bytes at (stop - at)) o ∙ append_assoc first (taken bytes from (at - from)) (taken bytes at (stop - at))
    ∙ ap (λ l. first ++ l) (taken-join bytes from (at - from) (stop - at) at (stop - from) (omega arith) (omega arith))

-- behind the end there is nothing to read
pub taken_past : (bytes : List ℕ) (at n : ℕ) → length bytes ≤ at → taken bytes at n ≡ []
taken_past bytes at n past = same_number_lists (taken bytes at n) [] (omega (arith, length-take n (drop at bytes), length-drop at bytes))
    (λ k within. absurd (omega (arith, within, length-take n (drop at bytes), length-drop at bytes)))

-- the part of a piece that the code takes for a block
pub part_of : (piece : List ℕ) (from end i : ℕ) (part rest : List ℕ) (low high : ℕ) → 0 < length piece → end ≡ from + length piece → from / 4096 ≤ i → i ≤ (end - 1) / 4096
    → low ≡ max from (4096 * i) → high ≡ min end (4096 * i + 4096) → rest ≡ drop (low - from) piece → part ≡ take (high - low) rest
    → PartOf piece from i (low - 4096 * i) (low - from) part
part_of piece from end i part rest low high some ends begun within l h r p =
    let len : length part ≡ high - low =
    ap length p ∙ omega (arith, length-take (high - low) rest, ap length r, length-drop (low - from) piece, l, h, ends, begun, within) in
    record {
      some = omega (arith, len, l, h, ends, begun, within);
      bytes = λ k inside. ap (λ b. get_or b k 0) p ∙ get_or-take (high - low) rest k 0 (omega (arith, len, inside)) ∙ ap (λ b. get_or b k 0) r ∙ get_or-drop (low - from) piece k 0;
      place = omega (arith, l);
      start = elim (cases_lt from (4096 * i)) [ inl below ↦ inl (omega (arith, l)) | inr above ↦ inr (omega (arith, l)) ];
      end = elim (cases_lt end (4096 * i + 4096)) [ inl below ↦ inl (omega (arith, len, l, h, ends, begun, within)) | inr above ↦ inr (omega (arith, len, l, h, begun)) ];
      few = omega (arith, len, l, h);
      within = omega (arith, len, l, h, ends);
    }
