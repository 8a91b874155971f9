-- Changes carried out give the bytes afterwards.
use Rattle.std.proofs.Common.{◌≡◌, ◌∙◌, ◌==◌, refl, sym, ap, subst, ℕ, zero, suc, ◌+◌, ◌*◌, ◌/◌, ◌%◌, ◌<◌, ◌≤◌, Bool, true, false, ◌&&◌, if◌then◌else◌, List, [], ◌∷◌, ◌++◌, length, get_or, take, drop, reverse, add-one, max, inl, inr, IfOk, Result, Ok, Err, arith, nat_lt, nat_le, nat_eq}
use Rattle.std.proofs.lemmas.Bool.{cases_lt, cond_both, cond-true, cond-false, eqb-true, eq-eqb, ne_eqb, eqb-false, ltb-true, ltb-false, le-leb}
use Rattle.std.proofs.lemmas.List.{length-take, length-drop, reverse-append}
use Rattle.std.proofs.lemmas.Grind.{same_number_lists}
use Rattle.std.specs.List.{list_all}
use Rattle.std.specs.Cmp.Lexicographic.{pointwise, bytes_decides}
use Rattle.afp_base.specs.ForkBytes.{taken}
use Rattle.fork_bytes.specs.declared.block.Block.{Block}
use Rattle.afp_base.specs.Limits.{most_fork_bytes}
use Rattle.fork_bytes.specs.Blocks.{trimmed, block_at, block_count, blocks_of}
use Rattle.fork_bytes.specs.Kept.{bytes_in, bytes_of, is_empty, are_rising, is_kept, room_of}
use Rattle.fork_bytes.specs.lemma.Kept.{with_put, with_puts, Fits, IsForkKept}
use Rattle.fork_bytes.specs.Plan.{changes_from, changes_of, added_by, HasRoom, ForkPlanState, IsForkPlan}
use Rattle.fork_bytes.proofs.Trimmed.{get_or-block, length-block, length-trimmed, trimmed-trimmed}
use Rattle.fork_bytes.proofs.Blocks.{whole, get_or-bytes, length-bytes, block_is}
use Rattle.fork_bytes.proofs.Places.{rises, none-above}
use Rattle.fork_bytes.proofs.Puts.{bytes_in-put, rising-put, length-put, one_more}
use Rattle.fork_bytes.proofs.Listed.{blocks_are, some-length}
use Rattle.fork_bytes.proofs.Plans.{changes-none}
use Rattle.fork_bytes.proofs.Writes.{past_all}
use Rattle.afp_base.proofs.Facts.{cases}

-- blocks as they are before a block, and as they are from there on
pub record Between (a b : List ℕ) (i : ℕ) (blocks : List Block) : Type 0 where
  pub rising : are_rising blocks ≡ true
  pub done : (k : ℕ) → k < i → bytes_in blocks k ≡ block_at b k
  pub left : (k : ℕ) → i ≤ k → bytes_in blocks k ≡ block_at a k

-- a block on, where it does not differ
pub over : (a b : List ℕ) (i : ℕ) (blocks : List Block) → block_at a i ≡ block_at b i → Between a b i blocks → Between a b (i + 1) blocks
over a b i blocks same s = record {
  rising = s.rising;
  done = λ k below. elim (cases_lt k i) [
    | inl under ↦ s.done k under
    | inr at ↦ let is : i ≡ k = omega arith in s.left k at ∙ subst (λ n. block_at a n ≡ block_at b n) is same
  ];
  left = λ k past. s.left k (omega arith);
}

-- a block on, where it is put
pub put : (a b : List ℕ) (i : ℕ) (blocks : List Block) → Between a b i blocks → Between a b (i + 1) (with_put (record { index = i; bytes = block_at b i }) blocks)
put a b i blocks s =
    let c : Block = record { index = i; bytes = block_at b i } in
    record {
      rising = rising-put c blocks s.rising;
      done = λ k below. bytes_in-put c blocks k s.rising ∙ cases (i == k)
          (λ is. cond-true (i == k) (block_at b i) (bytes_in blocks k) is ∙ ap (block_at b) (eqb-true i k is))
          (λ other. cond-false (i == k) (block_at b i) (bytes_in blocks k) other ∙ s.done k (omega (arith, eqb-false i k other)));
      left = λ k past. bytes_in-put c blocks k s.rising ∙ cond-false (i == k) (block_at b i) (bytes_in blocks k) (ne_eqb i k (λ is. omega (arith, is))) ∙ s.left k (omega arith);
    }

-- what all changes of so many blocks give
pub applied : (a b : List ℕ) (i n : ℕ) (blocks : List Block) → Between a b i blocks → Between a b (i + n) (with_puts (changes_from a b i n) blocks)
applied a b i zero blocks s = subst (λ m. Between a b m blocks) (omega arith) s
applied a b i (suc n) blocks s =
    cond_both (pointwise nat_eq (block_at a i) (block_at b i)) (changes_from a b (i + 1) n) (record { index = i; bytes = block_at b i } ∷ changes_from a b (i + 1) n)
    (λ l. Between a b (i + suc n) (with_puts l blocks))
    (λ same. subst (λ m. Between a b m (with_puts (changes_from a b (i + 1) n) blocks)) (omega arith)
    (applied a b (i + 1) n blocks (over a b i blocks ((bytes_decides (block_at a i) (block_at b i)).0 same) s)))
    (λ other. subst (λ m. Between a b m (with_puts (changes_from a b (i + 1) n) (with_put (record { index = i; bytes = block_at b i }) blocks))) (omega arith)
    (applied a b (i + 1) n (with_put (record { index = i; bytes = block_at b i }) blocks) (put a b i blocks s)))

-- a block that is put takes one place more at most, and that only where there was none
put-length : (a b : List ℕ) (i : ℕ) (blocks : List Block) → Between a b i blocks
    → length (with_put (record { index = i; bytes = block_at b i }) blocks) ≤ length blocks + (if is_empty (block_at a i) then 1 else 0)
put-length a b i blocks s =
    let c : Block = record { index = i; bytes = block_at b i } in
    let most = length-put c blocks s.rising in
    let at : is_empty (bytes_in blocks i) ≡ is_empty (block_at a i) = ap is_empty (s.left i (omega arith)) in
    cases (is_empty (block_at a i))
    (λ none. rw none (omega (arith, most, few (is_empty (bytes_in blocks i)) (is_empty (block_at b i)))))
    (λ some. rw some (omega (arith, most, zero-more (is_empty (bytes_in blocks i)) (is_empty (block_at b i)) (at ∙ some))))
  where
    few : (free none : Bool) → one_more free none ≤ 1
    few true true = omega arith
    few true false = omega arith
    few false none = omega arith

    zero-more : (free none : Bool) → free ≡ false → one_more free none ≡ 0
    zero-more true none is = absurd (cc is)
    zero-more false none is = refl

-- there is room at each step, where there is for all blocks that are added
pub fits : (a b : List ℕ) (i n capacity : ℕ) (blocks : List Block) → Between a b i blocks → length blocks + added_by a (changes_from a b i n) ≤ capacity → Fits capacity (changes_from a b i n) blocks
fits a b i zero capacity blocks s room = omega arith
fits a b i (suc n) capacity blocks s room =
    cond_both (pointwise nat_eq (block_at a i) (block_at b i)) (changes_from a b (i + 1) n) (record { index = i; bytes = block_at b i } ∷ changes_from a b (i + 1) n)
    (λ l. length blocks + added_by a l ≤ capacity → Fits capacity l blocks)
    (λ same room_. fits a b (i + 1) n capacity blocks (over a b i blocks ((bytes_decides (block_at a i) (block_at b i)).0 same) s) room_)
    (λ other room_. (
      omega (arith, put-length a b i blocks s),
      fits a b (i + 1) n capacity (with_put (record { index = i; bytes = block_at b i }) blocks) (put a b i blocks s) (omega (arith, put-length a b i blocks s)),
    )) room

-- the number of blocks afterwards
pub grows : (a b : List ℕ) (i n : ℕ) (blocks : List Block) → Between a b i blocks → length (with_puts (changes_from a b i n) blocks) ≤ length blocks + added_by a (changes_from a b i n)
grows a b i zero blocks s = omega arith
grows a b i (suc n) blocks s =
    cond_both (pointwise nat_eq (block_at a i) (block_at b i)) (changes_from a b (i + 1) n) (record { index = i; bytes = block_at b i } ∷ changes_from a b (i + 1) n)
    (λ l. length (with_puts l blocks) ≤ length blocks + added_by a l)
    (λ same. grows a b (i + 1) n blocks (over a b i blocks ((bytes_decides (block_at a i) (block_at b i)).0 same) s))
    (λ other. omega (arith, put-length a b i blocks s, grows a b (i + 1) n (with_put (record { index = i; bytes = block_at b i }) blocks) (put a b i blocks s)))

-- blocks that are those of some bytes stand for these bytes
pub bytes-told : (after : List ℕ) (blocks : List Block) → ((k : ℕ) → bytes_in blocks k ≡ block_at after k) → bytes_of (length after) blocks ≡ after
bytes-told after blocks told = same_number_lists (bytes_of (length after) blocks) after (length-bytes (length after) blocks) (λ k within.
    let split : k ≡ 4096 * (k / 4096) + k % 4096 = omega arith in
    let inside : k < length after = omega (arith, length-bytes (length after) blocks) in
    ap (λ n. get_or (bytes_of (length after) blocks) n 0) split
    ∙ get_or-bytes (length after) blocks (k / 4096) (k % 4096) (omega arith) (omega arith)
    ∙ ap (λ l. get_or l (k % 4096) 0) (told (k / 4096)) ∙ get_or-block after (k / 4096) (k % 4096) (omega arith)
    ∙ ap (λ n. get_or after n 0) (sym split))

within-bytes : (after : List ℕ) (i : ℕ) → is_empty (block_at after i) ≡ false → 4096 * i + length (block_at after i) ≤ length after
within-bytes after i some =
    let low = length-trimmed (taken after (4096 * i) 4096) in
    let all = length-take 4096 (drop (4096 * i) after) in
    let behind_ = length-drop (4096 * i) after in
    omega (arith, low, all, behind_, some-length (block_at after i) some)

pub kept-told : (after : List ℕ) (blocks : List Block) → are_rising blocks ≡ true → ((k : ℕ) → is_empty (bytes_in blocks k) ≡ false → bytes_in blocks k ≡ block_at after k)
    → list_all (is_kept (length after)) blocks ≡ true
kept-told after [] rising told = refl
kept-told after (b ∷ bs) rising told =
    let r = rises b bs rising in
    let own : bytes_in (b ∷ bs) b.index ≡ b.bytes = cond-true (b.index == b.index) b.bytes (bytes_in bs b.index) (eq-eqb b.index b.index refl) in
    let is : b.bytes ≡ block_at after b.index = sym own ∙ told b.index (ap is_empty own ∙ r.filled) in
    let some : is_empty (block_at after b.index) ≡ false = ap is_empty (sym is) ∙ r.filled in
    whole (is_kept (length after) b) (list_all (is_kept (length after)) bs)
    (whole (pointwise nat_eq (trimmed b.bytes) b.bytes) (nat_le (length b.bytes) 4096 && nat_le (4096 * b.index + length b.bytes) (length after))
    ((bytes_decides (trimmed b.bytes) b.bytes).1 (subst (λ l. trimmed l ≡ l) (sym is) (trimmed-trimmed (taken after (4096 * b.index) 4096))))
    (whole (nat_le (length b.bytes) 4096) (nat_le (4096 * b.index + length b.bytes) (length after))
    (le-leb (length b.bytes) 4096 (subst (λ l. length l ≤ 4096) (sym is) (length-block after b.index)))
    (le-leb (4096 * b.index + length b.bytes) (length after) (subst (λ l. 4096 * b.index + length l ≤ length after) (sym is) (within-bytes after b.index some)))))
    (kept-told after bs r.rest (λ k there. cases (b.index == k)
    (λ here. absurd (cc (sym there ∙ ap is_empty (ap (bytes_in bs) (sym (eqb-true b.index k here)) ∙ none-above bs b.index b.index (omega arith) r.above))))
    (λ other.
    let passes : bytes_in (b ∷ bs) k ≡ bytes_in bs k = cond-false (b.index == k) b.bytes (bytes_in bs k) other in
    sym passes ∙ told k (ap is_empty passes ∙ there))))

-- room for blocks
pub room-more : (m n : ℕ) → m ≤ n → room_of m ≤ room_of n
room-more m n h = cases (nat_lt m 64)
    (λ few. rw few (cases (nat_lt n 64) (λ few_. rw few_ h) (λ many. rw many (omega (arith, ltb-false n 64 many)))))
    (λ many. rw many (cases (nat_lt n 64) (λ few. absurd (omega (arith, ltb-true n 64 few, ltb-false m 64 many))) (λ many_. rw many_ (omega arith))))

pub room-over : (n : ℕ) → n ≤ room_of n
room-over n = cases (nat_lt n 64) (λ few. rw few (omega arith)) (λ many. rw many (omega arith))

-- what fits into the room of others needs no more room
pub room-again : (m n : ℕ) → m ≤ room_of n → room_of m ≤ room_of n
room-again m n = cases (nat_lt n 64)
    (λ few. rw few (λ h. cases (nat_lt m 64) (λ few_. rw few_ h) (λ many. absurd (omega (arith, h, ltb-true n 64 few, ltb-false m 64 many)))))
    (λ many. rw many (λ h. cases (nat_lt m 64) (λ few. rw few h) (λ many_. rw many_ (omega (arith, h)))))

last_off : (xs : List Block) (n : ℕ) (x : Block) → suc n ≡ length xs → x ≡ get_or xs n x → xs ≡ (take n xs ++ drop (suc n) xs) ++ x ∷ []
last_off [] n x len is = absurd (omega arith)
last_off (a ∷ []) zero x len is = λ i. sym is i ∷ []
last_off (a ∷ []) (suc n) x len is = absurd (omega arith)
last_off (a ∷ b ∷ bs) zero x len is = absurd (omega arith)
last_off (a ∷ b ∷ bs) (suc n) x len is = ap (λ l. a ∷ l) (last_off (b ∷ bs) n x (omega arith) is)

-- the changes that are left, the last of them first in its turn
pub record Left (capacity : ℕ) (rest : List Block) (blocks : List Block) (want : List Block) : Type 0 where
  pub rising : are_rising blocks ≡ true
  pub room : Fits capacity (reverse rest) blocks
  pub same : with_puts (reverse rest) blocks ≡ want

-- one of them is put
pub next : (capacity : ℕ) (rest less blocks more want : List Block) (n : ℕ) (c : Block) → n + 1 ≡ length rest → c ≡ get_or rest n c → less ≡ take n rest ++ drop (suc n) rest
    → more ≡ with_put c blocks → Left capacity rest blocks want → Left capacity less more want
next capacity rest less blocks more want n c len is less_is more_is l =
    let split : rest ≡ less ++ c ∷ [] = last_off rest n c (sym (add-one n) ∙ len) is ∙ ap (λ m. m ++ c ∷ []) (sym less_is) in
    let turned : reverse rest ≡ c ∷ reverse less = ap reverse split ∙ reverse-append less (c ∷ []) in
    subst (λ b. Left capacity less b want) (sym more_is) (record {
      rising = rising-put c blocks l.rising;
      room = (subst (λ r. Fits capacity r blocks) turned l.room).1;
      same = ap (λ r. with_puts r blocks) (sym turned) ∙ l.same;
    })

-- there is room for the one that is put
pub has_room : (capacity : ℕ) (rest blocks want : List Block) (n : ℕ) (c : Block) → n + 1 ≡ length rest → c ≡ get_or rest n c → Left capacity rest blocks want → length (with_put c blocks) ≤ capacity
has_room capacity rest blocks want n c len is l =
    let split : rest ≡ (take n rest ++ drop (suc n) rest) ++ c ∷ [] = last_off rest n c (sym (add-one n) ∙ len) is in
    (subst (λ r. Fits capacity r blocks) (ap reverse split ∙ reverse-append (take n rest ++ drop (suc n) rest) (c ∷ [])) l.room).0

-- none is left
pub all_done : (capacity : ℕ) (rest blocks want : List Block) → length rest ≡ 0 → Left capacity rest blocks want → blocks ≡ want
all_done capacity [] blocks want none l = l.same
all_done capacity (c ∷ cs) blocks want none l = absurd (omega arith)

-- a plan's changes, the blocks that they are made in, and the room for them
pub record Given (a b : List ℕ) (len : ℕ) (blocks changes : List Block) (old_capacity room capacity : ℕ) : Type 0 where
  pub kept : IsForkKept len blocks old_capacity
  pub view : bytes_of len blocks ≡ a
  pub are : changes ≡ changes_of a b
  pub enough : HasRoom (length (blocks_of a)) (added_by a changes) room
  pub more : old_capacity ≤ capacity
  pub brought : room ≤ capacity

abbrev pub all_blocks : List ℕ → List ℕ → ℕ
all_blocks a b = max (block_count (length a)) (block_count (length b))

start : {a b : List ℕ} {len : ℕ} {blocks changes : List Block} {old_capacity room capacity : ℕ} → Given a b len blocks changes old_capacity room capacity → Between a b 0 blocks
start {a = a} {len = len} {blocks = blocks} g = record {
  rising = g.kept.rising;
  done = λ k below. absurd (omega arith);
  left = λ k past. sym (block_is len blocks k g.kept.kept) ∙ ap (λ l. block_at l k) g.view;
}

ended : {a b : List ℕ} {len : ℕ} {blocks changes : List Block} {old_capacity room capacity : ℕ} → Given a b len blocks changes old_capacity room capacity
    → Between a b (0 + all_blocks a b) (with_puts changes blocks)
ended {a = a} {b = b} {blocks = blocks} g =
    subst (λ l. Between a b (0 + all_blocks a b) (with_puts l blocks)) (sym g.are) (applied a b 0 (all_blocks a b) blocks (start g))

number : {a b : List ℕ} {len : ℕ} {blocks changes : List Block} {old_capacity room capacity : ℕ} → Given a b len blocks changes old_capacity room capacity → length (blocks_of a) ≡ length blocks
number {len = len} {blocks = blocks} g = ap (λ l. length (blocks_of l)) (sym g.view) ∙ ap length (blocks_are len blocks g.kept.rising g.kept.kept)

pub given_fits : {a b : List ℕ} {len : ℕ} {blocks changes : List Block} {old_capacity room capacity : ℕ} → Given a b len blocks changes old_capacity room capacity → Fits capacity changes blocks
given_fits {a = a} {b = b} {blocks = blocks} {changes = changes} {room = room} {capacity = capacity} g =
    subst (λ l. Fits capacity l blocks) (sym g.are) (fits a b 0 (all_blocks a b) capacity blocks (start g) (subst (λ l. length blocks + added_by a l ≤ capacity) g.are (there_is g.enough)))
  where
    there_is : HasRoom (length (blocks_of a)) (added_by a changes) room → length blocks + added_by a changes ≤ capacity
    there_is (inl fit) = omega (arith, fit, ap room_of (number g), number g, g.kept.room, g.more)
    there_is (inr more_) = omega (arith, more_, room-over (length (blocks_of a) + added_by a changes), number g, g.brought)

pub given_bytes : {a b : List ℕ} {len : ℕ} {blocks changes : List Block} {old_capacity room capacity : ℕ} → Given a b len blocks changes old_capacity room capacity
    → (k : ℕ) → bytes_in (with_puts changes blocks) k ≡ block_at b k
given_bytes {a = a} {b = b} g k = elim (cases_lt k (0 + all_blocks a b)) [
  | inl below ↦ (ended g).done k below
  | inr past ↦ (ended g).left k past ∙ past_all a b k (omega (arith, past)) (omega (arith, past))
]

pub given_kept : {a b : List ℕ} {len : ℕ} {blocks changes : List Block} {old_capacity room capacity : ℕ} → Given a b len blocks changes old_capacity room capacity
    → (last : ℕ) → capacity ≤ last → length b ≤ most_fork_bytes → IsForkKept (length b) (with_puts changes blocks) last
given_kept {a = a} {b = b} {blocks = blocks} {changes = changes} {room = room} {capacity = capacity} g last more_ few = record {
  few = few;
  rising = (ended g).rising;
  kept = kept-told b (with_puts changes blocks) (ended g).rising (λ k there. given_bytes g k);
  room = there_is g.enough;
} where
  grown : length (with_puts changes blocks) ≤ length blocks + added_by a changes
  grown = subst (λ l. length (with_puts l blocks) ≤ length blocks + added_by a l) (sym g.are) (grows a b 0 (all_blocks a b) blocks (start g))

  there_is : HasRoom (length (blocks_of a)) (added_by a changes) room → room_of (length (with_puts changes blocks)) ≤ last
  there_is (inl fit) = omega (arith, room-again (length (with_puts changes blocks)) (length blocks) (omega (arith, grown, fit, ap room_of (number g), number g)), g.kept.room, g.more, more_)
  there_is (inr more__) = omega (arith, more__, room-more (length (with_puts changes blocks)) (length (blocks_of a) + added_by a changes) (omega (arith, grown, number g)), g.brought, more_)

pub given_after : {a b : List ℕ} {len : ℕ} {blocks changes : List Block} {old_capacity room capacity : ℕ} → Given a b len blocks changes old_capacity room capacity
    → bytes_of (length b) (with_puts changes blocks) ≡ b
given_after {b = b} {blocks = blocks} {changes = changes} g = bytes-told b (with_puts changes blocks) (given_bytes g)

-- what is given where a plan of the fork as it is is carried out
pub given_by : {a b : List ℕ} {len : ℕ} {blocks changes : List Block} {old_capacity room capacity : ℕ} {plan : ForkPlanState} → IsForkKept len blocks old_capacity → bytes_of len blocks ≡ a → IsForkPlan a b plan
    → plan.changes ≡ changes → plan.room ≡ room → old_capacity ≤ capacity → room ≤ capacity → Given a b len blocks changes old_capacity room capacity
given_by {a = a} {room = room} {plan = plan} kept view p changes_are room_is more_ brought_ = record {
  kept = kept;
  view = view;
  are = sym changes_are ∙ p.changes;
  enough = subst (λ l. HasRoom (length (blocks_of a)) (added_by a l) room) changes_are (subst (λ n. HasRoom (length (blocks_of a)) (added_by a plan.changes) n) room_is p.room);
  more = more_;
  brought = brought_;
}

-- a plan that is made of its parts
pub if_plan : {E : Type 0} (r : Result ForkPlanState E) (a b : List ℕ) (len added : ℕ) (list : List Block) → IfOk r (λ p. p.len ≡ len) → IfOk r (λ p. p.changes ≡ list)
    → IfOk r (λ p. HasRoom (length (blocks_of a)) added p.room) → len ≡ length b → list ≡ changes_of a b → added ≡ added_by a list → IfOk r (λ p. IsForkPlan a b p)
if_plan (Ok p) a b len added list x y z l c n = record {
  len = x ∙ l;
  changes = y ∙ c;
  room = subst (λ k. HasRoom (length (blocks_of a)) k p.room) (n ∙ ap (added_by a) (sym y)) z;
}
if_plan (Err e) a b len added list x y z l c n = tt

pub no_changes : (a : List ℕ) → [] ≡ changes_of a a
no_changes a = sym (changes-none a a 0 (all_blocks a a) (λ k low high. refl))

pub if_writes : {E : Type 0} (r : Result ForkPlanState E) (v w : Bool) → v ≡ w → IfOk r (λ p. p.writes ≡ v) → IfOk r (λ p. p.writes ≡ w)
if_writes (Ok p) v w same h = h ∙ same
if_writes (Err e) v w same h = tt
