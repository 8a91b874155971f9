-- Bytes without the zeros at their end: the same byte at each place, and one list for all that have the same bytes.
use Rattle.std.proofs.Common.{◌≡◌, ◌≢◌, ◌∙◌, refl, sym, ap, ℕ, zero, suc, ◌+◌, ◌*◌, ◌<◌, ◌≤◌, List, [], ◌∷◌, length, take, drop, get_or, inl, inr, arith}
use Rattle.std.proofs.lemmas.List.{get_or-take, get_or-drop, get_or_past, length-take}
use Rattle.std.proofs.lemmas.Bool.{cases_lt}
use Rattle.afp_base.specs.ForkBytes.{taken}
use Rattle.fork_bytes.specs.Blocks.{before_zeros, trimmed, block_at}

pub get_or-before : (b : ℕ) (bs : List ℕ) (k : ℕ) → get_or (before_zeros b bs) k 0 ≡ get_or (b ∷ bs) k 0
get_or-before zero [] zero = refl
get_or-before zero [] (suc k) = refl
get_or-before (suc b) [] k = refl
get_or-before b (c ∷ cs) k = refl

pub get_or-trimmed : (bs : List ℕ) (k : ℕ) → get_or (trimmed bs) k 0 ≡ get_or bs k 0
get_or-trimmed [] k = refl
get_or-trimmed (b ∷ bs) zero = get_or-before b (trimmed bs) zero
get_or-trimmed (b ∷ bs) (suc k) = get_or-before b (trimmed bs) (suc k) ∙ get_or-trimmed bs k

-- what has the same byte at each place is the same without the zeros at its end
pub same_trimmed : (xs ys : List ℕ) → ((k : ℕ) → get_or xs k 0 ≡ get_or ys k 0) → trimmed xs ≡ trimmed ys
same_trimmed [] [] same = refl
same_trimmed [] (y ∷ ys) same = λ i. before_zeros (same 0 i) (same_trimmed [] ys (λ k. same (suc k)) i)
same_trimmed (x ∷ xs) [] same = λ i. before_zeros (same 0 i) (same_trimmed xs [] (λ k. same (suc k)) i)
same_trimmed (x ∷ xs) (y ∷ ys) same = λ i. before_zeros (same 0 i) (same_trimmed xs ys (λ k. same (suc k)) i)

pub trimmed-trimmed : (bs : List ℕ) → trimmed (trimmed bs) ≡ trimmed bs
trimmed-trimmed bs = same_trimmed (trimmed bs) bs (get_or-trimmed bs)

length-before : (b : ℕ) (bs : List ℕ) → length (before_zeros b bs) ≤ suc (length bs)
length-before zero [] = omega arith
length-before (suc b) [] = omega arith
length-before b (c ∷ cs) = omega arith

pub length-trimmed : (bs : List ℕ) → length (trimmed bs) ≤ length bs
length-trimmed [] = omega arith
length-trimmed (b ∷ bs) = omega (arith, length-before b (trimmed bs), length-trimmed bs)

-- bytes that do not end in a zero
pub trimmed-last : (bs : List ℕ) (n : ℕ) → length bs ≡ suc n → get_or bs n 0 ≢ 0 → trimmed bs ≡ bs
trimmed-last [] n len last = absurd (omega arith)
trimmed-last (zero ∷ []) zero len last = absurd (last refl)
trimmed-last (suc b ∷ []) zero len last = refl
trimmed-last (b ∷ []) (suc n) len last = absurd (omega arith)
trimmed-last (b ∷ c ∷ cs) zero len last = absurd (omega arith)
trimmed-last (b ∷ c ∷ cs) (suc n) len last = ap (before_zeros b) (trimmed-last (c ∷ cs) n (omega arith) last)

-- the front of bytes, where it ends in no zero and zeros stand behind it
pub trims : (bs : List ℕ) (n : ℕ) → suc n ≤ length bs → get_or bs n 0 ≢ 0 → ((k : ℕ) → suc n ≤ k → get_or bs k 0 ≡ 0) → take (suc n) bs ≡ trimmed bs
trims bs n within last zeros =
    sym (trimmed-last (take (suc n) bs) n (length-take (suc n) bs ∙ omega arith) (λ is. last (sym (get_or-take (suc n) bs n 0 (omega arith)) ∙ is)))
    ∙ same_trimmed (take (suc n) bs) bs (λ k. front k)
  where
    front : (k : ℕ) → get_or (take (suc n) bs) k 0 ≡ get_or bs k 0
    front k = elim (cases_lt k (suc n)) [
      | inl below ↦ get_or-take (suc n) bs k 0 below
      | inr past ↦ get_or_past (take (suc n) bs) k 0 (omega (arith, length-take (suc n) bs)) ∙ sym (zeros k past)
    ]

-- a byte of a block
pub get_or-block : (bytes : List ℕ) (index j : ℕ) → j < 4096 → get_or (block_at bytes index) j 0 ≡ get_or bytes (4096 * index + j) 0
get_or-block bytes index j within =
    get_or-trimmed (taken bytes (4096 * index) 4096) j ∙ get_or-take 4096 (drop (4096 * index) bytes) j 0 within ∙ get_or-drop (4096 * index) bytes j 0

pub length-block : (bytes : List ℕ) (index : ℕ) → length (block_at bytes index) ≤ 4096
length-block bytes index = omega (arith, length-trimmed (taken bytes (4096 * index) 4096), length-take 4096 (drop (4096 * index) bytes))

-- what has the bytes of a block is the block, without the zeros at its end
pub is_block : (bytes : List ℕ) (index : ℕ) (new : List ℕ) → length new ≤ 4096 → ((j : ℕ) → j < 4096 → get_or new j 0 ≡ get_or bytes (4096 * index + j) 0) → trimmed new ≡ block_at bytes index
is_block bytes index new few same =
    same_trimmed new (taken bytes (4096 * index) 4096) (λ j. elim (cases_lt j 4096) [
      | inl below ↦ same j below ∙ sym (get_or-take 4096 (drop (4096 * index) bytes) j 0 below ∙ get_or-drop (4096 * index) bytes j 0)
      | inr past ↦ get_or_past new j 0 (omega arith) ∙ sym (get_or_past (taken bytes (4096 * index) 4096) j 0 (omega (arith, length-take 4096 (drop (4096 * index) bytes))))
    ])

-- bytes that are all zeros
pub none_trimmed : (bs : List ℕ) → ((k : ℕ) → get_or bs k 0 ≡ 0) → [] ≡ trimmed bs
none_trimmed bs zeros = sym (same_trimmed bs [] zeros)
