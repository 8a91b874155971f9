-- Keepers that are asked to settle, one after the other.
use Rattle.std.proofs.Common.{◌≡◌, ◌∙◌, ap, sym, refl, subst, ℕ, ◌+◌, ◌<◌, ◌≤◌, Bool, false, not, cond, List, [], ◌∷◌, length, map, count_by, drop, get_or, arith}
use Rattle.std.proofs.lemmas.List.Sums.{sum_by-cons}
use Rattle.std.specs.Prelude.{Result, Ok, Err}
use Rattle.afp_core.specs.keepers.Retiring.{AsksEach, AsksOne}
use Rattle.record_keeper.specs.Settling.{Answers, failed_in, wanting_in}
use Rattle.record_keeper.specs.declared.keeper.KeeperFault.{KeeperFault}
use Rattle.record_keeper.specs.declared.keeper.KeeperFault.TheVariants.{Failed, Memory}
use Rattle.volume_keeper.specs.kept.Changing.{Settles}
use Rattle.volume_keeper.specs.kept.Kept.{KeptState}

-- a keeper that was asked is known by what it tells
pub asks-by : (old new : KeptState) (answer : Result (Unit {0}) KeeperFault) (faults : ℕ) (sure : Bool) (settles : Answers) → faults ≡ new.faults → sure ≡ new.sure → settles ≡ new.settles
    → Settles old answer new → Settles old answer (record old { faults = faults; sure = sure; settles = settles })
asks-by old new (Ok done) faults sure settles f s a is =
    (λ i. record old { faults = f i; sure = s i; settles = a i }) ∙ ap (λ (n : KeptState). record old { faults = n.faults; sure = n.sure; settles = n.settles }) is
asks-by old new (Err Failed) faults sure settles f s a is = (
  record { state = refl; faults = subst (λ (n : ℕ). old.faults < n) (sym f) is.0.faults; unsure = is.0.unsure; sure = s ∙ is.0.sure },
  a ∙ is.1,
)
asks-by old new (Err Memory) faults sure settles f s a is =
    (λ i. record old { faults = f i; sure = s i; settles = a i }) ∙ ap (λ (n : KeptState). record old { faults = n.faults; sure = n.sure; settles = n.settles }) is

-- the first of what is left
pub first-rest : (xs ys : List KeptState) (x : KeptState) → 0 < length xs → x ≡ get_or xs 0 x → ys ≡ drop 1 xs → xs ≡ x ∷ ys
first-rest [] ys x some is rest = absurd (omega (arith, some))
first-rest (y ∷ xs) ys x some is rest = λ i. sym is i ∷ sym rest i

-- how many of the rest are not sure
pub fewer : (rest left : List KeptState) (one : KeptState) → rest ≡ one ∷ left → count_by not (map (λ k. k.sure) left) ≤ count_by not (map (λ k. k.sure) rest)
fewer rest left one is =
    let all = ap (λ (l : List KeptState). count_by not (map (λ k. k.sure) l)) is ∙ sum_by-cons (λ (s : Bool). cond (not s) 1 0) one.sure (map (λ k. k.sure) left) in
    omega (arith, all)

pub fewer-unsure : (rest left : List KeptState) (one : KeptState) → rest ≡ one ∷ left → one.sure ≡ false → count_by not (map (λ k. k.sure) left) + 1 ≤ count_by not (map (λ k. k.sure) rest)
fewer-unsure rest left one is unsure =
    let all = ap (λ (l : List KeptState). count_by not (map (λ k. k.sure) l)) is ∙ sum_by-cons (λ (s : Bool). cond (not s) 1 0) one.sure (map (λ k. k.sure) left) in
    let this : cond (not one.sure) 1 0 ≡ 1 = ap (λ (s : Bool). cond {A = ℕ} (not s) 1 0) unsure in
    omega (arith, all, this)

module _ {K : Type 0} (faults : K → ℕ) (sure : K → Bool) (settles : K → Answers) where
  -- Whatever the rest will answer, all have answers: these and that many failed, and found no memory, before them.
  abbrev pub Asked : List KeptState → List KeptState → ℕ → ℕ → Type 0
  Asked all rest failed memory = (answers : Answers) → AsksEach faults sure settles rest answers
      → (whole : Answers) × AsksEach faults sure settles all whole × (failed_in whole ≡ failed + failed_in answers) × (wanting_in whole ≡ memory + wanting_in answers)

  zero_more : (n : ℕ) → n ≡ 0 + n
  zero_more n = omega arith

  pub none-asked : (all : List KeptState) → Asked all all 0 0
  none-asked all answers asked = (answers, asked, zero_more (failed_in answers), zero_more (wanting_in answers))

  -- one more was asked
  one-more : (all rest left : List KeptState) (one : KeptState) (failed memory : ℕ) → rest ≡ one ∷ left → Asked all rest failed memory
      → (answer : Result (Unit {0}) KeeperFault) → AsksOne faults sure settles one answer → (answers : Answers) → AsksEach faults sure settles left answers
      → (whole : Answers) × AsksEach faults sure settles all whole × (failed_in whole ≡ failed + failed_in (answer ∷ answers)) × (wanting_in whole ≡ memory + wanting_in (answer ∷ answers))
  one-more all rest left one failed memory is before answer asks answers asked =
      before (answer ∷ answers) (subst (λ (l : List KeptState). AsksEach faults sure settles l (answer ∷ answers)) (sym is) (asks, asked))

  pub asked-ok : (all rest left : List KeptState) (one : KeptState) (failed memory : ℕ) → 0 < length rest → one ≡ get_or rest 0 one → left ≡ drop 1 rest → Asked all rest failed memory
      → AsksOne faults sure settles one (Ok tt) → Asked all left failed memory
  asked-ok all rest left one failed memory some is others before asks answers asked =
      one-more all rest left one failed memory (first-rest rest left one some is others) before (Ok tt) asks answers asked

  pub asked-failed : (all rest left : List KeptState) (one : KeptState) (failed memory : ℕ) → 0 < length rest → one ≡ get_or rest 0 one → left ≡ drop 1 rest → Asked all rest failed memory
      → AsksOne faults sure settles one (Err Failed) → Asked all left (failed + 1) memory
  asked-failed all rest left one failed memory some is others before asks answers asked =
      let m = one-more all rest left one failed memory (first-rest rest left one some is others) before (Err Failed) asks answers asked in
      (m.0, m.1, omega (arith, m.2), m.3)

  pub asked-wanting : (all rest left : List KeptState) (one : KeptState) (failed memory : ℕ) → 0 < length rest → one ≡ get_or rest 0 one → left ≡ drop 1 rest → Asked all rest failed memory
      → AsksOne faults sure settles one (Err Memory) → Asked all left failed (memory + 1)
  asked-wanting all rest left one failed memory some is others before asks answers asked =
      let m = one-more all rest left one failed memory (first-rest rest left one some is others) before (Err Memory) asks answers asked in
      (m.0, m.1, m.2, omega (arith, m.3))

  -- none is left
  pub all-asked : (all rest : List KeptState) (failed memory : ℕ) → Asked all rest failed memory → length rest ≡ 0
      → (whole : Answers) × AsksEach faults sure settles all whole × (failed ≡ failed_in whole) × (memory ≡ wanting_in whole)
  all-asked all [] failed memory before none = let m = before [] tt in (m.0, m.1, omega (arith, m.2), omega (arith, m.3))
  all-asked all (x ∷ rest) failed memory before none = absurd (omega (arith, none))
