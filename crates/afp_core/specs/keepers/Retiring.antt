-- What settling all keepers comes to (this profile).
use Rattle.std.specs.Prelude.{◌≡◌, ◌≤◌, ℕ, Bool, List, [], ◌∷◌, Result, count_by, length, map, not}
use Rattle.afp_core.specs.declared.keepers.retired.Retired.{Retired}
use Rattle.record_keeper.specs.Settling.{Answers, failed_in, wanting_in}
use Rattle.record_keeper.specs.declared.keeper.KeeperFault.{KeeperFault}
use Rattle.volume_keeper.specs.kept.Changing.{Settles}
use Rattle.volume_keeper.specs.kept.Kept.{KeptState}

-- the keeper of a volume was asked to settle, once, with this answer; `after` is that keeper then
pub record AsksOne {K : Type 0} (faults : K → ℕ) (sure : K → Bool) (settles : K → Answers) (old : KeptState) (answer : Result (Unit {0}) KeeperFault) : Type 0 where
  pub after : K
  pub is : Settles old answer (record old { faults = faults after; sure = sure after; settles = settles after })

-- each of them, in order, with its answer
abbrev pub AsksEach : {K : Type 0} → (K → ℕ) → (K → Bool) → (K → Answers) → List KeptState → Answers → Type 0
AsksEach faults sure settles [] [] = Unit {0}
AsksEach faults sure settles (old ∷ kept) (answer ∷ answers) = AsksOne faults sure settles old answer × AsksEach faults sure settles kept answers
AsksEach faults sure settles kept answers = ⊥

-- Each keeper was asked to settle, once, in order; the numbers are those of the answers. A sure keeper did not fail.
pub record Retires {K : Type 0} (faults : K → ℕ) (sure : K → Bool) (settles : K → Answers) (kept : List KeptState) (r : Retired) : Type 0 where
  pub answers : Answers
  pub asked : AsksEach faults sure settles kept answers
  pub volumes : r.volumes ≡ length kept
  pub failed : r.failed ≡ failed_in answers
  pub memory : r.memory ≡ wanting_in answers
  pub unsure : r.failed ≤ count_by not (map (λ k. k.sure) kept)
