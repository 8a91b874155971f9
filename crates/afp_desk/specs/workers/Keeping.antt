-- What keepers tell proofs (this profile).
use Rattle.std.specs.Prelude.{ℕ, Bool, Option}
use Rattle.record_keeper.specs.Records.{Records, steadily}
use Rattle.record_keeper.specs.Settling.{Answers}

-- the records of a keeper, where it tells them; whether it goes on telling them; whether it never fails; how often it has failed; and what it answered when it was asked to settle
pub record Keeping (K : Type 0) : Type 0 where
  pub records : K → Option Records
  pub steady : K → Bool
  pub sure : K → Bool
  pub faults : K → ℕ
  pub settles : K → Answers

-- these, as one
abbrev pub keeping : {K : Type 0} → (K → Option Records) → (K → Bool) → (K → Bool) → (K → ℕ) → (K → Answers) → Keeping K
keeping records steady sure faults settles = record { records = records; steady = steady; sure = sure; faults = faults; settles = settles }

-- the records of a keeper that goes on telling them
abbrev pub steady_in : {K : Type 0} → Keeping K → K → Option Records
steady_in kept_by = steadily kept_by.steady kept_by.records
