-- A volume beside its keeper (this profile).
use Rattle.std.specs.Prelude.{ℕ, Bool}
use Rattle.record_keeper.specs.Settling.{Answers}
use Rattle.volume_spec.specs.VolumeState.{VolumeState}

-- the volume, the count of its keeper's faults, whether the keeper is sure (a sure one never fails), and what it answered when it was asked to settle
pub record KeptState : Type 0 where
  pub state : VolumeState
  pub faults : ℕ
  pub sure : Bool
  pub settles : Answers
