-- The ids of nodes over histories: each is drawn once (this profile).
use Rattle.std.specs.Prelude.{◌≡◌, ℕ, ◌<◌, ◌≤◌, false, List, ◌++◌, Some}
use Rattle.afp_serial.specs.declared.ask.Entry.{Entry}
use Rattle.afp_serial.specs.History.{stand}
use Rattle.afp_serial.specs.World.{volume_at, World}
use Rattle.volume_spec.specs.SoundVolume.{has_node}
use Rattle.volume_spec.specs.VolumeState.{VolumeState}

-- A later state of a volume: the next id did not fall, and an id that was drawn before, and that no node had, no node has.
pub record DrawsOnce (before after : VolumeState) : Type 0 where
  pub next : before.next_id ≤ after.next_id
  pub gone : (id : ℕ) → id < before.next_id → has_node before.rows id ≡ false → has_node after.rows id ≡ false

-- each volume of a world has such a later state in another
abbrev pub DrawIdsOnce : World → World → Type 0
DrawIdsOnce before after = (volume : ℕ) (v : VolumeState) → volume_at before.volumes volume ≡ Some v → (w : VolumeState) × (volume_at after.volumes volume ≡ Some w) × DrawsOnce v w

-- Between any two places of a history: no node has an id that was drawn for one that is gone.
abbrev pub IdsAreDrawnOnce : Type 0
IdsAreDrawnOnce = (start : World) (first rest : List Entry) → DrawIdsOnce (stand start first) (stand start (first ++ rest))
