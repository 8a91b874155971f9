-- What becomes of a volume and its keeper where the keeper fails, and where it is asked to settle (this profile).
use Rattle.std.specs.Prelude.{◌≡◌, ◌<◌, ◌++◌, ◌∷◌, [], false, Result, Ok, Err}
use Rattle.volume_keeper.specs.kept.Kept.{KeptState}
use Rattle.record_keeper.specs.declared.keeper.KeeperFault.{KeeperFault}
use Rattle.record_keeper.specs.declared.keeper.KeeperFault.TheVariants as keeper

-- the keeper failed, and counted it; the volume is as before
pub record FailsIn (old new : KeptState) : Type 0 where
  pub state : new.state ≡ old.state
  pub faults : old.faults < new.faults
  pub unsure : old.sure ≡ false
  pub sure : new.sure ≡ old.sure

-- A volume whose keeper was asked to settle, once, with its answer: it did, or it failed and counted that, or there was no memory.
abbrev pub Settles : KeptState → Result (Unit {0}) KeeperFault → KeptState → Type 0
Settles old (Ok done) new = new ≡ record old { settles = old.settles ++ Ok done ∷ [] }
Settles old (Err keeper.Failed) new = FailsIn old new × (new.settles ≡ old.settles ++ Err keeper.Failed ∷ [])
Settles old (Err keeper.Memory) new = new ≡ record old { settles = old.settles ++ Err keeper.Memory ∷ [] }
