-- Which keeper is opened for the place of a volume (this profile).
use Rattle.std.specs.Prelude.{◌≡◌, true, false}
use Rattle.std.specs.FinMap.{empty}
use Rattle.record_keeper.specs.Planned.{fails_next, never_fails}
use Rattle.afpd_lib.specs.declared.server.setup.VolumePlace.{VolumePlace}
use Rattle.afpd_lib.specs.declared.server.setup.VolumePlace.TheVariants as places
use Rattle.afpd.specs.declared.opening.PlaceKeeper.{PlaceKeeper}
use Rattle.afpd.specs.declared.opening.PlaceKeeper.TheVariants as keepers

-- for a file the keeper over it, or one whose next call fails
abbrev pub OpensFile : PlaceKeeper → Type 0
OpensFile (keepers.Memory keeper) = ⊥
OpensFile (keepers.File keeper) = Unit {0}
OpensFile (keepers.Unopened keeper) = (never_fails keeper.planned ≡ false) × (fails_next keeper.planned ≡ true)

-- for memory a keeper that holds nothing and never fails
abbrev pub OpensMemory : PlaceKeeper → Type 0
OpensMemory (keepers.Memory keeper) = (keeper.records ≡ empty) × (never_fails keeper.planned ≡ true)
OpensMemory (keepers.File keeper) = ⊥
OpensMemory (keepers.Unopened keeper) = ⊥

abbrev pub Opens : VolumePlace → PlaceKeeper → Type 0
Opens places.Memory keeper = OpensMemory keeper
Opens (places.File name) keeper = OpensFile keeper
