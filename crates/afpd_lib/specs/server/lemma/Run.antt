-- What the code and the proofs go by beside Run; no public contract cites it.
use Rattle.std.specs.Prelude.{◌≡◌, ◌⊎◌, ℕ, List, length, map, Option, Some, string_bytes}
use Rattle.hex.specs.Hex.{encode_lower}
use Rattle.volume_keeper.specs.declared.loading.loading.LoadFault.{LoadFault}
use Rattle.volume_keeper.specs.declared.loading.loading.LoadFault.TheVariants as load
use Rattle.afp_core.specs.turns.Loads.{IsLoadedServer}
use Rattle.afp_core.specs.turns.ServerState.{ServerState}
use Rattle.afp_core.specs.declared.turns.counts.Counts.{Counts}
use Rattle.afp_desk.specs.declared.desk.desk.Trace.{Trace}
use Rattle.afp_outside.specs.ends.Gate.{Passed}
use Rattle.afp_outside.specs.ends.Link.{LinkState}
use Rattle.afp_outside.specs.ends.Listener.{DoorState}
use Rattle.afp_serial.specs.Household.{Household}
use Rattle.afp_server.specs.declared.doors.door.WorkerEnd.{WorkerEnd}
use Rattle.afp_server.specs.declared.doors.door.WorkerEnd.TheVariants as ends
use Rattle.afp_desk.specs.workers.House.{ServesHouse}
use Rattle.afp_desk.specs.workers.Keeping.{Keeping, steady_in}
use Rattle.afp_desk.specs.declared.workers.house.Closing.{Closing}
use Rattle.afpd_lib.specs.declared.server.ends.RunEnd.{RunEnd}
use Rattle.afpd_lib.specs.declared.server.ends.RunEnd.TheVariants as run
use Rattle.afpd_lib.specs.server.Run.{AskForHelp, ComesBack, FailsToLoad, ServesAll, ServesNone}

-- how a run ends, by how its workers did
abbrev pub end_of : WorkerEnd → Counts → RunEnd
end_of ends.Closed counts = run.Served counts
end_of ends.Failed counts = run.DoorFailed counts
end_of ends.Memory counts = run.Memory

-- A core's doors were served, and this is what came of it, from whichever keepers it was loaded.
pub record ServesLoaded {L P Y K : Type 0} (state : L → LinkState) (passed : P → Passed) (door : Y → DoorState L) (kept_by : Keeping K) (house : Household) (core : ServerState) (turns : ℕ) (doors : List Y) (end : RunEnd) (trace : Option Trace) (back : List Y) : Type 0 where
  pub closing : Closing Y
  pub serves : (now : ℕ) (keepers : List K) → IsLoadedServer (steady_in kept_by) kept_by.sure kept_by.faults house now keepers core → ServesHouse state passed door kept_by house turns now keepers doors closing
  pub so : end ≡ end_of closing.end closing.counts
  pub shown : trace ≡ Some closing.trace
  pub comes : back ≡ map (λ one. one.door) closing.done.items

-- the doors of a core were served, or there was no memory
abbrev pub EndsCore : {L P Y K : Type 0} → (L → LinkState) → (P → Passed) → (Y → DoorState L) → Keeping K → Household → ServerState → ℕ → List Y → RunEnd → Option Trace → List Y → Type 0
EndsCore state passed door kept_by house core turns doors end trace back = (ServesNone doors trace back × (end ≡ run.Memory)) ⊎ ServesLoaded state passed door kept_by house core turns doors end trace back

-- how a run ends, by why a load gave no volume
abbrev pub EndsLoad : ℕ → LoadFault → RunEnd → Type 0
EndsLoad index fault run.Memory = Unit {0}
EndsLoad index fault (run.BadRecord at_index hex reason) = (at_index ≡ index) × ((key : List ℕ) × (string_bytes hex ≡ encode_lower key) × (fault ≡ load.BadRecord key reason))
EndsLoad index fault (run.LoadFailed at_index) = (at_index ≡ index) × (fault ≡ load.Failed)
EndsLoad index fault run.Refused = ⊥
EndsLoad index fault (run.Helped text) = ⊥
EndsLoad index fault (run.DoorFailed counts) = ⊥
EndsLoad index fault (run.Served counts) = ⊥

-- a house's doors were served, and the workers ended so
pub record ServesTo {L P Y K : Type 0} (state : L → LinkState) (passed : P → Passed) (door : Y → DoorState L) (kept_by : Keeping K) (house : Household) (keepers : List K) (count turns : ℕ) (clock : Option ℕ) (doors : List Y) (end : WorkerEnd) (trace : Option Trace) (back : List Y) : Type 0 where
  pub many : length doors ≡ count
  pub closing : Closing Y
  pub serves : ServesAll state passed door kept_by house keepers turns clock doors closing
  pub comes : ComesBack closing end trace back

-- a house of as many volumes as there are keepers was to be served over so many doors, and the load at an index gave no volume
pub record StopsHouse {Y K : Type 0} (kept_by : Keeping K) (house : Household) (keepers : List K) (count : ℕ) (clock : Option ℕ) (doors : List Y) (index : ℕ) (fault : LoadFault) : Type 0 where
  pub kept : length keepers ≡ length house.volumes
  pub many : length doors ≡ count
  pub fails : FailsToLoad kept_by house keepers clock index fault

abbrev pub EndsHouse : {L P Y K : Type 0} → (L → LinkState) → (P → Passed) → (Y → DoorState L) → Keeping K → Household → List K → ℕ → ℕ → Option ℕ → List Y → RunEnd → Option Trace → List Y → Type 0
EndsHouse state passed door kept_by house keepers many turns clock doors run.Refused trace back = (length keepers ≡ length house.volumes → length doors ≡ many → ⊥) × ServesNone doors trace back
EndsHouse state passed door kept_by house keepers many turns clock doors (run.Helped text) trace back = ⊥
EndsHouse state passed door kept_by house keepers many turns clock doors run.Memory trace back = ServesNone doors trace back ⊎ ServesTo state passed door kept_by house keepers many turns clock doors ends.Memory trace back
EndsHouse state passed door kept_by house keepers many turns clock doors (run.BadRecord index hex reason) trace back =
    ServesNone doors trace back × ((key : List ℕ) × (string_bytes hex ≡ encode_lower key) × StopsHouse kept_by house keepers many clock doors index (load.BadRecord key reason))
EndsHouse state passed door kept_by house keepers many turns clock doors (run.LoadFailed index) trace back = ServesNone doors trace back × StopsHouse kept_by house keepers many clock doors index load.Failed
EndsHouse state passed door kept_by house keepers many turns clock doors (run.DoorFailed counts) trace back =
    (s : ServesTo state passed door kept_by house keepers many turns clock doors ends.Failed trace back) × (counts ≡ s.closing.counts)
EndsHouse state passed door kept_by house keepers many turns clock doors (run.Served counts) trace back =
    (s : ServesTo state passed door kept_by house keepers many turns clock doors ends.Closed trace back) × (counts ≡ s.closing.counts)

-- how a run ends whose words say nothing
abbrev pub EndsUnread : List (List ℕ) → RunEnd → Type 0
EndsUnread words run.Memory = Unit {0}
EndsUnread words run.Refused = Unit {0}
EndsUnread words (run.Helped text) = AskForHelp words
EndsUnread words (run.BadRecord index hex reason) = ⊥
EndsUnread words (run.LoadFailed index) = ⊥
EndsUnread words (run.DoorFailed counts) = ⊥
EndsUnread words (run.Served counts) = ⊥
