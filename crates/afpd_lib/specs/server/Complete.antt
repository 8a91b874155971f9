-- The server serves where nothing is in the way (this profile).
use Rattle.std.specs.Prelude.{◌≡◌, ◌⊎◌, ℕ, ◌<◌, true, List, length, Option, Some, None, All, slice_get, sum}
use mathlib.Core.Option.{some}
use lib.ListN.{get_elem?}
use Rattle.afp_base.specs.Counts.{last_count}
use Rattle.afp_outside.specs.ends.Gate.{Passed}
use Rattle.afp_outside.specs.ends.Link.{LinkState}
use Rattle.afp_outside.specs.ends.Listener.{DoorState}
use Rattle.afp_outside.specs.ends.Sink.{SinkState}
use Rattle.afp_serial.specs.Household.{Household}
use Rattle.afp_serial.specs.declared.ask.Outcome.TheVariants.{Done}
use Rattle.afp_desk.specs.workers.House.{ServesHouse, ended_of, history_of}
use Rattle.afp_desk.specs.workers.Keeping.{Keeping, steady_in}
use Rattle.afp_desk.specs.declared.workers.house.Closing.{Closing}
use Rattle.record_keeper.specs.Records.{Records}
use Rattle.volume_keeper_records.specs.FirstBad.{first_bad_record}
use Rattle.volume_keeper_records.specs.Image.{records_in}
use Rattle.afpd_lib.specs.server.AskedHouse.{Asks, house_of}
use Rattle.afpd_lib.specs.server.Run.{IsServerRun}
use Rattle.afpd_lib.specs.declared.server.server.Finish.{Finish}
use Rattle.afpd_lib.specs.words.Words.{WordValues}

-- No door fails: the count of each did not rise, and did not stand at its last number.
abbrev pub NoneFails : {L Y : Type 0} → (Y → DoorState L) → List Y → List Y → Type 0
NoneFails {L} {Y} door doors back = (index : ℕ) (old new : Y) → get_elem? doors index ≡ some old → get_elem? back index ≡ some new → ((door new).faults ≡ (door old).faults) × ((door old).faults < last_count)

-- The law: where the words ask for a house that is taken, of as many volumes as there are keepers, and for as many workers as there are doors, no door fails, and
-- the report's count of faults neither rose nor stands at its last number, the status is 0, or 6 for want of memory, or 3 for a keeper whose records are no volume's.
abbrev pub ServesGoodWords : {L P Y K : Type 0} → (L → LinkState) → (P → Passed) → (Y → DoorState L) → Keeping K → Type 0
ServesGoodWords {L} {P} {Y} {K} state passed door kept_by = (words : List (List ℕ)) (keepers : List K) (key : List ℕ) (clock : Option ℕ) (values : WordValues) (doors : List Y) (before after : SinkState) (finish : Finish Y)
    → IsServerRun state passed door kept_by words keepers key clock doors before after finish → Asks words key values → length keepers ≡ length (house_of values key).volumes → length doors ≡ values.workers
    → NoneFails door doors finish.doors.items → after.faults ≡ before.faults → before.faults < last_count → (finish.status ≡ 0) ⊎ ((finish.status ≡ 3) ⊎ (finish.status ≡ 6))

-- A keeper is sure, goes on telling its records, and none of them is bad for a volume of this name.
pub record HoldsGood {K : Type 0} (kept_by : Keeping K) (name : List ℕ) (keeper : K) : Type 0 where
  pub sure : kept_by.sure keeper ≡ true
  pub held : Records
  pub told : steady_in kept_by keeper ≡ Some held
  pub good : first_bad_record name (records_in held) ≡ None

-- Each keeper does, for the volume's name at its place.
abbrev pub HoldGood : {K : Type 0} → Keeping K → List (List ℕ) → List K → Type 0
HoldGood {K} kept_by names keepers = (index : ℕ) (name : List ℕ) (keeper : K) → slice_get names index ≡ Some name → slice_get keepers index ≡ Some keeper → HoldsGood kept_by name keeper

-- The law: where besides each keeper is sure and its records are those of a volume of its name, the status is 0, or 6 for want of memory.
abbrev pub ServesGoodKeepers : {L P Y K : Type 0} → (L → LinkState) → (P → Passed) → (Y → DoorState L) → Keeping K → Type 0
ServesGoodKeepers {L} {P} {Y} {K} state passed door kept_by = (words : List (List ℕ)) (keepers : List K) (key : List ℕ) (clock : Option ℕ) (values : WordValues) (doors : List Y) (before after : SinkState) (finish : Finish Y)
    → IsServerRun state passed door kept_by words keepers key clock doors before after finish → Asks words key values → length keepers ≡ length (house_of values key).volumes → length doors ≡ values.workers
    → NoneFails door doors finish.doors.items → after.faults ≡ before.faults → before.faults < last_count → HoldGood kept_by (house_of values key).volumes keepers → (finish.status ≡ 0) ⊎ (finish.status ≡ 6)

-- The law: where a house's doors were served, and the sum of its keepers' counts did not rise and stands below the last number, no ask met a fault. That sum
-- never rises where all keepers are sure.
abbrev pub MeetsNoFault : {L P Y K : Type 0} → (L → LinkState) → (P → Passed) → (Y → DoorState L) → Keeping K → Type 0
MeetsNoFault {L} {P} {Y} {K} state passed door kept_by = (house : Household) (keepers : List K) (turns now : ℕ) (doors : List Y) (f : Closing Y)
    → (s : ServesHouse state passed door kept_by house turns now keepers doors f) → sum (ended_of f).faults ≡ sum s.start.faults → sum (ended_of f).faults < last_count → All (λ e. e.outcome ≡ Done) (history_of f)
