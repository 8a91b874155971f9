-- What a whole run of the server is, and its exit status (this profile).
use Rattle.std.specs.Prelude.{◌≡◌, ◌⊎◌, ℕ, true, List, length, map, Option, Some, None, IfSome, string_bytes, sum}
use Rattle.std.specs.List.{list_all}
use Rattle.hex.specs.Hex.{encode_lower}
use Rattle.volume_keeper.specs.declared.loading.loading.LoadFault.{LoadFault}
use Rattle.volume_keeper.specs.declared.loading.loading.LoadFault.TheVariants as load
use Rattle.afp_core.specs.keepers.Loads.{LoadsStopAt}
use Rattle.afp_core_state.specs.Holding.{HoldEach}
use Rattle.afp_desk.specs.declared.desk.desk.Trace.{Trace}
use Rattle.afp_outside.specs.ends.Gate.{Passed}
use Rattle.afp_outside.specs.ends.Link.{LinkState}
use Rattle.afp_outside.specs.ends.Listener.{DoorState}
use Rattle.afp_outside.specs.ends.Sink.{SinkState}
use Rattle.afp_outside.specs.ends.Whole.{Prints, PrintsPart}
use Rattle.afp_serial.specs.History.{faults_in, stand}
use Rattle.afp_serial.specs.Household.{Household}
use Rattle.afp_server.specs.declared.doors.door.WorkerEnd.{WorkerEnd}
use Rattle.afp_server.specs.declared.doors.door.WorkerEnd.TheVariants as ends
use Rattle.afp_desk.specs.workers.House.{ServesHouse, ended_of, history_of}
use Rattle.afp_desk.specs.workers.Keeping.{Keeping, steady_in}
use Rattle.afp_desk.specs.declared.workers.house.Closing.{Closing}
use Rattle.afpd_lib.specs.server.AskedHouse.{Asks, IsRefused, house_of}
use Rattle.afpd_lib.specs.server.Reporting.{bad_line, bad_words, counts_line, fault_line, no_memory}
use Rattle.afpd_lib.specs.server.Telling.{Tells}
use Rattle.afpd_lib.specs.words.Command.{server_app}
use Rattle.afpd_lib.specs.words.Words.{WordValues}
use Rattle.clap.specs.Faults.{fault_of}
use Rattle.clap.specs.Kinds.{IsAmong}
use Rattle.clap.specs.declared.error.kind.ErrorKind.TheVariants.{DisplayHelp, DisplayVersion}
use Rattle.afpd_lib.specs.declared.server.ends.RunEnd.{RunEnd}
use Rattle.afpd_lib.specs.declared.server.ends.RunEnd.TheVariants as run
use Rattle.afpd_lib.specs.declared.server.server.Finish.{Finish}

-- by the command, the words ask for its help or its version
abbrev pub AskForHelp : List (List ℕ) → Type 0
AskForHelp words = IsAmong DisplayHelp (fault_of server_app words) ⊎ IsAmong DisplayVersion (fault_of server_app words)

-- No door was served: there is nothing to show of it, and the doors are as they came.
pub record ServesNone {Y : Type 0} (doors : List Y) (trace : Option Trace) (back : List Y) : Type 0 where
  pub none : trace ≡ None
  pub same : back ≡ doors

-- The volumes of a house were loaded from their keepers at a moment of the clock, and the links of its doors were served, out of one history that
-- began with them. Where all keepers are sure, no ask met a fault, and no count has risen. There are keepers at the end, as sure as those at the start,
-- with the counts of the end, and each holds the volume at its place of the last world.
pub record ServesAll {L P Y K : Type 0} (state : L → LinkState) (passed : P → Passed) (door : Y → DoorState L) (kept_by : Keeping K) (house : Household) (keepers : List K) (turns : ℕ) (clock : Option ℕ) (doors : List Y) (f : Closing Y) : Type 0 where
  pub now : ℕ
  pub told : IfSome clock (λ moment. now ≡ moment)
  pub serves : ServesHouse state passed door kept_by house turns now keepers doors f
  pub faultless : list_all kept_by.sure keepers ≡ true → (faults_in (history_of f) ≡ 0) × (sum (ended_of f).faults ≡ sum serves.start.faults)
  pub last : List K
  pub hold : HoldEach kept_by.records last (stand serves.start.world (history_of f)).volumes
  pub counted : map kept_by.faults last ≡ (ended_of f).faults
  pub so_sure : map kept_by.sure last ≡ map kept_by.sure keepers

-- So the workers ended, this is what was shown at closing, and the doors came back in order.
pub record ComesBack {Y : Type 0} (f : Closing Y) (end : WorkerEnd) (trace : Option Trace) (back : List Y) : Type 0 where
  pub so : f.end ≡ end
  pub shown : trace ≡ Some f.trace
  pub doors : back ≡ map (λ one. one.door) f.done.items

-- The load of the volume at an index was the first that gave none. A bad record is the first of those of its keeper, where they are told.
pub record FailsToLoad {K : Type 0} (kept_by : Keeping K) (house : Household) (keepers : List K) (clock : Option ℕ) (index : ℕ) (fault : LoadFault) : Type 0 where
  pub now : ℕ
  pub told : IfSome clock (λ moment. now ≡ moment)
  pub stops : LoadsStopAt (steady_in kept_by) kept_by.sure kept_by.faults now house.volumes keepers index fault

-- The doors were served for the words: over the house that they ask for, of each link as many bytes and quiets as they say, and the workers ended so.
pub record ServesWords {L P Y K : Type 0} (state : L → LinkState) (passed : P → Passed) (door : Y → DoorState L) (kept_by : Keeping K) (words : List (List ℕ)) (keepers : List K) (key : List ℕ) (clock : Option ℕ) (doors : List Y) (end : WorkerEnd) (trace : Option Trace) (back : List Y) : Type 0 where
  pub values : WordValues
  pub asks : Asks words key values
  pub many : length doors ≡ values.workers
  pub closing : Closing Y
  pub serves : ServesAll state passed door kept_by (house_of values key) keepers values.turns clock doors closing
  pub comes : ComesBack closing end trace back

-- The words ask for a house that is taken, of as many volumes as there are keepers, and for as many workers as there are doors; and a load gave none.
pub record WordsFailToLoad {Y K : Type 0} (kept_by : Keeping K) (words : List (List ℕ)) (keepers : List K) (key : List ℕ) (clock : Option ℕ) (doors : List Y) (index : ℕ) (fault : LoadFault) : Type 0 where
  pub values : WordValues
  pub asks : Asks words key values
  pub kept : length keepers ≡ length (house_of values key).volumes
  pub many : length doors ≡ values.workers
  pub fails : FailsToLoad kept_by (house_of values key) keepers clock index fault

-- How a run ends, by its answer: the words ask for help; they, or the numbers of keepers or doors, are refused; there was no memory, before a door was served or for a link;
-- the first load that gave no volume; a door failed, and no worker wanted memory; or each door is closed.
abbrev pub EndsRun : {L P Y K : Type 0} → (L → LinkState) → (P → Passed) → (Y → DoorState L) → Keeping K → List (List ℕ) → List K → List ℕ → Option ℕ → List Y → RunEnd → Option Trace → List Y → Type 0
EndsRun state passed door kept_by words keepers key clock doors (run.Helped text) trace back = AskForHelp words × IsRefused words key (length keepers) (length doors) × ServesNone doors trace back
EndsRun state passed door kept_by words keepers key clock doors run.Refused trace back = IsRefused words key (length keepers) (length doors) × ServesNone doors trace back
EndsRun state passed door kept_by words keepers key clock doors run.Memory trace back = ServesNone doors trace back ⊎ ServesWords state passed door kept_by words keepers key clock doors ends.Memory trace back
EndsRun state passed door kept_by words keepers key clock doors (run.BadRecord index hex reason) trace back =
    ServesNone doors trace back × ((key_of : List ℕ) × (string_bytes hex ≡ encode_lower key_of) × WordsFailToLoad kept_by words keepers key clock doors index (load.BadRecord key_of reason))
EndsRun state passed door kept_by words keepers key clock doors (run.LoadFailed index) trace back = ServesNone doors trace back × WordsFailToLoad kept_by words keepers key clock doors index load.Failed
EndsRun state passed door kept_by words keepers key clock doors (run.DoorFailed counts) trace back =
    (s : ServesWords state passed door kept_by words keepers key clock doors ends.Failed trace back) × (counts ≡ s.closing.counts)
EndsRun state passed door kept_by words keepers key clock doors (run.Served counts) trace back =
    (s : ServesWords state passed door kept_by words keepers key clock doors ends.Closed trace back) × (counts ≡ s.closing.counts)

-- What is reported of such an end, and the exit status: 0 for the help; 2 for refused words, 3 for a load that gave no volume, 4 for a door and 0, or 5 where
-- the report could not be written; 6 for want of memory, written or not.
abbrev pub Status : RunEnd → SinkState → SinkState → ℕ → Type 0
Status (run.Helped text) old new status = Tells (string_bytes text) 0 old new status
Status run.Refused old new status = Tells bad_words 2 old new status
Status run.Memory old new status = (status ≡ 6) × (Prints old no_memory new ⊎ PrintsPart old no_memory new)
Status (run.BadRecord index hex reason) old new status = Tells (bad_line index (string_bytes hex) reason) 3 old new status
Status (run.LoadFailed index) old new status = Tells (fault_line index) 3 old new status
Status (run.DoorFailed counts) old new status = Tells (counts_line counts.entries counts.sessions) 4 old new status
Status (run.Served counts) old new status = Tells (counts_line counts.entries counts.sessions) 0 old new status

-- a whole run: how it ended, with what it did to the doors, the report and the status
pub record IsServerRun {L P Y K : Type 0} (state : L → LinkState) (passed : P → Passed) (door : Y → DoorState L) (kept_by : Keeping K) (words : List (List ℕ)) (keepers : List K) (key : List ℕ) (clock : Option ℕ) (doors : List Y) (before after : SinkState) (finish : Finish Y) : Type 0 where
  pub answer : RunEnd
  pub ends : EndsRun state passed door kept_by words keepers key clock doors answer finish.trace finish.doors.items
  pub reported : Status answer before after finish.status
