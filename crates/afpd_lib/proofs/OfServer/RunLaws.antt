-- Good words are served.
use Rattle.std.proofs.Common.{◌≡◌, ◌⊎◌, ◌∙◌, ℕ, ◌<◌, Bool, true, List, length, Option, Some, None, inl, inr, subst, sym, arith}
use Rattle.afp_base.specs.Counts.{last_count}
use Rattle.afp_outside.specs.ends.Gate.{Passed}
use Rattle.afp_outside.specs.ends.Link.{LinkState}
use Rattle.afp_outside.specs.ends.Listener.{DoorState}
use Rattle.afp_outside.specs.ends.Sink.{SinkState}
use Rattle.afp_outside.specs.ends.Whole.{Prints, PrintsPart}
use Rattle.afp_desk.specs.declared.desk.desk.Trace.{Trace}
use Rattle.afp_server.specs.declared.doors.door.WorkerEnd.TheVariants as ends
use Rattle.afp_desk.specs.workers.House.{closing_of}
use Rattle.afp_desk.specs.workers.Keeping.{Keeping, steady_in}
use Rattle.afp_core.specs.keepers.Loads.{IsLoadFaultOf}
use Rattle.afp_serial.specs.Household.{Household}
use Rattle.record_keeper.specs.Records.{Records}
use Rattle.volume_keeper.specs.declared.loading.loading.LoadFault.{LoadFault}
use Rattle.volume_keeper.specs.declared.loading.loading.LoadFault.TheVariants as load
use Rattle.volume_keeper_records.specs.FirstBad.{first_bad_record}
use Rattle.volume_keeper_records.specs.Image.{records_in}
use Rattle.afpd_lib.proofs.OfServer.OneHouse.{one_house}
use Rattle.afpd_lib.proofs.OfServer.Failing.{not-failed}
use Rattle.afpd_lib.specs.server.Complete.{HoldGood, NoneFails, ServesGoodKeepers, ServesGoodWords}
use Rattle.afpd_lib.specs.server.AskedHouse.{Asks, house_of}
use Rattle.afpd_lib.specs.server.Run.{EndsRun, FailsToLoad, ServesWords, Status, WordsFailToLoad}
use Rattle.afpd_lib.specs.words.Words.{WordValues}
use Rattle.afpd_lib.specs.declared.server.ends.RunEnd.{RunEnd}
use Rattle.afpd_lib.specs.declared.server.ends.RunEnd.TheVariants as run

-- where the report's count of faults did not rise, the whole line was written
still : (before after : SinkState) (text : List ℕ) (status good : ℕ) → ((status ≡ good) × Prints before text after) ⊎ ((status ≡ 5) × PrintsPart before text after)
    → after.faults ≡ before.faults → before.faults < last_count → status ≡ good
still before after text status good (inl told) same low = told.0
still before after text status good (inr told) same low = absurd (omega (arith, told.1.fault.2, same, low))

-- a door that fails tells it by its count
no-door : {L P Y K : Type 0} (state : L → LinkState) (passed : P → Passed) (door : Y → DoorState L) (kept_by : Keeping K) (words : List (List ℕ)) (keepers : List K) (key : List ℕ) (clock : Option ℕ) (doors : List Y) (trace : Option Trace) (back : List Y)
    → ServesWords state passed door kept_by words keepers key clock doors ends.Failed trace back → NoneFails door doors back → ⊥
no-door state passed door kept_by words keepers key clock doors trace back s none =
    let served = s.serves.serves.serves in
    not-failed state passed door (house_of s.values key) s.values.turns s.serves.serves.start doors (closing_of s.closing) back served.serves (sym served.end ∙ s.comes.so) s.comes.doors none

pub by_end : {L P Y K : Type 0} (state : L → LinkState) (passed : P → Passed) (door : Y → DoorState L) (kept_by : Keeping K) (words : List (List ℕ)) (keepers : List K) (key : List ℕ) (clock : Option ℕ) (values : WordValues) (doors : List Y) (trace : Option Trace) (back : List Y) (before after : SinkState) (status : ℕ) (end : RunEnd)
    → EndsRun state passed door kept_by words keepers key clock doors end trace back → Status end before after status → Asks words key values → length keepers ≡ length (house_of values key).volumes → length doors ≡ values.workers → NoneFails door doors back
    → after.faults ≡ before.faults → before.faults < last_count → (status ≡ 0) ⊎ ((status ≡ 3) ⊎ (status ≡ 6))
by_end state passed door kept_by words keepers key clock values doors trace back before after status (run.Helped text) e s asks many as_many none same low = absurd (e.1 values asks many as_many)
by_end state passed door kept_by words keepers key clock values doors trace back before after status run.Refused e s asks many as_many none same low = absurd (e.0 values asks many as_many)
by_end state passed door kept_by words keepers key clock values doors trace back before after status run.Memory e s asks many as_many none same low = inr (inr s.0)
by_end state passed door kept_by words keepers key clock values doors trace back before after status (run.BadRecord index hex reason) e s asks many as_many none same low =
    inr (inl (still before after _ status 3 s same low))
by_end state passed door kept_by words keepers key clock values doors trace back before after status (run.LoadFailed index) e s asks many as_many none same low =
    inr (inl (still before after _ status 3 s same low))
by_end state passed door kept_by words keepers key clock values doors trace back before after status (run.DoorFailed counts) e s asks many as_many none same low =
    absurd (no-door state passed door kept_by words keepers key clock doors trace back e.0 none)
by_end state passed door kept_by words keepers key clock values doors trace back before after status (run.Served counts) e s asks many as_many none same low =
    inl (still before after _ status 0 s same low)

pub serves_good_words : {L P Y K : Type 0} (state : L → LinkState) (passed : P → Passed) (door : Y → DoorState L) (kept_by : Keeping K) → ServesGoodWords state passed door kept_by
serves_good_words state passed door kept_by words keepers key clock values doors before after finish r asks many as_many none same low =
    by_end state passed door kept_by words keepers key clock values doors finish.trace finish.doors.items before after finish.status r.answer r.ends r.reported asks many as_many none same low

-- over keepers that hold volumes of their names, no load stops
cause-none : (name : List ℕ) (records : Option Records) (held : Records) (sure : Bool) (fault : LoadFault) → records ≡ Some held → sure ≡ true → first_bad_record name (records_in held) ≡ None
    → IsLoadFaultOf name records sure fault → ⊥
cause-none name (Some held) other sure (load.BadRecord key reason) told is good cause = cc
cause-none name None other sure (load.BadRecord key reason) told is good cause = cc
cause-none name records held sure load.Failed told is good cause = cc
cause-none name records held sure load.Memory told is good cause = cause

loads-all : {K : Type 0} (kept_by : Keeping K) (house : Household) (keepers : List K) (clock : Option ℕ) (index : ℕ) (fault : LoadFault) → HoldGood kept_by house.volumes keepers
    → FailsToLoad kept_by house keepers clock index fault → ⊥
loads-all kept_by house keepers clock index fault good f =
    let s = f.stops in
    let holds = good index s.name s.keeper s.named s.kept_by in
    cause-none s.name (steady_in kept_by s.keeper) holds.held (kept_by.sure s.keeper) fault holds.told holds.sure holds.good s.cause

words-load : {Y K : Type 0} (kept_by : Keeping K) (words : List (List ℕ)) (keepers : List K) (key : List ℕ) (clock : Option ℕ) (doors : List Y) (values : WordValues) (index : ℕ) (fault : LoadFault) → Asks words key values
    → HoldGood kept_by (house_of values key).volumes keepers → WordsFailToLoad kept_by words keepers key clock doors index fault → ⊥
words-load kept_by words keepers key clock doors values index fault asks good f =
    let same = one_house words key values f.values asks.words_are f.asks.words_are in
    loads-all kept_by (house_of f.values key) keepers clock index fault (subst (λ (h : Household). HoldGood kept_by h.volumes keepers) same good) f.fails

pub by_good_end : {L P Y K : Type 0} (state : L → LinkState) (passed : P → Passed) (door : Y → DoorState L) (kept_by : Keeping K) (words : List (List ℕ)) (keepers : List K) (key : List ℕ) (clock : Option ℕ) (values : WordValues) (doors : List Y) (trace : Option Trace) (back : List Y) (before after : SinkState) (status : ℕ) (end : RunEnd)
    → EndsRun state passed door kept_by words keepers key clock doors end trace back → Status end before after status → Asks words key values → length keepers ≡ length (house_of values key).volumes → length doors ≡ values.workers → NoneFails door doors back
    → after.faults ≡ before.faults → before.faults < last_count → HoldGood kept_by (house_of values key).volumes keepers → (status ≡ 0) ⊎ (status ≡ 6)
by_good_end state passed door kept_by words keepers key clock values doors trace back before after status (run.Helped text) e s asks many as_many none same low good = absurd (e.1 values asks many as_many)
by_good_end state passed door kept_by words keepers key clock values doors trace back before after status run.Refused e s asks many as_many none same low good = absurd (e.0 values asks many as_many)
by_good_end state passed door kept_by words keepers key clock values doors trace back before after status run.Memory e s asks many as_many none same low good = inr s.0
by_good_end state passed door kept_by words keepers key clock values doors trace back before after status (run.BadRecord index hex reason) e s asks many as_many none same low good =
    absurd (words-load kept_by words keepers key clock doors values index _ asks good e.1.2)
by_good_end state passed door kept_by words keepers key clock values doors trace back before after status (run.LoadFailed index) e s asks many as_many none same low good =
    absurd (words-load kept_by words keepers key clock doors values index load.Failed asks good e.1)
by_good_end state passed door kept_by words keepers key clock values doors trace back before after status (run.DoorFailed counts) e s asks many as_many none same low good =
    absurd (no-door state passed door kept_by words keepers key clock doors trace back e.0 none)
by_good_end state passed door kept_by words keepers key clock values doors trace back before after status (run.Served counts) e s asks many as_many none same low good =
    inl (still before after _ status 0 s same low)

pub serves_good_keepers : {L P Y K : Type 0} (state : L → LinkState) (passed : P → Passed) (door : Y → DoorState L) (kept_by : Keeping K) → ServesGoodKeepers state passed door kept_by
serves_good_keepers state passed door kept_by words keepers key clock values doors before after finish r asks many as_many none same low good =
    by_good_end state passed door kept_by words keepers key clock values doors finish.trace finish.doors.items before after finish.status r.answer r.ends r.reported asks many as_many none same low good
