-- Links, doors and sinks in memory, which follow a plan (this profile).
use Rattle.std.specs.Prelude.{◌≡◌, ℕ, ◌+◌, ◌==◌, Bool, false, List, [], ◌∷◌, ◌++◌, zero, suc, length, take, drop, min, max, Some, Result, Ok, Err, if◌then◌else◌}
use Rattle.std.specs.List.{list_any}
use Rattle.afp_base.specs.declared.bytes.OutOfMemory.{OutOfMemory}
use Rattle.afp_base.specs.Counts.{counted}
use Rattle.afp_outside.specs.ends.Link.{Event, piece, quiet, LinkState, IsFresh}
use Rattle.afp_outside.specs.ends.Sink.{SinkState}
use Rattle.afp_outside.specs.ends.Source.{SourceState}
use Rattle.afp_outside.specs.declared.ends.link.ReadResult.{ReadResult}
use Rattle.afp_outside.specs.declared.ends.link.ReadResult.TheVariants.{Got, Quiet, End, Failed}
use Rattle.afp_outside.specs.declared.ends.link.Wrote.{Wrote}
use Rattle.afp_outside.specs.declared.ends.link.Wrote.TheVariants.{Took, Failed as WriteFailed}
use Rattle.afp_outside.specs.ends.Listener.{DoorState}
use Rattle.afp_outside.specs.ends.Dialer.{DialerState}
use Rattle.afp_outside.specs.declared.ends.dialer.DialFault.{DialFault}
use Rattle.afp_outside.specs.declared.ends.dialer.DialFault.TheVariants.{Failed as DialFailed}
use Rattle.afp_outside.specs.declared.ends.listener.Accepted.{Accepted}
use Rattle.afp_outside.specs.declared.ends.listener.Accepted.TheVariants.{Link, Closed, Failed as AcceptFailed}

-- The numbers of the calls that fail, and how many calls were made: the number of the next one.
pub record PlannedCalls : Type 0 where
  pub failing : List ℕ
  pub made : ℕ

-- whether the next call fails
abbrev pub fails : PlannedCalls → Bool
fails calls = list_any (λ number. number == calls.made) calls.failing

-- after one call more
abbrev pub after_call : PlannedCalls → PlannedCalls
after_call calls = record { failing = calls.failing; made = counted 1 calls.made }

-- What reads gave, and the bytes that they have left.
pub record Incoming : Type 0 where
  pub events : List Event
  pub coming : List ℕ

-- What a read gave, what had been written before it, and its moment.
pub record PastRead : Type 0 where
  pub gave : ReadResult
  pub written : List ℕ
  pub moment : ℕ

-- the event of a read, if it is one, of what it gave, what had been written, its moment, and the bytes to read
abbrev pub event_of : ReadResult → List ℕ → ℕ → List ℕ → List Event
event_of (Got n) written moment bytes = piece (Some written) moment (take n bytes) ∷ []
event_of Quiet written moment bytes = quiet (Some written) moment ∷ []
event_of End written moment bytes = []
event_of Failed written moment bytes = []

-- how many bytes a read gave
abbrev pub gave_size : ReadResult → ℕ
gave_size (Got n) = n
gave_size Quiet = 0
gave_size End = 0
gave_size Failed = 0

-- the events of readings, of the bytes that all of them read from
abbrev pub events_of : List ℕ → List PastRead → List Event
events_of bytes [] = []
events_of bytes (it ∷ more) = event_of it.gave it.written it.moment bytes ++ events_of (drop (gave_size it.gave) bytes) more

-- how many bytes the readings gave
abbrev pub size_of : List PastRead → ℕ
size_of [] = 0
size_of (it ∷ more) = gave_size it.gave + size_of more

-- What writes took, and the most bytes that each write still to come takes.
pub record Outgoing : Type 0 where
  pub written : List ℕ
  pub writes : List ℕ

-- how many of n bytes the next write takes: 1 at least, and all where the sizes have ended
abbrev pub write_size : List ℕ → ℕ → ℕ
write_size [] n = n
write_size (size ∷ sizes) n = min (max 1 size) n

-- A link in memory: all that it is seen as, and its plan. `reads` and `writes` are the most bytes
-- that each read and write to come takes, `moments` are those of the reads to come, and `moment` is
-- that of the last read.
pub record Tape : Type 0 where
  pub events : List Event
  pub coming : List ℕ
  pub written : List ℕ
  pub ended : Bool
  pub read_faults : ℕ
  pub write_faults : ℕ
  pub quiets : ℕ
  pub moment : ℕ
  pub last_read : ℕ
  pub reads : List ℕ
  pub writes : List ℕ
  pub moments : List ℕ
  pub calls : PlannedCalls

-- it tells all
abbrev pub link_of : Tape → LinkState
link_of tape = record {
  events = Some tape.events;
  coming = Some tape.coming;
  written = Some tape.written;
  ended = tape.ended;
  read_faults = tape.read_faults;
  write_faults = tape.write_faults;
  quiets = tape.quiets;
  now = tape.moment;
  last_read = tape.last_read;
}

-- it was neither read nor written
abbrev pub IsFreshTape : Tape → Type 0
IsFreshTape tape = IsFresh (link_of tape)

-- a link in memory that was neither read nor written
abbrev pub fresh_tape : ℕ → List ℕ → List ℕ → List ℕ → List ℕ → List ℕ → Tape
fresh_tape made bytes reads writes moments failing = record {
  events = [];
  coming = bytes;
  written = [];
  ended = false;
  read_faults = 0;
  write_faults = 0;
  quiets = 0;
  moment = made;
  last_read = made;
  reads = reads;
  writes = writes;
  moments = moments;
  calls = record { failing = failing; made = 0 };
}

-- the most bytes that the next read into a room takes: all that fits where the sizes have ended
abbrev pub read_size : List ℕ → ℕ → ℕ
read_size [] room = room
read_size (size ∷ sizes) room = min size room

-- what a read of at most so many bytes gives, of the bytes still coming: 0 is a quiet
abbrev pub tape_gives : ℕ → List ℕ → ReadResult
tape_gives zero coming = Quiet
tape_gives (suc most) [] = End
tape_gives (suc most) (byte ∷ bytes) = Got (min (suc most) (length (byte ∷ bytes)))

-- the moment of the next read, of the moments to come and the last one
abbrev pub next_moment : List ℕ → ℕ → ℕ
next_moment [] last = last
next_moment (moment ∷ moments) last = moment

-- A read follows the plan; one that fails uses up a moment, and no size. No clock fails beside it, so each fault counted is its own.
pub record TapeReads (old : Tape) (room : ℕ) (gave : ReadResult) (new : Tape) : Type 0 where
  pub answer : gave ≡ (if fails old.calls then Failed else tape_gives (read_size old.reads room) old.coming)
  pub moment : new.moment ≡ next_moment old.moments old.moment
  pub moments : new.moments ≡ drop 1 old.moments
  pub reads : new.reads ≡ (if fails old.calls then old.reads else drop 1 old.reads)
  pub read_faults : new.read_faults ≡ (if fails old.calls then counted 1 old.read_faults else old.read_faults)
  pub writes : new.writes ≡ old.writes
  pub calls : new.calls ≡ after_call old.calls

-- what a write of n bytes answers by the plan; one that finds no memory fails too
abbrev pub IsWroteBy : PlannedCalls → List ℕ → ℕ → Wrote → List ℕ → Type 0
IsWroteBy calls sizes n (Took k) left = (fails calls ≡ false) × (k ≡ write_size sizes n) × (left ≡ drop 1 sizes)
IsWroteBy calls sizes n WriteFailed left = left ≡ sizes

-- A write follows the plan; one that fails uses up no size.
pub record TapeWrites (old : Tape) (offered : List ℕ) (wrote : Wrote) (new : Tape) : Type 0 where
  pub answer : IsWroteBy old.calls old.writes (length offered) wrote new.writes
  pub moments : new.moments ≡ old.moments
  pub reads : new.reads ≡ old.reads
  pub calls : new.calls ≡ after_call old.calls

-- what the writes take of a piece, or nothing for want of memory
abbrev pub TakesOf : Outgoing → List ℕ → Result ℕ OutOfMemory → Outgoing → Type 0
TakesOf old offered (Ok n) new = (new.written ≡ old.written ++ take n offered) × (n ≡ write_size old.writes (length offered)) × (new.writes ≡ drop 1 old.writes)
TakesOf old offered (Err e) new = new ≡ old

-- A sink in memory, and its plan.
pub record TapeReport : Type 0 where
  pub written : List ℕ
  pub faults : ℕ
  pub writes : List ℕ
  pub calls : PlannedCalls

-- it tells all
abbrev pub sink_of : TapeReport → SinkState
sink_of report = record { written = Some report.written; faults = report.faults }

-- A write follows the plan; one that fails uses up no size.
pub record ReportWrites (old : TapeReport) (offered : List ℕ) (wrote : Wrote) (new : TapeReport) : Type 0 where
  pub answer : IsWroteBy old.calls old.writes (length offered) wrote new.writes
  pub calls : new.calls ≡ after_call old.calls

-- A door in memory: the links still to come, all that it is seen as, and its plan. Accepts are
-- numbered.
pub record TapeDoor : Type 0 where
  pub coming : List Tape
  pub handed : ℕ
  pub back : List Tape
  pub closed : Bool
  pub faults : ℕ
  pub calls : PlannedCalls

abbrev pub door_of : TapeDoor → DoorState Tape
door_of door = record { handed = door.handed; back = door.back; closed = door.closed; faults = door.faults }

-- the next link, or none is left
abbrev pub accepted_of : List Tape → Accepted Tape
accepted_of [] = Closed
accepted_of (link ∷ links) = Link link

-- An accept follows the plan; one that fails hands out no link.
pub record TapeAccepts (old : TapeDoor) (result : Accepted Tape) (new : TapeDoor) : Type 0 where
  pub answer : result ≡ (if fails old.calls then AcceptFailed else accepted_of old.coming)
  pub coming : new.coming ≡ (if fails old.calls then old.coming else drop 1 old.coming)
  pub calls : new.calls ≡ after_call old.calls

-- A dialer in memory: the links still to come, all that it is seen as, and its plan. Dials are numbered.
pub record DialTape : Type 0 where
  pub coming : List Tape
  pub handed : ℕ
  pub back : List Tape
  pub faults : ℕ
  pub calls : PlannedCalls

abbrev pub dialer_of : DialTape → DialerState Tape
dialer_of dialer = record { handed = dialer.handed; back = dialer.back; faults = dialer.faults }

-- the next link, or none is left
abbrev pub dialled_of : List Tape → Result Tape DialFault
dialled_of [] = Err DialFailed
dialled_of (link ∷ links) = Ok link

-- A dial follows the plan; one that fails hands out no link.
pub record TapeDials (old : DialTape) (result : Result Tape DialFault) (new : DialTape) : Type 0 where
  pub answer : result ≡ (if fails old.calls then Err DialFailed else dialled_of old.coming)
  pub coming : new.coming ≡ (if fails old.calls then old.coming else drop 1 old.coming)
  pub calls : new.calls ≡ after_call old.calls

-- The bytes that reads gave, those that they had given when the last one was made, and those that they have left.
pub record Remaining : Type 0 where
  pub given : List ℕ
  pub given_before : List ℕ
  pub coming : List ℕ

-- A source in memory, and its plan: `reads` are the most bytes that each read to come takes.
pub record SourceTape : Type 0 where
  pub given : List ℕ
  pub given_before : List ℕ
  pub coming : List ℕ
  pub ended : Bool
  pub faults : ℕ
  pub reads : List ℕ
  pub calls : PlannedCalls

-- it tells all
abbrev pub source_of : SourceTape → SourceState
source_of source = record { given = Some source.given; given_before = Some source.given_before; coming = Some source.coming; ended = source.ended; faults = source.faults }

-- a source in memory that was not read
abbrev pub fresh_source : List ℕ → List ℕ → List ℕ → SourceTape
fresh_source bytes reads failing = record { given = []; given_before = []; coming = bytes; ended = false; faults = 0; reads = reads; calls = record { failing = failing; made = 0 } }

-- the most bytes that the next read into a room takes: 1 at least, and all that fits where the sizes have ended
abbrev pub source_read_size : List ℕ → ℕ → ℕ
source_read_size [] room = room
source_read_size (size ∷ sizes) room = min (max 1 size) room

-- what a read of at most so many bytes gives, of the bytes still coming
abbrev pub source_gives : ℕ → List ℕ → ReadResult
source_gives most [] = End
source_gives most (byte ∷ bytes) = Got (min most (length (byte ∷ bytes)))

-- A read follows the plan; one that fails uses up no size.
pub record TapeSourceReads (old : SourceTape) (room : ℕ) (gave : ReadResult) (new : SourceTape) : Type 0 where
  pub answer : gave ≡ (if fails old.calls then Failed else source_gives (source_read_size old.reads room) old.coming)
  pub reads : new.reads ≡ (if fails old.calls then old.reads else drop 1 old.reads)
  pub calls : new.calls ≡ after_call old.calls
