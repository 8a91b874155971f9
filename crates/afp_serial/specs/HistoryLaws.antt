-- The laws of open forks over whole histories, in the subject's own words (this profile).
use Rattle.std.specs.Prelude.{◌≡◌, ◌≢◌, ◌⊎◌, ℕ, ℤ, pos, ◌<◌, ◌≤◌, Bool, true, false, List, [], ◌∷◌, length, take, slice_get, Some, None}
use Rattle.std.specs.List.{Contains, list_all}
use Rattle.afp_base.specs.Limits.{payload_limit}
use Rattle.afp_base.specs.DenyMode.{Conflicts, Fork, is_one_fork}
use Rattle.afp_base.specs.ForkBytes.{taken}
use Rattle.afp_base.specs.Overlap.{Covers}
use Rattle.afp_base.specs.declared.code.Code.TheVariants.{Ok}
use Rattle.afp_base.specs.declared.ids.ForkRef.{ForkRef}
use Rattle.afp_calls_grammar.specs.declared.grammar.call.Call.{Call}
use Rattle.afp_calls_grammar.specs.declared.grammar.call.Call.TheVariants.{Read, ReadExt, Write, WriteExt}
use Rattle.afp_serial.specs.declared.ask.Ask.TheVariants as ask
use Rattle.afp_serial.specs.declared.ask.Entry.{Entry}
use Rattle.afp_serial.specs.declared.ask.Outcome.TheVariants.{Done}
use Rattle.afp_serial.specs.declared.ask.Told.TheVariants as told
use Rattle.afp_serial.specs.Answer.{answer, request}
use Rattle.afp_serial.specs.ForkBytes.{is_from_end, start_in}
use Rattle.afp_serial.specs.ForkHistory.{all_changes, bytes_in, changes_in, stays_open}
use Rattle.afp_serial.specs.History.{is_lawful, stand}
use Rattle.afp_serial.specs.Laws.{ComesToCall}
use Rattle.afp_serial.specs.OnFork.{OpenFile, bytes_of, is_locked, open_file}
use Rattle.afp_serial.specs.Rows.{refusal}
use Rattle.afp_serial.specs.World.{session_at, World, Session, OpenFork, Lock, at_moment}
use Rattle.afp_serial.specs.Sound.{IsSound}
use Rattle.afp_serial.specs.WriteLaws.{changed_by_all, misses, puts}

-- at each place of a lawful history no two open forks have one reference, and no two of one fork conflict
abbrev pub NeverTwoConflict : Type 0
NeverTwoConflict =
    (start : World) (h : List Entry) (place j k : ℕ) (a b : OpenFork) → IsSound start → is_lawful start h ≡ true → j < k
    → slice_get (stand start (take place h)).opens j ≡ Some a → slice_get (stand start (take place h)).opens k ≡ Some b
    → (a.reference ≢ b.reference) × (Conflicts a.fork a.access b.fork b.access → ⊥)

-- and no two locks on one fork, of any references, share a byte
abbrev pub NeverByteTwice : Type 0
NeverByteTwice =
    (start : World) (h : List Entry) (place j k byte : ℕ) (a b : Lock) (x y : OpenFork) → IsSound start → is_lawful start h ≡ true → j < k
    → slice_get (stand start (take place h)).locks j ≡ Some a → slice_get (stand start (take place h)).locks k ≡ Some b
    → Contains (stand start (take place h)).opens x → Contains (stand start (take place h)).opens y → x.reference ≡ a.reference → y.reference ≡ b.reference → x.fork ≡ y.fork
    → Covers a.range byte → Covers b.range byte → ⊥

-- while a fork stays open, its bytes are those at the start with all that was written through open forks in between, and all that it got from a file which changed forks with its own,
-- in order
abbrev pub ForksHaveTheirChanges : Type 0
ForksHaveTheirChanges =
    (start : World) (h : List Entry) (fork : Fork) (bytes : List ℕ) → IsSound start → is_lawful start h ≡ true → stays_open start h fork ≡ true
    → bytes_in start fork ≡ Some bytes → bytes_in (stand start h) fork ≡ Some (changed_by_all (all_changes start h fork) bytes)

-- a call puts a piece under a reference; where it starts its offset says, from the end or not
abbrev pub PutsPiece : ForkRef → Bool → ℤ → List ℕ → Call → Type 0
PutsPiece reference from_end offset piece call =
    ((flag : ℕ) × (count : ℕ) × (is_from_end flag ≡ from_end) × (call ≡ Write flag reference offset count piece))
    ⊎ ((flag : ℕ) × (count : ℤ) × (is_from_end flag ≡ from_end) × (call ≡ WriteExt flag reference offset count piece))

-- what such a call does that has its effect: its piece is put there
abbrev pub WritesPutTheirPiece : Type 0
WritesPutTheirPiece =
    (w : World) (e : Entry) (s : Session) (f : OpenFile) (fork : Fork) (at id place : ℕ) (write : Bool) (payload : List ℕ) (reference : ForkRef) (from_end : Bool) (offset : ℤ) (piece : List ℕ) (call : Call)
    → e.ask ≡ ask.Call id write place payload → e.outcome ≡ Done → session_at w e.link.0 ≡ Some s
    → PutsPiece reference from_end offset piece call → ComesToCall (at_moment w e.at) s (request id write place payload) call
    → open_file w s reference.0 ≡ Some f → is_one_fork f.fork.fork fork ≡ true → start_in (bytes_of f) from_end offset ≡ pos at
    → changes_in w e fork ≡ puts at piece ∷ []

-- An entry puts a piece at a place of a fork; the entries behind it change none of those bytes; and the fork is open where each of them comes.
pub record IsWritten (start : World) (e : Entry) (h : List Entry) (fork : Fork) (at : ℕ) (piece : List ℕ) : Type 0 where
  pub sound : IsSound start
  pub lawful : is_lawful start (e ∷ h) ≡ true
  pub open_there : stays_open start (e ∷ h) fork ≡ true
  pub puts_it : changes_in start e fork ≡ puts at piece ∷ []
  pub some : 0 < length piece
  pub missed : list_all (misses at (length piece)) (all_changes (stand start (e ∷ [])) h fork) ≡ true

-- then the piece is there behind them
abbrev pub WrittenIsThere : Type 0
WrittenIsThere =
    (start : World) (e : Entry) (h : List Entry) (fork : Fork) (at : ℕ) (piece : List ℕ) → IsWritten start e h fork at piece
    → (bytes : List ℕ) × (bytes_in (stand start (e ∷ h)) fork ≡ Some bytes) × (taken bytes at (length piece) ≡ piece)

-- a call reads so many bytes of a reference from a place on, and stops at no character
abbrev pub ReadsAll : ForkRef → ℕ → ℕ → Call → Type 0
ReadsAll reference at n call = ((character : ℕ) × (call ≡ Read reference (pos at) n 0 character)) ⊎ (call ≡ ReadExt reference (pos at) (pos n))

-- A session may read so many bytes from a place on under a reference: it is open on the fork for reading, and no lock of others meets them.
pub record MayReadFork (w : World) (s : Session) (reference at n : ℕ) (fork : Fork) : Type 0 where
  pub file : OpenFile
  pub is : open_file w s reference ≡ Some file
  pub on : is_one_fork file.fork.fork fork ≡ true
  pub reads : file.fork.access.read ≡ true
  pub free : is_locked w file.fork at n ≡ false

-- so whoever may read the piece is not refused
abbrev pub WrittenIsNotRefused : Type 0
WrittenIsNotRefused =
    (start : World) (e : Entry) (h : List Entry) (fork : Fork) (at : ℕ) (piece : List ℕ) (now : ℕ) (s : Session) (reference : ForkRef) (call : Call) → IsWritten start e h fork at piece → length piece ≤ payload_limit
    → MayReadFork (at_moment (stand start (e ∷ h)) now) s reference.0 at (length piece) fork → ReadsAll reference at (length piece) call → refusal (at_moment (stand start (e ∷ h)) now) s call ≡ None

-- and is told the piece
abbrev pub WrittenIsRead : Type 0
WrittenIsRead =
    (start : World) (e : Entry) (h : List Entry) (fork : Fork) (at : ℕ) (piece : List ℕ) (reading : Entry) (s : Session) (reference : ForkRef) (call : Call) (id : ℕ) (write : Bool) (offset : ℕ) (payload : List ℕ)
    → IsWritten start e h fork at piece → length piece ≤ payload_limit
    → reading.ask ≡ ask.Call id write offset payload → reading.outcome ≡ Done → session_at (stand start (e ∷ h)) reading.link.0 ≡ Some s
    → MayReadFork (at_moment (stand start (e ∷ h)) reading.at) s reference.0 at (length piece) fork → ReadsAll reference at (length piece) call
    → ComesToCall (at_moment (stand start (e ∷ h)) reading.at) s (request id write offset payload) call
    → answer (stand start (e ∷ h)) reading ≡ told.Reply Ok piece false
