-- What the rows of calls on the bytes of an open fork share (AFP Reference, "FPRead", "FPWrite", "FPByteRangeLock"; this profile).
use Rattle.std.specs.Prelude.{◌≡◌, ◌<◌, ◌≤◌, ◌<ℤ◌, ◌^◌, length, ℕ, ℤ, pos, nat_abs, Bool, true, false, not, ◌||◌, List, [], ◌∷◌, Option, None, Some, Result, Ok, Err}
use Rattle.std.specs.Int.{is_negative}
use Rattle.afp_base.specs.ForkBytes.{taken}
use Rattle.afp_base.specs.declared.bytes.OutOfMemory.{OutOfMemory}
use Rattle.afp_base.specs.declared.code.Code.{Code}
use Rattle.afp_base.specs.declared.code.Code.TheVariants as code
use Rattle.afp_replies.specs.declared.reply.Reply.{Reply as AfpReply}
use Rattle.afp_replies.specs.declared.reply.Reply.TheVariants.{End, EndExt, Start, StartExt}
use Rattle.afp_core_state.specs.KeptWorld.{KeptWorld}
use Rattle.afp_core_state.specs.lemma.KeptWorld.{with_forks}
use Rattle.afp_core_state.specs.Running.{done}
use Rattle.afp_core_calls.specs.declared.fork.read.ReadSpan.{ReadSpan}
use Rattle.afp_serial.specs.Answer.{refusal_reply}
use Rattle.afp_serial.specs.ForkBytes.{ReadAsked, WriteAsked, is_from_end, meets_end, most_read, read_bytes}
use Rattle.afp_serial.specs.OnFork.{is_locked}
use Rattle.afp_serial.specs.World.{World, OpenFork}
use Rattle.afp_serial.specs.declared.ask.Outcome.{Outcome}
use Rattle.afp_serial.specs.declared.ask.Told.{Told}
use Rattle.afp_serial.specs.declared.ask.Told.TheVariants.{Reply}
use Rattle.volume_spec.specs.ForkEffect.{fork_of}
use Rattle.afp_base.specs.Limits.{most_fork_bytes}
use Rattle.volume_spec.specs.VolumeState.{Row as File}
use Rattle.fork_bytes.specs.Line.{Line, line_of}
use Rattle.afp_core_state.specs.Forks.{Forks}
use Rattle.range_locks.specs.declared.fault.LockFault.{LockFault}
use Rattle.range_locks.specs.declared.fault.LockFault.TheVariants as fault
use Rattle.range_locks.specs.declared.fault.NotLocked.{NotLocked}

-- a place in a fork, of a number with a sign: there is none before the first byte
abbrev pub IsPlace : ℤ → Option ℕ → Type 0
IsPlace z None = is_negative z ≡ true
IsPlace z (Some place) = z ≡ pos place

-- no more bytes than all forks of a volume may have
abbrev pub IsFew : List ℕ → Type 0
IsFew bytes = length bytes ≤ most_fork_bytes

-- what a read asks for, as numbers without a sign, of which the count is that of a reply at most
pub record IsSpan (asked : ReadAsked) (span : ReadSpan) : Type 0 where
  pub signs : (is_negative asked.offset || is_negative asked.count) ≡ false
  pub from : nat_abs asked.offset ≡ span.from
  pub count : most_read asked ≡ span.count
  pub mask : asked.mask ≡ span.mask
  pub character : asked.character ≡ span.character

-- where there are such; else the offset or the count is negative
abbrev pub IsSpanOf : ReadAsked → Option ReadSpan → Type 0
IsSpanOf asked None = (is_negative asked.offset || is_negative asked.count) ≡ true
IsSpanOf asked (Some span) = IsSpan asked span

-- what refuses a read, and a write, before the bytes of the fork matter
abbrev pub read_checks : World → OpenFork → ReadSpan → List (Bool × Code)
read_checks w o span = (not o.access.read, code.AccessDenied) ∷ (is_locked w o span.from span.count, code.LockErr) ∷ []

abbrev pub write_checks : World → OpenFork → ℕ → ℕ → List (Bool × Code)
write_checks w o start count = (not o.access.write, code.AccessDenied) ∷ (is_locked w o start count, code.LockErr) ∷ []

-- the bytes of a fork up to the character that a read stops at
abbrev pub line_in : Bool → File → ReadSpan → Line
line_in resource file span = line_of span.mask span.character (taken (fork_of resource file) span.from span.count)

-- the bytes are what a read of these bytes reads, and tell whether it meets the end
pub record IsReadOf (bytes : List ℕ) (asked : ReadAsked) (read : List ℕ) (met : Bool) : Type 0 where
  pub is : read ≡ read_bytes bytes asked
  pub met_is : met ≡ meets_end bytes asked

-- what is told of bytes that were read, and whether the end of the fork was met
abbrev pub TellsRead : Result Bool OutOfMemory → List ℕ → Result (Told × Outcome) OutOfMemory → Type 0
TellsRead (Ok true) block (Ok r) = r ≡ done (Reply code.EOFErr block false)
TellsRead (Ok true) block (Err e) = ⊥
TellsRead (Ok false) block (Ok r) = r ≡ done (Reply code.Ok block false)
TellsRead (Ok false) block (Err e) = ⊥
TellsRead (Err fault) block (Ok r) = ⊥
TellsRead (Err fault) block (Err e) = Unit {0}

-- what a write asks for
abbrev pub write_asked : ℕ → ℤ → ℤ → List ℕ → WriteAsked
write_asked flag offset count piece = record { from_end = is_from_end flag; offset = offset; count = count; piece = piece }

-- the replies of the calls of both widths: those of 4 bytes, and those of 8
abbrev pub end_reply : Bool → ℕ → AfpReply
end_reply false = λ end. End end
end_reply true = λ end. EndExt end

abbrev pub start_reply : Bool → ℕ → AfpReply
start_reply false = λ start. Start start
start_reply true = λ start. StartExt start

-- a number that a reply of this width has room for
abbrev pub HasRoom : Bool → ℕ → Type 0
HasRoom false n = n < 2 ^ 32
HasRoom true n = n < 2 ^ 64

-- the offset of a call of this width
abbrev pub IsOffset : Bool → ℤ → Type 0
IsOffset false offset = offset <ℤ pos 2147483648
IsOffset true offset = offset <ℤ pos 9223372036854775808

-- the open forks and their locks came to this, and all else is as before
pub record BecomesForks (k : KeptWorld) (becomes : Forks → Type 0) (new : KeptWorld) : Type 0 where
  pub forks : Forks
  pub is : becomes forks
  pub now : new ≡ with_forks k forks

-- what is told of a lock, by these bytes where it is set
abbrev pub TellsLocked : Result (Unit {0}) LockFault → List ℕ → Result (Told × Outcome) OutOfMemory → Type 0
TellsLocked (Ok set) block (Ok r) = r ≡ done (Reply code.Ok block false)
TellsLocked (Ok set) block (Err e) = ⊥
TellsLocked (Err fault.Locked) block (Ok r) = r ≡ done (refusal_reply code.LockErr)
TellsLocked (Err fault.Locked) block (Err e) = ⊥
TellsLocked (Err fault.Overlap) block (Ok r) = r ≡ done (refusal_reply code.RangeOverlap)
TellsLocked (Err fault.Overlap) block (Err e) = ⊥
TellsLocked (Err fault.Full) block (Ok r) = r ≡ done (refusal_reply code.NoMoreLocks)
TellsLocked (Err fault.Full) block (Err e) = ⊥
TellsLocked (Err fault.Memory) block (Ok r) = ⊥
TellsLocked (Err fault.Memory) block (Err e) = Unit {0}

-- and of one that is taken away
abbrev pub TellsUnlocked : Result (Unit {0}) NotLocked → List ℕ → Told → Type 0
TellsUnlocked (Ok gone) block told = told ≡ Reply code.Ok block false
TellsUnlocked (Err fault) block told = told ≡ refusal_reply code.RangeNotLocked
