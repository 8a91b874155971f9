-- FPByteRangeLock and FPByteRangeLockExt (AFP Reference, under these names).
use Rattle.std.specs.Prelude.{ℕ, ℤ, pos, negsuc, zero, suc, ◌+◌, ◌==◌, nat_le, Bool, true, not, ◌&&◌, if◌then◌else◌, List, [], ◌∷◌, filter, count_by, bit_and, Option, None, Some}
use Rattle.std.specs.List.{list_any}
use Rattle.afp_base.specs.Limits.{last_byte, most_locks}
use Rattle.afp_base.specs.Overlap.{Range}
use Rattle.afp_base.specs.declared.code.Code.TheVariants.{LockErr, NoMoreLocks, ParamErr, RangeNotLocked, RangeOverlap}
use Rattle.afp_replies.specs.declared.reply.Reply.{Reply}
use Rattle.afp_replies.specs.declared.reply.Reply.TheVariants.{Start, StartExt}
use Rattle.afp_serial.specs.World.{Effect, Refusal, CallRow, plain, with_empty_reply, World, OpenFork, Lock}
use Rattle.afp_serial.specs.ForkBytes.{is_from_end, start_in}
use Rattle.afp_serial.specs.OnFork.{OpenFile, bytes_of, is_met_by_other, keeps_all, meets_lock, placed, row_on_fork}

-- a range up to a place, if neither its start nor its end passes the last byte
abbrev pub range_to : ℕ → ℕ → Option Range
range_to from to = if nat_le from to && nat_le to last_byte then Some (record { from = from; to = to }) else None

-- The range of a start and a length: so many bytes, or up to the last byte where all bits of the length are set. There is none where the start is
-- negative, where the length is 0 or another negative number, and where the range passes the last byte (AFP Reference, "FPByteRangeLock").
abbrev pub range_of : ℤ → ℤ → Option Range
range_of (negsuc n) length = None
range_of (pos from) (pos zero) = None
range_of (pos from) (pos (suc more)) = range_to from (from + more)
range_of (pos from) (negsuc zero) = range_to from last_byte
range_of (pos from) (negsuc (suc n)) = None

-- what is asked: bit 0 of the flags unlocks; bit 7 counts the start of a lock from the end of the fork, and does not matter in unlocking (AFP Reference, "FPByteRangeLock")
pub record LockAsked : Type 0 where
  pub unlocks : Bool
  pub from_end : Bool
  pub offset : ℤ
  pub length : ℤ

abbrev pub lock_asked : ℕ → ℤ → ℤ → LockAsked
lock_asked flags offset length = record { unlocks = not (bit_and flags 0x01 == 0); from_end = is_from_end flags; offset = offset; length = length }

-- the range that is locked or unlocked
unfoldable pub range_asked : OpenFile → LockAsked → Option Range
range_asked f asked = range_of (if asked.unlocks then asked.offset else start_in (bytes_of f) asked.from_end asked.offset) asked.length

-- the reference's own lock shares a byte with the range
unfoldable pub is_met_by_own : World → OpenFork → Range → Bool
is_met_by_own w o range = list_any (λ lock. meets_lock w o range lock && (lock.reference == o.reference)) w.locks

-- the reference has as many locks as it may
unfoldable pub has_most_locks : World → OpenFork → Bool
has_most_locks w o = nat_le most_locks (count_by (λ lock. lock.reference == o.reference) w.locks)

-- the lock of a reference with exactly these ends
abbrev pub is_lock : ℕ → Range → Lock → Bool
is_lock reference range lock = (lock.reference == reference) && ((lock.range.from == range.from) && (lock.range.to == range.to))

unfoldable pub has_lock : World → OpenFork → Range → Bool
has_lock w o range = list_any (is_lock o.reference range) w.locks

-- the locks, which stand by rising reference, and those of one reference as they were set, with one more
abbrev pub with_lock : Lock → List Lock → List Lock
with_lock new locks = placed (λ (lock : Lock). lock.reference) new locks

-- what is refused to lock, and to unlock
abbrev pub locking_refusals : World → OpenFork → Range → List Refusal
locking_refusals w o range =
    (is_met_by_other w o range, plain LockErr)
    ∷ (is_met_by_own w o range, plain RangeOverlap)
    ∷ (has_most_locks w o, plain NoMoreLocks)
    ∷ []

abbrev pub unlocking_refusals : World → OpenFork → Range → List Refusal
unlocking_refusals w o range = (not (has_lock w o range), plain RangeNotLocked) ∷ []

abbrev pub range_refusals : Bool → World → OpenFork → Option Range → List Refusal
range_refusals unlocks w o None = (true, plain ParamErr) ∷ []
range_refusals unlocks w o (Some range) = if unlocks then unlocking_refusals w o range else locking_refusals w o range

-- the world with the lock of a reference, and without it
abbrev pub locked : World → OpenFork → Range → World
locked w o range = record w { locks = with_lock (record { reference = o.reference; range = range }) w.locks }

abbrev pub unlocked : World → OpenFork → Range → World
unlocked w o range = record w { locks = filter (λ lock. not (is_lock o.reference range lock)) w.locks }

-- the range is locked or unlocked, and its start is told; what is no range was refused
abbrev pub locks_range : Bool → World → OpenFork → (ℕ → Reply) → Option Range → Effect
locks_range unlocks w o reply None = with_empty_reply w
locks_range unlocks w o reply (Some range) = record { world = if unlocks then unlocked w o range else locked w o range; reply = reply range.from }

abbrev pub locks : ℕ → LockAsked → (ℕ → Reply) → CallRow
locks reference asked reply = row_on_fork reference
    (λ w f. range_refusals asked.unlocks w f.fork (range_asked f asked))
    (λ w f. locks_range asked.unlocks w f.fork reply (range_asked f asked))
    keeps_all

abbrev pub byte_range_lock_row : ℕ → ℕ → ℤ → ℤ → CallRow
byte_range_lock_row flags reference offset length = locks reference (lock_asked flags offset length) (λ start. Start start)

abbrev pub byte_range_lock_ext_row : ℕ → ℕ → ℤ → ℤ → CallRow
byte_range_lock_ext_row flags reference offset length = locks reference (lock_asked flags offset length) (λ start. StartExt start)
