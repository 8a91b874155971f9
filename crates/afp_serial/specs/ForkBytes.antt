-- FPRead, FPReadExt, FPWrite and FPWriteExt (AFP Reference, under these names).
use Rattle.std.specs.Prelude.{ℕ, ℤ, pos, ◌+◌, ◌+ℤ◌, ◌==◌, nat_lt, Bool, not, ◌&&◌, ◌||◌, if◌then◌else◌, List, [], ◌∷◌, length, take, min, nat_abs, bit_and, position, Option, None, Some, is_none}
use Rattle.std.specs.Int.{is_negative}
use Rattle.afp_base.specs.Limits.{payload_limit}
use Rattle.afp_base.specs.ForkBytes.{splice, taken}
use Rattle.afp_base.specs.declared.code.Code.TheVariants.{AccessDenied, DiskFull, EOFErr, LockErr, ParamErr}
use Rattle.afp_replies.specs.declared.reply.Reply.{Reply}
use Rattle.afp_replies.specs.declared.reply.Reply.TheVariants.{End, EndExt, Piece}
use Rattle.volume_spec.specs.ForkEffect.{would_pass}
use Rattle.afp_serial.specs.World.{Refusal, CallRow, plain, World}
use Rattle.afp_serial.specs.OnFork.{OpenFile, bytes_of, is_locked, keeper_if, keeps_all, row_on_fork, with_bytes}

-- FPRead and FPReadExt

-- what a read asks for: how many bytes from which place on, and up to which character under which mask; a mask of 0 stops at none
pub record ReadAsked : Type 0 where
  pub offset : ℤ
  pub count : ℤ
  pub mask : ℕ
  pub character : ℕ

-- how many bytes it may read at most: those of a reply (this profile)
abbrev pub most_read : ReadAsked → ℕ
most_read asked = min (nat_abs asked.count) payload_limit

-- the bytes that it comes to
abbrev pub ahead : List ℕ → ReadAsked → List ℕ
ahead bytes asked = taken bytes (nat_abs asked.offset) (most_read asked)

-- the place of the first of some bytes whose value under the mask is the character (AFP Reference, "FPRead": newline mask and newline character)
abbrev pub stop_in : ReadAsked → List ℕ → Option ℕ
stop_in asked bytes = if asked.mask == 0 then None else position (λ b. bit_and b asked.mask == asked.character) bytes

-- bytes up to a place, the byte there included, or all
abbrev pub up_to : Option ℕ → List ℕ → List ℕ
up_to None bytes = bytes
up_to (Some place) bytes = take (place + 1) bytes

-- the bytes that it reads
unfoldable pub read_bytes : List ℕ → ReadAsked → List ℕ
read_bytes bytes asked = up_to (stop_in asked (ahead bytes asked)) (ahead bytes asked)

-- it met the end of the fork before it had all, and did not stop at the character
unfoldable pub meets_end : List ℕ → ReadAsked → Bool
meets_end bytes asked = is_none (stop_in asked (ahead bytes asked)) && nat_lt (length (ahead bytes asked)) (most_read asked)

abbrev pub read_reply : ReadAsked → OpenFile → Reply
read_reply asked f = Piece (read_bytes (bytes_of f) asked)

-- a read that meets the end is refused with the bytes that it read
abbrev pub read_refusals : ReadAsked → World → OpenFile → List Refusal
read_refusals asked w f =
    (is_negative asked.offset || is_negative asked.count, plain ParamErr)
    ∷ (not f.fork.access.read, plain AccessDenied)
    ∷ (is_locked w f.fork (nat_abs asked.offset) (most_read asked), plain LockErr)
    ∷ (meets_end (bytes_of f) asked, record { code = EOFErr; reply = read_reply asked f })
    ∷ []

abbrev pub reads : ℕ → ReadAsked → CallRow
reads reference asked = row_on_fork reference (read_refusals asked) (λ w f. record { world = w; reply = read_reply asked f }) keeps_all

abbrev pub read_row : ℕ → ℤ → ℕ → ℕ → ℕ → CallRow
read_row reference offset count mask character = reads reference (record { offset = offset; count = pos count; mask = mask; character = character })

abbrev pub read_ext_row : ℕ → ℤ → ℤ → CallRow
read_ext_row reference offset count = reads reference (record { offset = offset; count = count; mask = 0; character = 0 })

-- FPWrite and FPWriteExt

-- whether a start counts from the end of the fork: bit 7 of the flag (AFP Reference, "FPWrite", "FPByteRangeLock")
abbrev pub is_from_end : ℕ → Bool
is_from_end flag = not (bit_and flag 0x80 == 0)

-- where a write or a lock starts
abbrev pub start_in : List ℕ → Bool → ℤ → ℤ
start_in bytes from_end offset = if from_end then pos (length bytes) +ℤ offset else offset

-- what a write asks for: its bytes, from which place on; their count is a number with a sign in FPWriteExt
pub record WriteAsked : Type 0 where
  pub from_end : Bool
  pub offset : ℤ
  pub count : ℤ
  pub piece : List ℕ

abbrev pub write_start : OpenFile → WriteAsked → ℤ
write_start f asked = start_in (bytes_of f) asked.from_end asked.offset

-- some byte is written: a write of none changes nothing (this profile)
abbrev pub writes_some : WriteAsked → Bool
writes_some asked = nat_lt 0 (length asked.piece)

-- the bytes of the fork afterwards
abbrev pub written_bytes : OpenFile → WriteAsked → List ℕ
written_bytes f asked = splice (bytes_of f) (nat_abs (write_start f asked)) asked.piece

-- the place behind the last byte written
abbrev pub write_end : OpenFile → WriteAsked → ℕ
write_end f asked = nat_abs (write_start f asked) + length asked.piece

abbrev pub write_refusals : WriteAsked → World → OpenFile → List Refusal
write_refusals asked w f =
    (is_negative asked.count || is_negative (write_start f asked), plain ParamErr)
    ∷ (not f.fork.access.write, plain AccessDenied)
    ∷ (is_locked w f.fork (nat_abs (write_start f asked)) (length asked.piece), plain LockErr)
    ∷ (would_pass f.volume (length (bytes_of f)) (length (written_bytes f asked)), plain DiskFull)
    ∷ []

abbrev pub writes : ℕ → WriteAsked → (ℕ → Reply) → CallRow
writes reference asked reply = row_on_fork reference
    (write_refusals asked)
    (λ w f. record { world = with_bytes w f (writes_some asked) (written_bytes f asked); reply = reply (write_end f asked) })
    (λ w f. keeper_if (writes_some asked) f)

abbrev pub write_row : ℕ → ℕ → ℤ → ℕ → List ℕ → CallRow
write_row flag reference offset count piece = writes reference (record { from_end = is_from_end flag; offset = offset; count = pos count; piece = piece }) (λ end. End end)

abbrev pub write_ext_row : ℕ → ℕ → ℤ → ℤ → List ℕ → CallRow
write_ext_row flag reference offset count piece = writes reference (record { from_end = is_from_end flag; offset = offset; count = count; piece = piece }) (λ end. EndExt end)
