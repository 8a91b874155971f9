-- FPOpenFork, FPCloseFork, FPFlushFork, FPGetForkParms and FPSetForkParms (AFP Reference, under these names).
use Rattle.std.specs.Prelude.{ℕ, zero, suc, ◌+◌, ◌-◌, ◌==◌, nat_le, Bool, not, if◌then◌else◌, List, [], ◌∷◌, length, min, max, count_by, bit_and, Option, None, Some}
use Rattle.std.specs.List.{list_any}
use Rattle.afp_base.specs.DenyMode.{Access, Fork, do_conflict}
use Rattle.afp_base.specs.ForkBytes.{resized}
use Rattle.afp_base.specs.Limits.{most_forks}
use Rattle.afp_base.specs.declared.code.Code.TheVariants.{AccessDenied, BitmapErr, DenyConflict, DiskFull, LockErr, ParamErr, TooManyFilesOpen}
use Rattle.afp_base.specs.declared.ids.ForkRef.{ForkRef}
use Rattle.afp_bitmap.specs.Bits.{file_mask, is_outside}
use Rattle.afp_names.specs.Path.{PathValue}
use Rattle.afp_replies.specs.declared.reply.Reply.{Reply}
use Rattle.afp_replies.specs.declared.reply.Reply.TheVariants as reply
use Rattle.volume_spec.specs.ForkEffect.{would_pass}
use Rattle.volume_spec.specs.OpenFork.{fork_values, is_resource, open_fork_file, open_fork_refusal}
use Rattle.volume_spec.specs.SetForkParms.{asks_length, has_no_length, length_in}
use Rattle.volume_spec.specs.VolumeState.{Row as File, VolumeState}
use Rattle.afp_serial.specs.World.{Effect, Refusal, CallRow, commits_nothing, plain, with_empty_reply, vol, refused_before, closing, is_open, volume_at, World, Session, OpenFork, user_of}
use Rattle.afp_serial.specs.OnFork.{OpenFile, bytes_of, is_locked, keeper_if, keeps_all, own_keeper, placed, row_on_fork, with_bytes}
use Rattle.afp_serial.specs.OnVolume.{opened_on, refused_on}

-- FPOpenFork

-- an access mode by its bits: bit 0 reads, bit 1 writes, bit 4 denies reading to others, bit 5 denies writing; no other bit matters (AFP Reference, "FPOpenFork")
abbrev pub access_of : ℕ → Access
access_of mode = record {
  read = not (bit_and mode 0x0001 == 0);
  write = not (bit_and mode 0x0002 == 0);
  deny_read = not (bit_and mode 0x0010 == 0);
  deny_write = not (bit_and mode 0x0020 == 0);
}

-- an open of the fork, with that access, would conflict with one that is there, of any session
unfoldable pub is_denied : World → Fork → Access → Bool
is_denied w fork access = list_any (λ o. do_conflict o.fork o.access fork access) w.opens

-- the session has as many forks open as it may
unfoldable pub has_most_forks : World → Session → Bool
has_most_forks w s = nat_le most_forks (count_by (λ o. o.session == s.number) w.opens)

-- the first number from this one on, among so many, that is no reference, and else the one behind them
abbrev pub free_from : List OpenFork → ℕ → ℕ → ℕ
free_from opens reference zero = reference
free_from opens reference (suc more) = if is_open opens reference then free_from opens (reference + 1) more else reference

-- the lowest number from 1 on that is no reference of any session: no more numbers are taken than forks are open (this profile)
unfoldable pub lowest_free : List OpenFork → ℕ
lowest_free opens = free_from opens 1 (length opens)

-- the open forks, which stand by rising reference, with one more
abbrev pub with_open : OpenFork → List OpenFork → List OpenFork
with_open new opens = placed (λ (o : OpenFork). o.reference) new opens

-- what a request to open a fork names: the volume, the bits of what is to be told of the file, and the access
pub record OpenAsked : Type 0 where
  pub volume : ℕ
  pub bits : ℕ
  pub resource : Bool
  pub access : Access

-- the fork of a file
abbrev pub fork_in : OpenAsked → File → Fork
fork_in asked file = record { volume = asked.volume; node = file.id; resource = asked.resource }

-- a reference, as a reply has it
abbrev pub fork_ref : ℕ → ForkRef
fork_ref reference = record { 0 = reference }

-- what is told of the file: with the reference of the open fork, or with none (AFP Reference, "FPOpenFork")
unfoldable pub opened_reply : World → OpenAsked → ℕ → File → Reply
opened_reply w asked reference file = reply.Opened asked.bits (fork_ref reference) (fork_values (opened_on w asked.volume) asked.bits file)

-- what the open forks of all sessions refuse of a file that was found: a conflict tells of it as it stands
abbrev pub denied_of : World → Session → OpenAsked → Option File → List Refusal
denied_of w s asked None = []
denied_of w s asked (Some file) =
    (is_denied w (fork_in asked file) asked.access, record { code = DenyConflict; reply = opened_reply w asked 0 file })
    ∷ (has_most_forks w s, plain TooManyFilesOpen)
    ∷ []

-- the file that is asked for, where the volume is there and the path leads to it
abbrev pub file_asked : Option VolumeState → ℕ → ℕ → PathValue → Option File
file_asked None user dir path = None
file_asked (Some v) user dir path = open_fork_file v user dir path

-- the new open fork
abbrev pub new_fork : World → Session → OpenAsked → File → OpenFork
new_fork w s asked file = record { reference = lowest_free w.opens; session = s.number; fork = fork_in asked file; access = asked.access }

-- the world with one more open fork
abbrev pub with_fork : World → OpenFork → World
with_fork w o = record w { opens = with_open o w.opens }

-- the fork is open, and the file is told as it is then; a file that was not found was refused
abbrev pub opens_fork : World → Session → OpenAsked → Option File → Effect
opens_fork w s asked None = with_empty_reply w
opens_fork w s asked (Some file) =
    let new : OpenFork = new_fork w s asked file in
    record { world = with_fork w new; reply = opened_reply (with_fork w new) asked new.reference file }

abbrev pub opens_asked : OpenAsked → ℕ → PathValue → CallRow
opens_asked asked dir path = record {
  refusals = λ w s. vol s asked.volume ∷ refused_before (refused_on (volume_at w.volumes asked.volume) (λ v. open_fork_refusal v (user_of s) asked.bits asked.access.read asked.access.write dir path)) (denied_of w s asked (file_asked (volume_at w.volumes asked.volume) (user_of s) dir path));
  effect = λ w s. opens_fork w s asked (file_asked (volume_at w.volumes asked.volume) (user_of s) dir path);
  committed = commits_nothing;
}

abbrev pub open_fork_row : ℕ → ℕ → ℕ → ℕ → ℕ → PathValue → CallRow
open_fork_row flag volume dir bits mode path = opens_asked (record { volume = volume; bits = bits; resource = is_resource flag; access = access_of mode }) dir path

-- FPCloseFork: the fork is closed, and its locks are gone

abbrev pub close_fork_row : ℕ → CallRow
close_fork_row reference = row_on_fork reference (λ w f. []) (λ w f. with_empty_reply (closing w (λ o. not (o.reference == reference)))) keeps_all

-- FPFlushFork: the keeper of its volume settles what was committed to it

abbrev pub flush_fork_row : ℕ → CallRow
flush_fork_row reference = row_on_fork reference (λ w f. []) (λ w f. with_empty_reply w) (λ w f. own_keeper f)

-- FPGetForkParms

abbrev pub get_fork_parms_reply : ℕ → World → OpenFile → Reply
get_fork_parms_reply bits w f = reply.Params bits (fork_values (opened_on w f.fork.fork.volume) bits f.file)

abbrev pub get_fork_parms_row : ℕ → ℕ → CallRow
get_fork_parms_row reference bits = row_on_fork reference
    (λ w f. (is_outside file_mask bits, plain BitmapErr) ∷ [])
    (λ w f. record { world = w; reply = get_fork_parms_reply bits w f })
    keeps_all

-- FPSetForkParms: the fork has another length, cut or filled with zeros

-- the length that is set, and whether it is another one
abbrev pub length_for : ℕ → List ℕ → OpenFile → ℕ
length_for bits tail f = length_in f.fork.fork.resource bits tail

abbrev pub is_other_length : ℕ → List ℕ → OpenFile → Bool
is_other_length bits tail f = not (length_for bits tail f == length (bytes_of f))

-- another's lock covers a byte between the old and the new length (this profile)
abbrev pub is_locked_between : World → OpenFork → ℕ → ℕ → Bool
is_locked_between w o old new = is_locked w o (min old new) (max old new - min old new)

abbrev pub set_fork_parms_refusals : ℕ → List ℕ → World → OpenFile → List Refusal
set_fork_parms_refusals bits tail w f =
    (not (asks_length f.fork.fork.resource bits), plain BitmapErr)
    ∷ (has_no_length f.fork.fork.resource bits tail, plain ParamErr)
    ∷ (not f.fork.access.write, plain AccessDenied)
    ∷ (is_locked_between w f.fork (length (bytes_of f)) (length_for bits tail f), plain LockErr)
    ∷ (would_pass f.volume (length (bytes_of f)) (length_for bits tail f), plain DiskFull)
    ∷ []

abbrev pub set_fork_parms_row : ℕ → ℕ → List ℕ → CallRow
set_fork_parms_row reference bits tail = row_on_fork reference
    (set_fork_parms_refusals bits tail)
    (λ w f. with_empty_reply (with_bytes w f (is_other_length bits tail f) (resized (bytes_of f) (length_for bits tail f))))
    (λ w f. keeper_if (is_other_length bits tail f) f)
