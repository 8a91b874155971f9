-- The laws of the rows of the calls on open forks (this profile).
use Rattle.std.specs.Prelude.{◌≡◌, ◌≢◌, ℕ, ℤ, ◌+◌, ◌*◌, ◌<◌, ◌≤◌, true, false, Bool, List, length, find, Some, None, ◌↔◌, pos, negsuc, suc, slice_get, nat_le, min, ◌&&◌}
use Rattle.std.specs.List.{Contains, list_all}
use Rattle.afp_base.specs.Limits.{most_forks, payload_limit}
use Rattle.afp_base.specs.Choice.{first_holding}
use Rattle.afp_base.specs.declared.code.Code.TheVariants.{DenyConflict, EOFErr, Ok}
use Rattle.afp_base.specs.declared.ids.ForkRef.{ForkRef}
use Rattle.afp_base.specs.declared.ids.NodeId.{NodeId}
use Rattle.afp_base.specs.declared.ids.VolumeId.{VolumeId}
use Rattle.afp_names.specs.Path.{PathValue}
use Rattle.afp_replies.specs.Replies.{Shows, canonical_reply}
use Rattle.afp_replies.specs.declared.reply.Reply.{Reply}
use Rattle.afp_calls_grammar.specs.declared.grammar.call.Call.{Call}
use Rattle.afp_calls_grammar.specs.declared.grammar.call.Call.TheVariants as calls
use Rattle.afp_calls_grammar.specs.declared.grammar.call.Call.TheVariants.{ByteRangeLock, ByteRangeLockExt, CloseFork, FlushFork, GetForkParms, Read, ReadExt, SetForkParms, Write, WriteExt}
use Rattle.afp_serial.specs.OnFork.{OpenFile, is_met_by_other}
use Rattle.afp_base.specs.DenyMode.{Access, Conflicts, Fork}
use Rattle.afp_base.specs.Overlap.{Covers, Range}
use Rattle.afp_bitmap.specs.Bits.{file_mask, is_outside}
use Rattle.volume_spec.specs.VolumeState.{Row as File}
use Rattle.afp_serial.specs.World.{Refused, CallRow, is_open, volume_at, World, Session, OpenFork, Lock}
use Rattle.afp_serial.specs.Fork.{close_fork_row, flush_fork_row, get_fork_parms_row, lowest_free, open_fork_row, set_fork_parms_row, file_asked, is_denied, opened_reply}
use Rattle.afp_serial.specs.ForkBytes.{read_ext_row, read_row, write_ext_row, write_row, ReadAsked, read_reply}
use Rattle.afp_serial.specs.LawfulCall.{is_lawful_call}
use Rattle.afp_serial.specs.Lock.{byte_range_lock_ext_row, byte_range_lock_row, range_of}
use Rattle.afp_base.specs.Limits.{last_byte}
use Rattle.afp_serial.specs.Limits.{most_sessions}
use Rattle.afp_serial.specs.ReplyKinds.{reply_kind}
use Rattle.afp_serial.specs.Rows.{refusal}
use Rattle.afp_serial.specs.Sound.{IsSound, share_fork}

-- The row of a call, whose fields are those that bytes give, asked by a session of a sound world: its effect keeps the world sound, its reply is shown by
-- its bytes, which fit in a frame, and so do those of a refusal, which is never told Ok; and the volume of the keeper that it names is there.
pub record IsLawfulRow (call : Call) (row : CallRow) : Type 0 where
  pub sound : (w : World) (s : Session) (test : Session → Bool) → is_lawful_call call ≡ true → find test w.sessions ≡ Some s → first_holding (row.refusals w s) ≡ None → IsSound w → IsSound (row.effect w s).world
  pub shown : (w : World) (s : Session) → is_lawful_call call ≡ true → first_holding (row.refusals w s) ≡ None → IsSound w → Shows (row.effect w s).reply (reply_kind call) Ok (canonical_reply (row.effect w s).reply)
  pub fits : (w : World) (s : Session) → is_lawful_call call ≡ true → first_holding (row.refusals w s) ≡ None → IsSound w → length (canonical_reply (row.effect w s).reply) ≤ payload_limit
  pub refuses : (w : World) (s : Session) (r : Refused) → first_holding (row.refusals w s) ≡ Some r → IsSound w → (r.code ≢ Ok) × (length (canonical_reply r.reply) ≤ payload_limit)
  pub keeper : (w : World) (s : Session) (index : ℕ) → first_holding (row.refusals w s) ≡ None → row.committed w s ≡ Some index → index < length w.volumes

abbrev pub CloseForkIsLawful : Type 0
CloseForkIsLawful = (reference : ForkRef) → IsLawfulRow (CloseFork reference) (close_fork_row reference.0)

abbrev pub FlushForkIsLawful : Type 0
FlushForkIsLawful = (reference : ForkRef) → IsLawfulRow (FlushFork reference) (flush_fork_row reference.0)

abbrev pub GetForkParmsIsLawful : Type 0
GetForkParmsIsLawful = (reference : ForkRef) (bits : ℕ) → IsLawfulRow (GetForkParms reference bits) (get_fork_parms_row reference.0 bits)

abbrev pub ReadIsLawful : Type 0
ReadIsLawful = (reference : ForkRef) (offset : ℤ) (count mask character : ℕ) → IsLawfulRow (Read reference offset count mask character) (read_row reference.0 offset count mask character)

abbrev pub ReadExtIsLawful : Type 0
ReadExtIsLawful = (reference : ForkRef) (offset count : ℤ) → IsLawfulRow (ReadExt reference offset count) (read_ext_row reference.0 offset count)

abbrev pub SetForkParmsIsLawful : Type 0
SetForkParmsIsLawful = (reference : ForkRef) (bits : ℕ) (tail : List ℕ) → IsLawfulRow (SetForkParms reference bits tail) (set_fork_parms_row reference.0 bits tail)

abbrev pub WriteIsLawful : Type 0
WriteIsLawful = (flag : ℕ) (reference : ForkRef) (offset : ℤ) (count : ℕ) (piece : List ℕ) → IsLawfulRow (Write flag reference offset count piece) (write_row flag reference.0 offset count piece)

abbrev pub WriteExtIsLawful : Type 0
WriteExtIsLawful = (flag : ℕ) (reference : ForkRef) (offset count : ℤ) (piece : List ℕ) → IsLawfulRow (WriteExt flag reference offset count piece) (write_ext_row flag reference.0 offset count piece)

abbrev pub ByteRangeLockIsLawful : Type 0
ByteRangeLockIsLawful = (flags : ℕ) (reference : ForkRef) (offset length : ℤ) → IsLawfulRow (ByteRangeLock flags reference offset length) (byte_range_lock_row flags reference.0 offset length)

abbrev pub ByteRangeLockExtIsLawful : Type 0
ByteRangeLockExtIsLawful = (flags : ℕ) (reference : ForkRef) (offset length : ℤ) → IsLawfulRow (ByteRangeLockExt flags reference offset length) (byte_range_lock_ext_row flags reference.0 offset length)

-- a new reference is the lowest number from 1 that is no reference of any session
abbrev pub ReferenceIsFree : Type 0
ReferenceIsFree = (opens : List OpenFork) → is_open opens (lowest_free opens) ≡ false

abbrev pub ReferenceIsLowest : Type 0
ReferenceIsLowest = (opens : List OpenFork) (k : ℕ) → 1 ≤ k → k < lowest_free opens → is_open opens k ≡ true

abbrev pub ReferenceCounts : Type 0
ReferenceCounts = (opens : List OpenFork) → (1 ≤ lowest_free opens) × (lowest_free opens ≤ 1 + length opens)

-- no more forks are open than all sessions may have together
abbrev pub OpensAreFew : Type 0
OpensAreFew = (w : World) → IsSound w → length w.opens ≤ most_sessions * most_forks

abbrev pub OpenForkIsLawful : Type 0
OpenForkIsLawful = (flag : ℕ) (volume : VolumeId) (dir : NodeId) (bits mode : ℕ) (path : PathValue) → IsLawfulRow (calls.OpenFork flag volume dir bits mode path) (open_fork_row flag volume.0 dir.0 bits mode path)

-- an open is denied just where it conflicts with one that is there, of any session
abbrev pub DeniesConflicts : Type 0
DeniesConflicts = (w : World) (fork : Fork) (access : Access) → (is_denied w fork access ≡ true ↔ ((o : OpenFork) × Contains w.opens o × Conflicts o.fork o.access fork access))

-- in a sound world no two opens conflict, no reference is given twice, and no byte of a fork is locked twice
abbrev pub NoTwoConflict : Type 0
NoTwoConflict = (w : World) (j k : ℕ) (a b : OpenFork) → IsSound w → j < k → slice_get w.opens j ≡ Some a → slice_get w.opens k ≡ Some b → (a.reference ≢ b.reference) × (Conflicts a.fork a.access b.fork b.access → ⊥)

abbrev pub NoByteTwice : Type 0
NoByteTwice = (w : World) (j k byte : ℕ) (a b : Lock) → IsSound w → j < k → slice_get w.locks j ≡ Some a → slice_get w.locks k ≡ Some b → share_fork w.opens a.reference b.reference ≡ true → Covers a.range byte → Covers b.range byte → ⊥

-- the bytes that a lock asks for: so many, or all up to the last one; none behind that
abbrev pub RangesCount : Type 0
RangesCount = (from more byte : ℕ) (r : Range) → range_of (pos from) (pos (suc more)) ≡ Some r → (Covers r byte ↔ ((from ≤ byte) × (byte ≤ from + more)))

abbrev pub RangesToLastByte : Type 0
RangesToLastByte = (from byte : ℕ) (r : Range) → range_of (pos from) (negsuc 0) ≡ Some r → (Covers r byte ↔ ((from ≤ byte) × (byte ≤ last_byte)))

abbrev pub RangesEnd : Type 0
RangesEnd = (start length : ℤ) (r : Range) → range_of start length ≡ Some r → (r.from ≤ r.to) × (r.to ≤ last_byte)

-- the calls that read
abbrev pub is_read : Call → Bool
is_read (Read reference offset count mask character) = true
is_read (ReadExt reference offset count) = true
is_read call = false

-- what a read at the end and a denied open are told is shown, with their codes
abbrev pub EndIsShown : Type 0
EndIsShown = (call : Call) (asked : ReadAsked) (f : OpenFile) → is_read call ≡ true → Shows (read_reply asked f) (reply_kind call) EOFErr (canonical_reply (read_reply asked f))

abbrev pub DenialIsShown : Type 0
DenialIsShown =
    (w : World) (user flag : ℕ) (volume : VolumeId) (dir : NodeId) (bits mode : ℕ) (path : PathValue) (resource : Bool) (access : Access) (file : File) → IsSound w → is_outside file_mask bits ≡ false
    → file_asked (volume_at w.volumes volume.0) user dir.0 path ≡ Some file
    → let denied : Reply = opened_reply w (record { volume = volume.0; bits = bits; resource = resource; access = access }) 0 file in
    Shows denied (reply_kind (calls.OpenFork flag volume dir bits mode path)) DenyConflict (canonical_reply denied)

-- So is what each refusal of each call's row tells: with its code, to a request of that call's kind. Where it tells nothing its code is one under which
-- such a request is told nothing.
abbrev pub RefusalsAreShown : Type 0
RefusalsAreShown = (w : World) (s : Session) (call : Call) (r : Refused) → IsSound w → refusal w s call ≡ Some r → Shows r.reply (reply_kind call) r.code (canonical_reply r.reply)

-- a row changes no volume; a row that commits nothing changes nothing at all
abbrev pub LeavesVolumes : CallRow → Type 0
LeavesVolumes row = (w : World) (s : Session) → (row.effect w s).world.volumes ≡ w.volumes

abbrev pub CommitsChanges : CallRow → Type 0
CommitsChanges row = (w : World) (s : Session) → row.committed w s ≡ None → (row.effect w s).world ≡ w

-- of these calls three change a volume, and commit that to its keeper where they change it
abbrev pub ThreeChangeVolumes : Type 0
ThreeChangeVolumes =
    (flag reference bits n : ℕ) (offset count : ℤ) (bytes : List ℕ)
    → CommitsChanges (set_fork_parms_row reference bits bytes)
    × CommitsChanges (write_row flag reference offset n bytes)
    × CommitsChanges (write_ext_row flag reference offset count bytes)

abbrev pub OthersLeaveVolumes : Type 0
OthersLeaveVolumes =
    (flag volume dir bits mode reference n mask character : ℕ) (path : PathValue) (offset count : ℤ)
    → LeavesVolumes (open_fork_row flag volume dir bits mode path)
    × LeavesVolumes (close_fork_row reference)
    × LeavesVolumes (flush_fork_row reference)
    × LeavesVolumes (get_fork_parms_row reference bits)
    × LeavesVolumes (read_row reference offset n mask character)
    × LeavesVolumes (read_ext_row reference offset count)
    × LeavesVolumes (byte_range_lock_row flag reference offset count)
    × LeavesVolumes (byte_range_lock_ext_row flag reference offset count)

-- where each lock ends at the last byte or before, as each that was asked for does, bytes behind the last one are met by none
abbrev pub is_lock_range : Range → Bool
is_lock_range r = nat_le r.from r.to && nat_le r.to last_byte

abbrev pub MeetsUpToLastByte : Type 0
MeetsUpToLastByte = (w : World) (o : OpenFork) (from to : ℕ) → list_all (λ (lock : Lock). is_lock_range lock.range) w.locks ≡ true
    → is_met_by_other w o (record { from = from; to = to }) ≡ is_met_by_other w o (record { from = from; to = min to last_byte })

abbrev pub MeetsNoneBehind : Type 0
MeetsNoneBehind = (w : World) (o : OpenFork) (r : Range) → list_all (λ (lock : Lock). is_lock_range lock.range) w.locks ≡ true → last_byte < r.from → is_met_by_other w o r ≡ false
