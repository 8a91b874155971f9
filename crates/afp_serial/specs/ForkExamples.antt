-- Worked examples of the calls on open forks: requests one after another, with what each is told (values worked by hand).
use Rattle.std.specs.Prelude.{◌≡◌, ℕ, zero, suc, ◌+◌, ◌*◌, pos, negsuc, false, List, [], ◌∷◌, ◌++◌, Option, None, Some}
use Rattle.afp_base.specs.Choice.{first_holding}
use Rattle.afp_base.specs.DenyMode.{Fork}
use Rattle.afp_base.specs.declared.code.Code.{Code}
use Rattle.afp_base.specs.declared.code.Code.TheVariants.{AccessDenied, BitmapErr, DenyConflict, EOFErr, LockErr, NoMoreLocks, Ok, ParamErr, RangeNotLocked, RangeOverlap, TooManyFilesOpen}
use Rattle.afp_replies.specs.Replies.{canonical_reply}
use Rattle.volume_spec.specs.VolumeState.{Row as File, VolumeState, fresh_volume, guest, new_row}
use Rattle.afp_serial.specs.Answer.{new_session}
use Rattle.afp_serial.specs.World.{Effect, Refused, CallRow, World, Session, OpenFork, Lock, start_world}
use Rattle.afp_serial.specs.Fork.{OpenAsked, access_of, close_fork_row, denied_of, get_fork_parms_row, opens_fork, set_fork_parms_row}
use Rattle.afp_serial.specs.ForkBytes.{read_ext_row, read_row, write_ext_row, write_row}
use Rattle.afp_serial.specs.Household.{Household}
use Rattle.afp_serial.specs.Lock.{byte_range_lock_ext_row, byte_range_lock_row}

-- what a session is told of its calls: each code with its block
abbrev pub Said : Type 0
Said = Code × List ℕ

-- a call of a session that is refused, or has its effect
abbrev pub said : Option Refused → Effect → Said
said None e = (Ok, canonical_reply e.reply)
said (Some refused) e = (refused.code, canonical_reply refused.reply)

abbrev pub left : World → Option Refused → Effect → World
left w None e = e.world
left w (Some refused) e = w

-- calls one after another, each of a session, and what they are told
abbrev pub tells : World → List (Session × CallRow) → List Said
tells w [] = []
tells w (call ∷ calls) =
    let refused : Option Refused = first_holding (call.1.refusals w call.0) in
    let e : Effect = call.1.effect w call.0 in
    said refused e ∷ tells (left w refused e) calls

-- the row of FPOpenFork, of a file that was found
abbrev pub opening : OpenAsked → File → CallRow
opening asked file = record { refusals = λ w s. denied_of w s asked (Some file); effect = λ w s. opens_fork w s asked (Some file); committed = λ w s. None }

-- the bytes of a file, `f` of id 17 in the root of volume 1, and that volume
abbrev pub some_file : List ℕ → File
some_file bytes = record (new_row false guest 17 2 (0x66 ∷ []) 100) { data_fork = bytes }

abbrev pub some_volume : List ℕ → VolumeState
some_volume bytes = let fresh : VolumeState = fresh_volume (0x53 ∷ []) 100 in record fresh { rows = fresh.rows ++ some_file bytes ∷ [] }

abbrev pub some_house : Household
some_house = record { server = 0x4d ∷ []; signature = []; users = []; volumes = (0x53 ∷ []) ∷ []; message = []; token_key = [] }

-- two sessions that have the volume open
abbrev pub first : Session
first = record (new_session 1) { user = Some 500; volumes = 1 ∷ [] }

abbrev pub second : Session
second = record (new_session 2) { user = Some 500; volumes = 1 ∷ [] }

abbrev pub data_fork : Fork
data_fork = record { volume = 1; node = 17; resource = false }

-- its data fork, open under a reference of a session
abbrev pub held : ℕ → ℕ → ℕ → OpenFork
held reference session mode = record { reference = reference; session = session; fork = data_fork; access = access_of mode }

abbrev pub some_world : List ℕ → List OpenFork → List Lock → World
some_world bytes opens locks = record (start_world some_house 100 (some_volume bytes ∷ [])) { next_link = 3; sessions = first ∷ second ∷ []; opens = opens; locks = locks }

-- to open the data fork, telling the id
abbrev pub asked_as : ℕ → OpenAsked
asked_as mode = record { volume = 1; bits = 0x0100; resource = false; access = access_of mode }

abbrev pub opens_as : ℕ → CallRow
opens_as mode = opening (asked_as mode) (some_file [])

-- deny modes hold between sessions, and until the fork is closed
abbrev pub DeniesUntilClosed : Type 0
DeniesUntilClosed =
    tells (some_world [] [] []) ((first, opens_as 0x0021) ∷ (second, opens_as 0x0002) ∷ (first, close_fork_row 1) ∷ (second, opens_as 0x0002) ∷ [])
    ≡ (Ok, 0x01 ∷ 0x00 ∷ 0x00 ∷ 0x01 ∷ 0x00 ∷ 0x00 ∷ 0x00 ∷ 0x11 ∷ [])
    ∷ (DenyConflict, 0x01 ∷ 0x00 ∷ 0x00 ∷ 0x00 ∷ 0x00 ∷ 0x00 ∷ 0x00 ∷ 0x11 ∷ [])
    ∷ (Ok, [])
    ∷ (Ok, 0x01 ∷ 0x00 ∷ 0x00 ∷ 0x01 ∷ 0x00 ∷ 0x00 ∷ 0x00 ∷ 0x11 ∷ [])
    ∷ []

-- and within one session
abbrev pub DeniesItself : Type 0
DeniesItself =
    tells (some_world [] [] []) ((first, opens_as 0x0021) ∷ (first, opens_as 0x0002) ∷ [])
    ≡ (Ok, 0x01 ∷ 0x00 ∷ 0x00 ∷ 0x01 ∷ 0x00 ∷ 0x00 ∷ 0x00 ∷ 0x11 ∷ [])
    ∷ (DenyConflict, 0x01 ∷ 0x00 ∷ 0x00 ∷ 0x00 ∷ 0x00 ∷ 0x00 ∷ 0x00 ∷ 0x11 ∷ [])
    ∷ []

-- reads up to a character, up to the end, and of nothing
abbrev pub ReadsLines : Type 0
ReadsLines =
    tells (some_world (0x61 ∷ 0x62 ∷ 0x0d ∷ 0x63 ∷ 0x64 ∷ []) (held 1 1 0x0001 ∷ []) [])
    ((first, read_row 1 (pos 0) 10 0xff 0x0d)
    ∷ (first, read_row 1 (pos 3) 10 0xff 0x0d)
    ∷ (first, read_row 1 (pos 3) 2 0 0)
    ∷ (first, read_row 1 (pos 5) 1 0 0)
    ∷ (first, read_ext_row 1 (pos 5) (pos 0))
    ∷ (first, read_ext_row 1 (negsuc 0) (pos 1))
    ∷ (first, write_row 0 1 (pos 0) 0 [])
    ∷ (second, read_row 1 (pos 0) 10 0xff 0x0d)
    ∷ [])
    ≡ (Ok, 0x61 ∷ 0x62 ∷ 0x0d ∷ [])
    ∷ (EOFErr, 0x63 ∷ 0x64 ∷ [])
    ∷ (Ok, 0x63 ∷ 0x64 ∷ [])
    ∷ (EOFErr, [])
    ∷ (Ok, [])
    ∷ (ParamErr, [])
    ∷ (AccessDenied, [])
    ∷ (ParamErr, [])
    ∷ []

-- a lock to the top: -1 is a length of which all bits are set
abbrev pub LocksToLastByte : Type 0
LocksToLastByte =
    tells (some_world (0x61 ∷ []) (held 1 1 0x0003 ∷ held 2 2 0x0003 ∷ []) [])
    ((first, byte_range_lock_row 0 1 (pos 3) (negsuc 0))
    ∷ (second, write_row 0 2 (pos 2) 2 (0x78 ∷ 0x78 ∷ []))
    ∷ (second, write_row 0 2 (pos 1) 2 (0x78 ∷ 0x78 ∷ []))
    ∷ (second, byte_range_lock_row 0 2 (pos 0) (pos 4))
    ∷ (second, byte_range_lock_row 0 2 (pos 0) (pos 3))
    ∷ (first, byte_range_lock_row 0 1 (pos 5) (pos 1))
    ∷ (first, byte_range_lock_row 1 1 (pos 3) (pos 1))
    ∷ (first, byte_range_lock_row 0 1 (pos 0) (pos 0))
    ∷ (first, byte_range_lock_ext_row 1 1 (pos 3) (negsuc 0))
    ∷ [])
    ≡ (Ok, 0x00 ∷ 0x00 ∷ 0x00 ∷ 0x03 ∷ [])
    ∷ (LockErr, [])
    ∷ (Ok, 0x00 ∷ 0x00 ∷ 0x00 ∷ 0x03 ∷ [])
    ∷ (LockErr, [])
    ∷ (Ok, 0x00 ∷ 0x00 ∷ 0x00 ∷ 0x00 ∷ [])
    ∷ (RangeOverlap, [])
    ∷ (RangeNotLocked, [])
    ∷ (ParamErr, [])
    ∷ (Ok, 0x00 ∷ 0x00 ∷ 0x00 ∷ 0x00 ∷ 0x00 ∷ 0x00 ∷ 0x00 ∷ 0x03 ∷ [])
    ∷ []

-- writes from the end, and a fork that is cut
abbrev pub WritesFromEnd : Type 0
WritesFromEnd =
    tells (some_world [] (held 1 1 0x0003 ∷ []) [])
    ((first, write_row 0x80 1 (pos 0) 1 (0x78 ∷ []))
    ∷ (first, write_ext_row 0x80 1 (pos 1) (pos 1) (0x79 ∷ []))
    ∷ (first, write_row 0x80 1 (negsuc 3) 1 (0x7a ∷ []))
    ∷ (first, read_row 1 (pos 0) 3 0 0)
    ∷ (first, set_fork_parms_row 1 0x0200 (0x00 ∷ 0x00 ∷ 0x00 ∷ 0x01 ∷ []))
    ∷ (first, set_fork_parms_row 1 0x0400 (0x00 ∷ 0x00 ∷ 0x00 ∷ 0x01 ∷ []))
    ∷ (first, get_fork_parms_row 1 0x0208)
    ∷ [])
    ≡ (Ok, 0x00 ∷ 0x00 ∷ 0x00 ∷ 0x01 ∷ [])
    ∷ (Ok, 0x00 ∷ 0x00 ∷ 0x00 ∷ 0x00 ∷ 0x00 ∷ 0x00 ∷ 0x00 ∷ 0x03 ∷ [])
    ∷ (ParamErr, [])
    ∷ (Ok, 0x78 ∷ 0x00 ∷ 0x79 ∷ [])
    ∷ (Ok, [])
    ∷ (BitmapErr, [])
    ∷ (Ok, 0x02 ∷ 0x08 ∷ 0x00 ∷ 0x00 ∷ 0x00 ∷ 0x64 ∷ 0x00 ∷ 0x00 ∷ 0x00 ∷ 0x01 ∷ [])
    ∷ []

-- so many open forks of the first session, under the references from 1 on, and so many locks of reference 1, of single bytes at even places
abbrev pub many_forks : ℕ → List OpenFork
many_forks zero = []
many_forks (suc n) = many_forks n ++ held (n + 1) 1 0 ∷ []

abbrev pub many_locks : ℕ → List Lock
many_locks zero = []
many_locks (suc n) = many_locks n ++ (record { reference = 1; range = record { from = 2 * n; to = 2 * n } }) ∷ []

-- 256 forks are as many as a session opens; a reference that was closed is given again
abbrev pub OpensMost : Type 0
OpensMost =
    tells (some_world [] (many_forks 255) []) ((first, opens_as 0) ∷ (first, opens_as 0) ∷ (first, close_fork_row 3) ∷ (first, opens_as 0) ∷ [])
    ≡ (Ok, 0x01 ∷ 0x00 ∷ 0x01 ∷ 0x00 ∷ 0x00 ∷ 0x00 ∷ 0x00 ∷ 0x11 ∷ [])
    ∷ (TooManyFilesOpen, [])
    ∷ (Ok, [])
    ∷ (Ok, 0x01 ∷ 0x00 ∷ 0x00 ∷ 0x03 ∷ 0x00 ∷ 0x00 ∷ 0x00 ∷ 0x11 ∷ [])
    ∷ []

-- 1,024 locks are as many as a reference has; between them another may write
abbrev pub LocksMost : Type 0
LocksMost =
    tells (some_world [] (held 1 1 0x0003 ∷ held 2 2 0x0003 ∷ []) (many_locks 1023))
    ((first, byte_range_lock_row 0 1 (pos 2046) (pos 1))
    ∷ (first, byte_range_lock_row 0 1 (pos 2048) (pos 1))
    ∷ (second, write_row 0 2 (pos 1) 1 (0x78 ∷ []))
    ∷ [])
    ≡ (Ok, 0x00 ∷ 0x00 ∷ 0x07 ∷ 0xfe ∷ [])
    ∷ (NoMoreLocks, [])
    ∷ (Ok, 0x00 ∷ 0x00 ∷ 0x00 ∷ 0x02 ∷ [])
    ∷ []
