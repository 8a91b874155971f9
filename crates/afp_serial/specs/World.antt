-- The world of the serial file server: one record of lists (this profile, after the AFP Reference's sessions, volumes, forks and desktop database).
use Rattle.std.specs.Prelude.{ℕ, max, List, [], map, Option, None, zero, suc, ◌+◌, nat_le, ◌==◌, Bool, false, not, if◌then◌else◌, filter, find, slice_get, true, ◌∷◌, Some, unwrap_or}
use Rattle.afp_base.specs.Cached.{Kept}
use Rattle.afp_base.specs.DenyMode.{Access, Fork}
use Rattle.afp_base.specs.Overlap.{Range}
use Rattle.volume_spec.specs.VolumeState.{VolumeState, fresh_volume, guest}
use Rattle.afp_serial.specs.declared.attachment.Attachment.{Attachment}
use Rattle.afp_serial.specs.Household.{Household}
use Rattle.afp_serial.specs.Limits.{detached_time}
use Rattle.std.specs.List.{list_any}
use Rattle.afp_serial.specs.declared.attachment.Attachment.TheVariants.{Attached, Detached}
use Rattle.afp_base.specs.declared.code.Code.{Code}
use Rattle.afp_base.specs.declared.code.Code.TheVariants.{ParamErr}
use Rattle.afp_replies.specs.declared.reply.Reply.{Reply}
use Rattle.afp_replies.specs.declared.reply.Reply.TheVariants.{Empty}

-- A session: its number, the link that it has or the moment at which it lost it, the id of the user that logged in, the
-- ids of the volumes that it has open, and the answers that are kept for it, the oldest first.
pub record Session : Type 0 where
  pub number : ℕ
  pub place : Attachment
  pub user : Option ℕ
  pub volumes : List ℕ
  pub cache : List Kept

-- An open fork: its reference, the session that opened it, the fork, and its access mode.
pub record OpenFork : Type 0 where
  pub reference : ℕ
  pub session : ℕ
  pub fork : Fork
  pub access : Access

-- A byte-range lock: the reference that holds it, and its bytes.
pub record Lock : Type 0 where
  pub reference : ℕ
  pub range : Range

-- The world: what the server is set up with, the latest moment, the moment since when it is about to stop, the next link
-- number, the sessions in the order in which they were opened, the open forks, the locks, and the volumes in house order.
pub record World : Type 0 where
  pub house : Household
  pub latest : ℕ
  pub drain : Option ℕ
  pub next_link : ℕ
  pub sessions : List Session
  pub opens : List OpenFork
  pub locks : List Lock
  pub volumes : List VolumeState

-- the world at the start: of a house with the volumes that were loaded, which nobody has asked yet
abbrev pub start_world : Household → ℕ → List VolumeState → World
start_world house now volumes = record {
  house = house;
  latest = now;
  drain = None;
  next_link = 1;
  sessions = [];
  opens = [];
  locks = [];
  volumes = volumes;
}

-- the volumes of a house that nobody has used, made at a moment
abbrev pub fresh_volumes : Household → ℕ → List VolumeState
fresh_volumes house now = map (λ name. fresh_volume name now) house.volumes

-- the world at the start, over such volumes
abbrev pub fresh_world : Household → ℕ → World
fresh_world house now = start_world house now (fresh_volumes house now)

-- the world at a moment, which counts as the later of this one and the world's
abbrev pub at_moment : World → ℕ → World
at_moment w now = record w { latest = max w.latest now }

-- Finding, changing and ending sessions (this profile).

abbrev pub is_on_link : ℕ → Attachment → Bool
is_on_link link (Attached l) = l.0 == link
is_on_link link (Detached moment) = false

-- a session that lost its link 600 seconds ago or before
abbrev pub is_expired : ℕ → Attachment → Bool
is_expired now (Attached link) = false
is_expired now (Detached moment) = nat_le (moment + detached_time) now

-- the session that has the link
abbrev pub session_at : World → ℕ → Option Session
session_at w link = find (λ s. is_on_link link s.place) w.sessions

-- the user for whom a session calls, by its id; where nobody logged in its calls are refused before
abbrev pub user_of : Session → ℕ
user_of s = unwrap_or s.user guest

-- the session has that volume open
abbrev pub has_opened : Session → ℕ → Bool
has_opened s volume = list_any (λ v. v == volume) s.volumes

-- the volume of an id: ids count from 1, in house order
abbrev pub volume_at : List VolumeState → ℕ → Option VolumeState
volume_at volumes zero = None
volume_at volumes (suc index) = slice_get volumes index

abbrev pub has_session : List Session → ℕ → Bool
has_session sessions number = list_any (λ s. s.number == number) sessions

-- the world with this session in place of the one of its number
abbrev pub with_session : World → Session → World
with_session w session = record w { sessions = map (λ s. if s.number == session.number then session else s) w.sessions }

abbrev pub is_open : List OpenFork → ℕ → Bool
is_open opens reference = list_any (λ o. o.reference == reference) opens

-- the world with those open forks left that pass, and the locks of their references
abbrev pub closing : World → (OpenFork → Bool) → World
closing w stays = let left : List OpenFork = filter stays w.opens in
    record w { opens = left; locks = filter (λ lock. is_open left lock.reference) w.locks }

-- the world with those sessions left that pass, and their open forks and locks
abbrev pub ending : World → (Session → Bool) → World
ending w stays = let left : List Session = filter stays w.sessions in
    closing (record w { sessions = left }) (λ o. has_session left o.session)

-- the world without the session of that number
abbrev pub without_session : World → ℕ → World
without_session w number = ending w (λ s. not (s.number == number))

-- What the row of a call is (this profile).

-- what a call is told that is refused
pub record Refused : Type 0 where
  pub code : Code
  pub reply : Reply

-- a refusal that tells no more than its code
abbrev pub plain : Code → Refused
plain code = record { code = code; reply = Empty }

-- a condition with what is told where it is the first that holds
abbrev pub Refusal : Type 0
Refusal = Bool × Refused

-- a code as a refusal that tells no more, and what is refused behind it
abbrev pub refused_before : Option Code → List Refusal → List Refusal
refused_before None rest = rest
refused_before (Some code) rest = (true, plain code) ∷ rest

-- the session has not opened that volume
abbrev pub vol : Session → ℕ → Refusal
vol s volume = (not (has_opened s volume), plain ParamErr)

-- What a call that is not refused does: the next world, and the reply.
pub record Effect : Type 0 where
  pub world : World
  pub reply : Reply

-- with an empty reply
abbrev pub with_empty_reply : World → Effect
with_empty_reply w = record { world = w; reply = Empty }

-- The row of a call: the conditions under which it is refused, in order; what it does else; and the index of the volume whose
-- keeper it commits to or settles, so that it may meet a fault, or none.
pub record CallRow : Type 0 where
  pub refusals : World → Session → List Refusal
  pub effect : World → Session → Effect
  pub committed : World → Session → Option ℕ

-- it commits and settles nothing
abbrev pub commits_nothing : World → Session → Option ℕ
commits_nothing w s = None

-- a row that changes nothing: why it is refused, and what it tells else
abbrev pub only_tells : (World → Session → List Refusal) → (World → Session → Reply) → CallRow
only_tells refusals reply = record { refusals = refusals; effect = λ w s. record { world = w; reply = reply w s }; committed = commits_nothing }
