-- What holds of the world at each place of a history (this profile).
use Rattle.std.specs.Prelude.{◌≡◌, ℕ, ◌==◌, nat_le, nat_lt, Bool, true, false, ◌&&◌, List, length, map, count_by, All, Option, Some, None, is_none, bytes_eq}
use Rattle.std.specs.Cmp.Lexicographic.{pointwise}
use Rattle.std.specs.List.{list_all, list_any}
use Rattle.afp_base.specs.Limits.{most_forks, most_locks, payload_limit, replay_cache_size}
use Rattle.afp_base.specs.Cached.{Kept, is_repeat}
use Rattle.afp_base.specs.DenyMode.{is_one_fork, do_conflict}
use Rattle.afp_base.specs.Overlap.{do_meet}
use Rattle.volume_spec.specs.VolumeState.{VolumeState}
use Rattle.afp_base.specs.Apart.{are_apart}
use Rattle.volume_spec.specs.SoundVolume.{IsSoundVolume, has_file}
use Rattle.afp_serial.specs.declared.attachment.Attachment.{Attachment}
use Rattle.afp_serial.specs.declared.attachment.Attachment.TheVariants.{Attached, Detached}
use Rattle.afp_serial.specs.KeptAnswers.{is_kept}
use Rattle.afp_serial.specs.Limits.{most_users, most_volumes, most_sessions}
use Rattle.afp_serial.specs.HouseFault.{house_fault}
use Rattle.afp_serial.specs.Household.{Household}
use Rattle.afp_serial.specs.Ranges.{is_moment, is_moment_or_none, is_typed_house}
use Rattle.volume_spec.specs.TypedVolume.{is_typed_volume}
use Rattle.afp_serial.specs.Users.{is_user_of}
use Rattle.afp_serial.specs.World.{has_opened, is_open, volume_at, World, Session, OpenFork}

-- both are attached to one link
abbrev pub share_link : Attachment → Attachment → Bool
share_link (Attached a) (Attached b) = a.0 == b.0
share_link (Attached a) (Detached m) = false
share_link (Detached m) b = false

abbrev pub is_link_below : ℕ → Attachment → Bool
is_link_below next (Attached link) = nat_lt link.0 next
is_link_below next (Detached moment) = true

-- Numbers differ, links differ, and all are below the next link number.
unfoldable pub has_apart_sessions : World → Bool
has_apart_sessions w =
    are_apart (λ a b. a.number == b.number) w.sessions
    && (are_apart (λ a b. share_link a.place b.place) w.sessions
    && list_all (λ s. nat_lt s.number w.next_link && is_link_below w.next_link s.place) w.sessions)

-- a session of that number has that volume open
abbrev pub has_volume_open : List Session → ℕ → ℕ → Bool
has_volume_open sessions number volume = list_any (λ s. (s.number == number) && has_opened s volume) sessions

abbrev pub is_file_of : Option VolumeState → ℕ → Bool
is_file_of None node = false
is_file_of (Some v) node = has_file v.rows node

-- the fork's session has its volume open, and its node is a file
abbrev pub is_lawful_open : World → OpenFork → Bool
is_lawful_open w o = has_volume_open w.sessions o.session o.fork.volume && is_file_of (volume_at w.volumes o.fork.volume) o.fork.node

-- Each open fork has a reference of its own, a session that has its volume open, and a file; and no two conflict.
unfoldable pub has_lawful_opens : World → Bool
has_lawful_opens w =
    are_apart (λ a b. a.reference == b.reference) w.opens
    && (list_all (is_lawful_open w) w.opens
    && are_apart (λ a b. do_conflict a.fork a.access b.fork b.access) w.opens)

-- both references are open on one fork
abbrev pub share_fork : List OpenFork → ℕ → ℕ → Bool
share_fork opens a b = list_any (λ x. (x.reference == a) && list_any (λ y. (y.reference == b) && is_one_fork x.fork y.fork) opens) opens

-- Each lock's reference is open, and no two locks on one fork share a byte.
unfoldable pub has_lawful_locks : World → Bool
has_lawful_locks w =
    list_all (λ lock. is_open w.opens lock.reference) w.locks
    && are_apart (λ a b. share_fork w.opens a.reference b.reference && do_meet a.range b.range) w.locks

-- Each session is nobody's yet, the one's without a name, or that of a user of the house.
unfoldable pub has_known_users : World → Bool
has_known_users w = list_all (λ s. is_user_of w.house.users s.user) w.sessions

-- at most as many answers as the replay cache holds, of requests that differ, each one that is kept, and short enough for a frame
abbrev pub is_lawful_cache : List Kept → Bool
is_lawful_cache cache =
    nat_le (length cache) replay_cache_size
    && (are_apart (λ a b. is_repeat a.request b.request) cache
    && (list_all (λ kept. nat_le (length kept.answer.block) payload_limit) cache
    && list_all (λ kept. is_kept kept.request kept.answer.code) cache))

unfoldable pub has_lawful_caches : World → Bool
has_lawful_caches w = list_all (λ s. is_lawful_cache s.cache) w.sessions

-- The limits of users, volumes, sessions, forks of a session, and locks of a reference are kept.
unfoldable pub keeps_all_limits : World → Bool
keeps_all_limits w =
    nat_le (length w.house.users) most_users
    && (nat_le (length w.volumes) most_volumes
    && (nat_le (length w.sessions) most_sessions
    && (list_all (λ s. nat_le (count_by (λ o. o.session == s.number) w.opens) most_forks) w.sessions
    && list_all (λ o. nat_le (count_by (λ lock. lock.reference == o.reference) w.locks) most_locks) w.opens)))

-- Moments and the house are in their ranges.
unfoldable pub has_typed_fields : World → Bool
has_typed_fields w = is_moment w.latest && (is_moment_or_none w.drain && is_typed_house w.house)

-- The volumes are those of the house, in its order; each is sound, and its fields are in their ranges.
pub record ServesVolumes (house : Household) (volumes : List VolumeState) : Type 0 where
  pub served : pointwise bytes_eq (map (λ v. v.name) volumes) house.volumes ≡ true
  pub each : All IsSoundVolume volumes
  pub typed : list_all is_typed_volume volumes ≡ true

-- What holds of a world at each place of a history.
pub record IsSound (w : World) : Type 0 where
  pub house : is_none (house_fault w.house) ≡ true
  pub typed : has_typed_fields w ≡ true
  pub volumes : ServesVolumes w.house w.volumes
  pub sessions : has_apart_sessions w ≡ true
  pub users : has_known_users w ≡ true
  pub opens : has_lawful_opens w ≡ true
  pub locks : has_lawful_locks w ≡ true
  pub caches : has_lawful_caches w ≡ true
  pub limits : keeps_all_limits w ≡ true
