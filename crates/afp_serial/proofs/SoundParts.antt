-- What holds of a sound world, part by part under its name.
use Rattle.std.proofs.Common.{◌≡◌, ℕ, Bool, true, ◌&&◌, List, length}
use Rattle.std.specs.Prelude.{count_by, ◌==◌, nat_le, nat_lt}
use Rattle.std.specs.List.{list_all}
use Rattle.std.proofs.lemmas.Bool.{and_parts, and_from}
use Rattle.afp_base.specs.DenyMode.{do_conflict}
use Rattle.afp_base.specs.Overlap.{do_meet}
use Rattle.afp_base.specs.Apart.{are_apart}
use Rattle.afp_base.specs.Limits.{most_forks, most_locks}
use Rattle.afp_serial.specs.Limits.{most_users, most_volumes, most_sessions}
use Rattle.afp_serial.specs.Ranges.{is_moment, is_moment_or_none, is_typed_house}
use Rattle.afp_serial.specs.World.{is_open, World, Session, OpenFork, Lock}
use Rattle.afp_serial.specs.Sound.{share_link, is_link_below, has_apart_sessions, is_lawful_open, has_lawful_opens, share_fork, has_lawful_locks, is_lawful_cache, has_known_users, has_lawful_caches, has_typed_fields, keeps_all_limits}
use Rattle.afp_serial.specs.Users.{is_user_of}

-- the tests of the elements, each under a name

abbrev pub same_number : Session → Session → Bool
same_number a b = a.number == b.number

abbrev pub same_link : Session → Session → Bool
same_link a b = share_link a.place b.place

abbrev pub is_below : ℕ → Session → Bool
is_below next s = nat_lt s.number next && is_link_below next s.place

abbrev pub same_reference : OpenFork → OpenFork → Bool
same_reference a b = a.reference == b.reference

abbrev pub do_clash : OpenFork → OpenFork → Bool
do_clash a b = do_conflict a.fork a.access b.fork b.access

abbrev pub do_overlap : List OpenFork → Lock → Lock → Bool
do_overlap opens a b = share_fork opens a.reference b.reference && do_meet a.range b.range

abbrev pub keeps_forks : List OpenFork → Session → Bool
keeps_forks opens s = nat_le (count_by (λ o. o.session == s.number) opens) most_forks

abbrev pub keeps_locks : List Lock → OpenFork → Bool
keeps_locks locks o = nat_le (count_by (λ lock. lock.reference == o.reference) locks) most_locks

-- the parts, and the whole from them

pub record ApartSessions (w : World) : Type 0 where
  pub numbers : are_apart same_number w.sessions ≡ true
  pub links : are_apart same_link w.sessions ≡ true
  pub below : list_all (is_below w.next_link) w.sessions ≡ true

pub sessions-parts : (w : World) → has_apart_sessions w ≡ true → ApartSessions w
unfolding has_apart_sessions
sessions-parts w h =
    let e = and_parts (are_apart same_number w.sessions) (are_apart same_link w.sessions && list_all (is_below w.next_link) w.sessions) h in
    let f = and_parts (are_apart same_link w.sessions) (list_all (is_below w.next_link) w.sessions) e.1 in
    record { numbers = e.0; links = f.0; below = f.1 }

pub sessions-whole : (w : World) → ApartSessions w → has_apart_sessions w ≡ true
unfolding has_apart_sessions
sessions-whole w p =
    and_from (are_apart same_number w.sessions) (are_apart same_link w.sessions && list_all (is_below w.next_link) w.sessions) p.numbers
    (and_from (are_apart same_link w.sessions) (list_all (is_below w.next_link) w.sessions) p.links p.below)

pub record LawfulOpens (w : World) : Type 0 where
  pub references : are_apart same_reference w.opens ≡ true
  pub stand : list_all (is_lawful_open w) w.opens ≡ true
  pub clashes : are_apart do_clash w.opens ≡ true

pub opens-parts : (w : World) → has_lawful_opens w ≡ true → LawfulOpens w
unfolding has_lawful_opens
opens-parts w h =
    let e = and_parts (are_apart same_reference w.opens) (list_all (is_lawful_open w) w.opens && are_apart do_clash w.opens) h in
    let f = and_parts (list_all (is_lawful_open w) w.opens) (are_apart do_clash w.opens) e.1 in
    record { references = e.0; stand = f.0; clashes = f.1 }

pub opens-whole : (w : World) → LawfulOpens w → has_lawful_opens w ≡ true
unfolding has_lawful_opens
opens-whole w p =
    and_from (are_apart same_reference w.opens) (list_all (is_lawful_open w) w.opens && are_apart do_clash w.opens) p.references
    (and_from (list_all (is_lawful_open w) w.opens) (are_apart do_clash w.opens) p.stand p.clashes)

pub record LawfulLocks (w : World) : Type 0 where
  pub held : list_all (λ lock. is_open w.opens lock.reference) w.locks ≡ true
  pub overlaps : are_apart (do_overlap w.opens) w.locks ≡ true

pub locks-parts : (w : World) → has_lawful_locks w ≡ true → LawfulLocks w
unfolding has_lawful_locks
locks-parts w h =
    let e = and_parts (list_all (λ lock. is_open w.opens lock.reference) w.locks) (are_apart (do_overlap w.opens) w.locks) h in
    record { held = e.0; overlaps = e.1 }

pub locks-whole : (w : World) → LawfulLocks w → has_lawful_locks w ≡ true
unfolding has_lawful_locks
locks-whole w p = and_from (list_all (λ lock. is_open w.opens lock.reference) w.locks) (are_apart (do_overlap w.opens) w.locks) p.held p.overlaps

pub users-parts : (w : World) → has_known_users w ≡ true → list_all (λ s. is_user_of w.house.users s.user) w.sessions ≡ true
unfolding has_known_users
users-parts w h = h

pub users-whole : (w : World) → list_all (λ s. is_user_of w.house.users s.user) w.sessions ≡ true → has_known_users w ≡ true
unfolding has_known_users
users-whole w h = h

pub caches-parts : (w : World) → has_lawful_caches w ≡ true → list_all (λ s. is_lawful_cache s.cache) w.sessions ≡ true
unfolding has_lawful_caches
caches-parts w h = h

pub caches-whole : (w : World) → list_all (λ s. is_lawful_cache s.cache) w.sessions ≡ true → has_lawful_caches w ≡ true
unfolding has_lawful_caches
caches-whole w h = h

pub record KeptLimits (w : World) : Type 0 where
  pub users : nat_le (length w.house.users) most_users ≡ true
  pub volumes : nat_le (length w.volumes) most_volumes ≡ true
  pub sessions : nat_le (length w.sessions) most_sessions ≡ true
  pub forks : list_all (keeps_forks w.opens) w.sessions ≡ true
  pub locks : list_all (keeps_locks w.locks) w.opens ≡ true

five-parts : (a b c d e : Bool) → (a && (b && (c && (d && e)))) ≡ true → (a ≡ true) × (b ≡ true) × (c ≡ true) × (d ≡ true) × (e ≡ true)
five-parts a b c d e h =
    let p = and_parts a (b && (c && (d && e))) h in
    let q = and_parts b (c && (d && e)) p.1 in
    let r = and_parts c (d && e) q.1 in
    let s = and_parts d e r.1 in
    (p.0, q.0, r.0, s.0, s.1)

five-whole : (a b c d e : Bool) → a ≡ true → b ≡ true → c ≡ true → d ≡ true → e ≡ true → (a && (b && (c && (d && e)))) ≡ true
five-whole a b c d e p q r s t = and_from a (b && (c && (d && e))) p (and_from b (c && (d && e)) q (and_from c (d && e) r (and_from d e s t)))

pub limits-parts : (w : World) → keeps_all_limits w ≡ true → KeptLimits w
unfolding keeps_all_limits
limits-parts w h =
    let p = five-parts (nat_le (length w.house.users) most_users) (nat_le (length w.volumes) most_volumes) (nat_le (length w.sessions) most_sessions) (list_all (keeps_forks w.opens) w.sessions) (list_all (keeps_locks w.locks) w.opens) h in
    record { users = p.0; volumes = p.1; sessions = p.2; forks = p.3; locks = p.4 }

pub limits-whole : (w : World) → KeptLimits w → keeps_all_limits w ≡ true
unfolding keeps_all_limits
limits-whole w p =
    five-whole (nat_le (length w.house.users) most_users) (nat_le (length w.volumes) most_volumes) (nat_le (length w.sessions) most_sessions) (list_all (keeps_forks w.opens) w.sessions) (list_all (keeps_locks w.locks) w.opens) p.users p.volumes p.sessions p.forks p.locks

-- the ranges of moments and of the house
pub record TypedFields (w : World) : Type 0 where
  pub latest : is_moment w.latest ≡ true
  pub drain : is_moment_or_none w.drain ≡ true
  pub house : is_typed_house w.house ≡ true

pub fields-parts : (w : World) → has_typed_fields w ≡ true → TypedFields w
unfolding has_typed_fields
fields-parts w h =
    let p = and_parts (is_moment w.latest) (is_moment_or_none w.drain && is_typed_house w.house) h in
    let q = and_parts (is_moment_or_none w.drain) (is_typed_house w.house) p.1 in
    record { latest = p.0; drain = q.0; house = q.1 }

pub fields-whole : (w : World) → TypedFields w → has_typed_fields w ≡ true
unfolding has_typed_fields
fields-whole w p = and_from (is_moment w.latest) (is_moment_or_none w.drain && is_typed_house w.house) p.latest (and_from (is_moment_or_none w.drain) (is_typed_house w.house) p.drain p.house)
