-- Closing forks and ending sessions keep a sound world sound.
use Rattle.std.proofs.Common.{◌≡◌, ℕ, ◌≤◌, Bool, true, ◌&&◌, List, length, arith, leb}
use Rattle.std.specs.Prelude.{count_by, ◌==◌, filter}
use Rattle.std.specs.List.{list_all, list_any}
use Rattle.std.proofs.lemmas.Bool.{and_parts, and_from, leb-true, le-leb}
use Rattle.afp_serial.proofs.SoundParts.{ApartSessions, sessions-parts, sessions-whole, LawfulOpens, opens-parts, opens-whole, LawfulLocks, locks-parts, locks-whole, caches-parts, caches-whole, KeptLimits, limits-parts, limits-whole, same_number, same_link, is_below, same_reference, do_clash, do_overlap, keeps_forks, keeps_locks, users-parts, users-whole}
use Rattle.afp_serial.specs.Limits.{most_sessions}
use Rattle.afp_base.specs.DenyMode.{is_one_fork}
use Rattle.afp_base.specs.Limits.{most_forks, most_locks}
use Rattle.afp_base.specs.Overlap.{do_meet}
use Rattle.afp_serial.specs.Users.{is_user_of}
use Rattle.afp_serial.specs.World.{has_session, is_open, volume_at, closing, ending, World, Session, OpenFork, Lock}
use Rattle.afp_serial.specs.Sound.{IsSound, share_fork, has_volume_open, is_file_of, is_lawful_open, is_lawful_cache, has_typed_fields, has_apart_sessions, has_lawful_locks, has_lawful_caches, has_known_users}
use Rattle.afp_base.proofs.ListFacts.{all-both, all-filter, all-kept, all-weaker, any-filter, any-left, any-weaker, apart-filter, apart-weaker, count-filter, length-filter-le}

-- a smaller number is within the limit too
pub within : (m n k : ℕ) → m ≤ n → leb n k ≡ true → leb m k ≡ true
within m n k smaller h = let e : n ≤ k = leb-true n k h in le-leb m k (omega arith)

-- forks

share-more : (opens : List OpenFork) (keep : OpenFork → Bool) (a b : ℕ) → share_fork (filter keep opens) a b ≡ true → share_fork opens a b ≡ true
share-more opens keep a b h =
    any-weaker
    (λ x. (x.reference == a) && list_any (λ y. (y.reference == b) && is_one_fork x.fork y.fork) (filter keep opens))
    (λ x. (x.reference == a) && list_any (λ y. (y.reference == b) && is_one_fork x.fork y.fork) opens)
    opens
    (λ x both.
    let e = and_parts (x.reference == a) (list_any (λ y. (y.reference == b) && is_one_fork x.fork y.fork) (filter keep opens)) both in
    and_from (x.reference == a) (list_any (λ y. (y.reference == b) && is_one_fork x.fork y.fork) opens) e.0
    (any-filter (λ y. (y.reference == b) && is_one_fork x.fork y.fork) keep opens e.1))
    (any-filter (λ x. (x.reference == a) && list_any (λ y. (y.reference == b) && is_one_fork x.fork y.fork) (filter keep opens)) keep opens h)

closed-opens : (w : World) (stays : OpenFork → Bool) → LawfulOpens w → LawfulOpens (closing w stays)
closed-opens w stays p = record {
  references = apart-filter same_reference stays w.opens p.references;
  stand = all-filter (is_lawful_open w) stays w.opens p.stand;
  clashes = apart-filter do_clash stays w.opens p.clashes;
}

closed-locks : (w : World) (stays : OpenFork → Bool) → LawfulLocks w → LawfulLocks (closing w stays)
closed-locks w stays p =
    let left : List OpenFork = filter stays w.opens in
    record {
      held = all-kept (λ lock. is_open left lock.reference) w.locks;
      overlaps = apart-weaker (do_overlap w.opens) (do_overlap left) (filter (λ lock. is_open left lock.reference) w.locks)
          (λ a b both.
          let e = and_parts (share_fork left a.reference b.reference) (do_meet a.range b.range) both in
          and_from (share_fork w.opens a.reference b.reference) (do_meet a.range b.range) (share-more w.opens stays a.reference b.reference e.0) e.1)
          (apart-filter (do_overlap w.opens) (λ lock. is_open left lock.reference) w.locks p.overlaps);
    }

closed-limits : (w : World) (stays : OpenFork → Bool) → KeptLimits w → KeptLimits (closing w stays)
closed-limits w stays p =
    let left : List OpenFork = filter stays w.opens in
    record {
      users = p.users;
      volumes = p.volumes;
      sessions = p.sessions;
      forks = all-weaker (keeps_forks w.opens) (keeps_forks left) w.sessions
          (λ s. within (count_by (λ o. o.session == s.number) left) (count_by (λ o. o.session == s.number) w.opens) most_forks (count-filter (λ (o : OpenFork). o.session == s.number) stays w.opens))
          p.forks;
      locks = all-weaker (keeps_locks w.locks) (keeps_locks (filter (λ lock. is_open left lock.reference) w.locks)) left
          (λ o. within (count_by (λ lock. lock.reference == o.reference) (filter (λ lock. is_open left lock.reference) w.locks)) (count_by (λ lock. lock.reference == o.reference) w.locks) most_locks (count-filter (λ (lock : Lock). lock.reference == o.reference) (λ lock. is_open left lock.reference) w.locks))
          (all-filter (keeps_locks w.locks) stays w.opens p.locks);
    }

pub closing-sound : (w : World) (stays : OpenFork → Bool) → IsSound w → IsSound (closing w stays)
unfolding has_apart_sessions has_known_users has_lawful_caches has_typed_fields
closing-sound w stays h = record {
  house = h.house;
  typed = h.typed;
  volumes = h.volumes;
  sessions = h.sessions;
  users = h.users;
  opens = opens-whole (closing w stays) (closed-opens w stays (opens-parts w h.opens));
  locks = locks-whole (closing w stays) (closed-locks w stays (locks-parts w h.locks));
  caches = h.caches;
  limits = limits-whole (closing w stays) (closed-limits w stays (limits-parts w h.limits));
}

-- sessions

-- the world with those sessions left that pass
abbrev pub leaving : World → (Session → Bool) → World
leaving w stays = record w { sessions = filter stays w.sessions }

pub fewer-apart : (w : World) (stays : Session → Bool) → ApartSessions w → ApartSessions (leaving w stays)
fewer-apart w stays p = record {
  numbers = apart-filter same_number stays w.sessions p.numbers;
  links = apart-filter same_link stays w.sessions p.links;
  below = all-filter (is_below w.next_link) stays w.sessions p.below;
}

fewer-opens : (w : World) (stays : Session → Bool) → ApartSessions w → LawfulOpens w → list_all (λ o. has_session (filter stays w.sessions) o.session) w.opens ≡ true → LawfulOpens (leaving w stays)
fewer-opens w stays a p left = record {
  references = p.references;
  stand = all-both (is_lawful_open w) (λ o. has_session (filter stays w.sessions) o.session) (is_lawful_open (leaving w stays)) w.opens
      (λ o stood here.
      let e = and_parts (has_volume_open w.sessions o.session o.fork.volume) (is_file_of (volume_at w.volumes o.fork.volume) o.fork.node) stood in
      and_from (has_volume_open (filter stays w.sessions) o.session o.fork.volume) (is_file_of (volume_at w.volumes o.fork.volume) o.fork.node)
      (any-left (λ (s : Session). s.number) o.session (λ s. list_any (λ v. v == o.fork.volume) s.volumes) stays w.sessions a.numbers e.0 here)
      e.1)
      p.stand left;
  clashes = p.clashes;
}

fewer-limits : (w : World) (stays : Session → Bool) → KeptLimits w → KeptLimits (leaving w stays)
fewer-limits w stays p = record {
  users = p.users;
  volumes = p.volumes;
  sessions = within (length (filter stays w.sessions)) (length w.sessions) most_sessions (length-filter-le stays w.sessions) p.sessions;
  forks = all-filter (keeps_forks w.opens) stays w.sessions p.forks;
  locks = p.locks;
}

pub fewer-sound : (w : World) (stays : Session → Bool) → IsSound w → list_all (λ o. has_session (filter stays w.sessions) o.session) w.opens ≡ true → IsSound (leaving w stays)
unfolding has_lawful_locks has_typed_fields
fewer-sound w stays h left =
    let apart : ApartSessions w = sessions-parts w h.sessions in
    record {
      house = h.house;
      typed = h.typed;
      volumes = h.volumes;
      sessions = sessions-whole (leaving w stays) (fewer-apart w stays apart);
      users = users-whole (leaving w stays) (all-filter (λ s. is_user_of w.house.users s.user) stays w.sessions (users-parts w h.users));
      opens = opens-whole (leaving w stays) (fewer-opens w stays apart (opens-parts w h.opens) left);
      locks = h.locks;
      caches = caches-whole (leaving w stays) (all-filter (λ s. is_lawful_cache s.cache) stays w.sessions (caches-parts w h.caches));
      limits = limits-whole (leaving w stays) (fewer-limits w stays (limits-parts w h.limits));
    }

-- both: sessions end with their forks and locks
pub ending-sound : (w : World) (stays : Session → Bool) → IsSound w → IsSound (ending w stays)
ending-sound w stays h =
    let lives : OpenFork → Bool = λ o. has_session (filter stays w.sessions) o.session in
    fewer-sound (closing w lives) stays (closing-sound w lives h) (all-kept lives w.opens)

-- neither forks nor locks count where only sessions are looked at
pub closing-apart : (w : World) (stays : OpenFork → Bool) → ApartSessions w → ApartSessions (closing w stays)
closing-apart w stays p = record { numbers = p.numbers; links = p.links; below = p.below }

pub ending-apart : (w : World) (stays : Session → Bool) → ApartSessions w → ApartSessions (ending w stays)
ending-apart w stays p =
    let lives : OpenFork → Bool = λ o. has_session (filter stays w.sessions) o.session in
    fewer-apart (closing w lives) stays (closing-apart w lives p)
