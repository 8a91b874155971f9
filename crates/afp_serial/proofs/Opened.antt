-- A new session keeps a sound world sound.
use Rattle.std.proofs.Common.{◌≡◌, ap, refl, ℕ, ◌+◌, ◌<◌, true, false, not, ◌&&◌, eqb, [], ◌∷◌, ◌++◌, length, arith, length-append}
use Rattle.std.specs.Prelude.{count_by, ◌==◌, nat_le, nat_lt}
use Rattle.std.proofs.lemmas.Bool.{and_parts, and_from, or_parts, ltb-true, lt-ltb, leb-false, le-leb, eqb-true, ne_eqb}
use Rattle.afp_base.specs.Limits.{most_forks}
use Rattle.afp_serial.proofs.SoundParts.{ApartSessions, sessions-parts, sessions-whole, LawfulOpens, opens-parts, opens-whole, caches-parts, caches-whole, KeptLimits, limits-parts, limits-whole, same_number, same_link, is_below, keeps_forks, users-parts, users-whole}
use Rattle.afp_serial.specs.declared.attachment.Attachment.{Attachment}
use Rattle.afp_serial.specs.declared.attachment.Attachment.TheVariants.{Attached, Detached}
use Rattle.afp_serial.specs.Answer.{is_full, link_number, new_session, with_new_session}
use Rattle.afp_serial.specs.Limits.{most_sessions, links_end}
use Rattle.afp_serial.specs.Users.{is_user_of}
use Rattle.afp_serial.specs.World.{has_opened, volume_at, World, Session, OpenFork}
use Rattle.afp_serial.specs.Sound.{IsSound, share_link, is_link_below, has_volume_open, is_file_of, is_lawful_open, is_lawful_cache, has_lawful_locks, has_typed_fields}
use Rattle.afp_base.proofs.ListFacts.{all-snoc, all-weaker, any-at, any-longer, apart-snoc, count-none}

differs : (m n : ℕ) → m < n → not (eqb m n) ≡ true
differs m n less = ap not (ne_eqb m n (λ same. omega arith))

-- below a number, and below the next one

link-new : (next : ℕ) (place : Attachment) → is_link_below next place ≡ true → not (share_link place (Attached (link_number next))) ≡ true
link-new next (Attached link) below = differs link.0 next (ltb-true link.0 next below)
link-new next (Detached moment) below = refl

link-still : (next : ℕ) (place : Attachment) → is_link_below next place ≡ true → is_link_below (next + 1) place ≡ true
link-still next (Attached link) below = let e : link.0 < next = ltb-true link.0 next below in lt-ltb link.0 (next + 1) (omega arith)
link-still next (Detached moment) below = refl

number-below : (next : ℕ) (s : Session) → is_below next s ≡ true → s.number < next
number-below next s below = ltb-true s.number next (and_parts (nat_lt s.number next) (is_link_below next s.place) below).0

link-below : (next : ℕ) (s : Session) → is_below next s ≡ true → is_link_below next s.place ≡ true
link-below next s below = (and_parts (nat_lt s.number next) (is_link_below next s.place) below).1

still-below : (next : ℕ) (s : Session) → is_below next s ≡ true → is_below (next + 1) s ≡ true
still-below next s below =
    let e : s.number < next = number-below next s below in
    and_from (nat_lt s.number (next + 1)) (is_link_below (next + 1) s.place) (lt-ltb s.number (next + 1) (omega arith)) (link-still next s.place (link-below next s below))

pub opened-apart : (w : World) → ApartSessions w → ApartSessions (with_new_session w)
opened-apart w p =
    let next : ℕ = w.next_link in
    let new : Session = new_session next in
    let last : nat_lt next (next + 1) ≡ true = lt-ltb next (next + 1) (omega arith) in
    record {
      numbers = apart-snoc same_number w.sessions new p.numbers
          (all-weaker (is_below next) (λ s. not (same_number s new)) w.sessions (λ s below. differs s.number next (number-below next s below)) p.below);
      links = apart-snoc same_link w.sessions new p.links
          (all-weaker (is_below next) (λ s. not (same_link s new)) w.sessions (λ s below. link-new next s.place (link-below next s below)) p.below);
      below = all-snoc (is_below (next + 1)) w.sessions new
          (all-weaker (is_below next) (is_below (next + 1)) w.sessions (still-below next) p.below)
          (and_from (nat_lt next (next + 1)) (is_link_below (next + 1) new.place) last last);
    }

opened-opens : (w : World) → LawfulOpens w → LawfulOpens (with_new_session w)
opened-opens w p = record {
  references = p.references;
  stand = all-weaker (is_lawful_open w) (is_lawful_open (with_new_session w)) w.opens
      (λ o stood.
      let e = and_parts (has_volume_open w.sessions o.session o.fork.volume) (is_file_of (volume_at w.volumes o.fork.volume) o.fork.node) stood in
      and_from (has_volume_open (with_new_session w).sessions o.session o.fork.volume) (is_file_of (volume_at w.volumes o.fork.volume) o.fork.node)
      (any-longer (λ s. (s.number == o.session) && has_opened s o.fork.volume) w.sessions (new_session w.next_link ∷ []) e.0) e.1)
      p.stand;
  clashes = p.clashes;
}

-- no fork is open in a session that is not there yet
none-of-new : (w : World) → ApartSessions w → LawfulOpens w → count_by (λ o. o.session == w.next_link) w.opens ≡ 0
none-of-new w a p =
    count-none (λ (o : OpenFork). o.session == w.next_link) w.opens
    (all-weaker (is_lawful_open w) (λ o. not (o.session == w.next_link)) w.opens
    (λ o stood. any-at (λ s. (s.number == o.session) && has_opened s o.fork.volume) (is_below w.next_link) w.sessions
    (and_parts (has_volume_open w.sessions o.session o.fork.volume) (is_file_of (volume_at w.volumes o.fork.volume) o.fork.node) stood).0 a.below
    (λ s has below.
    let same : s.number ≡ o.session = eqb-true s.number o.session (and_parts (s.number == o.session) (has_opened s o.fork.volume) has).0 in
    let less : s.number < w.next_link = number-below w.next_link s below in
    differs o.session w.next_link (omega arith)))
    p.stand)

opened-limits : (w : World) → is_full w ≡ false → ApartSessions w → LawfulOpens w → KeptLimits w → KeptLimits (with_new_session w)
opened-limits w room a o p =
    let few : length w.sessions < most_sessions = leb-false most_sessions (length w.sessions) (or_parts (nat_le most_sessions (length w.sessions)) (nat_le links_end w.next_link) room).0 in
    let one_more : length (w.sessions ++ new_session w.next_link ∷ []) ≡ length w.sessions + 1 = length-append w.sessions (new_session w.next_link ∷ []) in
    let none : count_by (λ (o : OpenFork). o.session == w.next_link) w.opens ≡ 0 = none-of-new w a o in
    record {
      users = p.users;
      volumes = p.volumes;
      sessions = le-leb (length (w.sessions ++ new_session w.next_link ∷ [])) most_sessions (omega arith);
      forks = all-snoc (keeps_forks w.opens) w.sessions (new_session w.next_link) p.forks
          (ap (λ (n : ℕ). nat_le n most_forks) none);
      locks = p.locks;
    }

pub opened-sound : (w : World) → is_full w ≡ false → IsSound w → IsSound (with_new_session w)
unfolding has_lawful_locks has_typed_fields
opened-sound w room h =
    let apart : ApartSessions w = sessions-parts w h.sessions in
    let opens : LawfulOpens w = opens-parts w h.opens in
    record {
      house = h.house;
      typed = h.typed;
      volumes = h.volumes;
      sessions = sessions-whole (with_new_session w) (opened-apart w apart);
      users = users-whole (with_new_session w) (all-snoc (λ s. is_user_of w.house.users s.user) w.sessions (new_session w.next_link) (users-parts w h.users) refl);
      opens = opens-whole (with_new_session w) (opened-opens w opens);
      locks = h.locks;
      caches = caches-whole (with_new_session w) (all-snoc (λ s. is_lawful_cache s.cache) w.sessions (new_session w.next_link) (caches-parts w h.caches) refl);
      limits = limits-whole (with_new_session w) (opened-limits w room apart opens (limits-parts w h.limits));
    }
