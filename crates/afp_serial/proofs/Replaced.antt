-- Another user, other volumes or another cache of a session keep a sound world sound.
use Rattle.std.proofs.Common.{◌≡◌, ◌∙◌, ap, sym, refl, ℕ, Bool, true, false, ◌&&◌, cond, eqb, map, Some}
use Rattle.std.specs.Prelude.{count_by, ◌==◌, nat_le, nat_lt, find}
use Rattle.std.specs.List.{list_all, list_any}
use Rattle.std.proofs.lemmas.Bool.{and_parts, and_from, cond_both, eqb-true}
use Rattle.afp_serial.proofs.SoundParts.{ApartSessions, sessions-parts, sessions-whole, LawfulOpens, opens-parts, opens-whole, caches-parts, caches-whole, KeptLimits, limits-parts, limits-whole, same_number, same_link, is_below, keeps_forks, users-parts, users-whole}
use Rattle.afp_serial.specs.Limits.{most_sessions}
use Rattle.afp_serial.specs.Users.{is_user_of}
use Rattle.afp_serial.specs.World.{has_opened, has_session, volume_at, with_session, World, Session, OpenFork}
use Rattle.afp_serial.specs.Sound.{IsSound, share_link, is_link_below, has_volume_open, is_file_of, is_lawful_open, is_lawful_cache, has_lawful_locks, has_typed_fields}
use Rattle.afp_base.specs.Apart.{are_apart}
use Rattle.afp_base.specs.Limits.{most_forks}
use Rattle.afp_base.proofs.ListFacts.{all-both, all-put, any-map, any-weaker, apart-map, apart-weaker, find-all, length-mapped, put-found, put_by}

abbrev pub number_of : Session → ℕ
number_of s = s.number

abbrev pub put : Session → Session → Session
put t x = put_by number_of t x

-- the session t has the number of the session s, which was found in the world
pub record HasNumber (w : World) (s t : Session) : Type 0 where
  pub test : Session → Bool
  pub found : find test w.sessions ≡ Some s
  pub number : t.number ≡ s.number

-- the session t may stand in place of that session
pub record TakesPlace (w : World) (s t : Session) : Type 0 where
  pub test : Session → Bool
  pub found : find test w.sessions ≡ Some s
  pub number : t.number ≡ s.number
  pub place : t.place ≡ s.place

abbrev pub numbered : {w : World} {s t : Session} → TakesPlace w s t → HasNumber w s t
numbered takes = record { test = takes.test; found = takes.found; number = takes.number }

pub put-number : (t x : Session) → (put t x).number ≡ x.number
put-number t x = cond_both (eqb x.number t.number) t x (λ y. y.number ≡ x.number) (λ same. sym (eqb-true x.number t.number same)) (λ other. refl)

-- of two elements in place of one, what they share stays
pub put-like : {B : Type 0} (f : Session → B) (s t x : Session) → t.number ≡ s.number → f t ≡ f s → f (put t x) ≡ f (put s x)
put-like f s t x number like = ap (λ (n : ℕ). f (cond (eqb x.number n) t x)) number ∙ chosen (eqb x.number s.number)
  where
    chosen : (b : Bool) → f (cond b t x) ≡ f (cond b s x)
    chosen true = like
    chosen false = refl

-- no session is new
pub replaced-old : (w : World) (t : Session) (n : ℕ) → has_session (with_session w t).sessions n ≡ true → has_session w.sessions n ≡ true
replaced-old w t n h =
    any-weaker (λ x. (put t x).number == n) (λ x. x.number == n) w.sessions
    (λ x is. ap (λ (m : ℕ). m == n) (sym (put-number t x)) ∙ is)
    (sym (any-map (λ (x : Session). x.number == n) (put t) w.sessions) ∙ h)

pub put-same : (w : World) (s t : Session) → ApartSessions w → HasNumber w s t → map (put s) w.sessions ≡ w.sessions
put-same w s t apart takes = put-found number_of takes.test w.sessions s apart.numbers takes.found

pub replaced-apart : (w : World) (s t : Session) → ApartSessions w → TakesPlace w s t → ApartSessions (with_session w t)
replaced-apart w s t apart takes = record {
  numbers = apart-map same_number (put t) w.sessions
      ∙ apart-weaker same_number (λ a b. same_number (put t a) (put t b)) w.sessions
      (λ a b same. (λ i. eqb (sym (put-number t a) i) (sym (put-number t b) i)) ∙ same)
      apart.numbers;
  links = apart-map same_link (put t) w.sessions
      ∙ apart-weaker (λ a b. same_link (put s a) (put s b)) (λ a b. same_link (put t a) (put t b)) w.sessions
      (λ a b same. (λ i. share_link (sym (like a) i) (sym (like b) i)) ∙ same)
      (sym (apart-map same_link (put s) w.sessions) ∙ ap (are_apart same_link) (put-same w s t apart (numbered takes)) ∙ apart.links);
  below = all-put number_of (is_below w.next_link) t w.sessions apart.below
      ((λ i. nat_lt (takes.number i) w.next_link && is_link_below w.next_link (takes.place i)) ∙ find-all takes.test (is_below w.next_link) w.sessions s takes.found apart.below);
}
  where
    like : (x : Session) → (put t x).place ≡ (put s x).place
    like x = put-like (λ (y : Session). y.place) s t x takes.number takes.place

-- a volume that is open stays so, where it stays in the session that is another
pub volume-kept : (w : World) (s t : Session) (n v : ℕ) → ApartSessions w → HasNumber w s t
    → (((s.number == n) && has_opened s v) ≡ true → ((t.number == n) && has_opened t v) ≡ true)
    → has_volume_open w.sessions n v ≡ true → has_volume_open (with_session w t).sessions n v ≡ true
volume-kept w s t n v apart takes keeps h =
    any-map has (put t) w.sessions
    ∙ any-weaker (λ x. has (put s x)) (λ x. has (put t x)) w.sessions
    (λ x had. ap (λ (k : ℕ). has (cond (eqb x.number k) t x)) takes.number ∙ chosen x (eqb x.number s.number) had)
    (sym (any-map has (put s) w.sessions) ∙ ap (list_any has) (put-same w s t apart takes) ∙ h)
  where
    has : Session → Bool
    has y = (y.number == n) && has_opened y v

    chosen : (x : Session) (b : Bool) → has (cond b s x) ≡ true → has (cond b t x) ≡ true
    chosen x true had = keeps had
    chosen x false had = had

replaced-opens : (w : World) (t : Session) → LawfulOpens w → list_all (λ o. has_volume_open (with_session w t).sessions o.session o.fork.volume) w.opens ≡ true → LawfulOpens (with_session w t)
replaced-opens w t p keeps = record {
  references = p.references;
  stand = all-both (is_lawful_open w) (λ o. has_volume_open (with_session w t).sessions o.session o.fork.volume) (is_lawful_open (with_session w t)) w.opens
      (λ o stood here.
      let e = and_parts (has_volume_open w.sessions o.session o.fork.volume) (is_file_of (volume_at w.volumes o.fork.volume) o.fork.node) stood in
      and_from (has_volume_open (with_session w t).sessions o.session o.fork.volume) (is_file_of (volume_at w.volumes o.fork.volume) o.fork.node) here e.1)
      p.stand keeps;
  clashes = p.clashes;
}

replaced-limits : (w : World) (s t : Session) → KeptLimits w → HasNumber w s t → KeptLimits (with_session w t)
replaced-limits w s t p takes = record {
  users = p.users;
  volumes = p.volumes;
  sessions = ap (λ (n : ℕ). nat_le n most_sessions) (length-mapped (put t) w.sessions) ∙ p.sessions;
  forks = all-put number_of (keeps_forks w.opens) t w.sessions p.forks
      (ap (λ (n : ℕ). nat_le (count_by (λ (o : OpenFork). o.session == n) w.opens) most_forks) takes.number ∙ find-all takes.test (keeps_forks w.opens) w.sessions s takes.found p.forks);
  locks = p.locks;
}

pub numbered-sound : (w : World) (s t : Session) → IsSound w → HasNumber w s t → ApartSessions (with_session w t) → is_user_of w.house.users t.user ≡ true → is_lawful_cache t.cache ≡ true
    → list_all (λ o. has_volume_open (with_session w t).sessions o.session o.fork.volume) w.opens ≡ true
    → IsSound (with_session w t)
unfolding has_lawful_locks has_typed_fields
numbered-sound w s t h takes apart user cache keeps = record {
  house = h.house;
  typed = h.typed;
  volumes = h.volumes;
  sessions = sessions-whole (with_session w t) apart;
  users = users-whole (with_session w t) (all-put number_of (λ x. is_user_of w.house.users x.user) t w.sessions (users-parts w h.users) user);
  opens = opens-whole (with_session w t) (replaced-opens w t (opens-parts w h.opens) keeps);
  locks = h.locks;
  caches = caches-whole (with_session w t) (all-put number_of (λ x. is_lawful_cache x.cache) t w.sessions (caches-parts w h.caches) cache);
  limits = limits-whole (with_session w t) (replaced-limits w s t (limits-parts w h.limits) takes);
}

pub replaced-sound : (w : World) (s t : Session) → IsSound w → TakesPlace w s t → is_user_of w.house.users t.user ≡ true → is_lawful_cache t.cache ≡ true
    → list_all (λ o. has_volume_open (with_session w t).sessions o.session o.fork.volume) w.opens ≡ true
    → IsSound (with_session w t)
replaced-sound w s t h takes user cache keeps = numbered-sound w s t h (numbered takes) (replaced-apart w s t (sessions-parts w h.sessions) takes) user cache keeps
