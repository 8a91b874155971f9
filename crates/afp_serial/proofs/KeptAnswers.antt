-- One more answer that is kept keeps a sound world sound.
use Rattle.std.proofs.Common.{◌≡◌, ◌∙◌, ap, sym, refl, ℕ, zero, suc, ◌-◌, ◌≤◌, Bool, true, false, not, ◌&&◌, ◌||◌, cond, eqb, List, [], ◌∷◌, ◌++◌, length, drop, arith, Option, Some, None, length-drop}
use Rattle.std.specs.Prelude.{◌==◌, nat_le, nat_lt, is_none, count_by}
use Rattle.std.specs.List.{list_all, list_any}
use Rattle.std.proofs.lemmas.Bool.{and_parts, and_from, cond_both, le-leb}
use Rattle.afp_base.specs.Apart.{are_apart}
use Rattle.afp_base.specs.Cached.{Request, Answer, Kept, cached_answer, either, is_repeat, with_kept}
use Rattle.afp_base.specs.Limits.{payload_limit, replay_cache_size, most_forks}
use Rattle.afp_serial.proofs.SoundParts.{ApartSessions, sessions-parts, sessions-whole, LawfulOpens, opens-parts, opens-whole, caches-parts, caches-whole, KeptLimits, limits-parts, limits-whole, same_number, same_link, is_below, keeps_forks, users-parts, users-whole}
use Rattle.afp_base.proofs.ListFacts.{all-both, all-map-where, all-snoc, all-weaker, any-map, any-weaker, apart-map, apart-snoc, apart-weaker, length-mapped}
use Rattle.afp_serial.specs.KeptAnswers.{is_kept, kept_in, with_answer}
use Rattle.afp_serial.specs.Limits.{most_sessions}
use Rattle.afp_serial.specs.Sound.{IsSound, share_link, is_link_below, has_volume_open, is_file_of, is_lawful_open, is_lawful_cache, has_lawful_locks, has_typed_fields}
use Rattle.afp_serial.specs.Users.{is_user_of}
use Rattle.afp_serial.specs.World.{has_opened, has_session, volume_at, World, Session, OpenFork}

-- the cache

abbrev like : Kept → Kept → Bool
like a b = is_repeat a.request b.request

abbrev is_short_answer : Kept → Bool
is_short_answer kept = nat_le (length kept.answer.block) payload_limit

abbrev is_kept_one : Kept → Bool
is_kept_one kept = is_kept kept.request kept.answer.code

either-none : (a b : Option Answer) → either a b ≡ None → (a ≡ None) × (b ≡ None)
either-none (Some a) b h = absurd (cc)
either-none None b h = (refl, h)

chosen-none : (b : Bool) (a : Answer) → cond b (Some a) None ≡ None → not b ≡ true
chosen-none true a h = absurd (cc)
chosen-none false a h = refl

pub none-kept : (cache : List Kept) (r : Request) → cached_answer cache r ≡ None → list_all (λ k. not (is_repeat k.request r)) cache ≡ true
none-kept [] r h = refl
none-kept (k ∷ ks) r h =
    let e = either-none (cached_answer ks r) (cond (is_repeat k.request r) (Some k.answer) None) h in
    and_from (not (is_repeat k.request r)) (list_all (λ x. not (is_repeat x.request r)) ks) (chosen-none (is_repeat k.request r) k.answer e.1) (none-kept ks r e.0)

all-drop : {A : Type 0} (p : A → Bool) (n : ℕ) (xs : List A) → list_all p xs ≡ true → list_all p (drop n xs) ≡ true
all-drop p zero xs h = h
all-drop p (suc n) [] h = h
all-drop p (suc n) (x ∷ xs) h = all-drop p n xs (and_parts (p x) (list_all p xs) h).1

apart-drop : {A : Type 0} (r : A → A → Bool) (n : ℕ) (xs : List A) → are_apart r xs ≡ true → are_apart r (drop n xs) ≡ true
apart-drop r zero xs h = h
apart-drop r (suc n) [] h = h
apart-drop r (suc n) (x ∷ xs) h = apart-drop r n xs (and_parts (not (list_any (r x) xs)) (are_apart r xs) h).1

pub lawful-with : (cache : List Kept) (k : Kept) → is_lawful_cache cache ≡ true → cached_answer cache k.request ≡ None → is_short_answer k ≡ true → is_kept_one k ≡ true → is_lawful_cache (with_kept cache k) ≡ true
lawful-with cache k lawful none short stays =
    let all : List Kept = cache ++ k ∷ [] in
    let over : ℕ = length all - 32 in
    let e = and_parts (nat_le (length cache) replay_cache_size) (are_apart like cache && (list_all is_short_answer cache && list_all is_kept_one cache)) lawful in
    let f = and_parts (are_apart like cache) (list_all is_short_answer cache && list_all is_kept_one cache) e.1 in
    let g = and_parts (list_all is_short_answer cache) (list_all is_kept_one cache) f.1 in
    let few : length (drop over all) ≤ 32 = omega (arith, length-drop over all) in
    and_from (nat_le (length (with_kept cache k)) replay_cache_size) (are_apart like (with_kept cache k) && (list_all is_short_answer (with_kept cache k) && list_all is_kept_one (with_kept cache k))) (le-leb (length (drop over all)) 32 few)
    (and_from (are_apart like (with_kept cache k)) (list_all is_short_answer (with_kept cache k) && list_all is_kept_one (with_kept cache k))
    (apart-drop like over all (apart-snoc like cache k f.0 (none-kept cache k.request none)))
    (and_from (list_all is_short_answer (with_kept cache k)) (list_all is_kept_one (with_kept cache k))
    (all-drop is_short_answer over all (all-snoc is_short_answer cache k g.0 short))
    (all-drop is_kept_one over all (all-snoc is_kept_one cache k g.1 stays))))

-- no session of the number has an answer kept for the request
abbrev pub has_none : ℕ → Request → Session → Bool
has_none number r x = not (x.number == number) || is_none (cached_answer x.cache r)

is-none : (o : Option Answer) → is_none o ≡ true → o ≡ None
is-none (Some a) h = absurd (cc)
is-none None h = refl

module _ (w : World) (number : ℕ) (r : Request) (a : Answer) where
  abbrev new : World
  new = kept_in w number r a

  abbrev with_it : Session → Session
  with_it x = cond (eqb x.number number) (with_answer r a x) x

  -- what does not speak of the cache stays
  same : {B : Type 0} (f : Session → B) → ((x : Session) → f (with_answer r a x) ≡ f x) → (x : Session) → f (with_it x) ≡ f x
  same f is x = cond_both (eqb x.number number) (with_answer r a x) x (λ y. f y ≡ f x) (λ here. is x) (λ other. refl)

  its-number : (x : Session) → (with_it x).number ≡ x.number
  its-number = same (λ y. y.number) (λ x. refl)

  its-place : (x : Session) → (with_it x).place ≡ x.place
  its-place = same (λ y. y.place) (λ x. refl)

  its-user : (x : Session) → (with_it x).user ≡ x.user
  its-user = same (λ y. y.user) (λ x. refl)

  its-volumes : (x : Session) → (with_it x).volumes ≡ x.volumes
  its-volumes = same (λ y. y.volumes) (λ x. refl)

  pub kept-old : (n : ℕ) → has_session new.sessions n ≡ true → has_session w.sessions n ≡ true
  kept-old n h = any-weaker (λ x. (with_it x).number == n) (λ x. x.number == n) w.sessions (λ x is. ap (λ (m : ℕ). m == n) (sym (its-number x)) ∙ is) (sym (any-map (λ (x : Session). x.number == n) with_it w.sessions) ∙ h)

  pub kept-apart : ApartSessions w → ApartSessions new
  kept-apart p = record {
    numbers = apart-map same_number with_it w.sessions
        ∙ apart-weaker same_number (λ x y. same_number (with_it x) (with_it y)) w.sessions (λ x y is. (λ i. eqb (sym (its-number x) i) (sym (its-number y) i)) ∙ is) p.numbers;
    links = apart-map same_link with_it w.sessions
        ∙ apart-weaker same_link (λ x y. same_link (with_it x) (with_it y)) w.sessions (λ x y is. (λ i. share_link (sym (its-place x) i) (sym (its-place y) i)) ∙ is) p.links;
    below = all-map-where (is_below w.next_link) (is_below w.next_link) with_it w.sessions (λ x is. (λ i. nat_lt (its-number x i) w.next_link && is_link_below w.next_link (its-place x i)) ∙ is) p.below;
  }

  volumes-open : (n v : ℕ) → has_volume_open w.sessions n v ≡ true → has_volume_open new.sessions n v ≡ true
  volumes-open n v h =
      any-map (λ (x : Session). (x.number == n) && has_opened x v) with_it w.sessions
      ∙ any-weaker (λ x. (x.number == n) && has_opened x v) (λ x. ((with_it x).number == n) && has_opened (with_it x) v) w.sessions
      (λ x is. (λ i. (its-number x i == n) && list_any (λ u. u == v) (its-volumes x i)) ∙ is) h

  kept-opens : LawfulOpens w → LawfulOpens new
  kept-opens p = record {
    references = p.references;
    stand = all-weaker (is_lawful_open w) (is_lawful_open new) w.opens
        (λ o stood.
        let e = and_parts (has_volume_open w.sessions o.session o.fork.volume) (is_file_of (volume_at w.volumes o.fork.volume) o.fork.node) stood in
        and_from (has_volume_open new.sessions o.session o.fork.volume) (is_file_of (volume_at w.volumes o.fork.volume) o.fork.node) (volumes-open o.session o.fork.volume e.0) e.1)
        p.stand;
    clashes = p.clashes;
  }

  kept-limits : KeptLimits w → KeptLimits new
  kept-limits p = record {
    users = p.users;
    volumes = p.volumes;
    sessions = ap (λ (n : ℕ). nat_le n most_sessions) (length-mapped with_it w.sessions) ∙ p.sessions;
    forks = all-map-where (keeps_forks w.opens) (keeps_forks w.opens) with_it w.sessions (λ x is. ap (λ (n : ℕ). nat_le (count_by (λ (o : OpenFork). o.session == n) w.opens) most_forks) (its-number x) ∙ is) p.forks;
    locks = p.locks;
  }

  cache-with : nat_le (length a.block) payload_limit ≡ true → is_kept r a.code ≡ true → (x : Session) → (is_lawful_cache x.cache && has_none number r x) ≡ true → is_lawful_cache (with_it x).cache ≡ true
  cache-with short stays x both =
      let e = and_parts (is_lawful_cache x.cache) (has_none number r x) both in
      by (eqb x.number number) e.0 e.1
    where
      by : (b : Bool) → is_lawful_cache x.cache ≡ true → (not b || is_none (cached_answer x.cache r)) ≡ true → is_lawful_cache (cond b (with_answer r a x) x).cache ≡ true
      by true lawful none = lawful-with x.cache (record { request = r; answer = a }) lawful (is-none (cached_answer x.cache r) none) short stays
      by false lawful none = lawful

  pub kept-sound : nat_le (length a.block) payload_limit ≡ true → is_kept r a.code ≡ true → list_all (has_none number r) w.sessions ≡ true → IsSound w → IsSound new
  unfolding has_lawful_locks has_typed_fields
  kept-sound short stays none h = record {
    house = h.house;
    typed = h.typed;
    volumes = h.volumes;
    sessions = sessions-whole new (kept-apart (sessions-parts w h.sessions));
    users = users-whole new (all-map-where (λ x. is_user_of w.house.users x.user) (λ x. is_user_of w.house.users x.user) with_it w.sessions (λ x is. ap (is_user_of w.house.users) (its-user x) ∙ is) (users-parts w h.users));
    opens = opens-whole new (kept-opens (opens-parts w h.opens));
    locks = h.locks;
    caches = caches-whole new (all-map-where (λ x. is_lawful_cache x.cache && has_none number r x) (λ x. is_lawful_cache x.cache) with_it w.sessions (cache-with short stays)
        (all-both (λ x. is_lawful_cache x.cache) (has_none number r) (λ x. is_lawful_cache x.cache && has_none number r x) w.sessions (λ x p q. and_from (is_lawful_cache x.cache) (has_none number r x) p q) (caches-parts w h.caches) none));
    limits = limits-whole new (kept-limits (limits-parts w h.limits));
  }
