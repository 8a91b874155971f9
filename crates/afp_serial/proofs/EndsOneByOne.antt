-- Sessions that are gone, one by one.
use Rattle.std.proofs.Common.{◌≡◌, ◌∙◌, ap, refl, Bool, true, false, not, ◌&&◌, ◌||◌, cond, List, [], ◌∷◌, filter}
use Rattle.std.specs.Prelude.{◌==◌}
use Rattle.std.specs.List.{list_all}
use Rattle.std.proofs.lemmas.Bool.{and_parts}
use Rattle.afp_serial.proofs.OtherPlaces.{only-number}
use Rattle.afp_serial.proofs.SoundParts.{sessions-parts, opens-parts, locks-parts}
use Rattle.afp_base.proofs.ListFacts.{all-weaker, any-filter, any-weaker, filter-all, find-none, find-passes}
use Rattle.afp_serial.specs.Sound.{has_volume_open, is_file_of, is_lawful_open}
use Rattle.afp_serial.specs.World.{has_opened, has_session, is_expired, is_open, volume_at, World, Session, OpenFork, Lock}
use Rattle.afp_serial.specs.SweepLaws.{EndsNone, EndsOneByOne}

-- a filter behind one that lets all pass which it lets pass
filter-behind : {A : Type 0} (p keep : A → Bool) (xs : List A) → list_all (λ x. not (p x) || keep x) xs ≡ true → filter p (filter keep xs) ≡ filter p xs
filter-behind p keep [] h = refl
filter-behind p keep (x ∷ xs) h =
    let e = and_parts (not (p x) || keep x) (list_all (λ y. not (p y) || keep y) xs) h in
    by (p x) (keep x) refl e.0 (filter-behind p keep xs e.1)
  where
    by : (a b : Bool) → p x ≡ a → (not a || b) ≡ true → filter p (filter keep xs) ≡ filter p xs → filter p (cond b (x ∷ filter keep xs) (filter keep xs)) ≡ cond a (x ∷ filter p xs) (filter p xs)
    by true true is k rest = rw is (ap (λ l. x ∷ l) rest)
    by true false is k rest = absurd (cc)
    by false true is k rest = rw is rest
    by false false is k rest = rest

each : {A : Type 0} (p : A → Bool) (xs : List A) → ((x : A) → p x ≡ true) → list_all p xs ≡ true
each p [] holds = refl
each p (x ∷ xs) holds = rw (holds x) (each p xs holds)

implied : (a b : Bool) → (a ≡ true → b ≡ true) → (not a || b) ≡ true
implied true b h = h refl
implied false b h = refl

abbrev lives : World → Session → Bool
lives w s = not (is_expired w.latest s.place)

abbrev others : Session → Session → Bool
others s x = not (x.number == s.number)

pub one-by-one : EndsOneByOne
one-by-one w s h found =
    let gone : is_expired w.latest s.place ≡ true = find-passes (λ x. is_expired w.latest x.place) w.sessions s found in
    let rest : List Session = filter (others s) w.sessions in
    let left : List Session = filter (lives w) w.sessions in
    let stay : filter (lives w) rest ≡ left =
    filter-behind (lives w) (others s) w.sessions
    (all-weaker (λ x. not (x.number == s.number) || is_expired w.latest x.place) (λ x. not (lives w x) || others s x) w.sessions
    (λ x either_way. flipped (x.number == s.number) (is_expired w.latest x.place) either_way)
    (only-number (λ x. is_expired w.latest x.place) (λ x. is_expired w.latest x.place) w.sessions s (sessions-parts w h.sessions).numbers found gone)) in
    let opens1 : List OpenFork = filter (λ o. has_session rest o.session) w.opens in
    let opens2 : List OpenFork = filter (λ o. has_session left o.session) w.opens in
    let open_stay : filter (λ o. has_session left o.session) opens1 ≡ opens2 =
    filter-behind (λ (o : OpenFork). has_session left o.session) (λ (o : OpenFork). has_session rest o.session) w.opens
    (each (λ (o : OpenFork). not (has_session left o.session) || has_session rest o.session) w.opens
    (λ o. implied (has_session left o.session) (has_session rest o.session) (λ k. any-filter (λ (x : Session). x.number == o.session) (lives w) rest (ap (λ (l : List Session). has_session l o.session) stay ∙ k)))) in
    let locks_stay : filter (λ (lock : Lock). is_open opens2 lock.reference) (filter (λ (lock : Lock). is_open opens1 lock.reference) w.locks) ≡ filter (λ (lock : Lock). is_open opens2 lock.reference) w.locks =
    filter-behind (λ (lock : Lock). is_open opens2 lock.reference) (λ (lock : Lock). is_open opens1 lock.reference) w.locks
    (each (λ (lock : Lock). not (is_open opens2 lock.reference) || is_open opens1 lock.reference) w.locks
    (λ lock. implied (is_open opens2 lock.reference) (is_open opens1 lock.reference) (λ k. any-filter (λ (o : OpenFork). o.reference == lock.reference) (λ (o : OpenFork). has_session left o.session) opens1 (ap (λ (l : List OpenFork). is_open l lock.reference) open_stay ∙ k)))) in
    (λ i. record w {
      sessions = stay i;
      opens = filter (λ o. has_session (stay i) o.session) opens1;
      locks = filter (λ (lock : Lock). is_open (filter (λ o. has_session (stay i) o.session) opens1) lock.reference) (filter (λ (lock : Lock). is_open opens1 lock.reference) w.locks);
    })
    ∙ (λ i. record w { sessions = left; opens = open_stay i; locks = filter (λ (lock : Lock). is_open (open_stay i) lock.reference) (filter (λ (lock : Lock). is_open opens1 lock.reference) w.locks) })
    ∙ (λ i. record w { sessions = left; opens = opens2; locks = locks_stay i })
  where
    flipped : (a b : Bool) → (not a || b) ≡ true → (not (not b) || not a) ≡ true
    flipped true true k = refl
    flipped true false k = k
    flipped false true k = refl
    flipped false false k = refl

pub ends-none : EndsNone
ends-none w h none =
    let alive : list_all (lives w) w.sessions ≡ true = find-none (λ x. is_expired w.latest x.place) w.sessions none in
    let stay : filter (lives w) w.sessions ≡ w.sessions = filter-all (lives w) w.sessions alive in
    let open_stay : filter (λ o. has_session w.sessions o.session) w.opens ≡ w.opens =
    filter-all (λ (o : OpenFork). has_session w.sessions o.session) w.opens
    (all-weaker (is_lawful_open w) (λ o. has_session w.sessions o.session) w.opens
    (λ o stood. any-weaker (λ x. (x.number == o.session) && has_opened x o.fork.volume) (λ x. x.number == o.session) w.sessions (λ x both. (and_parts (x.number == o.session) (has_opened x o.fork.volume) both).0)
    (and_parts (has_volume_open w.sessions o.session o.fork.volume) (is_file_of (volume_at w.volumes o.fork.volume) o.fork.node) stood).0)
    (opens-parts w h.opens).stand) in
    let locks_stay : filter (λ (lock : Lock). is_open w.opens lock.reference) w.locks ≡ w.locks = filter-all (λ (lock : Lock). is_open w.opens lock.reference) w.locks (locks-parts w h.locks).held in
    (λ i. record w { sessions = stay i; opens = filter (λ o. has_session (stay i) o.session) w.opens; locks = filter (λ (lock : Lock). is_open (filter (λ o. has_session (stay i) o.session) w.opens) lock.reference) w.locks })
    ∙ (λ i. record w { opens = open_stay i; locks = filter (λ (lock : Lock). is_open (open_stay i) lock.reference) w.locks })
    ∙ (λ i. record w { locks = locks_stay i })
