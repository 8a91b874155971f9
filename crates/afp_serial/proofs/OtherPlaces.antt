-- A session that has another link, or none, keeps a sound world sound.
use Rattle.std.proofs.Common.{◌≡◌, ◌∙◌, ap, sym, refl, subst, ℕ, Bool, true, false, not, ◌&&◌, ◌||◌, cond, eqb, List, [], ◌∷◌, inl, inr, Some}
use Rattle.std.specs.Prelude.{◌==◌, nat_lt, find, filter}
use Rattle.std.specs.List.{list_all, list_any}
use Rattle.std.proofs.lemmas.Bool.{and_parts, and_from, eqb-true, eq-eqb, or_cases, or_left, or_right, false_from_ne_true}
use Rattle.afp_serial.proofs.Closed.{ending-apart, ending-sound}
use Rattle.afp_serial.proofs.Replaced.{HasNumber, number_of, numbered-sound, put, put-number, volume-kept}
use Rattle.afp_serial.proofs.SoundParts.{ApartSessions, sessions-parts, opens-parts, caches-parts, same_link, same_number, is_below, users-parts}
use Rattle.afp_base.proofs.ListFacts.{all-both, all-filter, all-kept, all-put, all-weaker, any-at, apart-map, apart-weaker, find-all, none-all}
use Rattle.afp_base.proofs.Facts.{never}
use Rattle.afp_base.specs.Apart.{are_apart}
use Rattle.afp_serial.specs.declared.attachment.Attachment.{Attachment}
use Rattle.afp_serial.specs.declared.attachment.Attachment.TheVariants.{Attached, Detached}
use Rattle.afp_serial.specs.Sound.{IsSound, share_link, is_link_below, has_volume_open, is_file_of, is_lawful_open, is_lawful_cache}
use Rattle.afp_serial.specs.Users.{is_user_of}
use Rattle.afp_serial.specs.World.{volume_at, with_session, without_session, World, Session}

-- one has the link of the other, in whichever order
abbrev meets : Session → Session → Bool
meets a b = same_link a b || same_link b a

share-flip : (a b : Attachment) → share_link a b ≡ true → share_link b a ≡ true
share-flip (Attached a) (Attached b) h = eq-eqb b.0 a.0 (sym (eqb-true a.0 b.0 h))
share-flip (Attached a) (Detached m) h = cc
share-flip (Detached m) b h = absurd (cc)

-- each session but those of its number is on another link than t
abbrev pub is_off : Session → Session → Bool
is_off t x = eqb x.number t.number || not (meets t x)

-- two sessions, of which t may stand in place of one
clash : (t x b : Session) (p q : Bool) → p ≡ eqb x.number t.number → q ≡ eqb b.number t.number → same_link (cond p t x) (cond q t b) ≡ true
    → not (same_number x b) ≡ true → not (same_link x b) ≡ true → (q || not (meets t b)) ≡ true → (p || not (meets t x)) ≡ true → ⊥
clash t x b true true isp isq hit numbers links offb offx =
    never (same_number x b) (eq-eqb x.number b.number (eqb-true x.number t.number (sym isp) ∙ sym (eqb-true b.number t.number (sym isq)))) numbers
clash t x b true false isp isq hit numbers links offb offx = never (meets t b) (or_left (same_link t b) (same_link b t) hit) offb
clash t x b false true isp isq hit numbers links offb offx = never (meets t x) (or_right (same_link t x) (same_link x t) hit) offx
clash t x b false false isp isq hit numbers links offb offx = never (same_link x b) hit links

links-apart : (t : Session) (xs : List Session) → are_apart same_number xs ≡ true → are_apart same_link xs ≡ true → list_all (is_off t) xs ≡ true → are_apart (λ a b. same_link (put t a) (put t b)) xs ≡ true
links-apart t [] numbers links off = refl
links-apart t (x ∷ xs) numbers links off =
    let n = and_parts (not (list_any (same_number x) xs)) (are_apart same_number xs) numbers in
    let l = and_parts (not (list_any (same_link x) xs)) (are_apart same_link xs) links in
    let o = and_parts (is_off t x) (list_all (is_off t) xs) off in
    let each : list_all differs xs ≡ true =
    all-both (λ b. not (same_number x b)) (λ b. not (same_link x b) && is_off t b) differs xs (λ b p q. and_from (not (same_number x b)) (not (same_link x b) && is_off t b) p q)
    (none-all (same_number x) xs n.0)
    (all-both (λ b. not (same_link x b)) (is_off t) (λ b. not (same_link x b) && is_off t b) xs (λ b p q. and_from (not (same_link x b)) (is_off t b) p q) (none-all (same_link x) xs l.0) o.1) in
    let none : list_any (λ b. same_link (put t x) (put t b)) xs ≡ false =
    false_from_ne_true (list_any (λ b. same_link (put t x) (put t b)) xs)
    (λ hit. any-at (λ b. same_link (put t x) (put t b)) differs xs hit each
    (λ b same d.
    let e = and_parts (not (same_number x b)) (not (same_link x b) && is_off t b) d in
    let f = and_parts (not (same_link x b)) (is_off t b) e.1 in
    clash t x b (eqb x.number t.number) (eqb b.number t.number) refl refl same e.0 f.0 f.1 o.0)) in
    and_from (not (list_any (λ b. same_link (put t x) (put t b)) xs)) (are_apart (λ a b. same_link (put t a) (put t b)) xs) (ap not none) (links-apart t xs n.1 l.1 o.1)
  where
    differs : Session → Bool
    differs b = not (same_number x b) && (not (same_link x b) && is_off t b)

pub placed-apart : (w : World) (s t : Session) → ApartSessions w → HasNumber w s t → list_all (is_off t) w.sessions ≡ true → is_link_below w.next_link t.place ≡ true → ApartSessions (with_session w t)
placed-apart w s t apart has off below = record {
  numbers = apart-map same_number (put t) w.sessions
      ∙ apart-weaker same_number (λ a b. same_number (put t a) (put t b)) w.sessions
      (λ a b same. (λ i. eqb (sym (put-number t a) i) (sym (put-number t b) i)) ∙ same)
      apart.numbers;
  links = apart-map same_link (put t) w.sessions ∙ links-apart t w.sessions apart.numbers apart.links off;
  below = all-put number_of (is_below w.next_link) t w.sessions apart.below
      (and_from (nat_lt t.number w.next_link) (is_link_below w.next_link t.place)
      (ap (λ (n : ℕ). nat_lt n w.next_link) has.number ∙ (and_parts (nat_lt s.number w.next_link) (is_link_below w.next_link s.place) (find-all has.test (is_below w.next_link) w.sessions s has.found apart.below)).0)
      below);
}

-- it has the same volumes open, and the same answers kept
pub placed-sound : (w : World) (s t : Session) → IsSound w → HasNumber w s t → t.user ≡ s.user → t.volumes ≡ s.volumes → t.cache ≡ s.cache → ApartSessions (with_session w t) → IsSound (with_session w t)
placed-sound w s t h has user volumes cache apart =
    numbered-sound w s t h has apart
    (ap (is_user_of w.house.users) user ∙ find-all has.test (λ x. is_user_of w.house.users x.user) w.sessions s has.found (users-parts w h.users))
    (ap is_lawful_cache cache ∙ find-all has.test (λ x. is_lawful_cache x.cache) w.sessions s has.found (caches-parts w h.caches))
    (all-weaker (is_lawful_open w) (λ o. has_volume_open (with_session w t).sessions o.session o.fork.volume) w.opens
    (λ o stood. volume-kept w s t o.session o.fork.volume (sessions-parts w h.sessions) has
    (λ had. (λ i. (has.number i == o.session) && list_any (λ v. v == o.fork.volume) (volumes i)) ∙ had)
    (and_parts (has_volume_open w.sessions o.session o.fork.volume) (is_file_of (volume_at w.volumes o.fork.volume) o.fork.node) stood).0)
    (opens-parts w h.opens).stand)

-- a session without a link

abbrev pub waiting : Session → ℕ → Session
waiting s moment = record s { place = Detached moment }

off-none : (s : Session) (moment : ℕ) (xs : List Session) → list_all (is_off (waiting s moment)) xs ≡ true
off-none s moment [] = refl
off-none s moment (x ∷ xs) = and_from (is_off (waiting s moment) x) (list_all (is_off (waiting s moment)) xs) (or_right (eqb x.number s.number) (not (meets (waiting s moment) x)) (ap not (by x.place))) (off-none s moment xs)
  where
    by : (p : Attachment) → share_link p (Detached moment) ≡ false
    by (Attached a) = refl
    by (Detached m) = refl

pub waits-apart : (w : World) (s : Session) (test : Session → Bool) → find test w.sessions ≡ Some s → ApartSessions w → ApartSessions (with_session w (waiting s w.latest))
waits-apart w s test found a = placed-apart w s (waiting s w.latest) a (record { test = test; found = found; number = refl }) (off-none s w.latest w.sessions) refl

pub waits-sound : (w : World) (s : Session) (test : Session → Bool) → find test w.sessions ≡ Some s → IsSound w → IsSound (with_session w (waiting s w.latest))
waits-sound w s test found h =
    placed-sound w s (waiting s w.latest) h (record { test = test; found = found; number = refl }) refl refl refl (waits-apart w s test found (sessions-parts w h.sessions))

-- a session with the link of one that has ended

off-found : (test : Session → Bool) (xs : List Session) (s : Session) → find test xs ≡ Some s → are_apart same_link xs ≡ true → list_all (is_off s) xs ≡ true
off-found test [] s found apart = absurd (cc)
off-found test (x ∷ xs) s found apart = by (test x) (λ f. off-found test xs s f l.1) found
  where
    l : (not (list_any (same_link x) xs) ≡ true) × (are_apart same_link xs ≡ true)
    l = and_parts (not (list_any (same_link x) xs)) (are_apart same_link xs) apart

    apart-of : (y : Session) → not (same_link x y) ≡ true → not (meets x y) ≡ true
    apart-of y h = ap not (false_from_ne_true (meets x y) (λ m. elim (or_cases (same_link x y) (same_link y x) m) [ inl a ↦ never (same_link x y) a h | inr k ↦ never (same_link x y) (share-flip y.place x.place k) h ]))

    flipped : (y : Session) → not (meets x y) ≡ true → not (meets y x) ≡ true
    flipped y h = ap not (false_from_ne_true (meets y x) (λ m. elim (or_cases (same_link y x) (same_link x y) m) [ inl a ↦ never (meets x y) (or_right (same_link x y) (same_link y x) a) h | inr k ↦ never (meets x y) (or_left (same_link x y) (same_link y x) k) h ]))

    here : (y : Session) → y ≡ s → (y ≡ x) → list_all (is_off s) (x ∷ xs) ≡ true
    here y is same =
        subst (λ (z : Session). list_all (is_off z) (x ∷ xs) ≡ true) (sym same ∙ is)
        (and_from (is_off x x) (list_all (is_off x) xs) (or_left (eqb x.number x.number) (not (meets x x)) (eq-eqb x.number x.number refl))
        (all-weaker (λ b. not (same_link x b)) (is_off x) xs (λ b k. or_right (eqb b.number x.number) (not (meets x b)) (apart-of b k)) (none-all (same_link x) xs l.0)))

    by : (b : Bool) → (find test xs ≡ Some s → list_all (is_off s) xs ≡ true) → cond b (Some x) (find test xs) ≡ Some s → list_all (is_off s) (x ∷ xs) ≡ true
    by true rest f = let same : x ≡ s = cc in here x same refl
    by false rest f =
        and_from (is_off s x) (list_all (is_off s) xs)
        (or_right (eqb x.number s.number) (not (meets s x)) (flipped s (apart-of s (find-all test (λ b. not (same_link x b)) xs s f (none-all (same_link x) xs l.0)))))
        (rest f)

find-still : (p keep : Session → Bool) (xs : List Session) (s : Session) → ((x : Session) → p x ≡ true → keep x ≡ true) → find p xs ≡ Some s → find p (filter keep xs) ≡ Some s
find-still p keep [] s stays found = absurd (cc)
find-still p keep (x ∷ xs) s stays found = by (p x) (keep x) refl refl (find-still p keep xs s stays) found
  where
    by : (a b : Bool) → p x ≡ a → keep x ≡ b → (find p xs ≡ Some s → find p (filter keep xs) ≡ Some s) → cond a (Some x) (find p xs) ≡ Some s → find p (cond b (x ∷ filter keep xs) (filter keep xs)) ≡ Some s
    by true true isp isk rest f = rw isp f
    by true false isp isk rest f = absurd (cc (sym isk ∙ stays x isp))
    by false true isp isk rest f = rw isp (rest f)
    by false false isp isk rest f = rest f

-- the session s ends, and this one, which is another, has its link
abbrev pub rejoined : Session → Session → Session
rejoined s old = record old { place = s.place }

abbrev others : Session → Session → Bool
others s x = not (x.number == s.number)

rejoins-number : (w : World) (s old : Session) (is_old : Session → Bool) → find is_old w.sessions ≡ Some old → ((x : Session) → is_old x ≡ true → not (x.number == s.number) ≡ true) → HasNumber (without_session w s.number) old (rejoined s old)
rejoins-number w s old is_old there other = record { test = is_old; found = find-still is_old (others s) w.sessions old other there; number = refl }

pub rejoins-apart : (w : World) (s old : Session) (test is_old : Session → Bool) → find test w.sessions ≡ Some s → find is_old w.sessions ≡ Some old → ((x : Session) → is_old x ≡ true → not (x.number == s.number) ≡ true)
    → ApartSessions w → ApartSessions (with_session (without_session w s.number) (rejoined s old))
rejoins-apart w s old test is_old found there other a =
    placed-apart (without_session w s.number) old (rejoined s old) (ending-apart w (others s) a) (rejoins-number w s old is_old there other)
    (all-both (is_off s) (others s) (is_off (rejoined s old)) (filter (others s) w.sessions)
    (λ x off is. elim (or_cases (eqb x.number s.number) (not (meets s x)) off) [ inl same ↦ absurd (never (eqb x.number s.number) same is) | inr k ↦ or_right (eqb x.number old.number) (not (meets s x)) k ])
    (all-filter (is_off s) (others s) w.sessions (off-found test w.sessions s found a.links))
    (all-kept (others s) w.sessions))
    (and_parts (nat_lt s.number w.next_link) (is_link_below w.next_link s.place) (find-all test (is_below w.next_link) w.sessions s found a.below)).1

pub rejoins-sound : (w : World) (s old : Session) (test is_old : Session → Bool) → find test w.sessions ≡ Some s → find is_old w.sessions ≡ Some old → ((x : Session) → is_old x ≡ true → not (x.number == s.number) ≡ true)
    → IsSound w → IsSound (with_session (without_session w s.number) (rejoined s old))
rejoins-sound w s old test is_old found there other h =
    placed-sound (without_session w s.number) old (rejoined s old) (ending-sound w (others s) h) (rejoins-number w s old is_old there other) refl refl refl
    (rejoins-apart w s old test is_old found there other (sessions-parts w h.sessions))

-- a test of the session that was found is one of all sessions of its number
pub only-number : (test p : Session → Bool) (xs : List Session) (s : Session) → are_apart same_number xs ≡ true → find test xs ≡ Some s → p s ≡ true → list_all (λ x. not (x.number == s.number) || p x) xs ≡ true
only-number test p [] s numbers found holds = absurd (cc)
only-number test p (x ∷ xs) s numbers found holds = by (test x) (only-number test p xs s n.1) found
  where
    n : (not (list_any (same_number x) xs) ≡ true) × (are_apart same_number xs ≡ true)
    n = and_parts (not (list_any (same_number x) xs)) (are_apart same_number xs) numbers

    differs : list_all (λ b. not (same_number x b)) xs ≡ true
    differs = none-all (same_number x) xs n.0

    flipped : (y : Session) → not (x.number == y.number) ≡ true → not (y.number == x.number) ≡ true
    flipped y h = ap not (false_from_ne_true (y.number == x.number) (λ same. never (x.number == y.number) (eq-eqb x.number y.number (sym (eqb-true y.number x.number same))) h))

    here : (y : Session) → y ≡ x → p y ≡ true → list_all (λ z. not (z.number == y.number) || p z) (x ∷ xs) ≡ true
    here y is ok =
        subst (λ (v : Session). list_all (λ z. not (z.number == v.number) || p z) (x ∷ xs) ≡ true) (sym is)
        (and_from (not (x.number == x.number) || p x) (list_all (λ z. not (z.number == x.number) || p z) xs) (or_right (not (x.number == x.number)) (p x) (ap p (sym is) ∙ ok))
        (all-weaker (λ b. not (same_number x b)) (λ z. not (z.number == x.number) || p z) xs (λ b h. or_left (not (b.number == x.number)) (p b) (flipped b h)) differs))

    by : (b : Bool) → (find test xs ≡ Some s → p s ≡ true → list_all (λ z. not (z.number == s.number) || p z) xs ≡ true) → cond b (Some x) (find test xs) ≡ Some s → list_all (λ z. not (z.number == s.number) || p z) (x ∷ xs) ≡ true
    by true rest f = let same : s ≡ x = cc in here s same holds
    by false rest f =
        and_from (not (x.number == s.number) || p x) (list_all (λ z. not (z.number == s.number) || p z) xs) (or_left (not (x.number == s.number)) (p x) (find-all test (λ b. not (same_number x b)) xs s f differs)) (rest f holds)
