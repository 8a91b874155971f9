-- How a kept answer, a lost link and FPDisconnectOldSession change the view.
use Rattle.std.proofs.Common.{◌≡◌, ◌∙◌, ◌⊎◌, inl, inr, refl, sym, ap, ℕ, Bool, true, false, cond, List, [], map, Option, Some, None}
use Rattle.std.specs.Prelude.{nat_eq, is_some}
use Rattle.std.proofs.lemmas.Bool.{cond_both, eqb-true, eqb-false, eq-eqb, ne_eqb, true≢false, cond-true, cond-false, cases_eq}
use Rattle.afp_base.specs.Cached.{Kept}
use Rattle.afp_base.specs.declared.ids.LinkNumber.{LinkNumber}
use Rattle.afp_serial.specs.declared.attachment.Attachment.TheVariants.{Attached, Detached}
use Rattle.afp_serial.specs.Answer.{link_number}
use Rattle.afp_serial.specs.Sound.{IsSound}
use Rattle.afp_serial.specs.World.{Session, World, without_session}
use Rattle.afp_serial.proofs.SessionLists.{of-map, changed as mapped, of-number, of-without}
use Rattle.afp_serial.specs.SessionViews.{View, view_at, cache_of, session_of, set, detached, adopted, is_number}
use Rattle.afp_serial.proofs.SessionViews.{holder_of, OnLink, Has, holder-is, has-holds, holds-has, sound-numbers, sound-links, one-link}

-- ---- a change of one session

-- the world in which the session of a number is changed, as it stands there
abbrev pub changing : World → ℕ → (Session → Session) → World
changing w k f = record w { sessions = map (λ x. cond (nat_eq x.number k) (f x) x) w.sessions }

-- its answers become others
abbrev pub storing_in : (List Kept → List Kept) → World → ℕ → World
storing_in stored w k = changing w k (λ x. record x { cache = stored x.cache })

-- a session loses its link
abbrev pub detaching : World → ℕ → ℕ → World
detaching w k moment = changing w k (λ x. record x { place = Detached moment })

-- a session gives its link to an old one, and ends
abbrev pub adopting : World → ℕ → ℕ → ℕ → World
adopting w link k old = changing (without_session w k) old (λ x. record x { place = Attached (link_number link) })

-- ---- what is found behind a change

pub of-changing : (w : World) (k n : ℕ) (f : Session → Session) → ((s : Session) → (f s).number ≡ s.number) → session_of (changing w k f).sessions n ≡ cond (nat_eq k n) (mapped f (session_of w.sessions n)) (session_of w.sessions n)
of-changing w k n f same = of-map (λ x. cond (nat_eq x.number k) (f x) x) number w.sessions n ∙ by (session_of w.sessions n) refl
  where
    number : (x : Session) → (cond (nat_eq x.number k) (f x) x).number ≡ x.number
    number x = cond_both (nat_eq x.number k) (f x) x (λ y. y.number ≡ x.number) (λ e. same x) (λ e. refl)

    by : (o : Option Session) → session_of w.sessions n ≡ o → mapped (λ x. cond (nat_eq x.number k) (f x) x) o ≡ cond (nat_eq k n) (mapped f o) o
    by None e = cond_both (nat_eq k n) None None (λ x. None ≡ x) (λ g. refl) (λ g. refl)
    by (Some x) e = elim (cases_eq k n) [
      | inl at_n ↦ ap (λ y. Some y) (cond-true (nat_eq x.number k) (f x) x (eq-eqb x.number k (of-number w.sessions n x e ∙ sym at_n))) ∙ sym (cond-true (nat_eq k n) (Some (f x)) (Some x) (eq-eqb k n at_n))
      | inr off ↦ ap (λ y. Some y) (cond-false (nat_eq x.number k) (f x) x (ne_eqb x.number k (λ g. off (sym g ∙ of-number w.sessions n x e)))) ∙ sym (cond-false (nat_eq k n) (Some (f x)) (Some x) (ne_eqb k n off))
    ]

mapped-some : (f : Session → Session) (o : Option Session) → is_some (mapped f o) ≡ is_some o
mapped-some f None = refl
mapped-some f (Some s) = refl

changing-alive : (w : World) (k n : ℕ) (f : Session → Session) → ((s : Session) → (f s).number ≡ s.number) → is_some (session_of (changing w k f).sessions n) ≡ is_some (session_of w.sessions n)
changing-alive w k n f same = ap is_some (of-changing w k n f same) ∙ cond_both (nat_eq k n) (mapped f (session_of w.sessions n)) (session_of w.sessions n) (λ o. is_some o ≡ is_some (session_of w.sessions n)) (λ e. mapped-some f (session_of w.sessions n)) (λ e. refl)

-- the session found is the changed one, or another one as it was
record Found (w : World) (k m : ℕ) (f : Session → Session) (x : Session) : Type 0 where
  before : Session
  is : session_of w.sessions m ≡ Some before
  so : x ≡ cond (nat_eq k m) (f before) before

found : (w : World) (k m : ℕ) (f : Session → Session) (x : Session) → ((s : Session) → (f s).number ≡ s.number) → session_of (changing w k f).sessions m ≡ Some x → Found w k m f x
found w k m f x same e = by (session_of w.sessions m) refl (nat_eq k m) refl (sym (of-changing w k m f same) ∙ e)
  where
    by : (o : Option Session) → session_of w.sessions m ≡ o → (b : Bool) → nat_eq k m ≡ b → cond b (mapped f (session_of w.sessions m)) (session_of w.sessions m) ≡ Some x → Found w k m f x
    by None g true h i = absurd (let j : None ≡ Some x = ap (mapped f) (sym g) ∙ i in cc)
    by None g false h i = absurd (let j : None ≡ Some x = sym g ∙ i in cc)
    by (Some s) g true h i = record { before = s; is = g; so = (let j : Some (f s) ≡ Some x = ap (mapped f) (sym g) ∙ i in let l : f s ≡ x = cc in sym l) ∙ sym (cond-true (nat_eq k m) (f s) s h) }
    by (Some s) g false h i = record { before = s; is = g; so = (let j : Some s ≡ Some x = sym g ∙ i in let l : s ≡ x = cc in sym l) ∙ sym (cond-false (nat_eq k m) (f s) s h) }

some-cond : (b : Bool) (x y : Session) → cond b (Some x) (Some y) ≡ Some (cond b x y)
some-cond true x y = refl
some-cond false x y = refl

-- ---- a kept answer: whoever has a link has it still

abbrev pub storing : ℕ → View → ℕ → (List Kept → List Kept) → View
storing n v k stored = record { holder = v.holder; alive = v.alive; cache = cond (nat_eq k n) (stored v.cache) v.cache; next = v.next }

-- of a session that is there
pub view-stored : (w : World) (n k : ℕ) (s : Session) (stored : List Kept → List Kept) → IsSound w → IsSound (storing_in stored w k) → session_of w.sessions k ≡ Some s → view_at (storing_in stored w k) n ≡ storing n (view_at w n) k stored
view-stored w n k s stored sound sound' there =
    λ i. record {
      holder = λ j. holder-is (storing_in stored w k) (holder_of w) sound' to back j i;
      alive = changing-alive w k n f (λ x. refl) i;
      cache = (ap cache_of (of-changing w k n f (λ x. refl)) ∙ cache (nat_eq k n) refl) i;
      next = w.next_link;
    }
  where
    f : Session → Session
    f = λ x. record x { cache = stored x.cache }

    cache : (b : Bool) → nat_eq k n ≡ b → cache_of (cond b (mapped f (session_of w.sessions n)) (session_of w.sessions n)) ≡ cond b (stored (cache_of (session_of w.sessions n))) (cache_of (session_of w.sessions n))
    cache true e = let is : session_of w.sessions n ≡ Some s = ap (session_of w.sessions) (sym (eqb-true k n e)) ∙ there in (λ i. cache_of (mapped f (is i))) ∙ ap (λ o. stored (cache_of o)) (sym is)
    cache false e = refl

    place : (m : ℕ) (x : Session) → (cond (nat_eq k m) (f x) x).place ≡ x.place
    place m x = cond_both (nat_eq k m) (f x) x (λ y. y.place ≡ x.place) (λ e. refl) (λ e. refl)

    to : (m j : ℕ) → Has (storing_in stored w k).sessions m j → holder_of w j ≡ Some m
    to m j h = let b = found w k m f h.session (λ x. refl) h.is in
        has-holds w.sessions m j (sound-numbers w sound) (sound-links w sound j) (record { session = b.before; is = b.is; on = sym (place m b.before) ∙ ap (λ (y : Session). y.place) (sym b.so) ∙ h.on })

    back : (m j : ℕ) → holder_of w j ≡ Some m → Has (storing_in stored w k).sessions m j
    back m j e = let h = holds-has w.sessions m j (sound-numbers w sound) e in
        record {
          session = cond (nat_eq k m) (f h.session) h.session;
          is = of-changing w k m f (λ x. refl) ∙ ap (λ o. cond (nat_eq k m) (mapped f o) o) h.is ∙ some-cond (nat_eq k m) (f h.session) h.session;
          on = place m h.session ∙ h.on;
        }

-- ---- a lost link

pub view-detached : (w : World) (n l moment : ℕ) (s : Session) → IsSound w → IsSound (detaching w s.number moment) → OnLink w l s → view_at (detaching w s.number moment) n ≡ detached (view_at w n) l
view-detached w n l moment s sound sound' o =
    λ i. record {
      holder = λ j. holder-is (detaching w s.number moment) (set (holder_of w) l None) sound' to back j i;
      alive = changing-alive w s.number n f (λ x. refl) i;
      cache = (ap cache_of (of-changing w s.number n f (λ x. refl)) ∙ cache (nat_eq s.number n) (session_of w.sessions n)) i;
      next = w.next_link;
    }
  where
    f : Session → Session
    f = λ x. record x { place = Detached moment }

    mine : Has w.sessions s.number l
    mine = record { session = s; is = o.is; on = o.on }

    cache : (b : Bool) (x : Option Session) → cache_of (cond b (mapped f x) x) ≡ cache_of x
    cache true None = refl
    cache true (Some x) = refl
    cache false x = refl

    before : (m j : ℕ) → Has (detaching w s.number moment).sessions m j → (s.number ≡ m → ⊥) × Has w.sessions m j
    before m j h =
        let b = found w s.number m f h.session (λ x. refl) h.is in
        let on : (cond (nat_eq s.number m) (f b.before) b.before).place ≡ Attached (link_number j) = ap (λ (y : Session). y.place) (sym b.so) ∙ h.on in
        cond_both (nat_eq s.number m) (f b.before) b.before (λ y. y.place ≡ Attached (link_number j) → (s.number ≡ m → ⊥) × Has w.sessions m j)
        (λ e g. absurd (let i : Detached moment ≡ Attached (link_number j) = g in cc)) (λ e g. (eqb-false s.number m e, record { session = b.before; is = b.is; on = g })) on

    to : (m j : ℕ) → Has (detaching w s.number moment).sessions m j → set (holder_of w) l None j ≡ Some m
    to m j h = let b = before m j h in
        cond-false (nat_eq j l) None (holder_of w j) (ne_eqb j l (λ e. b.0 (sound-links w sound l s.number m mine (record { session = b.1.session; is = b.1.is; on = b.1.on ∙ ap (λ k. Attached (link_number k)) e }))))
        ∙ has-holds w.sessions m j (sound-numbers w sound) (sound-links w sound j) b.1

    back : (m j : ℕ) → set (holder_of w) l None j ≡ Some m → Has (detaching w s.number moment).sessions m j
    back m j = cond_both (nat_eq j l) None (holder_of w j) (λ x. x ≡ Some m → Has (detaching w s.number moment).sessions m j) (λ e g. absurd (cc))
        (λ e g. let h = holds-has w.sessions m j (sound-numbers w sound) g in
        record {
          session = h.session;
          is = of-changing w s.number m f (λ x. refl) ∙ cond-false (nat_eq s.number m) (mapped f (session_of w.sessions m)) (session_of w.sessions m) (ne_eqb s.number m (λ i. eqb-false j l e (one-link w.sessions m j l h (record { session = s; is = ap (session_of w.sessions) (sym i) ∙ o.is; on = o.on })))) ∙ h.is;
          on = h.on;
        })

-- ---- DisconnectOldSession

pub view-adopted : (w : World) (n l : ℕ) (s old : Session) → IsSound w → IsSound (adopting w l s.number old.number) → OnLink w l s → session_of w.sessions old.number ≡ Some old → (old.number ≡ s.number → ⊥)
    → view_at (adopting w l s.number old.number) n ≡ adopted n (view_at w n) l s.number old.number
view-adopted w n l s old sound sound' o there other =
    λ i. record {
      holder = λ j. holder-is v (set (λ j. cond (is_number old.number (holder_of w j)) None (holder_of w j)) l (Some old.number)) sound' to back j i;
      alive = (changing-alive mid old.number n f (λ x. refl) ∙ ap is_some (without n) ∙ alive (nat_eq s.number n) (session_of w.sessions n)) i;
      cache = (ap cache_of (of-changing mid old.number n f (λ x. refl)) ∙ same_cache (nat_eq old.number n) (session_of mid.sessions n) ∙ ap cache_of (without n) ∙ cache (nat_eq s.number n) (session_of w.sessions n)) i;
      next = w.next_link;
    }
  where
    f : Session → Session
    f = λ x. record x { place = Attached (link_number l) }

    mid : World
    mid = without_session w s.number

    v : World
    v = adopting w l s.number old.number

    without : (m : ℕ) → session_of mid.sessions m ≡ cond (nat_eq s.number m) None (session_of w.sessions m)
    without m = of-without w.sessions s.number m (sound-numbers w sound)

    alive : (b : Bool) (x : Option Session) → is_some (cond b None x) ≡ cond b false (is_some x)
    alive true x = refl
    alive false x = refl

    cache : (b : Bool) (x : Option Session) → cache_of (cond b None x) ≡ cond b [] (cache_of x)
    cache true x = refl
    cache false x = refl

    same_cache : (b : Bool) (x : Option Session) → cache_of (cond b (mapped f x) x) ≡ cache_of x
    same_cache true None = refl
    same_cache true (Some x) = refl
    same_cache false x = refl

    mine : Has w.sessions s.number l
    mine = record { session = s; is = o.is; on = o.on }

    old_there : session_of mid.sessions old.number ≡ Some old
    old_there = without old.number ∙ cond-false (nat_eq s.number old.number) None (session_of w.sessions old.number) (ne_eqb s.number old.number (λ e. other (sym e))) ∙ there

    here : session_of v.sessions old.number ≡ Some (f old)
    here = of-changing mid old.number old.number f (λ x. refl) ∙ cond-true (nat_eq old.number old.number) (mapped f (session_of mid.sessions old.number)) (session_of mid.sessions old.number) (eq-eqb old.number old.number refl) ∙ ap (mapped f) old_there

    if_some : (b : Bool) (x : Option Session) (y : Session) → cond b None x ≡ Some y → (b ≡ false) × (x ≡ Some y)
    if_some true x y e = absurd (cc)
    if_some false x y e = (refl, e)

    before : (m j : ℕ) → Has v.sessions m j → ((old.number ≡ m) × (j ≡ l)) ⊎ ((old.number ≡ m → ⊥) × (s.number ≡ m → ⊥) × Has w.sessions m j)
    before m j h =
        let b = found mid old.number m f h.session (λ x. refl) h.is in
        let was = if_some (nat_eq s.number m) (session_of w.sessions m) b.before (sym (without m) ∙ b.is) in
        let on : (cond (nat_eq old.number m) (f b.before) b.before).place ≡ Attached (link_number j) = ap (λ (y : Session). y.place) (sym b.so) ∙ h.on in
        cond_both (nat_eq old.number m) (f b.before) b.before (λ y. y.place ≡ Attached (link_number j) → ((old.number ≡ m) × (j ≡ l)) ⊎ ((old.number ≡ m → ⊥) × (s.number ≡ m → ⊥) × Has w.sessions m j))
        (λ e g. inl (eqb-true old.number m e, (let i : Attached (link_number l) ≡ Attached (link_number j) = g in let p : link_number l ≡ link_number j = cc in sym (ap (λ (x : LinkNumber). x.0) p))))
        (λ e g. inr (eqb-false old.number m e, eqb-false s.number m was.0, record { session = b.before; is = was.1; on = g })) on

    to : (m j : ℕ) → Has v.sessions m j → set (λ j. cond (is_number old.number (holder_of w j)) None (holder_of w j)) l (Some old.number) j ≡ Some m
    to m j h = elim (before m j h) [
      | inl new ↦ cond-true (nat_eq j l) (Some old.number) (cond (is_number old.number (holder_of w j)) None (holder_of w j)) (eq-eqb j l new.1) ∙ ap (λ k. Some k) new.0
      | inr rest ↦
          let holds : holder_of w j ≡ Some m = has-holds w.sessions m j (sound-numbers w sound) (sound-links w sound j) rest.2 in
          cond-false (nat_eq j l) (Some old.number) (cond (is_number old.number (holder_of w j)) None (holder_of w j)) (ne_eqb j l (λ e. rest.1 (sound-links w sound l s.number m mine (record { session = rest.2.session; is = rest.2.is; on = rest.2.on ∙ ap (λ k. Attached (link_number k)) e }))))
          ∙ cond-false (is_number old.number (holder_of w j)) None (holder_of w j) (ap (is_number old.number) holds ∙ ne_eqb m old.number (λ e. rest.0 (sym e))) ∙ holds
    ]

    back : (m j : ℕ) → set (λ j. cond (is_number old.number (holder_of w j)) None (holder_of w j)) l (Some old.number) j ≡ Some m → Has v.sessions m j
    back m j = cond_both (nat_eq j l) (Some old.number) (cond (is_number old.number (holder_of w j)) None (holder_of w j)) (λ x. x ≡ Some m → Has v.sessions m j)
        (λ e g. let i : old.number ≡ m = cc in record { session = f old; is = ap (session_of v.sessions) (sym i) ∙ here; on = ap (λ k. Attached (link_number k)) (sym (eqb-true j l e)) })
        (λ e. cond_both (is_number old.number (holder_of w j)) None (holder_of w j) (λ x. x ≡ Some m → Has v.sessions m j) (λ g h. absurd (cc))
        (λ g h. let has = holds-has w.sessions m j (sound-numbers w sound) h in
        record {
          session = has.session;
          is = of-changing mid old.number m f (λ x. refl)
              ∙ cond-false (nat_eq old.number m) (mapped f (session_of mid.sessions m)) (session_of mid.sessions m) (ne_eqb old.number m (λ i. true≢false (sym (ap (is_number old.number) h ∙ eq-eqb m old.number (sym i)) ∙ g)))
              ∙ without m ∙ cond-false (nat_eq s.number m) None (session_of w.sessions m) (ne_eqb s.number m (λ i. eqb-false j l e (one-link w.sessions m j l has (record { session = s; is = ap (session_of w.sessions) (sym i) ∙ o.is; on = o.on })))) ∙ has.is;
          on = has.on;
        }))
