-- What the proof of once across breaks sees of a world, and how calls change it.
use Rattle.std.proofs.Common.{◌≡◌, ◌≢◌, ◌∙◌, ◌⊎◌, inl, inr, refl, sym, ap, ℕ, Bool, true, false, cond, List, [], Option, Some, None}
use Rattle.std.specs.Prelude.{nat_eq, not, is_some}
use Rattle.std.proofs.lemmas.Bool.{cond_both, eqb-true, eqb-false, eq-eqb, ne_eqb, false≢true, cond-true, cond-false, cases_eq}
use Rattle.afp_calls_grammar.specs.declared.grammar.call.Call.{Call}
use Rattle.afp_serial.specs.declared.attachment.Attachment.{Attachment}
use Rattle.afp_serial.specs.declared.attachment.Attachment.TheVariants.{Attached}
use Rattle.afp_base.specs.declared.ids.LinkNumber.{LinkNumber}
use Rattle.afp_serial.specs.Answer.{without_expired, link_number}
use Rattle.afp_serial.specs.Rows.{effect}
use Rattle.afp_serial.specs.Sound.{IsSound}
use Rattle.afp_serial.specs.World.{is_expired, Session, World, session_at, without_session}
use Rattle.afp_serial.proofs.RowsSound.{row-sound}
use Rattle.afp_serial.specs.SessionLaws.{SessionsAfter, all_stay, asking_changes, logs_in, moves_sessions}
use Rattle.afp_serial.specs.SessionViews.{view_at, number_of, cache_of, session_of, set, ended, swept}
use Rattle.afp_serial.proofs.SessionLists.{session_on, NumbersDiffer, with_one, of-filter, pick, of-without, of-with, at-found, at-none, links-from, numbers-from}
use Rattle.afp_serial.proofs.SoundParts.{sessions-parts}

-- ---- what soundness says of sessions

pub sound-numbers : (w : World) → IsSound w → NumbersDiffer w.sessions
sound-numbers w s = numbers-from w.sessions (sessions-parts w s.sessions).numbers

-- the session m has the link j
pub record Has (ss : List Session) (m j : ℕ) : Type 0 where
  pub session : Session
  pub is : session_of ss m ≡ Some session
  pub on : session.place ≡ Attached (link_number j)

pub has-holds : (ss : List Session) (m j : ℕ) → NumbersDiffer ss → ((m n : ℕ) → Has ss m j → Has ss n j → m ≡ n) → Has ss m j → number_of (session_on ss j) ≡ Some m
has-holds ss m j d links h = by (session_on ss j) refl
  where
    by : (o : Option Session) → session_on ss j ≡ o → number_of o ≡ Some m
    by None e = absurd (at-none ss j m h.session e h.is h.on)
    by (Some s) e = let f = at-found ss j s d e in ap (λ k. Some k) (links s.number m (record { session = s; is = f.0; on = f.1 }) h)

pub holds-has : (ss : List Session) (m j : ℕ) → NumbersDiffer ss → number_of (session_on ss j) ≡ Some m → Has ss m j
holds-has ss m j d e = by (session_on ss j) refl e
  where
    by : (o : Option Session) → session_on ss j ≡ o → number_of o ≡ Some m → Has ss m j
    by None f g = absurd (cc)
    by (Some s) f g = let x = at-found ss j s d f in let same : s.number ≡ m = cc in record { session = s; is = ap (session_of ss) (sym same) ∙ x.0; on = x.1 }

pub sound-links : (w : World) → IsSound w → (j m n : ℕ) → Has w.sessions m j → Has w.sessions n j → m ≡ n
sound-links w s j m n a b = links-from w.sessions (sessions-parts w s.sessions).links m n j a.session b.session a.is b.is a.on b.on

same-option : (a b : Option ℕ) → ((m : ℕ) → a ≡ Some m → b ≡ Some m) → ((m : ℕ) → b ≡ Some m → a ≡ Some m) → a ≡ b
same-option None None f g = refl
same-option None (Some m) f g = g m refl
same-option (Some m) b f g = sym (f m refl)

-- who has which link in a sound world, from who is said to
pub holder-is : (w : World) (f : ℕ → Option ℕ) → IsSound w → ((m j : ℕ) → Has w.sessions m j → f j ≡ Some m) → ((m j : ℕ) → f j ≡ Some m → Has w.sessions m j) → (j : ℕ) → number_of (session_at w j) ≡ f j
holder-is w f sound to back j =
    same-option (number_of (session_at w j)) (f j)
    (λ m e. to m j (holds-has w.sessions m j (sound-numbers w sound) e))
    (λ m e. has-holds w.sessions m j (sound-numbers w sound) (sound-links w sound j) (back m j e))

-- ---- a row that leaves sessions as they are, or changes one but for number, place and cache

-- both sides in one list
kept-found : (w : World) (s t : Session) (m : ℕ) (x : Session) → session_of w.sessions s.number ≡ Some s → t.number ≡ s.number → session_of (with_one w.sessions t) m ≡ Some x → ((s.number ≡ m) × (x ≡ t)) ⊎ ((s.number ≡ m → ⊥) × (session_of w.sessions m ≡ Some x))
kept-found w s t m x is number e =
    elim (cases_eq s.number m) [
      | inl at_m ↦ inl (at_m, (let f : Some t ≡ Some x = sym (of ∙ cond-true (nat_eq t.number m) (Some t) (session_of w.sessions m) (eq-eqb t.number m (number ∙ at_m))) ∙ e in cc))
      | inr off ↦ inr (off, sym (of ∙ cond-false (nat_eq t.number m) (Some t) (session_of w.sessions m) (ne_eqb t.number m (λ f. off (sym number ∙ f)))) ∙ e)
    ]
  where
    of : session_of (with_one w.sessions t) m ≡ cond (nat_eq t.number m) (Some t) (session_of w.sessions m)
    of = of-with w.sessions t s m (ap (session_of w.sessions) number ∙ is)

plain-view : (logs : Bool) (w v : World) (s : Session) (n : ℕ) → IsSound w → IsSound v → session_of w.sessions s.number ≡ Some s → v.next_link ≡ w.next_link → SessionsAfter logs w s v → view_at v n ≡ view_at w n
plain-view logs w v s n sound sound' is next (all_stay e) = λ i. record { holder = λ l. number_of (session_on (e i) l); alive = is_some (session_of (e i) n); cache = cache_of (session_of (e i) n); next = next i }
plain-view logs w v s n sound sound' is next (asking_changes t number place cache user e) =
    λ i. record {
      holder = λ j. holder-is v (λ l. number_of (session_at w l)) sound' to back j i;
      alive = found i;
      cache = kept i;
      next = next i;
    }
  where
    ss' : List Session
    ss' = with_one w.sessions t

    of : (m : ℕ) → session_of v.sessions m ≡ cond (nat_eq t.number m) (Some t) (session_of w.sessions m)
    of m = ap (λ ss. session_of ss m) e ∙ of-with w.sessions t s m (ap (session_of w.sessions) number ∙ is)

    at_n : t.number ≡ n → session_of w.sessions n ≡ Some s
    at_n f = ap (session_of w.sessions) (sym f ∙ number) ∙ is

    found : is_some (session_of v.sessions n) ≡ is_some (session_of w.sessions n)
    found = ap is_some (of n) ∙ cond_both (nat_eq t.number n) (Some t) (session_of w.sessions n) (λ o. is_some o ≡ is_some (session_of w.sessions n)) (λ f. sym (ap is_some (at_n (eqb-true t.number n f)))) (λ f. refl)

    kept : cache_of (session_of v.sessions n) ≡ cache_of (session_of w.sessions n)
    kept = ap cache_of (of n) ∙ cond_both (nat_eq t.number n) (Some t) (session_of w.sessions n) (λ o. cache_of o ≡ cache_of (session_of w.sessions n)) (λ f. cache ∙ sym (ap cache_of (at_n (eqb-true t.number n f)))) (λ f. refl)

    to : (m j : ℕ) → Has v.sessions m j → number_of (session_at w j) ≡ Some m
    to m j h = has-holds w.sessions m j (sound-numbers w sound) (sound-links w sound j)
        (elim (kept-found w s t m h.session is number (sym (ap (λ ss. session_of ss m) e) ∙ h.is)) [
          | inl here ↦ record { session = s; is = ap (session_of w.sessions) (sym here.0) ∙ is; on = sym place ∙ ap (λ (y : Session). y.place) (sym here.1) ∙ h.on }
          | inr there ↦ record { session = h.session; is = there.1; on = h.on }
        ])

    back : (m j : ℕ) → number_of (session_at w j) ≡ Some m → Has v.sessions m j
    back m j f = let h = holds-has w.sessions m j (sound-numbers w sound) f in elim (cases_eq t.number m) [
      | inl at_m ↦ record { session = t; is = of m ∙ cond-true (nat_eq t.number m) (Some t) (session_of w.sessions m) (eq-eqb t.number m at_m); on = place ∙ (let g : Some h.session ≡ Some s = sym h.is ∙ ap (session_of w.sessions) (sym at_m ∙ number) ∙ is in let k : h.session ≡ s = cc in ap (λ (y : Session). y.place) (sym k)) ∙ h.on }
      | inr off ↦ record { session = h.session; is = of m ∙ cond-false (nat_eq t.number m) (Some t) (session_of w.sessions m) (ne_eqb t.number m off) ∙ h.is; on = h.on }
    ]

-- The view behind a call that moves no session is the view before it.
pub row-view : (w : World) (s : Session) (call : Call) (n : ℕ) → moves_sessions call ≡ false → IsSound w → IsSound (effect w s call).world → session_of w.sessions s.number ≡ Some s → view_at (effect w s call).world n ≡ view_at w n
row-view w s call n stays sound sound' is = plain-view (logs_in call) w (effect w s call).world s n sound sound' is ((row-sound call).next w s) ((row-sound call).leaves stays w s)

-- ---- how else an ask changes the view

abbrev pub holder_of : World → ℕ → Option ℕ
holder_of w j = number_of (session_at w j)

pub one-link : (ss : List Session) (m i j : ℕ) → Has ss m i → Has ss m j → i ≡ j
one-link ss m i j a b =
    let e : Some a.session ≡ Some b.session = sym a.is ∙ b.is in
    let f : a.session ≡ b.session = cc in
    let g : Attached (link_number i) ≡ Attached (link_number j) = sym a.on ∙ ap (λ (y : Session). y.place) f ∙ b.on in
    let h : link_number i ≡ link_number j = cc in
    ap (λ (l : LinkNumber). l.0) h

if-some : (b : Bool) (o : Option Session) (s : Session) → cond b None o ≡ Some s → (b ≡ false) × (o ≡ Some s)
if-some true o s e = absurd (cc)
if-some false o s e = (refl, e)

some-alive : (b : Bool) (o : Option Session) → is_some (cond b None o) ≡ cond b false (is_some o)
some-alive true o = refl
some-alive false o = refl

some-cache : (b : Bool) (o : Option Session) → cache_of (cond b None o) ≡ cond b [] (cache_of o)
some-cache true o = refl
some-cache false o = refl

-- the session that has a link
pub record OnLink (w : World) (l : ℕ) (s : Session) : Type 0 where
  pub is : session_of w.sessions s.number ≡ Some s
  pub on : s.place ≡ Attached (link_number l)

pub on-link : (w : World) (l : ℕ) (s : Session) → IsSound w → session_at w l ≡ Some s → OnLink w l s
on-link w l s sound e = let x = at-found w.sessions l s (sound-numbers w sound) e in record { is = x.0; on = x.1 }

-- FPLogout, Bye, and a lost link of a session without a user
pub view-ended : (w : World) (n l : ℕ) (s : Session) → IsSound w → IsSound (without_session w s.number) → OnLink w l s → view_at (without_session w s.number) n ≡ ended n (view_at w n) l s.number
view-ended w n l s sound sound' o =
    λ i. record {
      holder = λ j. holder-is (without_session w s.number) (set (holder_of w) l None) sound' to back j i;
      alive = (ap is_some (of n) ∙ some-alive (nat_eq s.number n) (session_of w.sessions n)) i;
      cache = (ap cache_of (of n) ∙ some-cache (nat_eq s.number n) (session_of w.sessions n)) i;
      next = w.next_link;
    }
  where
    ss' : List Session
    ss' = (without_session w s.number).sessions

    of : (m : ℕ) → session_of ss' m ≡ cond (nat_eq s.number m) None (session_of w.sessions m)
    of m = of-without w.sessions s.number m (sound-numbers w sound)

    before : (m : ℕ) (t : Session) → session_of ss' m ≡ Some t → (s.number ≡ m → ⊥) × (session_of w.sessions m ≡ Some t)
    before m t e = let x = if-some (nat_eq s.number m) (session_of w.sessions m) t (sym (of m) ∙ e) in (eqb-false s.number m x.0, x.1)

    mine : Has w.sessions s.number l
    mine = record { session = s; is = o.is; on = o.on }

    to : (m j : ℕ) → Has ss' m j → set (holder_of w) l None j ≡ Some m
    to m j h =
        let b = before m h.session h.is in
        let has : Has w.sessions m j = record { session = h.session; is = b.1; on = h.on } in
        cond-false (nat_eq j l) None (holder_of w j) (ne_eqb j l (λ e. b.0 (sound-links w sound l s.number m mine (record { session = h.session; is = b.1; on = h.on ∙ ap (λ k. Attached (link_number k)) e }))))
        ∙ has-holds w.sessions m j (sound-numbers w sound) (sound-links w sound j) has

    back : (m j : ℕ) → set (holder_of w) l None j ≡ Some m → Has ss' m j
    back m j = cond_both (nat_eq j l) None (holder_of w j) (λ x. x ≡ Some m → Has ss' m j) (λ e f. absurd (cc))
        (λ e f. let h = holds-has w.sessions m j (sound-numbers w sound) f in
        record {
          session = h.session;
          is = of m ∙ cond-false (nat_eq s.number m) None (session_of w.sessions m) (ne_eqb s.number m (λ g. eqb-false j l e (one-link w.sessions m j l h (record { session = s; is = ap (session_of w.sessions) (sym g) ∙ o.is; on = o.on })))) ∙ h.is;
          on = h.on;
        })

-- Pulse
pub view-swept : (w : World) (n : ℕ) → IsSound w → IsSound (without_expired w) → (view_at (without_expired w) n ≡ view_at w n) ⊎ ((view_at (without_expired w) n ≡ swept (view_at w n)) × ((j : ℕ) → holder_of w j ≢ Some n))
view-swept w n sound sound' = by (session_of w.sessions n) refl
  where
    stays : Session → Bool
    stays = λ s. not (is_expired w.latest s.place)

    ss' : List Session
    ss' = (without_expired w).sessions

    of : (m : ℕ) → session_of ss' m ≡ pick stays (session_of w.sessions m)
    of m = of-filter stays w.sessions m (sound-numbers w sound)

    attached : (j : ℕ) (p : Attachment) → p ≡ Attached (link_number j) → not (is_expired w.latest p) ≡ true
    attached j p e = ap (λ x. not (is_expired w.latest x)) e

    some : (o : Option Session) (s : Session) → pick stays o ≡ Some s → o ≡ Some s
    some None s e = absurd (cc)
    some (Some t) s e = cond_both (stays t) (Some t) None (λ x. x ≡ Some s → Some t ≡ Some s) (λ f g. g) (λ f g. absurd (cc)) e

    to : (m j : ℕ) → Has ss' m j → holder_of w j ≡ Some m
    to m j h = has-holds w.sessions m j (sound-numbers w sound) (sound-links w sound j) (record { session = h.session; is = some (session_of w.sessions m) h.session (sym (of m) ∙ h.is); on = h.on })

    back : (m j : ℕ) → holder_of w j ≡ Some m → Has ss' m j
    back m j e = let h = holds-has w.sessions m j (sound-numbers w sound) e in record { session = h.session; is = of m ∙ ap (pick stays) h.is ∙ cond-true (stays h.session) (Some h.session) None (attached j h.session.place h.on); on = h.on }

    kept : (o : Option Session) → session_of w.sessions n ≡ o → pick stays o ≡ o → view_at (without_expired w) n ≡ view_at w n
    kept o e f = let is : session_of ss' n ≡ session_of w.sessions n = of n ∙ ap (pick stays) e ∙ f ∙ sym e in
        λ i. record { holder = λ j. holder-is (without_expired w) (holder_of w) sound' to back j i; alive = is_some (is i); cache = cache_of (is i); next = w.next_link }

    stay : (s : Session) (b : Bool) → session_of w.sessions n ≡ Some s → stays s ≡ b → (view_at (without_expired w) n ≡ view_at w n) ⊎ ((view_at (without_expired w) n ≡ swept (view_at w n)) × ((j : ℕ) → holder_of w j ≢ Some n))
    stay s true e f = inl (kept (Some s) e (cond-true (stays s) (Some s) None f))
    stay s false e f =
        let is : session_of ss' n ≡ None = of n ∙ ap (pick stays) e ∙ cond-false (stays s) (Some s) None f in
        inr (
          (λ i. record { holder = λ j. holder-is (without_expired w) (holder_of w) sound' to back j i; alive = is_some (is i); cache = cache_of (is i); next = w.next_link }),
          λ j holds. let h = holds-has w.sessions n j (sound-numbers w sound) holds in
              let g : Some h.session ≡ Some s = sym h.is ∙ e in let k : h.session ≡ s = cc in
              false≢true (sym f ∙ attached j s.place (ap (λ (y : Session). y.place) (sym k) ∙ h.on)),
        )

    by : (o : Option Session) → session_of w.sessions n ≡ o → (view_at (without_expired w) n ≡ view_at w n) ⊎ ((view_at (without_expired w) n ≡ swept (view_at w n)) × ((j : ℕ) → holder_of w j ≢ Some n))
    by None e = inl (kept None e refl)
    by (Some s) e = stay s (stays s) e refl
