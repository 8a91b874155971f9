-- The plain laws of sessions.
use Rattle.std.proofs.Common.{◌≡◌, ◌∙◌, ap, sym, refl, ℕ, zero, suc, ◌+◌, ◌<◌, Bool, true, false, not, cond, eqb, List, [], ◌∷◌, ◌++◌, take, arith, ◌⊎◌, inl, inr, Option, Some, None}
use Rattle.std.specs.Prelude.{slice_get, ◌==◌, ◌||◌}
use Rattle.std.proofs.lemmas.Bool.{cond_both, eq-eqb, eqb-true, false≢true, or_cases}
use Rattle.std.proofs.lemmas.List.Folds.{list_any-append}
use Rattle.std.proofs.lemmas.List.Sums.{sum_by-cons}
use Rattle.afp_base.specs.Cached.{Request, Answer}
use Rattle.afp_base.specs.declared.code.Code.TheVariants as code
use Rattle.afp_base.specs.declared.ids.LinkNumber.{LinkNumber}
use Rattle.afp_serial.proofs.Closed.{ending-apart}
use Rattle.afp_serial.proofs.FreshWorld.{start-apart}
use Rattle.afp_serial.proofs.Keeps.{AnyCall, Keeps, after-keeps, nothing-known}
use Rattle.afp_serial.proofs.KeptAnswers.{kept-apart, kept-old}
use Rattle.afp_serial.proofs.Opened.{opened-apart}
use Rattle.afp_serial.proofs.OtherPlaces.{waiting, waits-apart}
use Rattle.afp_serial.proofs.Replaced.{replaced-old}
use Rattle.afp_serial.proofs.RowsSound.{row-sound}
use Rattle.afp_serial.proofs.SoundParts.{ApartSessions, same_link}
use Rattle.afp_serial.specs.declared.ask.Ask.{Ask}
use Rattle.afp_serial.specs.declared.ask.Ask.TheVariants as ask
use Rattle.afp_serial.specs.declared.ask.Entry.{Entry}
use Rattle.afp_serial.specs.declared.ask.Outcome.{Outcome}
use Rattle.afp_serial.specs.declared.ask.Outcome.TheVariants as outcome
use Rattle.afp_serial.specs.declared.ask.Told.{Told}
use Rattle.afp_serial.specs.declared.ask.Told.TheVariants as told
use Rattle.afp_serial.specs.Answer.{answer, after, answer_at, after_at, after_call, after_lost, after_parting, after_verdict, losing, newly_kept, is_full, link_number, new_session, refusal_reply, request, told_call, told_parting, told_pulse, told_verdict, with_new_session, Verdict, repeats, refused, runs, verdict}
use Rattle.afp_serial.specs.KeptAnswers.{keeping}
use Rattle.afp_serial.specs.History.{answers, is_opened, opened_in, stand}
use Rattle.afp_serial.specs.Laws.{LinksDiffer, CountsSessions, NeverTwice, OnlyOpens, OpensNew}
use Rattle.afp_serial.specs.World.{is_expired, has_session, session_at, World, Session, at_moment, start_world}
use Rattle.afp_serial.specs.Sound.{share_link}
use Rattle.afp_base.proofs.Facts.{never}
use Rattle.afp_base.proofs.ListFacts.{any-filter, apart-places}

-- no two sessions have one link

apart-keeps : Keeps AnyCall ApartSessions
apart-keeps = record {
  opens = λ w room a. opened-apart w a;
  calls = λ w s call test none found passes a. (row-sound call).apart w s test found a;
  ends = ending-apart;
  drains = λ w a. record { numbers = a.numbers; links = a.links; below = a.below };
  loses = λ w s test found a. waits-apart w s test found a;
  stores = λ w s r test o a knows found is h q. kept-apart (after_verdict w s (verdict w s r) o) s.number r a q;
}

stand-apart : (w : World) (h : List Entry) → ApartSessions w → ApartSessions (stand w h)
stand-apart w [] a = a
stand-apart w (e ∷ es) a = stand-apart (after w e) es (after-keeps apart-keeps w e (nothing-known e.ask) (record { numbers = a.numbers; links = a.links; below = a.below }))

pub links-differ : LinksDiffer
links-differ house now volumes h j k s t a b less at_j at_k on_a on_b same =
    let w : World = stand (start_world house now volumes) h in
    let apart : ApartSessions w = stand-apart (start_world house now volumes) h (start-apart house now volumes) in
    never (share_link s.place t.place)
    ((λ i. share_link (on_a i) (on_b i)) ∙ eq-eqb a.0 b.0 (ap (λ (l : LinkNumber). l.0) same))
    (apart-places same_link w.sessions j k s t apart.links less at_j at_k)

-- only an Open is told Opened, and it alone draws a number

-- what an entry that is no Open does: it is told no number, draws none, and makes no session
record DrawsNone (w : World) (t : Told) (v : World) : Type 0 where
  told : is_opened t ≡ false
  next : v.next_link ≡ w.next_link
  old : (n : ℕ) → has_session v.sessions n ≡ true → has_session w.sessions n ≡ true

verdict-draws : (w : World) (s : Session) (v : Verdict) (o : Outcome) → DrawsNone w (told_verdict w s v o) (after_verdict w s v o)
verdict-draws w s (repeats a) o = record { told = refl; next = refl; old = λ n h. h }
verdict-draws w s (refused c) o = record { told = refl; next = refl; old = λ n h. h }
verdict-draws w s (runs call) outcome.Fault = record { told = refl; next = refl; old = λ n h. h }
verdict-draws w s (runs call) outcome.Done = record { told = refl; next = (row-sound call).next w s; old = (row-sound call).old w s }

keeping-draws : (w : World) (t : Told) (v : World) (number : ℕ) (r : Request) (a : Option Answer) → DrawsNone w t v → DrawsNone w t (keeping v number r a)
keeping-draws w t v number r None d = d
keeping-draws w t v number r (Some a) d = record { told = d.told; next = d.next; old = λ n h. d.old n (kept-old v number r a n h) }

call-draws : (w : World) (session : Option Session) (r : Request) (o : Outcome) → DrawsNone w (told_call w session r o) (after_call w session r o)
call-draws w None r o = record { told = refl; next = refl; old = λ n h. h }
call-draws w (Some s) r o =
    let v : Verdict = verdict w s r in
    keeping-draws w (told_verdict w s v o) (after_verdict w s v o) s.number r (newly_kept r v (told_verdict w s v o)) (verdict-draws w s v o)

pulse-told : (w : World) (link : ℕ) (session : Option Session) → is_opened (told_pulse w link session) ≡ false
pulse-told w link None = cond_both (eqb link 0) (told.Live w.drain) told.Displaced (λ t. is_opened t ≡ false) (λ none. refl) (λ other. refl)
pulse-told w link (Some s) = refl

parting-draws : (w : World) (session : Option Session) → DrawsNone w (told_parting session) (after_parting w session)
parting-draws w None = record { told = refl; next = refl; old = λ n h. h }
parting-draws w (Some s) = record { told = refl; next = refl; old = λ n h. any-filter (λ x. x.number == n) (λ x. not (x.number == s.number)) w.sessions h }

losing-draws : (w : World) (s : Session) (user : Option ℕ) → DrawsNone w told.Done (losing w s user)
losing-draws w s None = record { told = refl; next = refl; old = λ n h. any-filter (λ x. x.number == n) (λ x. not (x.number == s.number)) w.sessions h }
losing-draws w s (Some user) = record { told = refl; next = refl; old = λ n h. replaced-old w (waiting s w.latest) n h }

lost-draws : (w : World) (session : Option Session) → DrawsNone w (told_parting session) (after_lost w session)
lost-draws w None = record { told = refl; next = refl; old = λ n h. h }
lost-draws w (Some s) = losing-draws w s s.user

-- an entry is told the next number and adds a session of it, or draws none
data Draws (w : World) (t : Told) (v : World) : Type 0 where
  new : t ≡ told.Opened (link_number w.next_link) → v ≡ with_new_session w → Draws w t v
  none_new : DrawsNone w t v → Draws w t v

at-draws : (w : World) (link : ℕ) (a : Ask) (o : Outcome) → Draws w (answer_at w link a o) (after_at w link a o)
unfolding answer_at after_at
at-draws w link (ask.Open attention) o = opened (is_full w)
  where
    opened : (full : Bool) → Draws w (cond full (refusal_reply code.NoMoreSessions) (told.Opened (link_number w.next_link))) (cond full w (with_new_session w))
    opened true = none_new (record { told = refl; next = refl; old = λ n h. h })
    opened false = new refl refl
at-draws w link (ask.Call id write offset payload) o = none_new (call-draws w (session_at w link) (request id write offset payload) o)
at-draws w link ask.Pulse o = none_new (record { told = pulse-told w link (session_at w link); next = refl; old = λ n h. any-filter (λ x. x.number == n) (λ x. not (is_expired w.latest x.place)) w.sessions h })
at-draws w link ask.Bye o = none_new (parting-draws w (session_at w link))
at-draws w link ask.Lost o = none_new (lost-draws w (session_at w link))
at-draws w link ask.Drain o = none_new (record { told = refl; next = refl; old = λ n h. h })

-- the number that is told, and the next one

told-next : (w : World) (t : Told) (v : World) (l : LinkNumber) → Draws w t v → t ≡ told.Opened l → (l.0 ≡ w.next_link) × (v ≡ with_new_session w)
told-next w t v l (new is left) opened = (let same : told.Opened (link_number w.next_link) ≡ told.Opened l = sym is ∙ opened in number same, left)
  where
    number : told.Opened (link_number w.next_link) ≡ told.Opened l → l.0 ≡ w.next_link
    number same = let e : link_number w.next_link ≡ l = cc in ap (λ (x : LinkNumber). x.0) (sym e)
told-next w t v l (none_new d) opened = absurd (let e : is_opened (told.Opened l) ≡ false = ap is_opened (sym opened) ∙ d.told in cc)

goes-on : (w : World) (t : Told) (v : World) → Draws w t v → v.next_link ≡ w.next_link + cond (is_opened t) 1 0
goes-on w t v (new is left) = ap (λ (x : World). x.next_link) left ∙ ap (λ (x : Told). w.next_link + cond (is_opened x) 1 0) (sym is)
goes-on w t v (none_new d) = let e : w.next_link ≡ w.next_link + 0 = omega arith in d.next ∙ e ∙ ap (λ (b : Bool). w.next_link + cond b 1 0) (sym d.told)

draws : (w : World) (e : Entry) → Draws (at_moment w e.at) (answer w e) (after w e)
draws w e = at-draws (at_moment w e.at) e.link.0 e.ask e.outcome

counts : (w : World) (h : List Entry) (k : ℕ) (l : LinkNumber) → slice_get (answers w h) k ≡ Some (told.Opened l) → l.0 ≡ w.next_link + opened_in w (take k h)
counts w [] k l is = absurd (cc)
counts w (e ∷ es) zero l is =
    let opened : answer w e ≡ told.Opened l = cc in
    let first : l.0 ≡ w.next_link = (told-next (at_moment w e.at) (answer w e) (after w e) l (draws w e) opened).0 in
    omega arith
counts w (e ∷ es) (suc k) l is =
    let rest : l.0 ≡ (after w e).next_link + opened_in (after w e) (take k es) = counts (after w e) es k l is in
    let next : (after w e).next_link ≡ w.next_link + cond (is_opened (answer w e)) 1 0 = goes-on (at_moment w e.at) (answer w e) (after w e) (draws w e) in
    let all : opened_in w (e ∷ take k es) ≡ cond (is_opened (answer w e)) 1 0 + opened_in (after w e) (take k es) = sum_by-cons (λ (t : Told). cond (is_opened t) 1 0) (answer w e) (answers (after w e) (take k es)) in
    omega arith

rise : (w : World) (h : List Entry) (j k : ℕ) (a b : LinkNumber) → j < k → slice_get (answers w h) j ≡ Some (told.Opened a) → slice_get (answers w h) k ≡ Some (told.Opened b) → a.0 < b.0
rise w [] j k a b less at_j at_k = absurd (cc)
rise w (e ∷ es) j zero a b less at_j at_k = absurd (omega arith)
rise w (e ∷ es) zero (suc k) a b less at_j at_k =
    let opened : answer w e ≡ told.Opened a = cc in
    let both = told-next (at_moment w e.at) (answer w e) (after w e) a (draws w e) opened in
    let first : a.0 ≡ w.next_link = both.0 in
    let next : (after w e).next_link ≡ w.next_link + 1 = ap (λ (x : World). x.next_link) both.1 in
    let later : b.0 ≡ (after w e).next_link + opened_in (after w e) (take k es) = counts (after w e) es k b at_k in
    omega arith
rise w (e ∷ es) (suc j) (suc k) a b less at_j at_k = rise (after w e) es j k a b (omega arith) at_j at_k

pub counts-sessions : CountsSessions
counts-sessions house now volumes h k l is =
    let n : l.0 ≡ 1 + opened_in (start_world house now volumes) (take k h) = counts (start_world house now volumes) h k l is in
    omega arith

pub never-twice : NeverTwice
never-twice house now volumes h j k a b less at_j at_k = rise (start_world house now volumes) h j k a b less at_j at_k

pub opens-new : OpensNew
opens-new w e l opened =
    let both = told-next (at_moment w e.at) (answer w e) (after w e) l (draws w e) opened in
    ap (λ (x : World). x.sessions) both.1 ∙ ap (λ (n : ℕ). w.sessions ++ new_session n ∷ []) (sym both.0)

-- a new session has the next number

added : (w : World) (n : ℕ) → has_session (with_new_session w).sessions n ≡ true → (has_session w.sessions n ≡ true) ⊎ (w.next_link ≡ n)
added w n h =
    elim (or_cases (has_session w.sessions n) ((w.next_link == n) || false) (sym (list_any-append (λ (x : Session). x.number == n) w.sessions (new_session w.next_link ∷ [])) ∙ h)) [
      | inl before ↦ inl before
      | inr last ↦ elim (or_cases (w.next_link == n) false last) [
        | inl is ↦ inr (eqb-true w.next_link n is)
        | inr none ↦ absurd (false≢true none)
      ]
    ]

only-draws : (w : World) (t : Told) (v : World) (n : ℕ) → Draws w t v → has_session v.sessions n ≡ true → (has_session w.sessions n ≡ true) ⊎ (t ≡ told.Opened (link_number n))
only-draws w t v n (new is left) h =
    elim (added w n (ap (λ (x : World). has_session x.sessions n) (sym left) ∙ h)) [
      | inl before ↦ inl before
      | inr next ↦ inr (is ∙ ap (λ (m : ℕ). told.Opened (link_number m)) next)
    ]
only-draws w t v n (none_new d) h = inl (d.old n h)

pub only-opens : OnlyOpens
only-opens w e number h = only-draws (at_moment w e.at) (answer w e) (after w e) number (draws w e) h
