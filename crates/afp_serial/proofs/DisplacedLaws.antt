-- When Displaced is told, and what it leaves.
use Rattle.std.proofs.Common.{◌≡◌, ◌≢◌, ◌∙◌, ap, refl, ℕ, Bool, true, false, not, Option, Some, None}
use Rattle.std.specs.Prelude.{◌==◌}
use Rattle.std.proofs.lemmas.Bool.{cond_both, cond-false, eqb-true, eq-eqb, not-true}
use Rattle.afp_base.specs.Cached.{Request}
use Rattle.afp_base.specs.declared.code.Code.TheVariants as code
use Rattle.afp_base.specs.declared.ids.LinkNumber.{LinkNumber}
use Rattle.afp_serial.specs.declared.ask.Ask.{Ask}
use Rattle.afp_serial.specs.declared.ask.Ask.TheVariants as ask
use Rattle.afp_serial.specs.declared.ask.Outcome.{Outcome}
use Rattle.afp_serial.specs.declared.ask.Outcome.TheVariants as outcome
use Rattle.afp_serial.specs.declared.ask.Told.TheVariants as told
use Rattle.afp_serial.specs.declared.attachment.Attachment.{Attachment}
use Rattle.afp_serial.specs.declared.attachment.Attachment.TheVariants.{Attached, Detached}
use Rattle.afp_serial.specs.Answer.{answer_at, after_at, after_call, after_lost, after_parting, is_full, link_number, refusal_reply, request, told_call, told_parting, told_pulse, told_verdict, Verdict, repeats, refused, runs, verdict}
use Rattle.afp_serial.specs.Laws.{HasNoSession, is_session_ask, TellsDisplaced, LeavesDisplaced, OnlyEndsExpired}
use Rattle.afp_serial.specs.World.{is_on_link, session_at, World, Session, at_moment}
use Rattle.afp_base.proofs.Facts.{never}
use Rattle.afp_base.proofs.ListFacts.{all-each, each-all, find-none, none-find}

-- no session has the link

attached-to : (link : LinkNumber) (place : Attachment) → is_on_link link.0 place ≡ true → place ≡ Attached link
attached-to link (Attached l) stands = let same : l.0 ≡ link.0 = eqb-true l.0 link.0 stands in λ i. Attached (link_number (same i))
attached-to link (Detached m) stands = absurd (cc)

stands-not : (link : LinkNumber) (place : Attachment) → place ≢ Attached link → not (is_on_link link.0 place) ≡ true
stands-not link place other = elsewhere (is_on_link link.0 place) (λ stands. other (attached-to link place stands))
  where
    elsewhere : (b : Bool) → (b ≡ true → ⊥) → not b ≡ true
    elsewhere true no_more = absurd (no_more refl)
    elsewhere false no_more = refl

not-attached : (link : LinkNumber) (place : Attachment) → not (is_on_link link.0 place) ≡ true → place ≢ Attached link
not-attached link place other is = never (is_on_link link.0 place) (ap (is_on_link link.0) is ∙ eq-eqb link.0 link.0 refl) other

pub none-attached : (w : World) (link : LinkNumber) → HasNoSession w link → session_at w link.0 ≡ None
none-attached w link h =
    none-find (λ s. is_on_link link.0 s.place) w.sessions
    (all-each (λ s. not (is_on_link link.0 s.place)) w.sessions (λ k d within. stands-not link _ (h k d within)))

pub attached-none : (w : World) (link : LinkNumber) → session_at w link.0 ≡ None → HasNoSession w link
attached-none w link none k d within =
    not-attached link _ (each-all (λ s. not (is_on_link link.0 s.place)) w.sessions (find-none (λ s. is_on_link link.0 s.place) w.sessions none) k d within)

-- told Displaced

verdict-displaced : (w : World) (s : Session) (v : Verdict) (o : Outcome) → told_verdict w s v o ≡ told.Displaced → ⊥
verdict-displaced w s (repeats a) o h = cc
verdict-displaced w s (refused c) o h = cc
verdict-displaced w s (runs call) outcome.Fault h = cc
verdict-displaced w s (runs call) outcome.Done h = cc

call-displaced : (w : World) (session : Option Session) (r : Request) (o : Outcome) → told_call w session r o ≡ told.Displaced → session ≡ None
call-displaced w None r o h = refl
call-displaced w (Some s) r o h = absurd (verdict-displaced w s (verdict w s r) o h)

pulse-displaced : (w : World) (link : ℕ) (session : Option Session) → told_pulse w link session ≡ told.Displaced → (not (link == 0) ≡ true) × (session ≡ None)
pulse-displaced w link None h =
    (cond_both (link == 0) (told.Live w.drain) told.Displaced (λ t. t ≡ told.Displaced → not (link == 0) ≡ true) (λ zero h. absurd (cc)) (λ other h. ap not other) h, refl)
pulse-displaced w link (Some s) h = absurd (cc)

parting-displaced : (session : Option Session) → told_parting session ≡ told.Displaced → session ≡ None
parting-displaced None h = refl
parting-displaced (Some s) h = absurd (cc)

pub at-displaced : (w : World) (link : ℕ) (a : Ask) (o : Outcome) → answer_at w link a o ≡ told.Displaced → (is_session_ask a link ≡ true) × (session_at w link ≡ None)
unfolding answer_at
at-displaced w link (ask.Open attention) o h =
    cond_both (is_full w) (refusal_reply code.NoMoreSessions) (told.Opened (link_number w.next_link))
    (λ t. t ≡ told.Displaced → (false ≡ true) × (session_at w link ≡ None))
    (λ full h. absurd (cc)) (λ room h. absurd (cc)) h
at-displaced w link (ask.Call id write offset payload) o h = (refl, call-displaced w (session_at w link) (request id write offset payload) o h)
at-displaced w link ask.Pulse o h = pulse-displaced w link (session_at w link) h
at-displaced w link ask.Bye o h = (refl, parting-displaced (session_at w link) h)
at-displaced w link ask.Lost o h = (refl, parting-displaced (session_at w link) h)
at-displaced w link ask.Drain o h = absurd (cc)

displaced-at : (w : World) (link : ℕ) (a : Ask) (o : Outcome) → is_session_ask a link ≡ true → session_at w link ≡ None → answer_at w link a o ≡ told.Displaced
unfolding answer_at
displaced-at w link (ask.Open attention) o is none = absurd (cc)
displaced-at w link (ask.Call id write offset payload) o is none = ap (λ (s : Option Session). told_call w s (request id write offset payload) o) none
displaced-at w link ask.Pulse o is none = ap (told_pulse w link) none ∙ cond-false (link == 0) (told.Live w.drain) told.Displaced (not-true (link == 0) is)
displaced-at w link ask.Bye o is none = ap told_parting none
displaced-at w link ask.Lost o is none = ap told_parting none
displaced-at w link ask.Drain o is none = absurd (cc)

pub tells-displaced : TellsDisplaced
tells-displaced w e = (
  λ h.
      let both = at-displaced (at_moment w e.at) e.link.0 e.ask e.outcome h in
      (both.0, attached-none w e.link both.1),
  λ both. displaced-at (at_moment w e.at) e.link.0 e.ask e.outcome both.0 (none-attached w e.link both.1),
)

-- what it leaves

leaves-at : (w : World) (link : ℕ) (a : Ask) (o : Outcome) → is_session_ask a link ≡ true → session_at w link ≡ None → a ≢ ask.Pulse → after_at w link a o ≡ w
unfolding after_at
leaves-at w link (ask.Open attention) o is none other = absurd (cc)
leaves-at w link (ask.Call id write offset payload) o is none other = ap (λ (s : Option Session). after_call w s (request id write offset payload) o) none
leaves-at w link ask.Pulse o is none other = absurd (other refl)
leaves-at w link ask.Bye o is none other = ap (after_parting w) none
leaves-at w link ask.Lost o is none other = ap (after_lost w) none
leaves-at w link ask.Drain o is none other = absurd (cc)

pub leaves-displaced : LeavesDisplaced
leaves-displaced w e h other =
    let both = at-displaced (at_moment w e.at) e.link.0 e.ask e.outcome h in
    leaves-at (at_moment w e.at) e.link.0 e.ask e.outcome both.0 both.1 other

pub only-sweeps : OnlyEndsExpired
unfolding after_at
only-sweeps w e is = ap (λ (a : Ask). after_at (at_moment w e.at) e.link.0 a e.outcome) is
