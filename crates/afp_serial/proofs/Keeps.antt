-- What each step of the serial answer keeps, every entry keeps.
use Rattle.std.proofs.Common.{◌≡◌, refl, ℕ, Bool, false, Option, Some, None}
use Rattle.std.specs.Prelude.{find, ◌==◌, not}
use Rattle.std.proofs.lemmas.Bool.{cond_both}
use Rattle.afp_base.specs.Cached.{Request, Answer}
use Rattle.afp_calls_grammar.specs.grammar.Spelt.{spelt_call}
use Rattle.afp_calls_grammar.specs.declared.grammar.call.Call.{Call}
use Rattle.afp_serial.proofs.Verdicts.{comes-to}
use Rattle.afp_serial.specs.declared.ask.Ask.{Ask}
use Rattle.afp_serial.specs.declared.ask.Ask.TheVariants as ask
use Rattle.afp_serial.specs.declared.ask.Entry.{Entry}
use Rattle.afp_serial.specs.declared.ask.Outcome.{Outcome}
use Rattle.afp_serial.specs.declared.ask.Outcome.TheVariants as outcome
use Rattle.afp_serial.specs.declared.attachment.Attachment.TheVariants.{Detached}
use Rattle.afp_serial.specs.Answer.{request, is_full, with_new_session, after_verdict, after_call, after_lost, after_parting, drain_moment, losing, newly_kept, told_verdict, after_at, after, Verdict, repeats, refused, runs, verdict}
use Rattle.afp_serial.specs.KeptAnswers.{block_of, enclosed_of, keeping, kept_in}
use Rattle.afp_serial.specs.Rows.{refusal, effect}
use Rattle.afp_serial.specs.World.{is_expired, is_on_link, session_at, ending, with_session, World, Session, at_moment}

-- what is known of each call that an ask spells
abbrev pub IsKnown : (Call → Type 0) → Ask → Type 0
IsKnown known (ask.Open attention) = Unit {0}
IsKnown known (ask.Call id write offset payload) = (call : Call) → spelt_call (block_of (request id write offset payload)) (enclosed_of (request id write offset payload)) ≡ Some call → known call
IsKnown known ask.Pulse = Unit {0}
IsKnown known ask.Bye = Unit {0}
IsKnown known ask.Lost = Unit {0}
IsKnown known ask.Drain = Unit {0}

-- nothing is known of a call
abbrev pub AnyCall : Call → Type 0
AnyCall call = Unit {0}

pub nothing-known : (a : Ask) → IsKnown AnyCall a
nothing-known (ask.Open attention) = tt
nothing-known (ask.Call id write offset payload) = λ call is. tt
nothing-known ask.Pulse = tt
nothing-known ask.Bye = tt
nothing-known ask.Lost = tt
nothing-known ask.Drain = tt

-- each step at the ask's moment keeps P, where this is known of calls
pub record Keeps (known : Call → Type 0) (P : World → Type 0) : Type 0 where
  pub opens : (w : World) → is_full w ≡ false → P w → P (with_new_session w)
  pub calls : (w : World) (s : Session) (call : Call) (test : Session → Bool) → known call → find test w.sessions ≡ Some s → refusal w s call ≡ None → P w → P (effect w s call).world
  pub ends : (w : World) (stays : Session → Bool) → P w → P (ending w stays)
  pub drains : (w : World) → P w → P (record w { drain = drain_moment w.latest w.drain })
  pub loses : (w : World) (s : Session) (test : Session → Bool) → find test w.sessions ≡ Some s → P w → P (with_session w (record s { place = Detached w.latest }))
  pub stores : (w : World) (s : Session) (r : Request) (test : Session → Bool) (o : Outcome) (a : Answer)
      → ((call : Call) → spelt_call (block_of r) (enclosed_of r) ≡ Some call → known call)
      → find test w.sessions ≡ Some s
      → newly_kept r (verdict w s r) (told_verdict w s (verdict w s r) o) ≡ Some a
      → P w → P (after_verdict w s (verdict w s r) o) → P (kept_in (after_verdict w s (verdict w s r) o) s.number r a)

verdict-keeps : {known : Call → Type 0} {P : World → Type 0} → Keeps known P → (w : World) (s : Session) (r : Request) (test : Session → Bool) → ((call : Call) → spelt_call (block_of r) (enclosed_of r) ≡ Some call → known call) → find test w.sessions ≡ Some s → (v : Verdict) (o : Outcome) → verdict w s r ≡ v → P w → P (after_verdict w s v o)
verdict-keeps k w s r test knows found (repeats answer) o is h = h
verdict-keeps k w s r test knows found (refused code) o is h = h
verdict-keeps k w s r test knows found (runs call) outcome.Fault is h = h
verdict-keeps k w s r test knows found (runs call) outcome.Done is h = let c = comes-to w s r call is in k.calls w s call test (knows call c.spelt) found c.passes h

call-keeps : {known : Call → Type 0} {P : World → Type 0} → Keeps known P → (w : World) (link : ℕ) (session : Option Session) (r : Request) (o : Outcome) → ((call : Call) → spelt_call (block_of r) (enclosed_of r) ≡ Some call → known call) → session_at w link ≡ session → P w → P (after_call w session r o)
call-keeps k w link None r o knows is h = h
call-keeps {known} {P} k w link (Some s) r o knows is h =
    let v : Verdict = verdict w s r in
    let after_it : P (after_verdict w s v o) = verdict-keeps k w s r (λ x. is_on_link link x.place) knows is v o refl h in
    by (newly_kept r v (told_verdict w s v o)) refl after_it
  where
    by : (a : Option Answer) → newly_kept r (verdict w s r) (told_verdict w s (verdict w s r) o) ≡ a → P (after_verdict w s (verdict w s r) o) → P (keeping (after_verdict w s (verdict w s r) o) s.number r a)
    by None none q = q
    by (Some a) some q = k.stores w s r (λ x. is_on_link link x.place) o a knows is some h q

parting-keeps : {known : Call → Type 0} {P : World → Type 0} → Keeps known P → (w : World) (session : Option Session) → P w → P (after_parting w session)
parting-keeps k w None h = h
parting-keeps k w (Some s) h = k.ends w (λ x. not (x.number == s.number)) h

losing-keeps : {known : Call → Type 0} {P : World → Type 0} → Keeps known P → (w : World) (s : Session) (test : Session → Bool) (user : Option ℕ) → find test w.sessions ≡ Some s → P w → P (losing w s user)
losing-keeps k w s test None found h = k.ends w (λ x. not (x.number == s.number)) h
losing-keeps k w s test (Some user) found h = k.loses w s test found h

lost-keeps : {known : Call → Type 0} {P : World → Type 0} → Keeps known P → (w : World) (link : ℕ) (session : Option Session) → session_at w link ≡ session → P w → P (after_lost w session)
lost-keeps k w link None is h = h
lost-keeps k w link (Some s) is h = losing-keeps k w s (λ x. is_on_link link x.place) s.user is h

at-keeps : {known : Call → Type 0} {P : World → Type 0} → Keeps known P → (w : World) (link : ℕ) (a : Ask) (o : Outcome) → IsKnown known a → P w → P (after_at w link a o)
unfolding after_at
at-keeps {known} {P} k w link (ask.Open attention) o knows h = cond_both (is_full w) w (with_new_session w) P (λ full. h) (λ room. k.opens w room h)
at-keeps k w link (ask.Call id write offset payload) o knows h = call-keeps k w link (session_at w link) (request id write offset payload) o knows refl h
at-keeps k w link ask.Pulse o knows h = k.ends w (λ s. not (is_expired w.latest s.place)) h
at-keeps k w link ask.Bye o knows h = parting-keeps k w (session_at w link) h
at-keeps k w link ask.Lost o knows h = lost-keeps k w link (session_at w link) refl h
at-keeps k w link ask.Drain o knows h = k.drains w h

pub after-keeps : {known : Call → Type 0} {P : World → Type 0} → Keeps known P → (w : World) (e : Entry) → IsKnown known e.ask → P (at_moment w e.at) → P (after w e)
after-keeps k w e knows h = at-keeps k (at_moment w e.at) e.link.0 e.ask e.outcome knows h
