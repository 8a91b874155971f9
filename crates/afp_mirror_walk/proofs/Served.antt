-- What is served Ok is the effect of its row.
use Rattle.std.proofs.Common.{◌≡◌, ℕ, Bool, false, inl, inr, List, [], Option, Some, None, refl, sym, ap, ◌∙◌, subst}
use Rattle.std.specs.Prelude.{◌⊎◌}
use Rattle.afp_base.specs.Cached.{Answer, Request, cached_answer}
use Rattle.afp_base.specs.declared.code.Code.{Code}
use Rattle.afp_base.specs.declared.code.Code.TheVariants as code
use Rattle.afp_calls_grammar.specs.grammar.Spelt.{spelt_call}
use Rattle.afp_calls_grammar.specs.declared.grammar.call.Call.{Call}
use Rattle.afp_replies.specs.Replies.{Shows}
use Rattle.afp_serial.specs.Answer.{after, after_at, after_call, after_verdict, answer, newly_kept, request, told_verdict, Verdict, runs, verdict}
use Rattle.afp_serial.specs.KeptAnswers.{block_of, enclosed_of, keeping}
use Rattle.afp_serial.specs.Laws.{IsEffectAnswer, IsKeptAnswer}
use Rattle.afp_serial.specs.ReplyKinds.{reply_kind}
use Rattle.afp_serial.specs.Rows.{effect, refusal}
use Rattle.afp_serial.specs.World.{Session, World, at_moment, session_at}
use Rattle.afp_serial.specs.declared.ask.Ask.{Ask}
use Rattle.afp_serial.specs.declared.ask.Ask.TheVariants as ask
use Rattle.afp_serial.specs.declared.ask.Entry.{Entry}
use Rattle.afp_serial.specs.declared.ask.Outcome.{Outcome}
use Rattle.afp_serial.specs.declared.ask.Outcome.TheVariants.{Done}
use Rattle.afp_serial.specs.declared.ask.Told.TheVariants as told
use Rattle.afp_serial.proofs.ShownAnswers.{tells-shown}
use Rattle.afp_serial.proofs.Verdicts.{runs-of}
use Rattle.afp_mirror_walk.specs.Ports.{Home, IsHome, Serves}
use Rattle.afp_mirror_walk.specs.Steps.{RunsOk}

-- the request of an ask
abbrev request_of : Ask → Request
request_of (ask.Call id write offset payload) = request id write offset payload
request_of (ask.Open attention) = request 0 false 0 []
request_of ask.Pulse = request 0 false 0 []
request_of ask.Bye = request 0 false 0 []
request_of ask.Lost = request 0 false 0 []
request_of ask.Drain = request 0 false 0 []

some-none : {A : Type 0} (o : Option A) (x : A) → o ≡ Some x → o ≡ None → ⊥
some-none o x h k = cc

same-some : {A : Type 0} (x y : A) → Some x ≡ Some y → x ≡ y
same-some x y h = cc

-- what is kept of an answer leaves all but the sessions
pub volumes-stay : (w : World) (number : ℕ) (r : Request) (o : Option Answer) → (keeping w number r o).volumes ≡ w.volumes
volumes-stay w number r None = refl
volumes-stay w number r (Some a) = refl

pub opens-stay : (w : World) (number : ℕ) (r : Request) (o : Option Answer) → (keeping w number r o).opens ≡ w.opens
opens-stay w number r None = refl
opens-stay w number r (Some a) = refl

locks-stay : (w : World) (number : ℕ) (r : Request) (o : Option Answer) → (keeping w number r o).locks ≡ w.locks
locks-stay w number r None = refl
locks-stay w number r (Some a) = refl

house-stays : (w : World) (number : ℕ) (r : Request) (o : Option Answer) → (keeping w number r o).house ≡ w.house
house-stays w number r None = refl
house-stays w number r (Some a) = refl

-- the world behind a call that runs
left-by : (w : World) (e : Entry) (id : ℕ) (write : Bool) (offset : ℕ) (payload : List ℕ) (s : Session) (call : Call) → e.ask ≡ ask.Call id write offset payload → session_at w e.link.0 ≡ Some s
    → verdict (at_moment w e.at) s (request id write offset payload) ≡ runs call → e.outcome ≡ Done
    → after w e ≡ keeping (effect (at_moment w e.at) s call).world s.number (request id write offset payload) (newly_kept (request id write offset payload) (runs call) (told_verdict (at_moment w e.at) s (runs call) Done))
unfolding after_at
left-by w e id write offset payload s call asked attached is went =
    (λ i. after_at (at_moment w e.at) e.link.0 (asked i) (went i))
    ∙ ap (λ (session : Option Session). after_call (at_moment w e.at) session (request id write offset payload) Done) attached
    ∙ ap (λ (x : Verdict). keeping (after_verdict (at_moment w e.at) s x Done) s.number (request id write offset payload) (newly_kept (request id write offset payload) x (told_verdict (at_moment w e.at) s x Done))) is

on-link : (h : Home) (e : Entry) (s : Session) → e.link.0 ≡ h.link → session_at h.world e.link.0 ≡ Some s → session_at h.world h.link ≡ Some s
on-link h e s is attached = subst (λ (link : ℕ). session_at h.world link ≡ Some s) is attached

kept-never : (h g : Home) (call : Call) (a : Answer) (block : List ℕ) → (s : Serves h call a g) → IsKeptAnswer h.world s.entry code.Ok block false → ⊥
kept-never h g call a block s k =
    let same : request s.id s.write s.offset s.payload ≡ request k.id k.write k.offset k.payload = ap request_of (sym s.asked ∙ k.asked) in
    some-none (cached_answer k.session.cache (request k.id k.write k.offset k.payload)) (record { code = code.Ok; block = block }) k.kept
    (subst (λ (r : Request). cached_answer k.session.cache r ≡ None) same (s.new k.session (on-link h s.entry k.session s.on_link k.attached)))

effect-runs : (h g : Home) (call : Call) (a : Answer) (block : List ℕ) → (s : Serves h call a g) → IsEffectAnswer h.world s.entry block false → RunsOk h call block g
effect-runs h g call a block s e =
    let same : request s.id s.write s.offset s.payload ≡ request e.id e.write e.offset e.payload = ap request_of (sym s.asked ∙ e.asked) in
    let is : e.call ≡ call = same-some e.call call (sym e.runs.spelt ∙ (sym (ap (λ (r : Request). spelt_call (block_of r) (enclosed_of r)) same) ∙ s.spelt)) in
    let w : World = at_moment h.world s.entry.at in
    let kept : Option Answer = newly_kept (request e.id e.write e.offset e.payload) (runs e.call) (told_verdict w e.session (runs e.call) Done) in
    let left : g.world ≡ keeping (effect w e.session e.call).world e.session.number (request e.id e.write e.offset e.payload) kept
    = ap (λ (x : Home). x.world) s.next ∙ left-by h.world s.entry e.id e.write e.offset e.payload e.session e.call e.asked e.attached (runs-of w e.session (request e.id e.write e.offset e.payload) e.call e.runs) e.done in
    let told : RunsOk h e.call block g = record {
      now = s.entry.at;
      session = e.session;
      attached = on-link h s.entry e.session s.on_link e.attached;
      passes = e.runs.passes;
      shows = e.shows;
      volumes = ap (λ (v : World). v.volumes) left ∙ volumes-stay (effect w e.session e.call).world e.session.number (request e.id e.write e.offset e.payload) kept;
      opens = ap (λ (v : World). v.opens) left ∙ opens-stay (effect w e.session e.call).world e.session.number (request e.id e.write e.offset e.payload) kept;
      locks = ap (λ (v : World). v.locks) left ∙ locks-stay (effect w e.session e.call).world e.session.number (request e.id e.write e.offset e.payload) kept;
      house = ap (λ (v : World). v.house) left ∙ house-stays (effect w e.session e.call).world e.session.number (request e.id e.write e.offset e.payload) kept;
    } in
    subst (λ (c : Call). RunsOk h c block g) is told

pub served-ok : (h g : Home) (call : Call) (a : Answer) → IsHome h → Serves h call a g → a.code ≡ code.Ok → RunsOk h call a.block g
served-ok h g call a home s ok =
    by (tells-shown h.world s.entry a.block false home.sound s.legal (s.tells ∙ ap (λ (c : Code). told.Reply c a.block false) ok))
  where
    by : IsKeptAnswer h.world s.entry code.Ok a.block false ⊎ IsEffectAnswer h.world s.entry a.block false → RunsOk h call a.block g
    by (inl k) = absurd (kept-never h g call a a.block s k)
    by (inr e) = effect-runs h g call a a.block s e
