-- What is told another code than Ok leaves all volumes and open forks.
use Rattle.std.proofs.Common.{◌≡◌, ℕ, Bool, false, List, [], Option, Some, None, refl, sym, ap, ◌∙◌}
use Rattle.std.specs.Prelude.{◌≢◌}
use Rattle.afp_base.specs.Cached.{Answer, Request}
use Rattle.afp_base.specs.declared.code.Code.{Code}
use Rattle.afp_base.specs.declared.code.Code.TheVariants as code
use Rattle.afp_calls_grammar.specs.declared.grammar.call.Call.{Call}
use Rattle.afp_serial.specs.Answer.{after, after_at, after_call, after_verdict, answer, newly_kept, request, told_verdict, Verdict, refused, repeats, runs, verdict}
use Rattle.afp_serial.specs.KeptAnswers.{keeping}
use Rattle.afp_serial.specs.World.{Session, World, at_moment, session_at}
use Rattle.afp_serial.specs.declared.ask.Ask.TheVariants as ask
use Rattle.afp_serial.specs.declared.ask.Entry.{Entry}
use Rattle.afp_serial.specs.declared.ask.Outcome.{Outcome}
use Rattle.afp_serial.specs.declared.ask.Outcome.TheVariants as outcome
use Rattle.afp_serial.specs.declared.ask.Told.{Told}
use Rattle.afp_serial.specs.declared.ask.Told.TheVariants as told
use Rattle.afp_serial.proofs.CallLaws.{told-by}
use Rattle.afp_mirror_walk.specs.Ports.{Home, IsHome, Serves}
use Rattle.afp_mirror_walk.proofs.Served.{opens-stay, volumes-stay}

-- the code of what is told
abbrev code_of : Told → Code
code_of (told.Reply c block ends) = c
code_of (told.Opened link) = code.MiscErr
code_of (told.Live drain) = code.MiscErr
code_of told.Done = code.MiscErr
code_of told.Displaced = code.MiscErr
code_of told.Memory = code.MiscErr

-- the world behind a call, by its verdict
left-at : (w : World) (e : Entry) (id : ℕ) (write : Bool) (offset : ℕ) (payload : List ℕ) (s : Session) (v : Verdict) (o : Outcome) → e.ask ≡ ask.Call id write offset payload → session_at w e.link.0 ≡ Some s
    → verdict (at_moment w e.at) s (request id write offset payload) ≡ v → e.outcome ≡ o
    → after w e ≡ keeping (after_verdict (at_moment w e.at) s v o) s.number (request id write offset payload) (newly_kept (request id write offset payload) v (told_verdict (at_moment w e.at) s v o))
unfolding after_at
left-at w e id write offset payload s v o asked attached is went =
    (λ i. after_at (at_moment w e.at) e.link.0 (asked i) (went i))
    ∙ ap (λ (session : Option Session). after_call (at_moment w e.at) session (request id write offset payload) o) attached
    ∙ ap (λ (x : Verdict). keeping (after_verdict (at_moment w e.at) s x o) s.number (request id write offset payload) (newly_kept (request id write offset payload) x (told_verdict (at_moment w e.at) s x o))) is

-- volumes and open forks are as before, where the verdict leaves the world
stays-by : (w : World) (e : Entry) (id : ℕ) (write : Bool) (offset : ℕ) (payload : List ℕ) (s : Session) (v : Verdict) (o : Outcome) → e.ask ≡ ask.Call id write offset payload → session_at w e.link.0 ≡ Some s
    → verdict (at_moment w e.at) s (request id write offset payload) ≡ v → e.outcome ≡ o → after_verdict (at_moment w e.at) s v o ≡ at_moment w e.at
    → ((after w e).volumes ≡ w.volumes) × ((after w e).opens ≡ w.opens)
stays-by w e id write offset payload s v o asked attached is went left =
    let r : Request = request id write offset payload in
    let kept : Option Answer = newly_kept r v (told_verdict (at_moment w e.at) s v o) in
    let same : after w e ≡ keeping (at_moment w e.at) s.number r kept = left-at w e id write offset payload s v o asked attached is went ∙ ap (λ (x : World). keeping x s.number r kept) left in
    (ap (λ (x : World). x.volumes) same ∙ volumes-stay (at_moment w e.at) s.number r kept, ap (λ (x : World). x.opens) same ∙ opens-stay (at_moment w e.at) s.number r kept)

pub refused-stays : (h g : Home) (call : Call) (a : Answer) → IsHome h → Serves h call a g → a.code ≢ code.Ok → (g.world.volumes ≡ h.world.volumes) × (g.world.opens ≡ h.world.opens)
refused-stays h g call a home s other =
    let both = by (verdict (at_moment h.world s.entry.at) home.session (request s.id s.write s.offset s.payload)) s.entry.outcome refl refl in
    let world-is : g.world ≡ after h.world s.entry = ap (λ (x : Home). x.world) s.next in
    (ap (λ (x : World). x.volumes) world-is ∙ both.0, ap (λ (x : World). x.opens) world-is ∙ both.1)
  where
    attached : session_at h.world s.entry.link.0 ≡ Some home.session
    attached = ap (λ (link : ℕ). session_at h.world link) s.on_link ∙ home.attached

    by : (v : Verdict) (o : Outcome) → verdict (at_moment h.world s.entry.at) home.session (request s.id s.write s.offset s.payload) ≡ v → s.entry.outcome ≡ o
        → ((after h.world s.entry).volumes ≡ h.world.volumes) × ((after h.world s.entry).opens ≡ h.world.opens)
    by (repeats kept) o is went = stays-by h.world s.entry s.id s.write s.offset s.payload home.session (repeats kept) o s.asked attached is went refl
    by (refused x) o is went = stays-by h.world s.entry s.id s.write s.offset s.payload home.session (refused x) o s.asked attached is went refl
    by (runs c) outcome.Fault is went = stays-by h.world s.entry s.id s.write s.offset s.payload home.session (runs c) outcome.Fault s.asked attached is went refl
    by (runs c) outcome.Done is went = absurd (other (ap code_of (sym s.tells ∙ told-by h.world s.entry s.id s.write s.offset s.payload home.session (runs c) outcome.Done s.asked attached is went)))
