-- What a link does at a quiet, from what its session and its writes did.
use Rattle.std.proofs.Common.{◌≡◌, ℕ, ◌<◌, true, false, [], ◌∷◌, refl, sym, ap, ◌∙◌, subst}
use Rattle.std.specs.Prelude.{Option, Some, None}
use Rattle.afp_base.specs.declared.ids.LinkNumber.{LinkNumber}
use Rattle.afp_outside.specs.ends.Link.{LinkState}
use Rattle.afp_outside.specs.ends.Whole.{Sends, SendsPart}
use Rattle.afp_serial.specs.declared.ask.Ask.TheVariants as asks
use Rattle.afp_serial.specs.declared.ask.Told.{Told}
use Rattle.afp_serial.specs.declared.ask.Told.TheVariants as tells
use Rattle.afp_serial.specs.Shown.{Shown}
use Rattle.afp_serial.specs.Went.{step, Went}
use Rattle.afp_serial.proofs.Grows.{went-none, went-join}
use Rattle.dsi_frame.specs.Replies.{listed, spelling_of}
use Rattle.dsi_session.specs.Pulse.{silence_limit, seconds_between}
use Rattle.afp_server.specs.link.Requests.{Requests, drain_in, is_over, request_at, requests_after}
use Rattle.afp_server.specs.link.Trace.{displaced, silent, drained, unwritten, idled_still, pulsed, IdlesOn}
use Rattle.afp_server.specs.link.lemma.Serving.{IdlesLink, IdlesOpen, OpenEnds}
use Rattle.afp_server.specs.link.lemma.SessionState.{SessionState, AsksPulse, PulsesLive}
use Rattle.afp_server.specs.declared.link.serve.LinkEnd.{LinkEnd}
use Rattle.afp_server.specs.declared.link.serve.LinkEnd.TheVariants as links
use Rattle.afp_server.specs.declared.link.stage.Idle.{Idle}
use Rattle.afp_server.specs.declared.link.stage.Idle.TheVariants as idles
use Rattle.afp_server.specs.declared.link.stage.Stage.{Stage}
use Rattle.afp_server.specs.declared.link.stage.Stage.TheVariants as stages
use Rattle.afp_outside.proofs.OfEnds.Whole.{sends-none}

went-still : (a b : Shown) → b ≡ a → Went a [] b
went-still a b same = subst (λ (x : Shown). Went a [] x) (sym same) (went-none a)

-- at the moments of the link
pub at_link : (link : LinkState) (last now : ℕ) (old : SessionState) (before : Shown) (i : Idle) (new : SessionState) (after : Shown) → last ≡ link.last_read → now ≡ link.now
    → AsksPulse last now old before i new after → AsksPulse link.last_read link.now old before i new after
at_link link last now old before i new after last_is now_is a =
    subst (λ (n : ℕ). AsksPulse link.last_read n old before i new after) now_is (subst (λ (l : ℕ). AsksPulse l now old before i new after) last_is a)

pub idle-silent : (link : LinkState) (old new : SessionState) (a : Requests) (before after : Shown) (last now : ℕ) → last ≡ link.last_read → now ≡ link.now
    → AsksPulse link.last_read link.now old before idles.Silent new after → IdlesLink link old.stage a before (Some (links.Silent last now)) new.stage a link after
idle-silent link old new a before after last now last_is now_is p = record {
  idled = idled_still old.stage a;
  cause = Some silent;
  idles = (p.0, refl);
  ends = (refl, sends-none link, last_is, now_is);
  stage_is = ap (λ (s : SessionState). s.stage) p.1;
  requests_is = refl;
  went = went-still before after p.2;
}

pub idle-fresh : (link : LinkState) (old new : SessionState) (a : Requests) (before after : Shown)
    → AsksPulse link.last_read link.now old before idles.On new after → IdlesLink link old.stage a before None new.stage a link after
idle-fresh link old new a before after p = record {
  idled = idled_still stages.Fresh a;
  cause = None;
  idles = (p.0, subst (λ (s : Stage). IdlesOn link.now s a (idled_still stages.Fresh a)) (sym p.1) refl);
  ends = (refl, sends-none link);
  stage_is = ap (λ (s : SessionState). s.stage) p.2 ∙ p.1;
  requests_is = refl;
  went = went-still before after p.3;
}

pub idle-displaced : (link : LinkState) (old new : SessionState) (a : Requests) (before after : Shown)
    → AsksPulse link.last_read link.now old before idles.Displaced new after → IdlesLink link old.stage a before (Some links.Displaced) new.stage a link after
idle-displaced link old new a before after p = record {
  idled = record { steps = step link.now p.1 asks.Pulse tells.Displaced ∷ []; request = None; stage = stages.Closing; requests = a };
  cause = Some displaced;
  idles = (p.0, record { link = p.1; in_session = p.2; is = refl });
  ends = (refl, sends-none link);
  stage_is = ap (λ (s : SessionState). s.stage) p.3;
  requests_is = refl;
  went = p.4;
}

-- a drain whose time is over was told
told_over : (t : Told) (now : ℕ) → is_over (drain_in t) now ≡ true → (drain : ℕ) × (t ≡ tells.Live (Some drain))
told_over (tells.Live (Some drain)) now over = (drain, refl)
told_over (tells.Live None) now over = absurd (cc over)
told_over (tells.Opened l) now over = absurd (cc over)
told_over (tells.Reply c block e) now over = absurd (cc over)
told_over tells.Done now over = absurd (cc over)
told_over tells.Displaced now over = absurd (cc over)
told_over tells.Memory now over = absurd (cc over)

-- a session that is open, behind its Pulse
record IsLive (link : LinkState) (number : LinkNumber) (stage : Stage) (before : Shown) (drain : Option ℕ) (mid : Shown) : Type 0 where
  pub short : seconds_between link.last_read link.now < silence_limit
  pub at : stage ≡ stages.Open number
  pub pulse : PulsesLive link.now number before drain mid

went-pulse : (link : LinkState) (number : LinkNumber) (stage : Stage) (before : Shown) (drain : Option ℕ) (mid after : Shown) → (l : IsLive link number stage before drain mid) → after ≡ mid
    → Went before (step link.now number asks.Pulse l.pulse.answer ∷ []) after
went-pulse link number stage before drain mid after l same = subst (λ (x : Shown). Went before (step link.now number asks.Pulse l.pulse.answer ∷ []) x) (sym same) l.pulse.went

live-on : (link : LinkState) (number : LinkNumber) (stage : Stage) (a b : Requests) (before mid after : Shown) (drain : Option ℕ) (next : Stage) (end : LinkState) → IsLive link number stage before drain mid
    → b ≡ requests_after link.now drain a → OpenEnds link number drain (spelling_of (listed (request_at link.now drain a))) mid None next end after → IdlesLink link stage a before None next b end after
live-on link number stage a b before mid after drain next end l noted e =
    let t = l.pulse.answer in
    let is = l.pulse.drain_is in record {
      idled = pulsed link.now number a t;
      cause = None;
      idles = (l.short, subst (λ (s : Stage). IdlesOn link.now s a (pulsed link.now number a t)) (sym l.at) (record { answer = t; lives = l.pulse.lives; in_time = subst (λ (d : Option ℕ). is_over d link.now ≡ false) is e.0; is = refl }));
      ends = (refl, subst (λ (d : Option ℕ). Sends link (spelling_of (listed (request_at link.now d a))) 0 end) is e.3);
      stage_is = e.1;
      requests_is = noted ∙ ap (λ (d : Option ℕ). requests_after link.now d a) is;
      went = went-pulse link number stage before drain mid after l e.2;
    }

live-unwritten : (link : LinkState) (number : LinkNumber) (stage : Stage) (a b : Requests) (before mid after : Shown) (drain : Option ℕ) (next : Stage) (end : LinkState) → IsLive link number stage before drain mid
    → b ≡ requests_after link.now drain a → OpenEnds link number drain (spelling_of (listed (request_at link.now drain a))) mid (Some links.WriteFault) next end after → IdlesLink link stage a before (Some links.WriteFault) next b end after
live-unwritten link number stage a b before mid after drain next end l noted e =
    let t = l.pulse.answer in
    let is = l.pulse.drain_is in record {
      idled = pulsed link.now number a t;
      cause = Some unwritten;
      idles = (l.short, record { link = number; in_session = l.at; answer = t; lives = l.pulse.lives; is = refl });
      ends = (refl, subst (λ (d : Option ℕ). SendsPart link (spelling_of (listed (request_at link.now d a))) end) is e.2);
      stage_is = e.0;
      requests_is = noted ∙ ap (λ (d : Option ℕ). requests_after link.now d a) is;
      went = went-pulse link number stage before drain mid after l e.1;
    }

live-drained : (link : LinkState) (number : LinkNumber) (stage : Stage) (a b : Requests) (before mid after : Shown) (drain : Option ℕ) (next : Stage) (end : LinkState) → IsLive link number stage before drain mid
    → b ≡ requests_after link.now drain a → OpenEnds link number drain (spelling_of (listed (request_at link.now drain a))) mid (Some links.Drained) next end after → IdlesLink link stage a before (Some links.Drained) next b end after
live-drained link number stage a b before mid after drain next end l noted e =
    let t = l.pulse.answer in
    let told = told_over t link.now (subst (λ (d : Option ℕ). is_over d link.now ≡ true) l.pulse.drain_is e.0) in
    let moment : ℕ = told.0 in
    let is : drain ≡ Some moment = l.pulse.drain_is ∙ ap drain_in told.1 in
    let pulse : Went before (step link.now number asks.Pulse (tells.Live (Some moment)) ∷ []) mid = subst (λ (x : Told). Went before (step link.now number asks.Pulse x ∷ []) mid) told.1 l.pulse.went in
    let bye = e.3 in record {
      idled = record {
        steps = step link.now number asks.Pulse (tells.Live (Some moment)) ∷ step link.now number asks.Bye bye.answer ∷ [];
        request = request_at link.now (Some moment) a;
        stage = stages.Closing;
        requests = requests_after link.now (Some moment) a;
      };
      cause = Some drained;
      idles = (l.short, record { link = number; in_session = l.at; drain = moment; over = subst (λ (d : Option ℕ). is_over d link.now ≡ true) is e.0; answer = bye.answer; is = refl });
      ends = (refl, subst (λ (d : Option ℕ). Sends link (spelling_of (listed (request_at link.now d a))) 0 end) is e.2);
      stage_is = e.1;
      requests_is = noted ∙ ap (λ (d : Option ℕ). requests_after link.now d a) is;
      went = went-join before mid after (step link.now number asks.Pulse (tells.Live (Some moment)) ∷ []) (step link.now number asks.Bye bye.answer ∷ []) pulse bye.went;
    }

by_end : (link : LinkState) (number : LinkNumber) (stage : Stage) (a b : Requests) (before mid after : Shown) (drain : Option ℕ) (answer : Option LinkEnd) (next : Stage) (end : LinkState) → IsLive link number stage before drain mid
    → b ≡ requests_after link.now drain a → OpenEnds link number drain (spelling_of (listed (request_at link.now drain a))) mid answer next end after → IdlesLink link stage a before answer next b end after
by_end link number stage a b before mid after drain None next end l noted e = live-on link number stage a b before mid after drain next end l noted e
by_end link number stage a b before mid after drain (Some links.WriteFault) next end l noted e = live-unwritten link number stage a b before mid after drain next end l noted e
by_end link number stage a b before mid after drain (Some links.Drained) next end l noted e = live-drained link number stage a b before mid after drain next end l noted e
by_end link number stage a b before mid after drain (Some links.Closed) next end l noted e = absurd e
by_end link number stage a b before mid after drain (Some links.Ended) next end l noted e = absurd e
by_end link number stage a b before mid after drain (Some (links.Cut at)) next end l noted e = absurd e
by_end link number stage a b before mid after drain (Some (links.Bad bad_frame)) next end l noted e = absurd e
by_end link number stage a b before mid after drain (Some (links.Silent last_read now)) next end l noted e = absurd e
by_end link number stage a b before mid after drain (Some links.Displaced) next end l noted e = absurd e
by_end link number stage a b before mid after drain (Some links.ReadFault) next end l noted e = absurd e
by_end link number stage a b before mid after drain (Some links.Spent) next end l noted e = absurd e
by_end link number stage a b before mid after drain (Some links.Memory) next end l noted e = absurd e

pub idle-live : (link : LinkState) (number : LinkNumber) (drain : Option ℕ) (old new : SessionState) (a b : Requests) (before mid after : Shown) (answer : Option LinkEnd) (next : Stage) (end : LinkState)
    → AsksPulse link.last_read link.now old before (idles.Live number drain) new mid → IdlesOpen link number drain a mid answer next b end after → IdlesLink link old.stage a before answer next b end after
idle-live link number drain old new a b before mid after answer next end p o =
    by_end link number old.stage a b before mid after drain answer next end (record { short = p.0; at = p.1; pulse = p.3 }) o.0 o.1
