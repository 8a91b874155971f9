-- Each call of the client is an event of the law's schedules over bytes.
use Rattle.std.proofs.Common.{◌≡◌, ◌∙◌, refl, sym, ap, subst, ℕ, suc, Bool, true, false, cond, List, ◌++◌, take, drop, Option, Some, None, inl, inr, lit≤, eq-eqb}
use Rattle.dsi_session.specs.RequestIds.{CountsInRounds}
use Rattle.afp_serial.specs.World.{World}
use Rattle.afp_client.specs.session.State as states
use Rattle.afp_client.specs.session.State.{ClientState, call_frame, is_lost}
use Rattle.afp_client.specs.declared.session.event.Event.{Event}
use Rattle.afp_client.specs.declared.session.stage.Stage as real
use Rattle.afp_client.specs.declared.session.stage.Stage.TheVariants as stages
use Rattle.once_across_breaks.specs.once.Messages.{Answer, Does}
use Rattle.once_across_breaks.specs.once.Run.{Asks, Gone, Opens, Ready, Stage, id_of}
use Rattle.once_across_breaks.specs.once.Server.{set}
use Rattle.once_across_breaks.specs.once.Frames.{Tag, client_takes}
use Rattle.once_across_breaks.specs.once.Bytes.{Line, ToClient, line_commands, line_reply, line_step, line_taken, spelt}
use Rattle.once_across_breaks.specs.once.Dsi.{FindsFrame, dsi, dsi_down, dsi_up}
use Rattle.once_across_breaks.specs.once.Serial.{Setup, machine}
use Rattle.once_across_breaks_code.specs.client.Related.{IsClient, IsStage}
use Rattle.once_across_breaks_code.specs.client.OverBytes.{IsRead}
use Rattle.once_across_breaks_code.specs.client.OnLines.{IsCommanded, IsFed, IsHeld, IsOnLine, IsTold, LinesAsk, LinesBreak, LinesHold, LinesStart, LinesTake}
use Rattle.once_across_breaks_code.proofs.OfClient.Asking.{is-asked}
use Rattle.once_across_breaks_code.proofs.OfClient.Breaking.{begun-client}
use Rattle.once_across_breaks_code.proofs.OfClient.Few.{anew-few}
use Rattle.once_across_breaks_code.proofs.OfClient.Reading.{asks-are-spelt, taken-is-read, unfinished-is-unread}
use Rattle.once_across_breaks_code.proofs.OfClient.Running.{fresh-is}

at-place : {A : Type 0} (f : ℕ → A) (i : ℕ) (x : A) → set f i x i ≡ x
at-place f i x = ap (λ (b : Bool). cond b x (f i)) (eq-eqb i i refl)

pub lines-start : LinesStart
lines-start u w login logs = record { client = fresh-is u login logs; few = (lit≤ tt, lit≤ tt); held = refl }

pub lines-break : LinesBreak
lines-break u x s h = record {
  on = record { client = begun-client u x.client s h; few = anew-few x.client.stage; held = refl };
  wrote = at-place x.up (suc x.top) ((dsi_up u).spell (0, Opens));
}

pub lines-ask : CountsInRounds → LinesAsk
lines-ask counts u x k command call on ready is =
    let one = is-asked counts u x.client k.state command call on.client ready is in
    let bytes : List ℕ = (dsi_up u).spell (x.client.opening_id, Asks (id_of x.client.first x.client.drawn) (Does command) false) in
    let there : IsCommanded u x (line_commands (dsi u) x Ready None command) k command call = record {
      on = record { client = one.client; few = on.few; held = on.held };
      wrote = at-place x.up x.top (x.up x.top ++ bytes) ∙ ap (λ (b : List ℕ). x.up x.top ++ b) (sym (asks-are-spelt counts u x.client k.state command call on.client ready is));
      results = refl;
      waits = refl;
    } in
    subst (λ (y : Line World). IsCommanded u x y k command call) (λ i. line_commands (dsi u) x (sym one.opened i) (sym one.idle i) command) there

-- what the client holds, fed
holds-same : (x : Line World) (n : ℕ) (k fed : states.Client) → k.held.rest ≡ x.taken → IsFed x n k fed → fed.held.rest ≡ x.taken ++ take n (x.down x.top)
holds-same x n k fed held f = f.rest ∙ ap (λ (b : List ℕ). b ++ take n (x.down x.top)) held

fed-client : (u : Setup) (x : Line World) (n : ℕ) (k fed : states.Client) → IsClient u x.client k.state → IsFed x n k fed → IsClient u x.client fed.state
fed-client u x n k fed h f = subst (λ (s : ClientState). IsClient u x.client s) (sym f.state) h

-- a reply that is read is taken
told-there : (u : Setup) (x : Line World) (n : ℕ) (holds out out_after : List ℕ) (event : Event) (fed new : states.Client) (r : IsRead u x.client fed out event new out_after)
    → IsTold u x (line_taken (dsi u) x holds new.held.rest (drop n (x.down x.top)) (Some r.taken)) n out event new out_after
told-there u x n holds out out_after event fed new r =
    let bytes : List ℕ = spelt (dsi_up u) r.taken.client.opening_id r.taken.writes in
    record {
      on = record { client = r.client; few = r.few; held = refl };
      writes = bytes;
      wrote = r.sent;
      up = at-place x.up x.top (x.up x.top ++ bytes);
      down = at-place x.down x.top (drop n (x.down x.top));
      results = r.results;
      waits = r.waits;
    }

pub lines-take : CountsInRounds → FindsFrame → LinesTake
lines-take counts finds u x n k fed new out out_after event on f are next reply =
    let r = taken-is-read counts finds u x.client fed new out out_after event (fed-client u x n k fed on.client f) on.few are next reply in
    let holds : List ℕ = x.taken ++ take n (x.down x.top) in
    let under : List ℕ = drop n (x.down x.top) in
    let front : (dsi_down u).front holds ≡ Some ((r.tag, r.answer), new.held.rest) = ap (λ (b : List ℕ). (dsi_down u).front b) (sym (holds-same x n k fed on.held f)) ∙ r.front in
    let is : line_step (dsi u) (machine u) x (ToClient n) ≡ line_taken (dsi u) x holds new.held.rest under (Some r.taken) =
    (λ i. line_reply (dsi u) x holds under (front i)) ∙ (λ i. line_taken (dsi u) x holds new.held.rest under (r.takes i)) in
    subst (λ (y : Line World). IsTold u x y n out event new out_after) (sym is) (told-there u x n holds out out_after event fed new r)

-- a lost client takes nothing
gone-of : (stage : Stage) (tries opening_id : ℕ) (token : Option (List ℕ)) (now : real.Stage) → IsStage stage tries opening_id token now → is_lost now ≡ true → stage ≡ Gone
gone-of stage tries opening_id token stages.Lost is lost = is
gone-of stage tries opening_id token stages.Unlinked is lost = absurd (cc)
gone-of stage tries opening_id token (stages.Opening step id retries) is lost = absurd (cc)
gone-of stage tries opening_id token stages.Ready is lost = absurd (cc)

abbrev held_line : Line World → List ℕ → List ℕ → Line World
held_line x holds under = record x { down = set x.down x.top under; taken = holds }

lost-held : (u : Setup) (x : Line World) (holds under : List ℕ) (o : Option ((Tag × Answer) × List ℕ)) → x.client.stage ≡ Gone → line_reply (dsi u) x holds under o ≡ held_line x holds under
lost-held u x holds under None gone = refl
lost-held u x holds under (Some f) gone = ap (λ (stage : Stage). line_taken (dsi u) x holds f.1 under (client_takes x.client stage f.0.0 f.0.1)) gone

held-there : (u : Setup) (x : Line World) (n : ℕ) (k fed : states.Client) → IsOnLine u x k → IsFed x n k fed → IsHeld u x (held_line x (x.taken ++ take n (x.down x.top)) (drop n (x.down x.top))) n fed
held-there u x n k fed on f = record {
  on = record { client = fed-client u x n k fed on.client f; few = on.few; held = holds-same x n k fed on.held f };
  same = refl;
  up = refl;
  down = at-place x.down x.top (drop n (x.down x.top));
}

pub lines-hold : FindsFrame → LinesHold
lines-hold finds u x n k fed on f are why =
    let holds : List ℕ = x.taken ++ take n (x.down x.top) in
    let under : List ℕ = drop n (x.down x.top) in
    let there = held-there u x n k fed on f in
    elim why [
      | inl lost ↦
          let client = fed-client u x n k fed on.client f in
          let gone = gone-of x.client.stage x.client.tries x.client.opening_id x.client.token fed.state.stage client.stage lost in
          subst (λ (y : Line World). IsHeld u x y n fed) (sym (lost-held u x holds under ((dsi_down u).front holds) gone)) there
      | inr less ↦
          let none : (dsi_down u).front holds ≡ None = ap (λ (b : List ℕ). (dsi_down u).front b) (sym (holds-same x n k fed on.held f)) ∙ unfinished-is-unread finds u fed.held.rest are less in
          subst (λ (y : Line World). IsHeld u x y n fed) (λ i. line_reply (dsi u) x holds under (sym none i)) there
    ]
