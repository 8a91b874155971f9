-- Frames that a client takes, and those that it does not.
use Rattle.std.proofs.Common.{◌≡◌, ℕ, ◌+◌, List, ◌++◌, length, Option, Some, None, Ok, false, refl, ap, sym, subst, ◌∙◌, inr}
use Rattle.afp_base.specs.declared.code.Code.{Code}
use Rattle.dsi_frame.specs.Buffered.{Buffered}
use Rattle.dsi_frame.specs.Frame.{Frame}
use Rattle.dsi_frame.specs.Stream.{Begins}
use Rattle.afp_client.specs.session.State.{Client, ClientState, is_lost}
use Rattle.afp_client.specs.session.Takes.{IsCodeIn, Step, step, takes, written}
use Rattle.afp_client.specs.session.Happens.{Happens, TakesNext}
use Rattle.afp_client.specs.declared.session.event.Event.{Event}
use Rattle.afp_client.specs.declared.session.event.Event.TheVariants as events
use Rattle.afp_client.specs.session.lemma.Steps.{IsTaken, Makes}

made_none : (old : ClientState) (out : List ℕ) (expected : Option Step) (new : ClientState) (out_after : List ℕ)
    → Makes old out expected (Ok None) new out_after → (expected ≡ None) × (new ≡ old) × (out_after ≡ out)
made_none old out None new out_after h = (refl, h.0, h.1)
made_none old out (Some s) new out_after h = absurd h

made_some : (old : ClientState) (out : List ℕ) (expected : Option Step) (event : Event) (new : ClientState) (out_after : List ℕ)
    → Makes old out expected (Ok (Some event)) new out_after
    → (writes : Option Frame) × (Some (step new writes event) ≡ expected) × (out_after ≡ out ++ written writes) × IsTaken event
made_some old out None event new out_after h = absurd h
made_some old out (Some s) event new out_after h =
    (s.writes, ap (λ (x : ClientState). Some (step x s.writes event)) h.0 ∙ ap (λ (e : Event). Some (step s.state s.writes e)) h.2, h.1, h.3)

happens-taken : (old : Client) (out : List ℕ) (event : Event) (new : Client) (out_after : List ℕ) → IsTaken event → TakesNext old out event new out_after → Happens old out event new out_after
happens-taken old out events.NotYet new out_after taken t = absurd taken
happens-taken old out (events.Bad at) new out_after taken t = absurd taken
happens-taken old out events.Memory new out_after taken t = absurd taken
happens-taken old out events.Step new out_after taken t = t
happens-taken old out events.Ready new out_after taken t = t
happens-taken old out (events.Told c block) new out_after taken t = t
happens-taken old out (events.Refused c) new out_after taken t = t
happens-taken old out (events.Lost c) new out_after taken t = t
happens-taken old out events.Tickle new out_after taken t = t
happens-taken old out (events.Attention word) new out_after taken t = t
happens-taken old out events.Closed new out_after taken t = t

-- what a frame leads to is not that none is there
pub not_none : (old : ClientState) (out : List ℕ) (expected : Option Step) (event : Event) (new : ClientState) (out_after : List ℕ)
    → Makes old out expected (Ok (Some event)) new out_after → event ≡ events.NotYet → ⊥
not_none old out expected event new out_after h is = subst (λ (x : Event). IsTaken x) is (made_some old out expected event new out_after h).3

-- a frame at the front that is not taken
pub meets-bad : (old : Client) (out : List ℕ) (at : ℕ) (new : ClientState) (out_after : List ℕ) (f g : Frame) → g ≡ f → Begins old.held.rest f
    → is_lost old.state.stage ≡ false → at ≡ old.held.place
    → ((found : Option Code) × IsCodeIn g.word found × Makes old.state out (takes old.state found g) (Ok None) new out_after)
    → Happens old out (events.Bad at) (record { state = new; held = old.held }) out_after
meets-bad old out at new out_after f g same begins live place h =
    let made = made_none old.state out (takes old.state h.0 g) new out_after h.2 in
    record {
      live = live;
      place = place;
      bad = inr (f, h.0, begins, subst (λ (frame : Frame). IsCodeIn frame.word h.0) same h.1, subst (λ (frame : Frame). takes old.state h.0 frame ≡ None) same made.0);
      stays = record { client = ap (λ (s : ClientState). record { state = s; held = old.held }) made.1; nothing_written = made.2 };
    }

-- a frame at the front that is taken
pub takes-next : (old : Client) (out : List ℕ) (event : Event) (new : ClientState) (held : Buffered) (out_after : List ℕ) (f g : Frame) → g ≡ f → (begins : Begins old.held.rest f)
    → is_lost old.state.stage ≡ false
    → ((found : Option Code) × IsCodeIn g.word found × Makes old.state out (takes old.state found g) (Ok (Some event)) new out_after)
    → held ≡ record { place = old.held.place + length begins.first; rest = begins.more }
    → Happens old out event (record { state = new; held = held }) out_after
takes-next old out event new held out_after f g same begins live h moved =
    let made = made_some old.state out (takes old.state h.0 g) event new out_after h.2 in
    happens-taken old out event (record { state = new; held = held }) out_after made.3
    (record {
      live = live;
      frame = f;
      first = begins.first;
      found = h.0;
      writes = made.0;
      spelling = begins.spelling;
      whole = begins.whole ∙ ap (λ (b : Buffered). begins.first ++ b.rest) (sym moved);
      place = ap (λ (b : Buffered). b.place) moved;
      tells = subst (λ (frame : Frame). IsCodeIn frame.word h.0) same h.1;
      taken = subst (λ (frame : Frame). takes old.state h.0 frame ≡ Some (step new made.0 event)) same (sym made.1);
      sent = made.2;
    })
