-- What a wire does with the bytes that are fed to it, over a teller that stores its history.
use Rattle.std.proofs.Common.{◌≡◌, ◌≢◌, ℕ, Bool, true, false, List, [], ◌∷◌, ◌++◌, refl, sym, ap, ◌∙◌, subst, inl, inr, append_assoc}
use Rattle.std.specs.Prelude.{Option, Some, None, Result, Ok, Err, IfOk, IfNone}
use Rattle.afp_base.specs.declared.bytes.OutOfMemory.{OutOfMemory}
use Rattle.afp_serial.specs.Shown.{Shown}
use Rattle.dsi_frame.specs.Deframe.{GivenOut}
use Rattle.dsi_frame.specs.Frame.{Frame}
use Rattle.afp_server.specs.link.LinkRun.{Fills}
use Rattle.afp_server.specs.link.Tally.{answered_after}
use Rattle.afp_server.specs.link.Wire.{WireState, Handled}
use Rattle.afp_server.specs.link.Wire.{feed_point, Feeds}
use Rattle.afp_server.specs.declared.link.stage.FrameEnd.{FrameEnd}
use Rattle.afp_server.specs.declared.link.stage.FrameEnd.TheVariants as ends
use Rattle.afp_server.specs.declared.link.tally.Tally.{Tally}
use Rattle.afp_server.specs.declared.link.wire.WireEnd.{WireEnd}
use Rattle.afp_server.specs.declared.link.wire.WireEnd.TheVariants as wires
use Rattle.afp_server.proofs.OfLink.Traces.{fills-one}
use Rattle.capture_log_server.specs.Connections.{FramesEnd}
use Rattle.capture_log_server.specs.lemma.States.{FeedsWire, is_end}
use Rattle.capture_log_server.specs.Sole.{IsSole}
use Rattle.capture_log_server.proofs.Histories.{Asks, asks}

made : (now : ℕ) (bytes : List ℕ) (past : List Frame) (piece : List ℕ) (old : WireState) (out : List ℕ) (t : Shown) (over : Bool) (new : WireState) (sent : List ℕ) (u : Shown)
    → (frames : List Frame) (end : Option FrameEnd)
    → Handled (record { block = old.block; now = now; bytes = bytes; past = past; stage = old.stage; out = out; shown = t }) frames end (feed_point new.stage new.tally sent u)
    → new.tally.answered ≡ true → IsSole t → IsSole u → FramesEnd (bytes ++ piece) (past ++ frames) end over → (over ≡ false → GivenOut (bytes ++ piece) (past ++ frames) new.held)
    → FeedsWire now bytes past piece old out t over new sent u
made now bytes past piece old out t over new sent u frames end h answered sole still framed given =
    let all : answered_after true h.steps ≡ true = sym (ap (λ (x : Tally). x.answered) h.tally) ∙ answered in
    let a : Asks t h.steps u = asks t u h.steps sole.mine still.mine still.faultless h.went all in
    record {
      frames = frames;
      steps = h.steps;
      replies = h.replies;
      end = end;
      script = h.script;
      moments = h.moments;
      framed = framed;
      given = given;
      sent_is = h.sent;
      tally = h.tally;
      start = h.went.start;
      history = a.history;
      served = a.served;
    }

fed : (now : ℕ) (bytes : List ℕ) (past : List Frame) (piece : List ℕ) (old : WireState) (out : List ℕ) (t : Shown) (over : Bool) (new : WireState) (sent : List ℕ) (u : Shown)
    → (end : Option WireEnd) → over ≡ is_end end → end ≢ Some wires.Memory
    → Feeds (record { block = old.block; now = now; bytes = bytes; past = past; stage = old.stage; out = out; shown = t }) (bytes ++ piece) end new.held (feed_point new.stage new.tally sent u)
    → new.tally.answered ≡ true → IsSole t → IsSole u → FeedsWire now bytes past piece old out t over new sent u
fed now bytes past piece old out t over new sent u None is not_memory (s, unfinished) answered sole still =
    made now bytes past piece old out t over new sent u s.frames None s.handled answered sole still
    (inl (new.held.rest, record { filled = s.given.filled; spelled = s.given.spelled; whole = s.given.whole; unfinished = unfinished }, is))
    (λ e. s.given)
fed now bytes past piece old out t over new sent u (Some wires.Closed) is not_memory s answered sole still =
    made now bytes past piece old out t over new sent u s.frames (Some ends.Closed) s.handled answered sole still (s.left, s.fills, is) (λ e. absurd (cc (is, e)))
fed now bytes past piece old out t over new sent u (Some wires.Displaced) is not_memory s answered sole still =
    made now bytes past piece old out t over new sent u s.frames (Some ends.Displaced) s.handled answered sole still (s.left, s.fills, is) (λ e. absurd (cc (is, e)))
fed now bytes past piece old out t over new sent u (Some (wires.Bad b)) is not_memory s answered sole still = elim s [
  | inl h ↦ made now bytes past piece old out t over new sent u h.frames None h.handled answered sole still (inr (b.at, b.reason, h.stopped, is)) (λ e. absurd (cc (is, e)))
  | inr f ↦ made now bytes past piece old out t over new sent u (f.before ++ f.last ∷ []) (Some (ends.Bad b.reason)) f.handled answered sole still (
    f.begins.more,
    subst (λ (fs : List Frame). Fills (bytes ++ piece) fs f.begins.more) (append_assoc past f.before (f.last ∷ []))
        (fills-one (bytes ++ piece) f.left f.begins.first f.begins.more (past ++ f.before) f.last f.fills f.begins.spelling f.begins.whole),
    is,
  )
      (λ e. absurd (cc (is, e)))
]
fed now bytes past piece old out t over new sent u (Some wires.Memory) is not_memory s answered sole still = absurd (not_memory refl)

pub at_none : {X : Type 0} (o : Option X) (P : Type 0) → o ≡ None → IfNone o P → P
at_none None P e p = p
at_none (Some x) P e p = absurd (cc e)

-- what a feed says, where it found memory
pub fed_wire : (now : ℕ) (piece : List ℕ) (old : WireState) (out : List ℕ) (t : Shown) (new : WireState) (sent : List ℕ) (u : Shown) (end : Option WireEnd) (r : Result Bool OutOfMemory)
    → ((bytes : List ℕ) (past : List Frame) → GivenOut bytes past old.held
    → Feeds (record { block = old.block; now = now; bytes = bytes; past = past; stage = old.stage; out = out; shown = t }) (bytes ++ piece) end new.held (feed_point new.stage new.tally sent u))
    → new.tally.answered ≡ true → IsSole t → IsSole u → IfOk r (λ over. (over ≡ is_end end) × (end ≢ Some wires.Memory))
    → IfOk r (λ over. (bytes : List ℕ) (past : List Frame) → GivenOut bytes past old.held → FeedsWire now bytes past piece old out t over new sent u)
fed_wire now piece old out t new sent u end (Ok over) feeds answered sole still (is, not_memory) = λ bytes past given. fed now bytes past piece old out t over new sent u end is not_memory (feeds bytes past given) answered sole still
fed_wire now piece old out t new sent u end (Err e) feeds answered sole still is = tt
