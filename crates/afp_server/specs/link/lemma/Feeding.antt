-- One frame that is fed, by what it came to.
use Rattle.std.specs.Prelude.{◌≡◌, ℕ, List, ◌++◌, Option, Some, None, Result, Ok, Err}
use Rattle.afp_base.specs.declared.bytes.OutOfMemory.{OutOfMemory}
use Rattle.afp_serial.specs.Shown.{Shown}
use Rattle.afp_serial.specs.Went.{Went}
use Rattle.dsi_frame.specs.Buffered.{Buffered}
use Rattle.dsi_frame.specs.Frame.{Frame}
use Rattle.afp_server.specs.link.Did.{Did}
use Rattle.dsi_frame.specs.Replies.{listed, spelling_of}
use Rattle.afp_server.specs.link.Script.{Does}
use Rattle.afp_server.specs.link.lemma.SessionState.{SessionState}
use Rattle.afp_server.specs.link.Tally.{tallied}
use Rattle.afp_server.specs.declared.link.stage.FrameEnd.{FrameEnd}
use Rattle.afp_server.specs.declared.link.stage.FrameEnd.TheVariants as ends
use Rattle.afp_server.specs.declared.link.wire.WireEnd.{WireEnd}
use Rattle.afp_server.specs.declared.link.wire.WireEnd.TheVariants as wires
use Rattle.afp_server.specs.link.Wire.{FeedStart, FeedPoint, FedSoFar}
use Rattle.afp_server.specs.link.Wire.{FedTo}

-- The frame at the front was handled: the link goes on, or ends.
abbrev pub FeedsFrame : FeedStart → List ℕ → Option WireEnd → Buffered → FeedPoint → Type 0
FeedsFrame start bytes None held p = FedSoFar start bytes held p
FeedsFrame start bytes (Some end) held p = FedTo start bytes end p

-- A frame is handled by its row, and its reply stands behind what was in `out`; or there was no memory, and nothing happened.
abbrev pub Answers : ℕ → Frame → SessionState → List ℕ → Shown → Result (Option FrameEnd) OutOfMemory → SessionState → List ℕ → Shown → Type 0
Answers now f old out before (Ok end) new sent after =
    (did : Did) × Does old.block now old.stage f did × Went before did.steps after × (new.block ≡ old.block) × (new.stage ≡ did.stage)
    × (sent ≡ out ++ spelling_of (listed did.reply)) × (end ≡ did.end) × (new.tally ≡ tallied old.tally did.steps (listed did.reply))
Answers now f old out before (Err fault) new sent after =
    (new.block ≡ old.block) × (new.stage ≡ old.stage) × (sent ≡ out) × (after ≡ before) × (new.tally ≡ old.tally)

-- why a wire ends, by the frame that ends it, which begins at this place
abbrev pub end_of_frame : FrameEnd → ℕ → WireEnd
end_of_frame ends.Closed at = wires.Closed
end_of_frame ends.Displaced at = wires.Displaced
end_of_frame (ends.Bad reason) at = wires.Bad (record { at = at; reason = reason })
