-- Which frames a piece has that is fed to a wire, where it goes on with what the client wrote (this profile).
use Rattle.std.specs.Prelude.{◌≡◌, ◌⊎◌, ℕ, List, [], ◌∷◌, ◌++◌, Option, Some, None}
use Rattle.afp_server.specs.link.Wire as wires
use Rattle.afp_server.specs.declared.link.stage.FrameEnd.{FrameEnd}
use Rattle.afp_server.specs.declared.link.stage.FrameEnd.TheVariants as ends
use Rattle.afp_server.specs.declared.link.wire.WireEnd.{WireEnd}
use Rattle.afp_server.specs.declared.link.wire.WireEnd.TheVariants as wire_ends
use Rattle.dsi_frame.specs.Buffered.{Buffered}
use Rattle.dsi_frame.specs.Deframe.{GivenOut}
use Rattle.dsi_frame.specs.Frame.{Frame, IsGood, canonical_frame}

-- Some of the frame is under way still: none is handled, and the wire holds all that it was fed of it.
pub record HoldsOn (start : wires.FeedStart) (holds left : List ℕ) (result : Option WireEnd) (held : Buffered) (p : wires.FeedPoint) : Type 0 where
  pub some_left : left ≡ [] → ⊥
  pub goes_on : result ≡ None
  pub all : held.rest ≡ holds
  pub handled : wires.Handled start [] None p

-- how a wire ends by that of its last frame: with nothing held where it goes on, if there was memory
abbrev pub EndsAs : Option FrameEnd → Option WireEnd → Buffered → Type 0
EndsAs None result held = ((result ≡ None) × (held.rest ≡ [])) ⊎ (result ≡ Some wire_ends.Memory)
EndsAs (Some ends.Closed) result held = result ≡ Some wire_ends.Closed
EndsAs (Some ends.Displaced) result held = result ≡ Some wire_ends.Displaced
EndsAs (Some (ends.Bad reason)) result held = (at : ℕ) × (result ≡ Some (wire_ends.Bad (record { at = at; reason = reason })))

-- The frame is whole, and it is handled, and no other.
pub record TakesFrame (start : wires.FeedStart) (f : Frame) (left : List ℕ) (result : Option WireEnd) (held : Buffered) (p : wires.FeedPoint) : Type 0 where
  pub none_left : left ≡ []
  pub end : Option FrameEnd
  pub handled : wires.Handled start (f ∷ []) end p
  pub ends : EndsAs end result held

-- There was no memory, and no frame is handled.
pub record HasNoMemory (start : wires.FeedStart) (result : Option WireEnd) (p : wires.FeedPoint) : Type 0 where
  pub memory : result ≡ Some wire_ends.Memory
  pub handled : wires.Handled start [] None p

-- The law: a piece is fed, behind what the wire holds, of a good frame that was written, and what is left of the frame is under way.
abbrev pub PiecesHaveFrames : Type 0
PiecesHaveFrames =
    (start : wires.FeedStart) (f : Frame) (piece left : List ℕ) (old new : Buffered) (result : Option WireEnd) (p : wires.FeedPoint)
    → IsGood f
    → GivenOut start.bytes start.past old
    → (old.rest ++ piece) ++ left ≡ canonical_frame f
    → wires.Feeds start (start.bytes ++ piece) result new p
    → HoldsOn start (old.rest ++ piece) left result new p ⊎ (TakesFrame start f left result new p ⊎ HasNoMemory start result p)
