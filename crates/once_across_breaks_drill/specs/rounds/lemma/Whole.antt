-- What feeding a whole request to a wire does, and which event tells that there was no memory; no public contract cites it.
use Rattle.std.specs.Prelude.{◌≡◌, ◌≢◌, ℕ, Bool, true, false, List, [], ◌∷◌, ◌++◌, Option, Some, None}
use Rattle.afp_client.specs.declared.session.event.Event.{Event}
use Rattle.afp_client.specs.declared.session.event.Event.TheVariants as events
use Rattle.afp_serial.specs.Shown.{Shown}
use Rattle.afp_server.specs.link.Wire.{WireState}
use Rattle.afp_server.specs.declared.link.stage.FrameEnd.{FrameEnd}
use Rattle.afp_server.specs.declared.link.stage.Stage.TheVariants.{Closing}
use Rattle.afp_server.specs.declared.link.wire.WireEnd.{WireEnd}
use Rattle.dsi_frame.specs.Deframe.{GivenOut}
use Rattle.dsi_frame.specs.Frame.{Frame, canonical_frame}
use Rattle.once_across_breaks_drill.specs.rounds.Lines.{Serves}

-- whether a wire takes no more bytes
abbrev pub is_end : Option WireEnd → Bool
is_end None = false
is_end (Some end) = true

-- whether a frame ended the link
abbrev pub EndsBy : Bool → Option FrameEnd → Type 0
EndsBy true end = (e : FrameEnd) × (end ≡ Some e)
EndsBy false end = end ≡ None

-- The request was handled, and nothing else; where the link goes on, nothing is held.
pub record FeedsWhole (now : ℕ) (bytes : List ℕ) (past : List Frame) (f : Frame) (old : WireState) (out : List ℕ) (t : Shown) (over : Bool) (new : WireState) (sent : List ℕ) (u : Shown) : Type 0 where
  pub serves : Serves now f (record { block = old.block; stage = old.stage }) out t sent u
  pub ends : EndsBy over serves.did.end
  pub block : new.block ≡ old.block
  pub stage : new.stage ≡ serves.did.stage
  pub goes_on : over ≡ false → (new.end ≡ None) × (new.stage ≢ Closing) × (new.held.rest ≡ []) × GivenOut (bytes ++ canonical_frame f) (past ++ f ∷ []) new.held

abbrev pub is_memory : Event → Bool
is_memory events.Memory = true
is_memory event = false
