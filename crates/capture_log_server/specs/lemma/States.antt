-- What the code and the proofs go by beside States; no public contract cites it.
use Rattle.std.specs.Prelude.{◌≡◌, ◌≢◌, ℕ, ◌+◌, Bool, true, false, List, ◌++◌, Option, Some, None, All}
use Rattle.afp_serial.specs.Shown.{Shown}
use Rattle.afp_serial.specs.History.{stand}
use Rattle.afp_serial.specs.Went.{Step}
use Rattle.dsi_frame.specs.Deframe.{GivenOut}
use Rattle.dsi_frame.specs.Frame.{Frame}
use Rattle.dsi_frame.specs.Replies.{spelling_of}
use Rattle.afp_server.specs.link.Script.{Script}
use Rattle.afp_server.specs.link.Tally.{no_tally, tallied}
use Rattle.afp_server.specs.link.Wire.{WireState}
use Rattle.afp_server.specs.declared.link.stage.FrameEnd.{FrameEnd}
use Rattle.afp_server.specs.declared.link.stage.Stage.TheVariants.{Closing}
use Rattle.afp_server.specs.declared.link.wire.WireEnd.{WireEnd}
use Rattle.capture_log_server.specs.Connections.{FramesEnd, entries_of, AreServed}

-- Bytes were fed to a wire: these frames of all its bytes were handled, by these steps, which the teller answered.
pub record FeedsWire (now : ℕ) (bytes : List ℕ) (past : List Frame) (piece : List ℕ) (old : WireState) (out : List ℕ) (t : Shown) (over : Bool) (new : WireState) (sent : List ℕ) (u : Shown) : Type 0 where
  pub frames : List Frame
  pub steps : List Step
  pub replies : List Frame
  pub end : Option FrameEnd
  pub script : Script old.block old.stage frames steps replies new.stage end
  pub moments : All (λ s. s.at ≡ now) steps
  pub framed : FramesEnd (bytes ++ piece) (past ++ frames) end over
  pub given : over ≡ false → GivenOut (bytes ++ piece) (past ++ frames) new.held
  pub sent_is : sent ≡ out ++ spelling_of replies
  pub tally : new.tally ≡ tallied no_tally steps replies
  pub start : u.start ≡ t.start
  pub history : u.history ≡ t.history ++ entries_of steps
  pub served : AreServed (stand t.start (t.history)) steps

-- whether a wire takes no more bytes
abbrev pub is_end : Option WireEnd → Bool
is_end None = false
is_end (Some end) = true

-- what a wire is where it takes more bytes
abbrev pub GoesOn : Bool → WireState → Type 0
GoesOn over w = over ≡ false → (w.end ≡ None) × (w.stage ≢ Closing)
