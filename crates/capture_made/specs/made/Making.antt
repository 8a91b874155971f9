-- What making a capture, and counting in it, answers (this profile).
use Rattle.std.specs.Prelude.{◌≡◌, ◌⊎◌, ℕ, ◌≤◌, List, [], ◌++◌, Some}
use Rattle.afp_outside.specs.ends.Sink.{SinkState}
use Rattle.afp_outside.specs.ends.Whole.{Prints, PrintsPart}
use Rattle.capture_log.specs.Standing.{nodes_of}
use Rattle.capture_log_server.specs.CaptureState.{CaptureState, Leads, begins}
use Rattle.capture_log_server.specs.Counting.{AreCaptureCounts}
use Rattle.capture_log_lines.specs.made.Lines.{ended_lines, house_lines}
use Rattle.capture_made.specs.requests.Requests.{requests}
use Rattle.capture_made.specs.made.Made.{Exchanges, IsMade}
use Rattle.capture_made.specs.declared.made.making.MakeEnd.{MakeEnd}
use Rattle.capture_made.specs.declared.made.making.MakeEnd.TheVariants as ends
use Rattle.capture_made.specs.declared.made.counting.Tallied.{Tallied}

-- The house was made, and so many steps of those that are asked for, each request with its reply.
pub record IsBegun (number steps : ℕ) (lines : List (List ℕ)) : Type 0 where
  pub count : ℕ
  pub most : count ≤ steps
  pub opened : CaptureState
  pub events : List (List ℕ)
  pub answered : CaptureState
  pub house : Leads begins house_lines opened
  pub exchanges : Exchanges opened (requests number count) events answered
  pub lines_are : lines ≡ house_lines ++ events

-- the first lines of a made capture: those of its house and of so many of its steps, or all of them
abbrev pub AreFirst : ℕ → ℕ → List (List ℕ) → Type 0
AreFirst number steps lines = IsBegun number steps lines ⊎ ((standing : CaptureState) × IsMade number steps lines standing)

-- The capture was written.
pub record WritesMade (number steps : ℕ) (old new : SinkState) : Type 0 where
  pub lines : List (List ℕ)
  pub standing : CaptureState
  pub made : IsMade number steps lines standing
  pub writes : Prints old (ended_lines lines) new

-- A first part of the capture was written, and then a write failed.
pub record MakesPart (number steps : ℕ) (old new : SinkState) : Type 0 where
  pub lines : List (List ℕ)
  pub first : AreFirst number steps lines
  pub writes : PrintsPart old (ended_lines lines) new

-- a first part of the text of a capture
pub record IsFront (number steps : ℕ) (part : List ℕ) : Type 0 where
  pub lines : List (List ℕ)
  pub first : AreFirst number steps lines
  pub lost : List ℕ
  pub cut : part ++ lost ≡ ended_lines lines

-- Without memory, nothing was written, or a first part of the capture.
pub record MakesSome (number steps : ℕ) (old new : SinkState) : Type 0 where
  pub part : List ℕ
  pub front : (part ≡ []) ⊎ IsFront number steps part
  pub writes : Prints old part new

abbrev pub MakesBy : ℕ → ℕ → MakeEnd → SinkState → SinkState → Type 0
MakesBy number steps ends.Done old new = WritesMade number steps old new
MakesBy number steps ends.WriteFault old new = MakesPart number steps old new
MakesBy number steps ends.Memory old new = MakesSome number steps old new

-- The counts are those of the judgement of the capture that is made, and the nodes are those of its volume in its last world.
pub record Tallies (number steps : ℕ) (tallied : Tallied) : Type 0 where
  pub lines : List (List ℕ)
  pub standing : CaptureState
  pub made : IsMade number steps lines standing
  pub counts : AreCaptureCounts standing tallied.links tallied.entries tallied.replies tallied.refused
  pub nodes : nodes_of standing 1 ≡ Some tallied.nodes
