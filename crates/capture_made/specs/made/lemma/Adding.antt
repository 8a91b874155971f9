-- Lines that are added to a capture, and to the text of it that was not written yet.
use Rattle.std.specs.Prelude.{◌≡◌, ℕ, zero, suc, Bool, true, false, List, [], ◌∷◌, ◌++◌, Some}
use Rattle.afp_outside.specs.ends.Sink.{SinkState}
use Rattle.afp_outside.specs.ends.Whole.{Prints, PrintsPart}
use Rattle.capture_log.specs.Standing.{nodes_of}
use Rattle.capture_log.specs.Taking.{HeldCapture, IsCapture}
use Rattle.capture_log_server.specs.CaptureState.{CaptureState, Leads, TakesGoodLine, begins}
use Rattle.capture_log_server.specs.Counting.{AreCaptureCounts}
use Rattle.capture_log_lines.specs.made.Lines.{ended_lines, house_lines, end_line}
use Rattle.capture_made.specs.requests.Requests.{StepState, after, request_of, requests}
use Rattle.capture_made.specs.declared.requests.request.Request.{Request}
use Rattle.capture_made.specs.made.Made.{Exchanges}
use Rattle.capture_made.specs.made.Making.{MakesPart, MakesSome}
use Rattle.capture_made.specs.declared.made.making.MakeEnd.{MakeEnd}
use Rattle.capture_made.specs.declared.made.making.MakeEnd.TheVariants as ends
use Rattle.capture_made.specs.declared.made.counting.Tallied.{Tallied}

-- a line was good
pub record Takes (s : CaptureState) (line : List ℕ) (new : HeldCapture) : Type 0 where
  pub after : CaptureState
  pub good : TakesGoodLine s line after
  pub is : IsCapture new after

-- lines were good, and stand in the text
pub record Adds (s : CaptureState) (lines : List (List ℕ)) (text : List ℕ) (new : HeldCapture) (text_then : List ℕ) : Type 0 where
  pub after : CaptureState
  pub leads : Leads s lines after
  pub is : IsCapture new after
  pub text_is : text_then ≡ text ++ ended_lines lines

-- requests and their replies stand in the text
pub record Exchanged (s : CaptureState) (rs : List Request) (text : List ℕ) (new : HeldCapture) (text_then : List ℕ) : Type 0 where
  pub lines : List (List ℕ)
  pub after : CaptureState
  pub exchanges : Exchanges s rs lines after
  pub is : IsCapture new after
  pub text_is : text_then ≡ text ++ ended_lines lines

-- where the steps have come behind so many
abbrev pub after_steps : StepState → ℕ → StepState
after_steps s zero = s
after_steps s (suc count) = after (after_steps s count)

-- The house and so many steps were made.
pub record HasRun (number count : ℕ) (capture : HeldCapture) (lines : List (List ℕ)) : Type 0 where
  pub opened : CaptureState
  pub now : CaptureState
  pub house : Leads begins house_lines opened
  pub exchanges : Exchanges opened (requests number count) lines now
  pub is : IsCapture capture now

-- They stand in a text.
pub record HasMade (number count : ℕ) (capture : HeldCapture) (text : List ℕ) : Type 0 where
  pub lines : List (List ℕ)
  pub runs : HasRun number count capture lines
  pub text_is : text ≡ ended_lines (house_lines ++ lines)

-- A first part of it was written, and the rest waits.
pub record HasWritten (number count : ℕ) (start : SinkState) (capture : HeldCapture) (held : List ℕ) (sink : SinkState) : Type 0 where
  pub part : List ℕ
  pub writes : Prints start part sink
  pub made : HasMade number count capture (part ++ held)

-- The text stays where it was not written, and is gone where it was.
abbrev pub WritesFront : SinkState → List ℕ → List ℕ → Bool → SinkState → Type 0
WritesFront old text left true new = (part : List ℕ) × (text ≡ part ++ left) × Prints old part new
WritesFront old text left false new = PrintsPart old text new

-- A step was made, and its lines stand in the text, which may have been written.
pub record MadeStep (steps : StepState) (capture : HeldCapture) (text : List ℕ) (old : SinkState) (steps_then : StepState) (new : HeldCapture) (left : List ℕ) (sink : SinkState) : Type 0 where
  pub middle : List ℕ
  pub next : steps_then ≡ after steps
  pub exchanged : (s : CaptureState) → IsCapture capture s → Exchanged s (request_of steps ∷ []) text new middle
  pub front : WritesFront old middle left true sink

-- A step was made, and a write of the text failed.
pub record FailedStep (steps : StepState) (capture : HeldCapture) (text : List ℕ) (old : SinkState) (new : HeldCapture) (sink : SinkState) : Type 0 where
  pub middle : List ℕ
  pub exchanged : (s : CaptureState) → IsCapture capture s → Exchanged s (request_of steps ∷ []) text new middle
  pub front : PrintsPart old middle sink

abbrev pub StepsBy : StepState → HeldCapture → List ℕ → SinkState → MakeEnd → StepState → HeldCapture → List ℕ → SinkState → Type 0
StepsBy steps capture text old ends.Done steps_then new left sink = MadeStep steps capture text old steps_then new left sink
StepsBy steps capture text old ends.WriteFault steps_then new left sink = FailedStep steps capture text old new sink
StepsBy steps capture text old ends.Memory steps_then new left sink = sink ≡ old

-- so many steps were made, by the answer
abbrev pub MakesTo : ℕ → ℕ → SinkState → HeldCapture → List ℕ → MakeEnd → SinkState → Type 0
MakesTo number count old capture text ends.Done new = HasWritten number count old capture text new
MakesTo number count old capture text ends.WriteFault new = MakesPart number count old new
MakesTo number count old capture text ends.Memory new = MakesSome number count old new

-- The last line was added, and a write of the text failed.
pub record FailedEnd (s : CaptureState) (text : List ℕ) (old new : SinkState) : Type 0 where
  pub after : CaptureState
  pub good : TakesGoodLine s end_line after
  pub part : PrintsPart old (text ++ ended_lines (end_line ∷ [])) new

-- the last line was added, and all text was written, by the answer
abbrev pub FinishesBy : HeldCapture → List ℕ → SinkState → MakeEnd → SinkState → Type 0
FinishesBy capture text old ends.Done new = (s : CaptureState) → IsCapture capture s → (t : CaptureState) × TakesGoodLine s end_line t × Prints old (text ++ ended_lines (end_line ∷ [])) new
FinishesBy capture text old ends.WriteFault new = (s : CaptureState) → IsCapture capture s → FailedEnd s text old new
FinishesBy capture text old ends.Memory new = new ≡ old

-- the counts of a capture that has ended
abbrev pub CountsEnd : HeldCapture → Tallied → Type 0
CountsEnd capture tallied = (s : CaptureState) → IsCapture capture s
    → AreCaptureCounts s tallied.links tallied.entries tallied.replies tallied.refused × (nodes_of s 1 ≡ Some tallied.nodes)
