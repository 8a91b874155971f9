-- What gathering the bytes of a capture into lines does (this profile).
use Rattle.std.specs.Prelude.{◌≡◌, ℕ, ◌≤◌, false, List, [], ◌∷◌, ◌++◌, length, All, Option, Some, None}
use Rattle.capture_log_lines.specs.log.Lines.{longest_line}
use Rattle.capture_log.specs.Judged.{JudgedAt}
use Rattle.capture_log.specs.Reading.{is_newline, lines_in}
use Rattle.capture_log_server.specs.CaptureState.{CaptureState, Leads, begins}
use Rattle.capture_log.specs.Taking.{HeldCapture, IsCapture}
use Rattle.capture_log.specs.declared.replay_end.ReplayEnd.{ReplayEnd}

-- A capture as far as its lines were taken, and what stands behind the last newline.
pub record ReaderState : Type 0 where
  pub capture : HeldCapture
  pub held : List ℕ

-- no newline is among the bytes
abbrev pub IsOneLine : List ℕ → Type 0
IsOneLine bytes = All (λ byte. is_newline byte ≡ false) bytes

abbrev pub AreLines : List (List ℕ) → Type 0
AreLines [] = Unit {0}
AreLines (line ∷ lines) = IsOneLine line × AreLines lines

-- lines, each with its newline
abbrev pub ended_lines : List (List ℕ) → List ℕ
ended_lines [] = []
ended_lines (line ∷ lines) = line ++ 10 ∷ ended_lines lines

-- What was read are these lines, none of which decides, and what is held behind them.
pub record Holds (r : ReaderState) (read : List ℕ) : Type 0 where
  pub lines : List (List ℕ)
  pub whole : read ≡ ended_lines lines ++ r.held
  pub are_lines : AreLines lines
  pub one_line : IsOneLine r.held
  pub size : length r.held ≤ longest_line
  pub standing : CaptureState
  pub leads : Leads begins lines standing
  pub is : IsCapture r.capture standing
  pub number : r.capture.number ≡ length lines

-- no line of what was read decides, or one does
abbrev pub Gathers : List ℕ → Option ReplayEnd → ReaderState → Type 0
Gathers read None r = Holds r read
Gathers read (Some verdict) r = JudgedAt (lines_in false read) verdict

-- The end of a line was read: it decides nothing, or it decides, whatever stands behind it.
abbrev pub EndsLine : List ℕ → List ℕ → Option ReplayEnd → ReaderState → Type 0
EndsLine read last None r = Holds r (read ++ (last ++ 10 ∷ []))
EndsLine read last (Some verdict) r = (more : List ℕ) → JudgedAt (lines_in false (read ++ (last ++ 10 ∷ more))) verdict
