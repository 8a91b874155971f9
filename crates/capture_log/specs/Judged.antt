-- The judgement of a capture, over its lines (this profile).
use Rattle.std.specs.Prelude.{◌≡◌, ◌≢◌, ◌⊎◌, ℕ, ◌+◌, Bool, true, List, ◌∷◌, ◌++◌, length, drop, Some}
use Rattle.capture_log_lines.specs.log.Lines.{line_in}
use Rattle.capture_log_lines.specs.declared.log.line.Line.TheVariants.{At}
use Rattle.capture_log_lines.specs.declared.log.line.What.TheVariants.{Out}
use Rattle.capture_log_server.specs.Connections.{difference, output}
use Rattle.capture_log_server.specs.Counting.{AreCaptureCounts}
use Rattle.capture_log_server.specs.declared.difference.Difference.{Difference}
use Rattle.capture_log_server.specs.CaptureState.{CaptureState, Leads, begins, is_bad}
use Rattle.capture_log_server.specs.declared.part.Part.TheVariants as parts
use Rattle.capture_log.specs.declared.replay_end.ReplayEnd.{ReplayEnd}
use Rattle.capture_log.specs.declared.replay_end.ReplayEnd.TheVariants.{Same, Differs, BadCapture, ReadFault, Spent, Memory}

-- A line behind good ones whose bytes differ from the output.
pub record FindsDifference (s : CaptureState) (raw : List ℕ) (link : ℕ) (d : Difference) : Type 0 where
  pub now : ℕ
  pub bytes : List ℕ
  pub is : line_in raw ≡ Some (At link now (Out bytes))
  pub good : is_bad s (line_in raw) ≢ true
  pub found : difference (s.connections link).named bytes (drop (s.connections link).named (output (s.connections link))) ≡ Some d

-- what a line decides where the capture stands
abbrev pub Decides : CaptureState → ℕ → List ℕ → ReplayEnd → Type 0
Decides s number raw (BadCapture line) = (is_bad s (line_in raw) ≡ true) × (line ≡ number)
Decides s number raw (Differs link at want got) = FindsDifference s raw link (record { at = at; want = want; got = got })
Decides s number raw (Same links entries replies refused) = ⊥
Decides s number raw ReadFault = ⊥
Decides s number raw Spent = ⊥
Decides s number raw Memory = ⊥

-- what the end of a capture decides that no line has decided
abbrev pub DecidesEnd : CaptureState → ℕ → ReplayEnd → Type 0
DecidesEnd s number (BadCapture line) = (s.part ≢ parts.Nothing) × (line ≡ number)
DecidesEnd s number (Differs link at want got) = ⊥
DecidesEnd s number (Same links entries replies refused) = (s.part ≡ parts.Nothing) × AreCaptureCounts s links entries replies refused
DecidesEnd s number ReadFault = ⊥
DecidesEnd s number Spent = ⊥
DecidesEnd s number Memory = ⊥

-- Lines before it are good, and this one decides.
pub record JudgedAt (lines : List (List ℕ)) (verdict : ReplayEnd) : Type 0 where
  pub before : List (List ℕ)
  pub raw : List ℕ
  pub behind : List (List ℕ)
  pub whole : lines ≡ before ++ raw ∷ behind
  pub standing : CaptureState
  pub leads : Leads begins before standing
  pub decides : Decides standing (length before + 1) raw verdict

-- All lines are good, and no more come.
pub record JudgedAtEnd (lines : List (List ℕ)) (verdict : ReplayEnd) : Type 0 where
  pub standing : CaptureState
  pub leads : Leads begins lines standing
  pub decides : DecidesEnd standing (length lines + 1) verdict

-- a capture is judged by its first line that decides, or else, where no more lines come, by its end
abbrev pub Judged : List (List ℕ) → Bool → ReplayEnd → Type 0
Judged lines ended verdict = JudgedAt lines verdict ⊎ (JudgedAtEnd lines verdict × (ended ≡ true))

-- A capture without a bad line: each of its lines, behind good ones, is good, and where no more come, the last was `end`.
pub record IsGoodCapture (lines : List (List ℕ)) (ended : Bool) : Type 0 where
  pub formed :
      (before : List (List ℕ)) (raw : List ℕ) (behind : List (List ℕ)) (s : CaptureState) → lines ≡ before ++ raw ∷ behind → Leads begins before s → is_bad s (line_in raw) ≢ true
  pub whole : ended ≡ true → (s : CaptureState) → Leads begins lines s → s.part ≡ parts.Nothing

-- Each of its lines, behind good ones, names bytes that come next in the output, if it names some.
abbrev pub AreTrue : List (List ℕ) → Type 0
AreTrue lines =
    (before : List (List ℕ)) (raw : List ℕ) (behind : List (List ℕ)) (s : CaptureState) (link : ℕ) (d : Difference) → lines ≡ before ++ raw ∷ behind → Leads begins before s
    → FindsDifference s raw link d → ⊥
