-- What a replay reads and answers (this profile).
use Rattle.std.specs.Prelude.{◌≡◌, ℕ, ◌≤◌, ◌<◌, ◌==◌, nat_lt, not, ◌&&◌, ◌||◌, Bool, true, false, List, [], ◌∷◌, ◌++◌, length, option_map, if◌then◌else◌}
use Rattle.std.specs.List.{slice_split}
use Rattle.afp_base.specs.Counts.{CountsOn}
use Rattle.afp_outside.specs.ends.Source.{SourceState, LastReadWithin, ReadWithin}
use Rattle.capture_log_lines.specs.log.Lines.{longest_line}
use Rattle.capture_log.specs.Judged.{Judged, IsGoodCapture, AreTrue}
use Rattle.capture_log_server.specs.CaptureState.{CaptureState, Leads, begins}
use Rattle.capture_log.specs.declared.replay_end.ReplayEnd.{ReplayEnd}
use Rattle.capture_log.specs.declared.replay_end.ReplayEnd.TheVariants as ends

abbrev pub is_newline : ℕ → Bool
is_newline byte = byte == 10

-- what stands between newlines: all but the last are lines that were ended
abbrev pub pieces : List ℕ → List (List ℕ)
pieces bytes = slice_split is_newline bytes

-- what stands behind the last newline is a line where it is too long already, or where no more comes and it has a byte
abbrev pub last_line : Bool → List ℕ → List (List ℕ)
last_line ended piece = if nat_lt longest_line (length piece) || (ended && not (length piece == 0)) then piece ∷ [] else []

-- the lines among the pieces
abbrev pub lines_of : Bool → List (List ℕ) → List (List ℕ)
lines_of ended [] = []
lines_of ended (piece ∷ []) = last_line ended piece
lines_of ended (piece ∷ next ∷ more) = piece ∷ lines_of ended (next ∷ more)

-- the lines of bytes that may be judged: those whose newline was read, one that is too long, and the last one where no more comes
abbrev pub lines_in : Bool → List ℕ → List (List ℕ)
lines_in ended bytes = lines_of ended (pieces bytes)

-- Of what was read so far no line decides.
abbrev pub Undecided : List ℕ → Type 0
Undecided read = (s : CaptureState) × Leads begins (lines_in false read) s

-- whether the source had ended when the capture was judged
abbrev pub Ends : ℕ → List ℕ → SourceState → SourceState → Bool → Type 0
Ends turns read old new true = (new.ended ≡ true) × (length read < turns)
Ends turns read old new false = (new.ended ≡ old.ended) × LastReadWithin turns read old new

-- The bytes read are judged so.
pub record IsJudged (turns : ℕ) (read : List ℕ) (old new : SourceState) (verdict : ReplayEnd) : Type 0 where
  pub ended : Bool
  pub judged : Judged (lines_in ended read) ended verdict
  pub ends : Ends turns read old new ended
  pub faults : new.faults ≡ old.faults

-- why it answers so
abbrev pub ReplaysBy : ℕ → List ℕ → SourceState → SourceState → ReplayEnd → Type 0
ReplaysBy turns read old new (ends.Same links entries replies refused) = IsJudged turns read old new (ends.Same links entries replies refused)
ReplaysBy turns read old new (ends.Differs link at want got) = IsJudged turns read old new (ends.Differs link at want got)
ReplaysBy turns read old new (ends.BadCapture line) = IsJudged turns read old new (ends.BadCapture line)
ReplaysBy turns read old new ends.ReadFault = CountsOn 1 old.faults new.faults × (length read < turns) × Undecided read
ReplaysBy turns read old new ends.Spent = (turns ≤ length read) × ReadWithin turns read old new × Undecided read × (new.faults ≡ old.faults)
ReplaysBy turns read old new ends.Memory = Unit {0}

-- it was compared to its end, or up to a byte that differs, or there was no memory
abbrev pub IsCompared : ReplayEnd → Type 0
IsCompared (ends.Same links entries replies refused) = Unit {0}
IsCompared (ends.Differs link at want got) = Unit {0}
IsCompared (ends.BadCapture line) = ⊥
IsCompared ends.ReadFault = ⊥
IsCompared ends.Spent = ⊥
IsCompared ends.Memory = Unit {0}

-- it is the same, or there was no memory
abbrev pub IsTheSame : ReplayEnd → Type 0
IsTheSame (ends.Same links entries replies refused) = Unit {0}
IsTheSame (ends.Differs link at want got) = ⊥
IsTheSame (ends.BadCapture line) = ⊥
IsTheSame ends.ReadFault = ⊥
IsTheSame ends.Spent = ⊥
IsTheSame ends.Memory = Unit {0}

-- The lines that were read are good, fewer bytes than `turns` were taken, and the source did not fail.
pub record IsReadWell (turns : ℕ) (read : List ℕ) (old new : SourceState) : Type 0 where
  pub good : (ended : Bool) → IsGoodCapture (lines_in ended read) ended
  pub fewer : length read < turns
  pub faultless : CountsOn 1 old.faults new.faults → ⊥

-- A replay reads these bytes, and answers by them. Where they are read well, no line is bad; where what they name is true too, they are the same.
pub record Replays (turns : ℕ) (old : SourceState) (end : ReplayEnd) (new : SourceState) : Type 0 where
  pub read : List ℕ
  pub given : new.given ≡ option_map (λ given. given ++ read) old.given
  pub by : ReplaysBy turns read old new end
  pub compared : IsReadWell turns read old new → IsCompared end
  pub same : IsReadWell turns read old new → ((ended : Bool) → AreTrue (lines_in ended read)) → IsTheSame end
