-- The lines of a source (this profile).
use Rattle.std.specs.Prelude.{◌≡◌, ℕ, ◌+◌, ◌-◌, ◌≤◌, ◌<◌, ◌==◌, Bool, true, false, List, [], ◌∷◌, ◌++◌, length, All, option_map}
use Rattle.afp_base.specs.Counts.{CountsOn}
use Rattle.afp_outside.specs.ends.Source.{SourceState, ReadWithin}
use Rattle.afp_outside.specs.declared.lines.lines.NextLine.{NextLine}
use Rattle.afp_outside.specs.declared.lines.lines.NextLine.TheVariants as nexts

abbrev pub is_newline : ℕ → Bool
is_newline byte = byte == 10

-- no newline is among the bytes
abbrev pub IsOneLine : List ℕ → Type 0
IsOneLine bytes = All (λ byte. is_newline byte ≡ false) bytes

-- What was read and stands in no line yet; whether the source ended; and how many bytes were read in all.
pub record Unread : Type 0 where
  pub bytes : List ℕ
  pub ended : Bool
  pub taken : ℕ

-- The next line of these bytes, and what stands behind it: its newline was read; it is longer than a line may be; or the source ended, and
-- it is the last.
pub data IsNext (longest : ℕ) (bytes : List ℕ) (ended : Bool) (line rest : List ℕ) : Type 0 where
  whole : bytes ≡ line ++ 10 ∷ rest → IsNext longest bytes ended line rest
  too_long : bytes ≡ line → longest < length line → rest ≡ [] → IsNext longest bytes ended line rest
  last : bytes ≡ line → ended ≡ true → 0 < length line → rest ≡ [] → IsNext longest bytes ended line rest

-- So many bytes were read of the source; it did not fail.
pub record ReadsOn (old : Unread) (before : SourceState) (read : List ℕ) (new : Unread) (after : SourceState) : Type 0 where
  pub given : after.given ≡ option_map (λ given. given ++ read) before.given
  pub taken : new.taken ≡ old.taken + length read
  pub ended : new.ended ≡ true → after.ended ≡ true
  pub faults : after.faults ≡ before.faults

-- This is the next line. No read was made where as many bytes as `turns` had been taken.
pub record TakesLine (longest turns : ℕ) (old : Unread) (before : SourceState) (line : List ℕ) (new : Unread) (after : SourceState) : Type 0 where
  pub read : List ℕ
  pub reads : ReadsOn old before read new after
  pub one_line : IsOneLine line
  pub is_next : IsNext longest (old.bytes ++ read) new.ended line new.bytes
  pub within : ReadWithin (turns - old.taken) read before after

-- No line is left, and the source ended.
pub record TakesNone (turns : ℕ) (old : Unread) (before : SourceState) (new : Unread) (after : SourceState) : Type 0 where
  pub reads : ReadsOn old before [] new after
  pub nothing : old.bytes ≡ []
  pub nothing_left : new.bytes ≡ []
  pub ended : new.ended ≡ true
  pub within : ReadWithin (turns - old.taken) [] before after

-- What stands there is no line yet, and is not longer than one may be.
pub record TakesPart (longest : ℕ) (old : Unread) (before : SourceState) (new : Unread) (after : SourceState) : Type 0 where
  pub read : List ℕ
  pub reads : ReadsOn old before read new after
  pub bytes : new.bytes ≡ old.bytes ++ read
  pub one_line : IsOneLine new.bytes
  pub size : length new.bytes ≤ longest
  pub goes_on : new.ended ≡ false

-- And the next read failed: its fault is counted.
pub record TakesFault (longest turns : ℕ) (old : Unread) (before : SourceState) (new : Unread) (after : SourceState) : Type 0 where
  pub mid : SourceState
  pub part : TakesPart longest old before new mid
  pub fewer : new.taken < turns
  pub given : after.given ≡ mid.given
  pub fault : CountsOn 1 mid.faults after.faults

-- Or as many bytes as may be were read.
pub record TakesAll (longest turns : ℕ) (old : Unread) (before : SourceState) (new : Unread) (after : SourceState) : Type 0 where
  pub part : TakesPart longest old before new after
  pub reached : turns ≤ new.taken
  pub within : ReadWithin (turns - old.taken) part.read before after

-- There was no memory.
pub record TakesSome (turns : ℕ) (old : Unread) (before : SourceState) (after : SourceState) : Type 0 where
  pub read : List ℕ
  pub given : after.given ≡ option_map (λ given. given ++ read) before.given
  pub faults : after.faults ≡ before.faults
  pub within : ReadWithin (turns - old.taken) read before after

-- by what is next
abbrev pub Takes : ℕ → ℕ → Unread → SourceState → NextLine → Unread → SourceState → Type 0
Takes longest turns old before (nexts.Line line) new after = TakesLine longest turns old before line new after
Takes longest turns old before nexts.End new after = TakesNone turns old before new after
Takes longest turns old before nexts.ReadFault new after = TakesFault longest turns old before new after
Takes longest turns old before nexts.Spent new after = TakesAll longest turns old before new after
Takes longest turns old before nexts.Memory new after = TakesSome turns old before after
