-- How far a line was read (this profile).
use Rattle.std.specs.Prelude.{◌≡◌, ℕ, ◌-◌, ◌<◌, length, List, [], ◌∷◌, ◌++◌, Option, Some, None, Result, Ok, Err}
use Rattle.afp_base.specs.declared.bytes.OutOfMemory.{OutOfMemory}
use Rattle.afp_outside.specs.ends.Source.{SourceState, ReadWithin}
use Rattle.afp_outside.specs.lines.Lines.{Unread, IsOneLine, ReadsOn}
use Rattle.afp_outside.specs.declared.lines.lines.NextLine.{NextLine}
use Rattle.afp_outside.specs.declared.lines.lines.NextLine.TheVariants as nexts

-- These bytes more stand there than at first, and each read of them was made where fewer than `turns` had been taken.
pub record HasRead (turns : ℕ) (old : Unread) (before : SourceState) (now : Unread) (source : SourceState) : Type 0 where
  pub read : List ℕ
  pub reads : ReadsOn old before read now source
  pub bytes : now.bytes ≡ old.bytes ++ read
  pub within : ReadWithin (turns - old.taken) read before source

-- the first line that its newline ends, and the bytes behind it, of bytes that are told apart
abbrev pub Cuts : List ℕ → Option (List ℕ) → List ℕ → Type 0
Cuts bytes None rest = IsOneLine bytes × (rest ≡ bytes)
Cuts bytes (Some line) rest = IsOneLine line × (bytes ≡ line ++ 10 ∷ rest)

abbrev pub CutsOr : List ℕ → Result (Option (List ℕ)) OutOfMemory → List ℕ → Type 0
CutsOr bytes (Ok line) rest = Cuts bytes line rest
CutsOr bytes (Err e) rest = Unit {0}

-- all that is held is the line, or it is nothing
abbrev pub Lasts : List ℕ → NextLine → List ℕ → Type 0
Lasts bytes (nexts.Line line) rest = (line ≡ bytes) × (0 < length bytes) × (rest ≡ [])
Lasts bytes nexts.End rest = (bytes ≡ []) × (rest ≡ [])
Lasts bytes nexts.ReadFault rest = ⊥
Lasts bytes nexts.Spent rest = ⊥
Lasts bytes nexts.Memory rest = ⊥
