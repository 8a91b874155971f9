-- Where bytes come from, and what a read of them does (this profile).
use Rattle.std.specs.Prelude.{◌≡◌, ◌⊎◌, ℕ, ◌≤◌, ◌<◌, Bool, true, List, [], ◌++◌, length, take, Option, IfSome, option_map}
use Rattle.afp_base.specs.Counts.{CountsOn}
use Rattle.afp_outside.specs.declared.ends.link.ReadResult.{ReadResult}
use Rattle.afp_outside.specs.declared.ends.link.ReadResult.TheVariants.{Got, Quiet, End, Failed}

-- The bytes that its reads gave, those that they had given when it was last read, and the bytes still coming, each known where the
-- source tells them; whether it has answered that nothing is left; and how often it failed.
pub record SourceState : Type 0 where
  pub given : Option (List ℕ)
  pub given_before : Option (List ℕ)
  pub coming : Option (List ℕ)
  pub ended : Bool
  pub faults : ℕ

-- A read that gave the n next bytes, which begin the room.
pub record SourceGives (old : SourceState) (room : List ℕ) (n : ℕ) (new : SourceState) : Type 0 where
  pub least : 1 ≤ n
  pub most : n ≤ length room
  pub given : new.given ≡ option_map (λ given. given ++ take n room) old.given
  pub given_before : new.given_before ≡ old.given
  pub coming : old.coming ≡ option_map (λ coming. take n room ++ coming) new.coming
  pub ended : new.ended ≡ old.ended
  pub faults : new.faults ≡ old.faults

-- A read that found the end: no byte is left.
pub record SourceEnds (old new : SourceState) : Type 0 where
  pub given : new.given ≡ old.given
  pub given_before : new.given_before ≡ old.given
  pub nothing_left : IfSome old.coming (λ coming. coming ≡ [])
  pub coming : new.coming ≡ old.coming
  pub ended : new.ended ≡ true
  pub faults : new.faults ≡ old.faults

-- A read that failed: it took nothing, and its fault is counted, once.
pub record SourceFails (old new : SourceState) : Type 0 where
  pub given : new.given ≡ old.given
  pub given_before : new.given_before ≡ old.given
  pub coming : new.coming ≡ old.coming
  pub ended : new.ended ≡ old.ended
  pub faults : CountsOn 1 old.faults new.faults

-- A read by its answer; `room` is the buffer after it. It is never a quiet.
abbrev pub SourceReads : SourceState → List ℕ → ReadResult → SourceState → Type 0
SourceReads old room (Got n) new = SourceGives old room n new
SourceReads old room Quiet new = ⊥
SourceReads old room End new = SourceEnds old new
SourceReads old room Failed new = SourceFails old new

-- The last read was made where fewer bytes than `turns` had been taken: `before` of those that were read, where the source tells them.
pub record LastReadWithin (turns : ℕ) (read : List ℕ) (old new : SourceState) : Type 0 where
  pub before : List ℕ
  pub last : List ℕ
  pub whole : read ≡ before ++ last
  pub fewer : length before < turns
  pub told : new.given_before ≡ option_map (λ given. given ++ before) old.given

-- No read was made where as many bytes as `turns` had been taken: nothing was read, or the last read was made before.
abbrev pub ReadWithin : ℕ → List ℕ → SourceState → SourceState → Type 0
ReadWithin turns read old new = ((read ≡ []) × (new ≡ old)) ⊎ LastReadWithin turns read old new
