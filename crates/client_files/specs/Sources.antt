-- What a source gives in several reads (this profile).
use Rattle.std.specs.Prelude.{◌≡◌, ◌≤◌, ◌<◌, ℕ, true, List, [], ◌++◌, length, take, IfSome, option_map}
use Rattle.afp_base.specs.Counts.{CountsOn}
use Rattle.afp_outside.specs.ends.Source.{SourceState}
use Rattle.client_files.specs.declared.whole.Filled.{Filled}
use Rattle.client_files.specs.declared.whole.Filled.TheVariants.{Got, Failed}

-- It gave these bytes, the next that were coming, and no read failed.
pub record Gives (old : SourceState) (bytes : List ℕ) (new : SourceState) : Type 0 where
  pub given : new.given ≡ option_map (λ given. given ++ bytes) old.given
  pub coming : old.coming ≡ option_map (λ coming. bytes ++ coming) new.coming
  pub faults : new.faults ≡ old.faults

-- It gave these bytes, and then a read failed, once, and its fault is counted.
pub record GivesThenFails (old : SourceState) (bytes : List ℕ) (new : SourceState) : Type 0 where
  pub given : new.given ≡ option_map (λ given. given ++ bytes) old.given
  pub coming : old.coming ≡ option_map (λ coming. bytes ++ coming) new.coming
  pub fault : CountsOn 1 old.faults new.faults

-- It answered that nothing is left, and nothing is.
pub record IsAtEnd (source : SourceState) : Type 0 where
  pub ended : source.ended ≡ true
  pub nothing_left : IfSome source.coming (λ coming. coming ≡ [])

-- So many bytes begin the room; where they are fewer than it holds, they are the source's last.
pub record FillsPart (old : SourceState) (room : List ℕ) (n : ℕ) (new : SourceState) : Type 0 where
  pub most : n ≤ length room
  pub gives : Gives old (take n room) new
  pub end : n < length room → IsAtEnd new

-- Fewer bytes than so many are lost in front of a fault.
pub record Loses (most : ℕ) (old new : SourceState) : Type 0 where
  pub lost : List ℕ
  pub few : length lost < most
  pub fails : GivesThenFails old lost new

-- by the answer: whether the room was filled
abbrev pub Fills : SourceState → List ℕ → Filled → SourceState → Type 0
Fills old room (Got n) new = FillsPart old room n new
Fills old room Failed new = Loses (length room) old new
