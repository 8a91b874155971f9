-- What one read does to the buffer of a deframer.
use Rattle.std.specs.Prelude.{◌≡◌, ℕ, ◌+◌, ◌≤◌, List, ◌++◌, length, take, drop}
use Rattle.afp_outside.specs.ends.Link.{LinkState, ReadsPiece, ReadsQuiet, ReadsEnd, FailsToRead}
use Rattle.afp_outside.specs.declared.ends.link.ReadResult.{ReadResult}
use Rattle.afp_outside.specs.declared.ends.link.ReadResult.TheVariants as results
use Rattle.afp_outside.specs.declared.ends.ready_link.ReadyRead.{ReadyRead}
use Rattle.afp_outside.specs.declared.ends.ready_link.ReadyRead.TheVariants as readies

-- The n bytes that came stand in the buffer behind those that were held.
pub record Filled (rest : List ℕ) (most : ℕ) (before : LinkState) (n start held : ℕ) (buffer : List ℕ) (after : LinkState) : Type 0 where
  pub room : List ℕ
  pub reads : ReadsPiece before room n after
  pub bytes : take (held + n) (drop start buffer) ≡ rest ++ take n room
  pub fits : start + held + n ≤ length buffer
  pub few : n ≤ most

-- the buffer holds what it held
pub record Holds (rest : List ℕ) (start held : ℕ) (buffer : List ℕ) : Type 0 where
  pub bytes : take held (drop start buffer) ≡ rest
  pub fits : start + held ≤ length buffer

-- by what the read gave
abbrev pub Fills : List ℕ → ℕ → LinkState → ReadResult → ℕ → ℕ → List ℕ → LinkState → Type 0
Fills rest most before (results.Got n) start held buffer after = Filled rest most before n start held buffer after
Fills rest most before results.Quiet start held buffer after = ReadsQuiet before after × Holds rest start held buffer
Fills rest most before results.End start held buffer after = ReadsEnd before after × Holds rest start held buffer
Fills rest most before results.Failed start held buffer after = FailsToRead before after × Holds rest start held buffer

-- by what a read gave that does not wait
abbrev pub FillsReady : List ℕ → ℕ → LinkState → ReadyRead → ℕ → ℕ → List ℕ → LinkState → Type 0
FillsReady rest most before (readies.Got n) start held buffer after = Filled rest most before n start held buffer after
FillsReady rest most before readies.NotYet start held buffer after = (after ≡ before) × Holds rest start held buffer
FillsReady rest most before readies.End start held buffer after = ReadsEnd before after × Holds rest start held buffer
FillsReady rest most before readies.Failed start held buffer after = FailsToRead before after × Holds rest start held buffer
