-- What one read does to a client and a link (this profile).
use Rattle.std.specs.Prelude.{◌≡◌, ℕ, ◌≤◌, List, ◌++◌, take}
use Rattle.afp_outside.specs.ends.Link.{LinkState, ReadsPiece, ReadsQuiet, ReadsEnd, FailsToRead}
use Rattle.afp_outside.specs.declared.ends.link.ReadResult.{ReadResult}
use Rattle.afp_outside.specs.declared.ends.link.ReadResult.TheVariants as results
use Rattle.afp_client.specs.session.State.{Client}

-- The n bytes that came stand behind what was held.
pub record Holds (old : Client) (before : LinkState) (n : ℕ) (new : Client) (after : LinkState) : Type 0 where
  pub room : List ℕ
  pub reads : ReadsPiece before room n after
  pub state : new.state ≡ old.state
  pub rest : new.held.rest ≡ old.held.rest ++ take n room
  pub place : new.held.place ≡ old.held.place

-- by what the read gave
abbrev pub ReadsMore : Client → LinkState → ReadResult → Client → LinkState → Type 0
ReadsMore old before (results.Got n) new after = Holds old before n new after
ReadsMore old before results.Quiet new after = ReadsQuiet before after × (new ≡ old)
ReadsMore old before results.End new after = ReadsEnd before after × (new ≡ old)
ReadsMore old before results.Failed new after = FailsToRead before after × (new ≡ old)

-- no more bytes came than the room has
abbrev pub TakesAtMost : ReadResult → ℕ → Type 0
TakesAtMost (results.Got n) most = n ≤ most
TakesAtMost results.Quiet most = Unit {0}
TakesAtMost results.End most = Unit {0}
TakesAtMost results.Failed most = Unit {0}
