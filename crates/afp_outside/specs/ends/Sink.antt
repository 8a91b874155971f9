-- Where a report goes, and what a write does to it (this profile).
use Rattle.std.specs.Prelude.{◌≡◌, ℕ, ◌≤◌, List, ◌++◌, length, take, Option, option_map}
use Rattle.afp_base.specs.Counts.{CountsOn}
use Rattle.afp_outside.specs.declared.ends.link.Wrote.{Wrote}
use Rattle.afp_outside.specs.declared.ends.link.Wrote.TheVariants.{Took, Failed}

-- The bytes written, known where the sink tells them, and how often it failed.
pub record SinkState : Type 0 where
  pub written : Option (List ℕ)
  pub faults : ℕ

-- A write that took the first n of the bytes offered, and counted no fault.
pub record SinkTakes (old : SinkState) (offered : List ℕ) (n : ℕ) (new : SinkState) : Type 0 where
  pub least : 1 ≤ n
  pub most : n ≤ length offered
  pub written : new.written ≡ option_map (λ written. written ++ take n offered) old.written
  pub faults : new.faults ≡ old.faults

-- A write that failed: it wrote nothing, and its fault is counted, once.
pub record SinkFails (old new : SinkState) : Type 0 where
  pub written : new.written ≡ old.written
  pub faults : CountsOn 1 old.faults new.faults

-- A write by its answer.
abbrev pub SinkWrites : SinkState → List ℕ → Wrote → SinkState → Type 0
SinkWrites old offered (Took n) new = SinkTakes old offered n new
SinkWrites old offered Failed new = SinkFails old new
