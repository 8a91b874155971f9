-- What the code and the proofs go by beside Children; no public contract cites it.
use Rattle.std.specs.Prelude.{Bool, Option, Some, None, if◌then◌else◌}

-- what is there, if it passes a test
abbrev pub kept : {A : Type 0} → (A → Bool) → Option A → Option A
kept test None = None
kept test (Some x) = if test x then Some x else None
