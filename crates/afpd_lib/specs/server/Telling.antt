-- What a program prints of its run, and its exit status (this profile).
use Rattle.std.specs.Prelude.{◌≡◌, ◌⊎◌, ℕ, List}
use Rattle.afp_outside.specs.ends.Sink.{SinkState}
use Rattle.afp_outside.specs.ends.Whole.{Prints, PrintsPart}

-- A text is printed, and the status is this one; or a write fails behind a first part of it, and the status is 5.
abbrev pub Tells : List ℕ → ℕ → SinkState → SinkState → ℕ → Type 0
Tells text done old new status = ((status ≡ done) × Prints old text new) ⊎ ((status ≡ 5) × PrintsPart old text new)
