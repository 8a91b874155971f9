use Rattle.std.proofs.Common.{◌≡◌, ℕ, List, ◌++◌, length}
use Rattle.capture_log.specs.lemma.Gathering.{Holds}
use Rattle.capture_log.proofs.reader.Reader.feed.Given as goal

abbrev pub invariant-loop-line : goal.invariant-loop-line
invariant-loop-line g l =
    (read : List ℕ) → Holds l.initial.self read → (done : List ℕ) × (l.piece ≡ done ++ l.left) × Holds l.self (read ++ done)

abbrev pub decreases-loop-line : goal.decreases-loop-line
decreases-loop-line g l = length l.left
