-- What is kept for the table, and what a look at its rows finds (this profile).
use Rattle.std.specs.Prelude.{◌≡◌, ℕ, ◌==◌, nat_lt, Bool, true, false, ◌&&◌, List, Option, Some, None}
use Rattle.std.specs.List.{list_any, list_all}
use Rattle.afp_base.specs.declared.ids.ForkRef.{ForkRef}
use Rattle.deny_modes.specs.Opens.{Open}
use Rattle.range_locks.specs.Locks.{ForkLock}
use Rattle.fork_table.specs.declared.open_fork.OpenFork.{OpenFork}
use Rattle.fork_table.specs.declared.own.OwnRef.{OwnRef}
use Rattle.fork_table.specs.ForkTable.{plain_opens, is_held}
use Rattle.fork_table.specs.lemma.Own.{AreOwn}

-- references are 1 or more; the entries of the sessions are those of the rows; the opens are the rows without their sessions; and each
-- lock is on the fork of a row
pub record IsTable (rows : List (ℕ × OpenFork)) (own : List (OwnRef × Unit {0})) (opens : List Open) (locks : List ForkLock) : Type 0 where
  pub from_one : list_all (λ row. nat_lt 0 row.0) rows ≡ true
  pub sessions : AreOwn rows own
  pub shown : opens ≡ plain_opens rows
  pub held : list_all (is_held rows) locks ≡ true

-- a reference whose open passes; none exactly where no open passes
abbrev pub FindsOne : (OpenFork → Bool) → List (ℕ × OpenFork) → Option ForkRef → Type 0
FindsOne passes rows (Some r) = list_any (λ row. (row.0 == r.0) && passes row.1) rows ≡ true
FindsOne passes rows None = list_any (λ row. passes row.1) rows ≡ false

-- there is an open, and it passes
abbrev pub does_pass : (OpenFork → Bool) → Option OpenFork → Bool
does_pass passes None = false
does_pass passes (Some o) = passes o
