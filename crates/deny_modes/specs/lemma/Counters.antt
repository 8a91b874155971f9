-- What the code and the proofs go by beside Counters; no public contract cites it.
use Rattle.std.specs.Prelude.{◌≡◌, ℕ, ◌<◌, ◌≤◌, ◌+◌, ◌-◌, nat_lt, Bool, true, false, ◌&&◌, ◌||◌, if◌then◌else◌, List, [], ◌∷◌, slice_index, Option, Some, None, filter, length}
use Rattle.std.specs.List.{AllByRecursion}
use Rattle.std.specs.Map.{keys_of}
use Rattle.afp_base.specs.DenyMode.{Access, Fork, is_one_fork}
use Rattle.sorted_map.specs.map.Entries.{at}
use Rattle.deny_modes.specs.declared.opens.Opened.{Opened}
use Rattle.deny_modes.specs.declared.opens.ForkTally.{ForkTally}
use Rattle.afp_base.specs.Apart.{are_apart}
use Rattle.deny_modes.specs.lemma.ForkOrder.{fork_cmp}
use Rattle.deny_modes.specs.Opens.{Open, counts_of, in_exchange, is_fork_open, are_in_conflict}
use Rattle.deny_modes.specs.Counters.{opens_of}

-- the tally of a fork that is open
abbrev pub tally_of : List Open → Fork → Option ForkTally
tally_of opens fork = if is_fork_open opens fork then Some (record { counts = counts_of opens fork; opens = length (filter (λ o. is_one_fork o.fork fork) opens) }) else None

-- references fit in 16 bits, each fork has its tally, and no two opens conflict
pub record IsTallied (rows : List (ℕ × Opened)) (tallies : List (Fork × ForkTally)) : Type 0 where
  pub low : AllByRecursion (λ reference. reference < 65536) (keys_of rows)
  pub tallied : (fork : Fork) → at fork_cmp tallies fork ≡ tally_of (opens_of rows) fork
  pub apart : are_apart are_in_conflict (opens_of rows) ≡ true

-- by counters: what the mode denies is used, or what it uses is denied
abbrev pub clash_with : List ℕ → Access → Bool
clash_with counts mode =
    (mode.deny_read && nat_lt 0 (slice_index counts 0))
    || (mode.deny_write && nat_lt 0 (slice_index counts 1))
    || (mode.read && nat_lt 0 (slice_index counts 2))
    || (mode.write && nat_lt 0 (slice_index counts 3))

abbrev pub bit : Bool → ℕ
bit true = 1
bit false = 0

-- the tally with one more open
abbrev pub tally_with : ForkTally → Access → ForkTally
tally_with t mode = record {
  counts = (slice_index t.counts 0 + bit mode.read) ∷ (slice_index t.counts 1 + bit mode.write) ∷ (slice_index t.counts 2 + bit mode.deny_read) ∷ (slice_index t.counts 3 + bit mode.deny_write) ∷ [];
  opens = t.opens + 1;
}

-- the tally with one open fewer
abbrev pub tally_without : ForkTally → Access → ForkTally
tally_without t mode = record {
  counts = (slice_index t.counts 0 - bit mode.read) ∷ (slice_index t.counts 1 - bit mode.write) ∷ (slice_index t.counts 2 - bit mode.deny_read) ∷ (slice_index t.counts 3 - bit mode.deny_write) ∷ [];
  opens = t.opens - 1;
}

-- the tally of a fork with no open
abbrev pub no_tally : ForkTally
no_tally = record { counts = 0 ∷ 0 ∷ 0 ∷ 0 ∷ []; opens = 0 }

-- a row with its fork exchanged
abbrev pub exchange_row : Fork → Fork → ℕ × Opened → ℕ × Opened
exchange_row a b row = (row.0, record row.1 { fork = in_exchange a b row.1.fork })

-- one more open can be counted
pub record CanCount (t : ForkTally) : Type 0 where
  pub readers : slice_index t.counts 0 ≤ 65536
  pub writers : slice_index t.counts 1 ≤ 65536
  pub read_deniers : slice_index t.counts 2 ≤ 65536
  pub write_deniers : slice_index t.counts 3 ≤ 65536
  pub all : t.opens ≤ 65536

-- an open with that mode is counted
pub record HasOpen (t : ForkTally) (mode : Access) : Type 0 where
  pub reads : bit mode.read ≤ slice_index t.counts 0
  pub writes : bit mode.write ≤ slice_index t.counts 1
  pub denies_reading : bit mode.deny_read ≤ slice_index t.counts 2
  pub denies_writing : bit mode.deny_write ≤ slice_index t.counts 3
  pub is : 1 ≤ t.opens
