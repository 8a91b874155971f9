-- Passes that are cut off a first one (this profile).
use Rattle.std.specs.Prelude.{◌≡◌, ℕ, zero, suc, ◌+◌, ◌/◌, List, []}
use mathlib.Core.Option.{some}
use lib.ListN.{get_elem?}
use Rattle.afp_serial.specs.Shown.{Shown}
use Rattle.record_keeper.specs.declared.keeper.Keeper.{Ghosts}
use Rattle.afp_desk.specs.declared.desk.view.View.{View}
use Rattle.afp_desk.specs.desk.Totals.{total}
use Rattle.afp_desk.specs.desk.Rule.{all_shares, share_of, shown_of}
use Rattle.afp_desk.specs.declared.workers.worker.Worker.{Worker}

-- the door of a worker
abbrev pub door_of : {X Y : Type 0} {g : Ghosts X} → Worker X Y g → Y
door_of w = w.door

-- the same history, with no places of its own
abbrev pub fresh : Shown → Shown
fresh a = record { start = a.start; history = a.history; mine = []; faults = a.faults }

-- the least share of a first pass that was cut so often
abbrev pub least : ℕ → ℕ
least zero = all_shares
least (suc n) = least n / 2

-- each new pass shows what the first had seen, and has no places
pub record Staffed (v w : View) (us : List View) : Type 0 where
  pub shares : w.share + total share_of us ≡ v.share
  pub start : w.start ≡ v.start
  pub same : shown_of w ≡ shown_of v
  pub each : (i : ℕ) (u : View) → get_elem? us i ≡ some u → shown_of u ≡ fresh (shown_of v)
