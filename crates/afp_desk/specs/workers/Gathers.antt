-- What a pass shows that met others (this profile).
use Rattle.std.specs.Prelude.{◌≡◌, ℕ, ◌+◌, List}
use mathlib.Core.Option.{some}
use lib.ListN.{get_elem?}
use Rattle.record_keeper.specs.declared.keeper.Keeper.{Ghosts}
use Rattle.afp_desk.specs.declared.desk.view.View.{View}
use Rattle.afp_desk.specs.desk.Totals.{total, times}
use Rattle.afp_desk.specs.desk.Rule.{share_of, has_place}
use Rattle.afp_desk.specs.desk.Passes.{view, Begins}
use Rattle.afp_desk.specs.declared.workers.worker.Worker.{Worker}
use Rattle.afp_desk.specs.declared.workers.gather.Done.{Done}

-- what a worker's pass shows
abbrev pub pass_view : {X Y : Type 0} {g : Ghosts X} → Worker X Y g → View
pass_view w = view w.pass

-- the door of a worker that is done
abbrev pub done_of : {X Y : Type 0} {g : Ghosts X} → Worker X Y g → Done Y
done_of w = record { door = w.door; end = w.end }

-- one pass has what it had and what the others had
pub record Gathered (v : View) (us : List View) (w : View) : Type 0 where
  pub shares : w.share ≡ v.share + total share_of us
  pub start : w.start ≡ v.start
  pub first : Begins v.seen w.seen
  pub each : (i : ℕ) (u : View) → get_elem? us i ≡ some u → Begins u.seen w.seen
  pub places : (k : ℕ) → times k w.mine ≡ times k v.mine + total (has_place k) us
