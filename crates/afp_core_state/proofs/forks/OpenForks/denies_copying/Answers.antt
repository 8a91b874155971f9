use Rattle.std.proofs.Common.{◌∙◌, ◌&&◌, ◌||◌, ap, not}
use Rattle.std.specs.List.{list_any}
use Rattle.afp_base.specs.DenyMode.{is_one_fork, Access}
use Rattle.afp_serial.specs.World.{OpenFork}
use Rattle.afp_core_state.specs.Forks.{Forks}
use Rattle.deny_modes.specs.Opens.{has_conflict}
use Rattle.fork_table.specs.ForkTable.{plain_opens}
use Rattle.afp_core_state.proofs.HeldFiles.{denied, not-not}
use Rattle.afp_core_state.proofs.forks.OpenForks.denies_copying.Goals as goal

pub returns : goal.returns
returns c =
    let rows = c.self.inside.table.opens in
    ap not c.may_open.ensures ∙ ap (λ (m : Access). not (not (has_conflict (plain_opens rows) c.args.fork.now m))) c.copying-mode.ensures
    ∙ not-not _ ∙ denied rows c.args.fork.now ∙ ap (λ (f : Forks). list_any (λ (o : OpenFork). is_one_fork o.fork c.args.fork.now && (o.access.write || o.access.deny_read)) f.opens) c.self.view_is
