use Rattle.std.proofs.Common.{◌∙◌, ap}
use Rattle.deny_modes.specs.Opens.{opens_on}
use Rattle.fork_table.specs.ForkTable.{Table, forks_of}
use Rattle.fork_table.proofs.Keeping.{opens_of_rows}
use Rattle.fork_table.proofs.table.ForkTable.on.Goals as goal

pub returns : goal.returns
returns c =
    c.on.ensures
    ∙ ap (opens_on c.args.v.0) c.self.invariant.shown
    ∙ opens_of_rows c.args.v.0 c.self.inside.rows
    ∙ ap (λ (t : Table). forks_of c.args.v.0 t.opens) c.self.view_is
