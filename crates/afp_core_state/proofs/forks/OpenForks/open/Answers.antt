use Rattle.std.proofs.Common.{sym, subst}
use Rattle.afp_core_state.specs.Forks.{Forks, HasForks, OpensFork, forks_of}
use Rattle.afp_core_state.proofs.OpenRows.{opens-fork}
use Rattle.afp_core_state.proofs.forks.OpenForks.open.Goals as goal

pub returns : goal.returns
returns c = λ w x has number.
    subst (λ (f : Forks). OpensFork w x f c.args.fork c.args.mode c.open.result (forks_of c.open.new.self)) c.self.view_is
    (opens-fork w x c.self.inside.table c.open.new.self c.args.s c.args.fork c.args.mode c.open.result c.references_are_lowest.ensures.free c.references_are_lowest.ensures.lowest c.references_are_lowest.ensures.counts
    (subst (HasForks w) (sym c.self.view_is) has) number c.open.ensures)
