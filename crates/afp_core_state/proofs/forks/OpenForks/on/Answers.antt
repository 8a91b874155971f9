use Rattle.std.proofs.Common.{◌∙◌, sym, ap, subst}
use Rattle.afp_core_state.specs.Forks.{HasForks, shown_opens}
use Rattle.afp_core_state.proofs.OpenRows.{opened-is}
use Rattle.afp_core_state.proofs.forks.OpenForks.on.Goals as goal

pub returns : goal.returns
returns c = λ w has. ap shown_opens c.on.ensures ∙ opened-is w c.self.inside.table c.args.v.0 (subst (HasForks w) (sym c.self.view_is) has)
