use Rattle.std.proofs.Common.{rules, not, ◌==◌}
use Rattle.std.proofs.lemmas.Fn.{filter_same}
use Rattle.desktop_db.proofs.appls.forget_node.Goals as goal

pub returns-clause-items : goal.returns-clause-items
returns-clause-items c = filter_same _ (λ appl. not (appl.node == c.args.node.0)) _ (λ x b g k. (search rules, search rules)) _ _ c.retain.ensures.filtered
