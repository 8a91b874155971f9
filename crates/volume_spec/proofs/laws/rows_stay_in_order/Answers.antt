use Rattle.volume_spec.proofs.Formed.{formed-parts}
use Rattle.volume_spec.proofs.Orders.{order-parts, rising-ids-differ, new-rises, gone-rises, changed-rises}
use Rattle.volume_spec.proofs.Trees.{tree-parts}
use Rattle.volume_spec.proofs.laws.rows_stay_in_order.Goals as goal

pub returns-clause-differ : goal.returns-clause-differ
returns-clause-differ c = rising-ids-differ

pub returns-clause-new : goal.returns-clause-new
returns-clause-new c = λ v row s. new-rises v row (formed-parts v s.formed).low (tree-parts v s.tree) (order-parts v s.order).rows

pub returns-clause-gone : goal.returns-clause-gone
returns-clause-gone c = gone-rises

pub returns-clause-changed : goal.returns-clause-changed
returns-clause-changed c = changed-rises
