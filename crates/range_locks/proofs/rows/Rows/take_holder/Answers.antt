use Rattle.std.proofs.Common.{◌==◌, not, rules, ap, ◌∙◌}
use Rattle.std.proofs.lemmas.Fn.{filter_same}
use Rattle.std.specs.Prelude.{filter}
use Rattle.range_locks.specs.declared.rows.LockRow.{LockRow}
use Rattle.range_locks.proofs.rows.Rows.take_holder.Goals as goal

pub returns : goal.returns
returns c = filter_same _ (λ (x : LockRow). not (x.reference.0 == c.args.r)) _ (λ x b f called. search rules) c.self.inside.0.items c.retain.new.self.items c.retain.ensures.filtered ∙ ap (filter (λ (x : LockRow). not (x.reference.0 == c.args.r))) c.self.view_is
