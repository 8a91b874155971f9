use Rattle.std.proofs.Common.{◌∙◌, ap}
use Rattle.volume_spec.specs.Edits.{changed_at}
use Rattle.volume_tree.proofs.Keeping.{touched-kept, touched-state}
use Rattle.volume_tree.specs.Shown.{TreeValue}
use Rattle.volume_tree.proofs.volume.Volume.touch.Goals as goal

pub invariant_of-self : goal.invariant_of-self
invariant_of-self c = touched-kept c.args.now c.touched-self-inside.ensures c.self.invariant

pub returns-clause-state : goal.returns-clause-state
returns-clause-state c = touched-state c.self.inside.name c.self.inside.dates c.touched-self-inside.result c.self.inside.rows c.self.inside.forks c.args.now c.touched-self-inside.ensures ∙ ap (λ (v : TreeValue). changed_at c.args.now v.state) c.self.view_is
