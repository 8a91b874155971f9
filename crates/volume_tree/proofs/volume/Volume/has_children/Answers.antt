use Rattle.std.proofs.Common.{◌∙◌, ap}
use Rattle.volume_spec.specs.Edits.{has_children}
use Rattle.volume_tree.proofs.Keeping.{children-are}
use Rattle.volume_tree.specs.Shown.{TreeValue}
use Rattle.volume_tree.proofs.volume.Volume.has_children.Goals as goal

pub returns : goal.returns
returns c =
    c.is_some.ensures ∙ children-are c.self.inside.forks c.self.inside.rows.rows c.args.dir.0 c.nth.result c.nth.ensures
    ∙ ap (λ (v : TreeValue). has_children v.state.rows c.args.dir.0) c.self.view_is
