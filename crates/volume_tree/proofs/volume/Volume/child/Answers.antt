use Rattle.std.proofs.Common.{◌∙◌, ap, sym}
use Rattle.volume_spec.specs.Walk.{child_by_key}
use Rattle.volume_tree.proofs.Showing.{child-shown}
use Rattle.volume_tree.proofs.Keeping.{found-as}
use Rattle.volume_tree.specs.Shown.{TreeValue}
use Rattle.volume_tree.proofs.volume.Volume.child.Goals as goal

pub returns : goal.returns
returns c =
    found-as c.child.result (child_by_key c.self.inside.rows.rows c.args.dir.0 c.args.key.now) (child_by_key c.args.self.now.state.rows c.args.dir.0 c.args.key.now) c.child.ensures
    (ap (λ (v : TreeValue). child_by_key v.state.rows c.args.dir.0 c.args.key.now) (sym c.self.view_is) ∙ child-shown c.self.inside.forks c.self.inside.rows.rows c.args.dir.0 c.args.key.now)
