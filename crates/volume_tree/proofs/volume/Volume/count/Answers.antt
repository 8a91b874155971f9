use Rattle.std.proofs.Common.{◌∙◌, ap, sym, length}
use Rattle.volume_tree.proofs.Showing.{length-shown}
use Rattle.volume_tree.specs.Shown.{TreeValue}
use Rattle.volume_tree.proofs.volume.Volume.count.Goals as goal

pub returns : goal.returns
returns c = c.count.ensures ∙ sym (length-shown c.self.inside.forks c.self.inside.rows.rows) ∙ ap (λ (v : TreeValue). length v.state.rows) c.self.view_is
