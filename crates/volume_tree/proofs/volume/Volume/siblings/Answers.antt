use Rattle.std.proofs.Common.{◌∙◌, ap, sym, map}
use Rattle.volume_spec.specs.Listing.{listed}
use Rattle.node_rows.specs.Children.{child_of}
use Rattle.volume_tree.proofs.Siblings.{siblings-shown}
use Rattle.volume_tree.specs.Shown.{TreeValue}
use Rattle.volume_tree.proofs.volume.Volume.siblings.Goals as goal

pub returns : goal.returns
returns c =
    c.siblings.ensures ∙ sym (siblings-shown c.self.inside.forks c.self.inside.rows.rows c.args.dir.0)
    ∙ ap (λ (v : TreeValue). map child_of (listed v.state.rows c.args.dir.0)) c.self.view_is
