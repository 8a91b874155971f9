use Rattle.std.proofs.Common.{◌≡◌, ◌∙◌, ap, sym, subst, Bool, List}
use Rattle.volume_spec.specs.Listing.{listed}
use Rattle.node_rows.specs.Kinds.{IsPlaceBehind, are_of_kind}
use Rattle.volume_tree.proofs.Siblings.{kinds-shown}
use Rattle.volume_tree.specs.Shown.{TreeValue}
use Rattle.volume_tree.proofs.volume.Volume.place_behind.Goals as goal

pub returns : goal.returns
returns c =
    let same : are_of_kind c.args.files (listed c.self.inside.rows.rows c.args.dir.0) ≡ are_of_kind c.args.files (listed c.args.self.now.state.rows c.args.dir.0) =
    sym (kinds-shown c.args.files c.self.inside.forks c.self.inside.rows.rows c.args.dir.0) ∙ ap (λ (v : TreeValue). are_of_kind c.args.files (listed v.state.rows c.args.dir.0)) c.self.view_is in
    subst (λ (l : List Bool). IsPlaceBehind l c.args.from c.args.skip c.place_behind.result) same c.place_behind.ensures
