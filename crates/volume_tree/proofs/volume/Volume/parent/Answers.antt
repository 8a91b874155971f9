use Rattle.std.proofs.Common.{◌∙◌, ap, sym, Some}
use Rattle.std.specs.Option.{option_copied}
use Rattle.volume_spec.specs.VolumeState.{Row}
use Rattle.volume_spec.specs.Walk.{parent_at}
use Rattle.volume_tree.proofs.Showing.{parent-shown, parent-found, no-parent-found}
use Rattle.volume_tree.specs.Shown.{TreeValue}
use Rattle.volume_tree.proofs.volume.Volume.parent.Goals as goal

pub returns-in-Some : goal.returns-in-Some
returns-in-Some c =
    ap (λ (v : TreeValue). parent_at v.state.rows c.args.id.0) (sym c.self.view_is) ∙ parent-shown c.self.inside.forks c.self.inside.rows.rows c.args.id.0
    ∙ parent-found c.self.inside.rows.rows c.args.id.0 c.in-Some.node.now (ap option_copied (sym c.in-Some.is) ∙ c.get.ensures)
    ∙ ap (λ (r : Row). Some r.parent) (sym c.node.view_is)

pub returns-in-None : goal.returns-in-None
returns-in-None c =
    ap (λ (v : TreeValue). parent_at v.state.rows c.args.id.0) (sym c.self.view_is) ∙ parent-shown c.self.inside.forks c.self.inside.rows.rows c.args.id.0
    ∙ no-parent-found c.self.inside.rows.rows c.args.id.0 (ap option_copied (sym c.in-None.is) ∙ c.get.ensures)
