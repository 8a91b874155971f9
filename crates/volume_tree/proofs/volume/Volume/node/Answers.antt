use Rattle.std.proofs.Common.{◌∙◌, ap, sym}
use Rattle.std.specs.Prelude.{option_map}
use Rattle.std.specs.Option.{option_copied}
use Rattle.volume_spec.specs.Edits.{bare}
use Rattle.volume_spec.specs.Walk.{row_at}
use Rattle.volume_tree.proofs.Showing.{node-shown, no-node-shown}
use Rattle.volume_tree.specs.Shown.{TreeValue}
use Rattle.volume_tree.proofs.volume.Volume.node.Goals as goal

pub returns-in-Some : goal.returns-in-Some
returns-in-Some c =
    node-shown c.self.inside.forks c.self.inside.rows.rows c.args.id.0 c.in-Some.node.now (ap option_copied (sym c.in-Some.is) ∙ c.get.ensures) (ap bare (sym c.node.view_is) ∙ c.node.view_is)
    ∙ ap (λ (v : TreeValue). option_map bare (row_at v.state.rows c.args.id.0)) c.self.view_is

pub returns-in-None : goal.returns-in-None
returns-in-None c =
    no-node-shown c.self.inside.forks c.self.inside.rows.rows c.args.id.0 (ap option_copied (sym c.in-None.is) ∙ c.get.ensures)
    ∙ ap (λ (v : TreeValue). option_map bare (row_at v.state.rows c.args.id.0)) c.self.view_is
