use Rattle.std.proofs.Common.{◌∙◌, ap, sym}
use Rattle.volume_spec.proofs.ByIndex.{taken-by-key}
use Rattle.volume_spec.specs.Edits.{is_another}
use Rattle.volume_spec.specs.Walk.{child_by_key}
use Rattle.volume_tree.proofs.Showing.{names-differ}
use Rattle.volume_tree.proofs.volume.Volume.is_taken.Goals as goal

pub returns-in-Some : goal.returns-in-Some
returns-in-Some c =
    sym (taken-by-key c.args.self.now.state.rows c.args.node.0 c.args.dir.0 c.args.name.now (names-differ c.args.self.now.state c.keeps_sound.ensures)
    ∙ ap (λ key. is_another c.args.node.0 (child_by_key c.args.self.now.state.rows c.args.dir.0 key)) (sym c.requires)
    ∙ ap (is_another c.args.node.0) c.in-Some.ensures)

pub returns-in-None : goal.returns-in-None
returns-in-None c =
    sym (taken-by-key c.args.self.now.state.rows c.args.node.0 c.args.dir.0 c.args.name.now (names-differ c.args.self.now.state c.keeps_sound.ensures)
    ∙ ap (λ key. is_another c.args.node.0 (child_by_key c.args.self.now.state.rows c.args.dir.0 key)) (sym c.requires)
    ∙ ap (is_another c.args.node.0) c.in-None.ensures)
