use Rattle.std.proofs.Common.{◌∙◌, ap, sym, not, ◌==◌}
use Rattle.std.specs.Prelude.{bit_and}
use Rattle.std.specs.Option.{option_copied}
use Rattle.volume_spec.specs.Shared.{has_attribute}
use Rattle.volume_spec.specs.VolumeState.{Row}
use Rattle.volume_tree.proofs.Showing.{said-of, said-of-none}
use Rattle.volume_tree.proofs.Keeping.{sound-is}
use Rattle.volume_tree.specs.Shown.{TreeValue}
use Rattle.volume_tree.proofs.volume.Volume.has.Goals as goal

pub returns-in-Some : goal.returns-in-Some
unfolding has_attribute
returns-in-Some c =
    sym (said-of c.args.self.now.state c.self.inside.forks c.self.inside.rows.rows c.args.id.0 (λ (row : Row). not (bit_and row.attributes c.args.bit == 0)) c.in-Some.node.now (ap (λ (v : TreeValue). v.state.rows) c.self.view_is)
    (sound-is c.self.invariant c.self.view_is) (ap option_copied (sym c.in-Some.is) ∙ c.get.ensures)
    ∙ ap (λ (r : Row). not (bit_and r.attributes c.args.bit == 0)) (sym c.node.view_is))

pub returns-in-None : goal.returns-in-None
unfolding has_attribute
returns-in-None c =
    sym (said-of-none c.args.self.now.state c.self.inside.forks c.self.inside.rows.rows c.args.id.0 (λ (row : Row). not (bit_and row.attributes c.args.bit == 0)) (ap (λ (v : TreeValue). v.state.rows) c.self.view_is)
    (ap option_copied (sym c.in-None.is) ∙ c.get.ensures))
