use Rattle.std.proofs.Common.{◌∙◌, ap, sym, not}
use Rattle.std.specs.Option.{option_copied}
use Rattle.volume_spec.specs.Rights.{has_right, lacks}
use Rattle.volume_spec.specs.VolumeState.{Row}
use Rattle.volume_tree.proofs.Showing.{said-of, said-of-none}
use Rattle.volume_tree.proofs.Keeping.{sound-is}
use Rattle.volume_tree.specs.Shown.{TreeValue}
use Rattle.volume_tree.proofs.volume.Volume.lacks.Goals as goal

pub returns-in-Some : goal.returns-in-Some
unfolding lacks
returns-in-Some c =
    ap not (c.has_right.ensures ∙ sym (said-of c.args.self.now.state c.self.inside.forks c.self.inside.rows.rows c.args.id.0 (λ (row : Row). has_right c.args.user c.args.right row.privileges) c.in-Some.node.now (ap (λ (v : TreeValue). v.state.rows) c.self.view_is)
    (sound-is c.self.invariant c.self.view_is) (ap option_copied (sym c.in-Some.is) ∙ c.get.ensures)))

pub returns-in-None : goal.returns-in-None
unfolding lacks
returns-in-None c =
    ap not (sym (said-of-none c.args.self.now.state c.self.inside.forks c.self.inside.rows.rows c.args.id.0 (λ (row : Row). has_right c.args.user c.args.right row.privileges) (ap (λ (v : TreeValue). v.state.rows) c.self.view_is)
    (ap option_copied (sym c.in-None.is) ∙ c.get.ensures)))
