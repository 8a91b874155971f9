use Rattle.std.proofs.Common.{◌∙◌, ap, sym, not, ◌&&◌}
use Rattle.std.specs.Option.{option_copied}
use Rattle.volume_spec.specs.Rights.{has_right, is_closed, search_right}
use Rattle.volume_spec.specs.VolumeState.{Row}
use Rattle.volume_tree.proofs.Showing.{said-of, said-of-none}
use Rattle.volume_tree.proofs.Keeping.{sound-is}
use Rattle.volume_tree.specs.Shown.{TreeValue}
use Rattle.volume_tree.proofs.volume.Volume.is_closed.Goals as goal

pub returns-then-node : goal.returns-then-node
unfolding is_closed
returns-then-node c =
    ap not c.has_right.ensures
    ∙ ap (λ b. b && not (has_right c.args.user search_right c.in-Some.node.now.privileges)) (sym c.if-node.true ∙ ap (λ (r : Row). r.dir) c.node.view_is)
    ∙ sym (said-of c.args.self.now.state c.self.inside.forks c.self.inside.rows.rows c.args.here.0 (λ (row : Row). row.dir && not (has_right c.args.user search_right row.privileges)) c.in-Some.node.now (ap (λ (v : TreeValue). v.state.rows) c.self.view_is)
    (sound-is c.self.invariant c.self.view_is) (ap option_copied (sym c.in-Some.is) ∙ c.get.ensures))

pub returns-else-node : goal.returns-else-node
unfolding is_closed
returns-else-node c =
    c.if-node.false
    ∙ ap (λ b. b && not (has_right c.args.user search_right c.in-Some.node.now.privileges)) (sym c.if-node.false ∙ ap (λ (r : Row). r.dir) c.node.view_is)
    ∙ sym (said-of c.args.self.now.state c.self.inside.forks c.self.inside.rows.rows c.args.here.0 (λ (row : Row). row.dir && not (has_right c.args.user search_right row.privileges)) c.in-Some.node.now (ap (λ (v : TreeValue). v.state.rows) c.self.view_is)
    (sound-is c.self.invariant c.self.view_is) (ap option_copied (sym c.in-Some.is) ∙ c.get.ensures))

pub returns-in-None : goal.returns-in-None
unfolding is_closed
returns-in-None c =
    sym (said-of-none c.args.self.now.state c.self.inside.forks c.self.inside.rows.rows c.args.here.0 (λ (row : Row). row.dir && not (has_right c.args.user search_right row.privileges)) (ap (λ (v : TreeValue). v.state.rows) c.self.view_is)
    (ap option_copied (sym c.in-None.is) ∙ c.get.ensures))
