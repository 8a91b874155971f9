use Rattle.std.proofs.Common.{◌∙◌, ap, sym, subst, nat_cmp}
use Rattle.std.specs.Option.{option_copied}
use Rattle.sorted_map.specs.map.Entries.{at}
use Rattle.volume_spec.specs.VolumeState.{Row}
use Rattle.volume_tree.proofs.KeptForks.{of-directory, of-file}
use Rattle.volume_tree.specs.Shown.{IsNode, TreeValue, fork_at}
use Rattle.volume_tree.proofs.volume.Volume.forks.Goals as goal

pub returns-then-node : goal.returns-then-node
returns-then-node c resource = of-directory c.args.self.now.state.rows c.args.node.now resource c.requires (sym (ap (λ (row : Row). row.dir) c.node.view_is) ∙ c.if-node.true)

pub returns : goal.returns
returns c resource =
    of-file c.self.inside.forks c.self.inside.rows.rows c.args.node.now resource (option_copied c.get.result) c.self.invariant.files
    (subst (λ (v : TreeValue). IsNode v.state.rows c.args.node.now) (sym c.self.view_is) c.requires)
    (sym (ap (λ (row : Row). row.dir) c.node.view_is) ∙ c.if-node.false)
    (c.get.ensures ∙ ap (at nat_cmp c.self.inside.forks) (c.from.ensures ∙ ap (λ (row : Row). row.id) c.node.view_is))
    ∙ ap (λ (v : TreeValue). fork_at v.state.rows c.args.node.now.id resource) c.self.view_is
