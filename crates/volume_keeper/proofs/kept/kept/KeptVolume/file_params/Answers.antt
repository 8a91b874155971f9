use Rattle.std.proofs.Common.{◌≡◌, ◌∙◌, ◌++◌, ap, subst, rules, List, ℕ, true}
use Rattle.volume_spec.specs.SoundVolume.{IsSoundVolume, has_node}
use Rattle.volume_spec.specs.VolumeState.{Row}
use Rattle.volume_spec.specs.Walk.{row_at}
use Rattle.volume_tree.specs.Shown.{opened}
use Rattle.volume_keeper.proofs.OfKept.Files.{file_kind, file_told, node_there}
use Rattle.volume_keeper.proofs.kept.kept.KeptVolume.file_params.Goals as goal

pub node_params-requires-clause-there : goal.node_params-requires-clause-there
node_params-requires-clause-there g c =
    let rows : c.args.self.now.state.rows ≡ c.whole.inside.tree.state.rows = search rules in
    subst (λ (l : List Row). has_node l c.args.id.0 ≡ true) rows (node_there c.args.self.now.state.rows c.args.id.0 c.requires.file)

pub returns-in-Ok-clause-ok : goal.returns-in-Ok-clause-ok
returns-in-Ok-clause-ok g c = λ file found.
    let rows : c.whole.inside.tree.state.rows ≡ c.args.self.now.state.rows = search rules in
    let sound : IsSoundVolume c.args.self.now.state = search rules in
    c.in-Ok.ensures.ok file (ap (λ (l : List Row). row_at l c.args.id.0) rows ∙ found)
    ∙ ap (λ (l : List ℕ). c.args.out.now ++ l) (file_told c.whole.inside.tree.state.rows 500 (opened c.args.opens.now) c.args.bits file (file_kind c.args.self.now.state sound c.args.id.0 file c.requires.file found))
