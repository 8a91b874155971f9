use Rattle.std.proofs.Common.{◌∙◌, ap, sym, Some, [], List, ℕ, Option, true, false}
use Rattle.std.specs.Prelude.{unwrap_or}
use Rattle.std.specs.Option.{option_copied}
use Rattle.volume_spec.specs.Walk.{row_at}
use Rattle.volume_tree.proofs.KeptForks.{node-of}
use Rattle.volume_tree.specs.Shown.{fork_at}
use Rattle.volume_edits.specs.edits.Whole.{VolumeValue}
use Rattle.volume_edits.proofs.OfEdits.Behind.{node-whole}
use Rattle.volume_edits.proofs.edits.whole.WholeVolume.node_before.Goals as goal

pub forks-forks-requires : goal.forks-forks-requires
forks-forks-requires c = (node-of c.self.inside.tree.state.rows c.args.id.0 c.in-Some.node.now (ap option_copied (sym c.in-Some.is) ∙ c.node.ensures)).0

pub returns-in-Some : goal.returns-in-Some
returns-in-Some c =
    let shown = ap option_copied (sym c.in-Some.is) ∙ c.node.ensures in
    let at_id = (node-of c.self.inside.tree.state.rows c.args.id.0 c.in-Some.node.now shown).1 in
    node-whole c.self.inside.tree.state c.args.id.0 c.of.result c.kept_or_none.result c.kept_or_none-in-Some.result c.keeps_sound.ensures (ap Some c.of.ensures ∙ shown)
    (c.kept_or_none.ensures ∙ ap (λ (o : Option (List ℕ)). unwrap_or o []) (c.forks-forks.ensures false ∙ ap (λ id. fork_at c.self.inside.tree.state.rows id false) at_id))
    (c.kept_or_none-in-Some.ensures ∙ ap (λ (o : Option (List ℕ)). unwrap_or o []) (c.forks-forks.ensures true ∙ ap (λ id. fork_at c.self.inside.tree.state.rows id true) at_id))
    ∙ ap (λ (v : VolumeValue). row_at v.state.rows c.args.id.0) c.self.view_is
