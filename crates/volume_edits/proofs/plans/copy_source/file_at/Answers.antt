use Rattle.std.proofs.Common.{◌≡◌, ◌∙◌, ap, List, Some, rules, true, false}
use Rattle.std.specs.Prelude.{option_map}
use Rattle.volume_spec.specs.Edits.{bare}
use Rattle.volume_spec.specs.VolumeState.{Row}
use Rattle.volume_spec.specs.Walk.{row_at}
use Rattle.volume_tree.proofs.KeptForks.{node-of}
use Rattle.volume_tree.specs.Shown.{fork_at}
use Rattle.volume_edits.proofs.OfPlans.Copies.{file-copied, file-found, file-there, no-fork-found, none-found}
use Rattle.volume_edits.proofs.plans.copy_source.file_at.Goals as goal

pub forks-requires : goal.forks-requires
forks-requires c = (node-of c.whole.inside.tree.state.rows c.args.id.0 c.in-Some.node.now c.in-Some.ensures).0

pub returns-in-None : goal.returns-in-None
returns-in-None c =
    let rows : c.whole.inside.tree.state.rows ≡ c.args.whole.now.state.rows = search rules in
    none-found c.args.whole.now.state c.args.id.0 c.keeps_sound.ensures.sound (c.in-None.ensures ∙ ap (λ (l : List Row). option_map bare (row_at l c.args.id.0)) rows)

pub returns-in-None-forks : goal.returns-in-None-forks
returns-in-None-forks c =
    let rows : c.whole.inside.tree.state.rows ≡ c.args.whole.now.state.rows = search rules in
    let at_id = (node-of c.whole.inside.tree.state.rows c.args.id.0 c.in-Some.node.now c.in-Some.ensures).1 in
    no-fork-found c.args.whole.now.state c.args.id.0 c.keeps_sound.ensures.sound false (c.in-None-forks.ensures false ∙ (λ i. fork_at (rows i) (at_id i) false))

pub invariant_of-result : goal.invariant_of-result
invariant_of-result c =
    let rows : c.whole.inside.tree.state.rows ≡ c.args.whole.now.state.rows = search rules in
    let at_id = (node-of c.whole.inside.tree.state.rows c.args.id.0 c.in-Some.node.now c.in-Some.ensures).1 in
    file-copied c.args.whole.now.state c.args.id.0 c.keeps_sound.ensures.sound c.in-Some.node.now c.fork.result.now c.fork-2.result.now
    (c.in-Some.ensures ∙ ap (λ (l : List Row). option_map bare (row_at l c.args.id.0)) rows)
    (ap Some c.fork.ensures ∙ c.in-Some-forks.ensures false ∙ (λ i. fork_at (rows i) (at_id i) false))
    (ap Some c.fork-2.ensures ∙ c.in-Some-forks.ensures true ∙ (λ i. fork_at (rows i) (at_id i) true))
    c.keeps_sound.ensures.typed

pub returns : goal.returns
returns c =
    let rows : c.whole.inside.tree.state.rows ≡ c.args.whole.now.state.rows = search rules in
    let at_id = (node-of c.whole.inside.tree.state.rows c.args.id.0 c.in-Some.node.now c.in-Some.ensures).1 in
    let n = c.in-Some.ensures ∙ ap (λ (l : List Row). option_map bare (row_at l c.args.id.0)) rows in
    let d = ap Some c.fork.ensures ∙ c.in-Some-forks.ensures false ∙ (λ i. fork_at (rows i) (at_id i) false) in
    let r = ap Some c.fork-2.ensures ∙ c.in-Some-forks.ensures true ∙ (λ i. fork_at (rows i) (at_id i) true) in (
      file-there c.args.whole.now.state c.args.id.0 c.keeps_sound.ensures.sound c.in-Some.node.now c.fork.result.now c.fork-2.result.now n d r,
      file-found c.args.whole.now.state c.args.id.0 c.keeps_sound.ensures.sound c.in-Some.node.now c.fork.result.now c.fork-2.result.now n d r,
    )
