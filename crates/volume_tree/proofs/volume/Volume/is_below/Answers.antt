use Rattle.std.proofs.Common.{◌∙◌, ◌-◌, sym, length, arith}
use Rattle.std.proofs.lemmas.Bool.{ne_eqb, eq-eqb}
use Rattle.volume_tree.proofs.Showing.{ids-differ}
use Rattle.volume_tree.proofs.UpSteps.{is-itself, goes-on, stops-there, at-last}
use Rattle.volume_tree.proofs.volume.Volume.is_below.Goals as goal

pub returns-then-here-node : goal.returns-then-here-node
returns-then-here-node c =
    sym (c.loop-step.invariant ∙ is-itself c.args.self.now.state.rows (length c.args.self.now.state.rows - c.loop-step._step) c.args.node.0 c.loop-step.here.0 (eq-eqb c.loop-step.here.0 c.args.node.0 c.if-here-node.true))

pub returns-in-None : goal.returns-in-None
returns-in-None c =
    sym (c.loop-step.invariant
    ∙ stops-there c.args.self.now.state.rows (length c.args.self.now.state.rows) c.loop-step._step c.args.node.0 c.loop-step.here.0 (omega arith) (ids-differ c.args.self.now.state c.keeps_sound.ensures)
    (ne_eqb c.loop-step.here.0 c.args.node.0 c.if-here-node.false) c.in-None.ensures)

pub loop-step-preserved : goal.loop-step-preserved
loop-step-preserved c =
    c.loop-step.invariant
    ∙ goes-on c.args.self.now.state.rows (length c.args.self.now.state.rows) c.loop-step._step c.args.node.0 c.loop-step.here.0 c.in-Some.up.0 (omega arith) (ids-differ c.args.self.now.state c.keeps_sound.ensures)
    (ne_eqb c.loop-step.here.0 c.args.node.0 c.if-here-node.false) c.in-Some.ensures

pub returns : goal.returns
returns c =
    sym (c.loop-step.invariant ∙ at-last c.args.self.now.state.rows (length c.args.self.now.state.rows - c.loop-step._step) c.args.node.0 c.loop-step.here.0 (omega arith))
