use Rattle.std.proofs.Common.{◌∙◌, sym, arith}
use Rattle.volume_edits.specs.edits.After.{exchanged_row}
use Rattle.volume_edits.specs.edits.lemma.Steps.{left_row}
use Rattle.volume_edits.proofs.OfEdits.Behind.{Last, behind-exchanged, behind-left, last}
use Rattle.volume_edits.proofs.edits.whole.WholeVolume.+node_behind.Goals as goal

pub node_behind-node-requires : goal.node_behind-node-requires
node_behind-node-requires t c =
    let l : Last c.args.self.now.state c.args.edits.now c.args.count c.index-edits-count.result.edit = last c.args.self.now.state c.args.edits.now c.args.count c.index-edits-count.result c.if-count-eq0.false c.requires.within c.requires.may c.index-edits-count.is in
    (omega (arith, c.decreases, l.some), (c.requires.before, (l.within, l.before)))

pub node_behind-requires : goal.node_behind-requires
node_behind-requires t c =
    let l : Last c.args.self.now.state c.args.edits.now c.args.count c.index-edits-count.result.edit = last c.args.self.now.state c.args.edits.now c.args.count c.index-edits-count.result c.if-count-eq0.false c.requires.within c.requires.may c.index-edits-count.is in
    (omega (arith, c.decreases, l.some), (c.node_before-kept.ensures, (l.within, l.before)))

pub next_behind-requires-clause-may : goal.next_behind-requires-clause-may
next_behind-requires-clause-may t c =
    let l : Last c.args.self.now.state c.args.edits.now c.args.count c.index-edits-count.result.edit = last c.args.self.now.state c.args.edits.now c.args.count c.index-edits-count.result c.if-count-eq0.false c.requires.within c.requires.may c.index-edits-count.is in
    l.before

pub returns-in-Some : goal.returns-in-Some
returns-in-Some t c =
    let l : Last c.args.self.now.state c.args.edits.now c.args.count c.index-edits-count.result.edit = last c.args.self.now.state c.args.edits.now c.args.count c.index-edits-count.result c.if-count-eq0.false c.requires.within c.requires.may c.index-edits-count.is in
    c.exchanged.ensures ∙ (λ i. exchanged_row (c.node_behind.ensures i) (c.node_behind-node.ensures i))
    ∙ sym (behind-exchanged c.edits_go_by_node.ensures c.edits_keep_volumes_sound.ensures.edit c.args.self.now.state c.args.edits.now c.args.count c.index-edits-count.result.edit c.args.id.0 c.in-Some.other.0 c.keeps_sound.ensures.sound l (sym c.in-Some.ensures))

pub returns-in-None : goal.returns-in-None
returns-in-None t c =
    let l : Last c.args.self.now.state c.args.edits.now c.args.count c.index-edits-count.result.edit = last c.args.self.now.state c.args.edits.now c.args.count c.index-edits-count.result c.if-count-eq0.false c.requires.within c.requires.may c.index-edits-count.is in
    c.left.ensures ∙ (λ i. left_row c.index-edits-count.result.edit (c.next_behind.ensures i) c.args.id.0 (c.node_behind-node.ensures i))
    ∙ sym (behind-left c.edits_go_by_node.ensures c.edits_keep_volumes_sound.ensures.edit c.args.self.now.state c.args.edits.now c.args.count c.index-edits-count.result.edit c.args.id.0 c.keeps_sound.ensures.sound l (sym c.in-None.ensures))
