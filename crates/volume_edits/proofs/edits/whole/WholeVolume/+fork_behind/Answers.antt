use Rattle.std.proofs.Common.{◌≡◌, ◌∙◌, ◌-◌, ap, sym, arith, None, false}
use Rattle.std.specs.Prelude.{option_map}
use Rattle.afp_base.specs.declared.ids.NodeId.{NodeId}
use Rattle.volume_edits.specs.edits.Planned.{does_write}
use Rattle.volume_edits.specs.edits.lemma.Steps.{partner_of}
use Rattle.volume_edits.proofs.OfEdits.Behind.{Last, last}
use Rattle.volume_edits.proofs.OfEdits.BlocksBehind.{bytes-come, bytes-exchanged, bytes-gone, bytes-stay, none-from, reads-at}
use Rattle.volume_edits.proofs.edits.whole.WholeVolume.+fork_behind.Goals as goal

pub fork_behind-requires : goal.fork_behind-requires
fork_behind-requires t c =
    let l : Last c.args.self.now.state c.args.edits.now c.args.count c.index-edits-count.result.edit = last c.args.self.now.state c.args.edits.now c.args.count c.index-edits-count.result c.if-count-eq0.false c.requires.within c.requires.may c.index-edits-count.is in
    (omega (arith, c.decreases, l.some), (l.within, (l.before, c.requires.none)))

pub returns-in-Some : goal.returns-in-Some
returns-in-Some t c =
    let l : Last c.args.self.now.state c.args.edits.now c.args.count c.index-edits-count.result.edit = last c.args.self.now.state c.args.edits.now c.args.count c.index-edits-count.result c.if-count-eq0.false c.requires.within c.requires.may c.index-edits-count.is in
    c.fork_behind.ensures ∙ bytes-exchanged c.edits_go_by_node.ensures c.edits_keep_volumes_sound.ensures.edit c.args.self.now.state c.args.edits.now c.args.count c.index-edits-count.result.edit c.args.id.0 c.in-Some.other.0 c.args.resource c.keeps_sound.ensures.sound l (sym c.in-Some.ensures)

pub returns-then-does_go : goal.returns-then-does_go
returns-then-does_go t c =
    let l : Last c.args.self.now.state c.args.edits.now c.args.count c.index-edits-count.result.edit = last c.args.self.now.state c.args.edits.now c.args.count c.index-edits-count.result c.if-count-eq0.false c.requires.within c.requires.may c.index-edits-count.is in
    let none : partner_of c.index-edits-count.result.edit c.args.id.0 ≡ None = sym c.partner.ensures ∙ ap (option_map (λ (node : NodeId). node.0)) (none-from c.partner.result c.in_default.not-Some) in
    bytes-gone c.edits_go_by_node.ensures c.edits_keep_volumes_sound.ensures.edit c.args.self.now.state c.args.edits.now c.args.count c.index-edits-count.result.edit c.args.id.0 c.args.resource c.keeps_sound.ensures.sound l none (sym c.does_go.ensures ∙ c.if-does_go.true)

pub next_behind-requires-clause-may : goal.next_behind-requires-clause-may
next_behind-requires-clause-may t c =
    let l : Last c.args.self.now.state c.args.edits.now c.args.count c.index-edits-count.result.edit = last c.args.self.now.state c.args.edits.now c.args.count c.index-edits-count.result c.if-count-eq0.false c.requires.within c.requires.may c.index-edits-count.is in
    l.before

pub fork_behind-requires-in-None : goal.fork_behind-requires-in-None
fork_behind-requires-in-None t c =
    let l : Last c.args.self.now.state c.args.edits.now c.args.count c.index-edits-count.result.edit = last c.args.self.now.state c.args.edits.now c.args.count c.index-edits-count.result c.if-count-eq0.false c.requires.within c.requires.may c.index-edits-count.is in
    (omega (arith, c.decreases, l.some), (l.within, (l.before, c.requires.none)))

pub returns-in-Some-coming_fork : goal.returns-in-Some-coming_fork
returns-in-Some-coming_fork t c =
    let l : Last c.args.self.now.state c.args.edits.now c.args.count c.index-edits-count.result.edit = last c.args.self.now.state c.args.edits.now c.args.count c.index-edits-count.result c.if-count-eq0.false c.requires.within c.requires.may c.index-edits-count.is in
    let none : partner_of c.index-edits-count.result.edit c.args.id.0 ≡ None = sym c.partner.ensures ∙ ap (option_map (λ (node : NodeId). node.0)) (none-from c.partner.result c.in_default.not-Some) in
    bytes-come c.edits_go_by_node.ensures c.edits_keep_volumes_sound.ensures.edit c.args.self.now.state c.args.edits.now c.args.count c.index-edits-count.result.edit c.args.id.0 c.args.resource c.keeps_sound.ensures.sound l none c.next_behind.result c.in-Some-coming_fork.fork.now c.next_behind.ensures c.in-Some-coming_fork.ensures

pub returns-in-None : goal.returns-in-None
returns-in-None t c =
    let l : Last c.args.self.now.state c.args.edits.now c.args.count c.index-edits-count.result.edit = last c.args.self.now.state c.args.edits.now c.args.count c.index-edits-count.result c.if-count-eq0.false c.requires.within c.requires.may c.index-edits-count.is in
    let none : partner_of c.index-edits-count.result.edit c.args.id.0 ≡ None = sym c.partner.ensures ∙ ap (option_map (λ (node : NodeId). node.0)) (none-from c.partner.result c.in_default.not-Some) in
    let reads : does_write c.index-edits-count.result.edit ≡ false = reads-at c.args.edits.now (c.args.count - 1) c.index-edits-count.result c.requires.none (omega (arith, l.some, c.requires.within)) c.index-edits-count.is in
    c.fork_behind-in-None.ensures ∙ bytes-stay c.edits_go_by_node.ensures c.edits_keep_volumes_sound.ensures.edit c.args.self.now.state c.args.edits.now c.args.count c.index-edits-count.result.edit c.args.id.0 c.args.resource c.keeps_sound.ensures.sound l none c.next_behind.result c.next_behind.ensures c.in-None.ensures (sym c.does_go.ensures ∙ c.if-does_go.false) reads
