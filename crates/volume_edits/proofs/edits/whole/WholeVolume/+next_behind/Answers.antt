use Rattle.std.proofs.Common.{◌∙◌, ◌<◌, ◌^◌, sym, arith}
use Rattle.volume_edits.proofs.OfEdits.Behind.{Last, last, next-comes, next-fits, next-stays}
use Rattle.volume_edits.proofs.edits.whole.WholeVolume.+next_behind.Goals as goal

pub next_behind-next-requires : goal.next_behind-next-requires
next_behind-next-requires t c =
    let l : Last c.args.self.now.state c.args.edits.now c.args.count c.index-edits-count.result.edit = last c.args.self.now.state c.args.edits.now c.args.count c.index-edits-count.result c.if-count-eq0.false c.requires.within c.requires.may c.index-edits-count.is in
    (omega (arith, c.decreases, l.some), (l.within, l.before))

pub overflow_add-result : goal.overflow_add-result
overflow_add-result t c =
    let l : Last c.args.self.now.state c.args.edits.now c.args.count c.index-edits-count.result.edit = last c.args.self.now.state c.args.edits.now c.args.count c.index-edits-count.result c.if-count-eq0.false c.requires.within c.requires.may c.index-edits-count.is in
    let few : c.next_behind-next.result < 2 ^ 32 = next-fits c.args.self.now.state c.args.edits.now c.args.count c.next_behind-next.result c.index-edits-count.result.edit l c.next_behind-next.ensures (sym c.does_come.ensures ∙ c.if-does_come.true) in
    omega arith

pub returns-then-does_come : goal.returns-then-does_come
returns-then-does_come t c =
    let l : Last c.args.self.now.state c.args.edits.now c.args.count c.index-edits-count.result.edit = last c.args.self.now.state c.args.edits.now c.args.count c.index-edits-count.result c.if-count-eq0.false c.requires.within c.requires.may c.index-edits-count.is in
    next-comes c.args.self.now.state c.args.edits.now c.args.count c.next_behind-next.result c.index-edits-count.result.edit l c.next_behind-next.ensures (sym c.does_come.ensures ∙ c.if-does_come.true)

pub returns-else-does_come : goal.returns-else-does_come
returns-else-does_come t c =
    let l : Last c.args.self.now.state c.args.edits.now c.args.count c.index-edits-count.result.edit = last c.args.self.now.state c.args.edits.now c.args.count c.index-edits-count.result c.if-count-eq0.false c.requires.within c.requires.may c.index-edits-count.is in
    next-stays c.args.self.now.state c.args.edits.now c.args.count c.next_behind-next.result c.index-edits-count.result.edit l c.next_behind-next.ensures (sym c.does_come.ensures ∙ c.if-does_come.false)
