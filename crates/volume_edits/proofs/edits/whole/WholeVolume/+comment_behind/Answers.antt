use Rattle.std.proofs.Common.{◌∙◌, arith}
use Rattle.std.specs.Option.{option_copied}
use Rattle.volume_edits.proofs.OfEdits.Behind.{Last, last}
use Rattle.volume_edits.proofs.OfEdits.HeadAndComments.{text-behind}
use Rattle.volume_edits.proofs.edits.whole.WholeVolume.+comment_behind.Goals as goal

pub comment_behind-text-requires : goal.comment_behind-text-requires
comment_behind-text-requires t c =
    let l : Last c.args.self.now.state c.args.edits.now c.args.count c.index-edits-count.result.edit = last c.args.self.now.state c.args.edits.now c.args.count c.index-edits-count.result c.if-count-eq0.false c.requires.within c.requires.may c.index-edits-count.is in
    (omega (arith, c.decreases, l.some), (l.within, l.before))

pub returns : goal.returns
returns t c =
    let l : Last c.args.self.now.state c.args.edits.now c.args.count c.index-edits-count.result.edit = last c.args.self.now.state c.args.edits.now c.args.count c.index-edits-count.result c.if-count-eq0.false c.requires.within c.requires.may c.index-edits-count.is in
    c.comment_left.ensures ∙ text-behind c.args.self.now.state c.args.edits.now c.args.count c.args.node.0 c.index-edits-count.result.edit (option_copied c.comment_behind-text.result) l c.comment_behind-text.ensures
