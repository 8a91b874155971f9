use Rattle.std.proofs.Common.{◌∙◌, arith}
use Rattle.volume_edits.proofs.OfEdits.Behind.{Last, last}
use Rattle.volume_edits.proofs.OfEdits.DesktopBehind.{tag-behind}
use Rattle.volume_edits.proofs.edits.whole.WholeVolume.+appl_behind.Goals as goal

pub appl_behind-tag-requires : goal.appl_behind-tag-requires
appl_behind-tag-requires t c =
    let l : Last c.args.self.now.state c.args.edits.now c.args.count c.index-edits-count.result.edit = last c.args.self.now.state c.args.edits.now c.args.count c.index-edits-count.result c.if-count-eq0.false c.requires.within c.requires.may c.index-edits-count.is in
    (omega (arith, c.decreases, l.some), (l.within, l.before))

pub returns : goal.returns
returns t c =
    let l : Last c.args.self.now.state c.args.edits.now c.args.count c.index-edits-count.result.edit = last c.args.self.now.state c.args.edits.now c.args.count c.index-edits-count.result c.if-count-eq0.false c.requires.within c.requires.may c.index-edits-count.is in
    c.tag_left.ensures
    ∙ tag-behind c.what_was_put_is_found.ensures.appl c.what_was_put_is_found.ensures.appl_taken c.args.self.now.state c.args.edits.now c.args.count c.args.creator.now c.args.node.0 c.index-edits-count.result.edit c.appl_behind-tag.result l c.appl_behind-tag.ensures
