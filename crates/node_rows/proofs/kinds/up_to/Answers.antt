use Rattle.node_rows.proofs.KindCounts.{count-within, directories-shown, files-shown}
use Rattle.node_rows.proofs.kinds.up_to.Goals as goal

pub overflow_sub-result : goal.overflow_sub-result
overflow_sub-result c = count-within c.args.files.now c.args.place 0 c.requires.counts c.requires.within

pub returns-then-file : goal.returns-then-file
returns-then-file c = files-shown c.args.files.now c.args.place 0 c.requires.counts c.requires.within c.args.file c.if-file.true

pub returns-else-file : goal.returns-else-file
returns-else-file c = directories-shown c.args.files.now c.args.place 0 c.requires.counts c.requires.within c.args.file c.if-file.false
