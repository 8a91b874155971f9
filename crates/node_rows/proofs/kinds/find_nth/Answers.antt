use Rattle.std.proofs.Common.{arith}
use Rattle.node_rows.specs.lemma.Kinds.{kinds_of}
use Rattle.node_rows.proofs.KindCounts.{many-within}
use Rattle.node_rows.proofs.kinds.find_nth.Goals as goal

pub overflow_add-passed : goal.overflow_add-passed
overflow_add-passed c =
    let few = c.requires.few in
    omega (arith, many-within c.args.file c.args.from (kinds_of 0 c.args.files.now), c.before-2.ensures)
