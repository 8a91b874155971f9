use Rattle.std.proofs.Common.{arith}
use Rattle.apple_double.proofs.Faults.{fields-whole, fields-short}
use Rattle.apple_double.proofs.read.judge_fields.Goals as goal

pub returns-then-whole-fields-clause-fault : goal.returns-then-whole-fields-clause-fault
returns-then-whole-fields-clause-fault c =
    fields-short c.args.bytes.now _ c.requires (omega arith) (omega (arith, c.count_in.ensures, c.if-whole-fields.true))

pub returns-clause-good : goal.returns-clause-good
returns-clause-good c = fields-whole c.args.bytes.now c.requires (omega (arith, c.count_in.ensures, c.if-whole-fields.false))
