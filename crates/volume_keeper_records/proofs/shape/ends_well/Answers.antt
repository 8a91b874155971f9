use Rattle.std.proofs.Common.{sym, length}
use Rattle.std.proofs.lemmas.Bool.{eqb-false}
use Rattle.volume_keeper_records.proofs.shape.ends_well.Goals as goal
use Rattle.volume_keeper_records.proofs.ShapeCode.{ends}

pub returns-else-is_empty : goal.returns-else-is_empty
returns-else-is_empty c = ends c.args.bytes.now (λ none. eqb-false (length c.args.bytes.now) 0 (sym c.if-is_empty.ensures) none)
