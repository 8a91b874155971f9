use Rattle.std.proofs.Common.{length, arith}
use Rattle.volume_spec.proofs.Leading.{leads-short}
use Rattle.volume_spec.proofs.laws.ways_are_short.Goals as goal

pub returns : goal.returns
returns c = λ rows steps id h. leads-short (length rows) rows steps id (omega arith) h
