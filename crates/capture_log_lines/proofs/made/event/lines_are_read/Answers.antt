use Rattle.std.proofs.Common.{arith}
use Rattle.hex.specs.Hex.{IsBytes}
use Rattle.capture_log_lines.proofs.OfMade.Reading.{in-read, out-read}
use Rattle.capture_log_lines.proofs.made.event.lines_are_read.Goals as goal

pub returns-clause-came : goal.returns-clause-came
returns-clause-came c = λ link now some l m room.
    let fits : IsBytes c.args.bytes.now = λ i. let f = c.type_inv.bytes i in omega (arith, f) in
    in-read link now c.args.bytes.now some l m fits room

pub returns-clause-answered : goal.returns-clause-answered
returns-clause-answered c = λ link now some l m room.
    let fits : IsBytes c.args.bytes.now = λ i. let f = c.type_inv.bytes i in omega (arith, f) in
    out-read link now c.args.bytes.now some l m fits room
