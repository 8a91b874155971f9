use Rattle.std.proofs.Common.{◌≡◌, ◌∙◌, ◌≤◌, length, arith}
use Rattle.afp_names.specs.LongName.{ending_of}
use Rattle.afp_names.proofs.LongNameLemmas.{ending_of-parts, length-ending_of}
use Rattle.afp_names.proofs.long_names.ending.Goals as goal

pub returns-clause-bytes : goal.returns-clause-bytes
returns-clause-bytes c =
    ending_of-parts c.args.text.now c.args.id.0 c.extend.new.self c.extend-2.new.self c.as_bytes.result.now c.extension.result.now c.put.new.long (cc (c.in_ok-extend.ensures.ok, c.new-ending.ensures)) (c.as_bytes.ensures.value ∙ c.in_ok-hexadecimal.ensures) c.in_ok-extend-2.ensures.ok c.extension.ensures c.in_ok-put.ensures.ok

pub returns-clause-short : goal.returns-clause-short
returns-clause-short c =
    let whole : c.put.new.long ≡ ending_of c.args.text.now c.args.id.0 = ending_of-parts c.args.text.now c.args.id.0 c.extend.new.self c.extend-2.new.self c.as_bytes.result.now c.extension.result.now c.put.new.long (cc (c.in_ok-extend.ensures.ok, c.new-ending.ensures)) (c.as_bytes.ensures.value ∙ c.in_ok-hexadecimal.ensures) c.in_ok-extend-2.ensures.ok c.extension.ensures c.in_ok-put.ensures.ok in
    let short : length (ending_of c.args.text.now c.args.id.0) ≤ 14 = length-ending_of c.args.text.now c.args.id.0 (omega arith) in
    rw whole (omega arith)
