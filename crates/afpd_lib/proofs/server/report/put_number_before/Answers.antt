use Rattle.std.proofs.Common.{arith, rules}
use Rattle.std.proofs.lemmas.Fmt.{length-decimal-le}
use Rattle.afpd_lib.proofs.server.report.put_number_before.Goals as goal

pub write_digits-requires : goal.write_digits-requires
write_digits-requires c = search (rules, length-decimal-le 20)

pub returns-clause-start : goal.returns-clause-start
returns-clause-start c = (omega (arith, c.write_digits.ensures.start), omega (arith, c.write_digits.ensures.start, length-decimal-le 20 c.args.number (omega arith) (omega arith) (omega arith)))
