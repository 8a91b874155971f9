use Rattle.std.proofs.Common.{rules, ◌≡◌, ap, Err}
use Rattle.afpd_lib.specs.declared.words.read.WordFault.TheVariants.{Bad}
use Rattle.afpd_lib.proofs.words.read.numbers_in.Goals as goal

pub returns-in_err-workers-clause-bad : goal.returns-in_err-workers-clause-bad
returns-in_err-workers-clause-bad c = λ bad values says.
    let is : c.in_err-workers.field-0.0 ≡ Bad = search rules in
    c.in_err-workers.ensures.bad (ap Err is) values.workers says.workers says.some_workers says.few_workers
