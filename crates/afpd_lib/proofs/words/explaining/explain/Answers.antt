use Rattle.std.proofs.Common.{◌∙◌, ap, Err}
use Rattle.std.specs.Prelude.{IsErrOf}
use Rattle.afpd_lib.specs.declared.words.read.WordFault.TheVariants.{Bad}
use Rattle.afpd_lib.proofs.words.explaining.explain.Goals as goal

pub returns-in_ok-told-in-Bad-clause-bad : goal.returns-in_ok-told-in-Bad-clause-bad
returns-in_ok-told-in-Bad-clause-bad c = λ values says.
    let is : IsErrOf c.read_words.result Bad = c.in-Err.is ∙ ap Err c.in-Bad.is in
    c.read_words.ensures.bad is values says
