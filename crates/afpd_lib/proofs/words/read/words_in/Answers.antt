use Rattle.std.proofs.Common.{rules}
use Rattle.std.specs.Prelude.{IsErrOf}
use Rattle.afpd_lib.specs.declared.words.read.WordFault.TheVariants.{Bad}
use Rattle.afpd_lib.specs.words.lemma.Values.{NumberValues}
use Rattle.afpd_lib.proofs.words.read.words_in.Goals as goal

pub returns-in_err-numbers-clause-bad : goal.returns-in_err-numbers-clause-bad
returns-in_err-numbers-clause-bad c = λ err values says.
    let numbers : NumberValues = record { port = values.port; workers = values.workers; links = values.links; turns = values.turns } in
    let is : IsErrOf c.numbers_in.result Bad = search rules in
    c.numbers_in.ensures.bad is numbers record {
      port = says.port;
      port_fits = says.port_fits;
      workers = says.workers;
      some_workers = says.some_workers;
      few_workers = says.few_workers;
      links = says.links;
      few_links = says.few_links;
      turns = says.turns;
      turns_fit = says.turns_fit;
    }
