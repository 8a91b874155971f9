-- Each request about open forks has the fields that its reader reads.
use Rattle.std.proofs.Common.{refl}
use Rattle.std.specs.List.{AllByRecursion}
use Rattle.afp_calls_grammar.specs.grammar.Readers.{fork_readers}
use Rattle.afp_calls_grammar.proofs.OfGrammar.ReaderLemmas.{ReaderIsSound}

pub fork_sound : AllByRecursion ReaderIsSound fork_readers
fork_sound = (λ vs bytes h. refl, (λ vs bytes h. refl, (λ vs bytes h. refl, (λ vs bytes h. refl, (λ vs bytes h. refl, (λ vs bytes h. refl, (λ vs bytes h. refl, (λ vs bytes h. refl, (λ vs bytes h. refl, (λ vs bytes h. refl, (λ vs bytes h. refl, tt)))))))))))
