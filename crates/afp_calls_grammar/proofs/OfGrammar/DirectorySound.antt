-- Each request about directories, and on files and directories alike has the fields that its reader reads.
use Rattle.std.proofs.Common.{refl}
use Rattle.std.specs.List.{AllByRecursion}
use Rattle.afp_calls_grammar.specs.grammar.Readers.{directory_readers}
use Rattle.afp_calls_grammar.proofs.OfGrammar.ReaderLemmas.{ReaderIsSound}

pub directory_sound : AllByRecursion ReaderIsSound directory_readers
directory_sound = (λ vs bytes h. refl, (λ vs bytes h. refl, (λ vs bytes h. refl, (λ vs bytes h. refl, (λ vs bytes h. refl, (λ vs bytes h. refl, (λ vs bytes h. refl, (λ vs bytes h. refl, (λ vs bytes h. refl, (λ vs bytes h. refl, (λ vs bytes h. refl, (λ vs bytes h. refl, tt))))))))))))
