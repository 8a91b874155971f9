-- Each request about files has the fields that its reader reads.
use Rattle.std.proofs.Common.{refl}
use Rattle.std.specs.List.{AllByRecursion}
use Rattle.afp_calls_grammar.specs.grammar.Readers.{file_readers}
use Rattle.afp_calls_grammar.proofs.OfGrammar.ReaderLemmas.{ReaderIsSound}

pub file_sound : AllByRecursion ReaderIsSound file_readers
file_sound = (λ vs bytes h. refl, (λ vs bytes h. refl, (λ vs bytes h. refl, (λ vs bytes h. refl, (λ vs bytes h. refl, (λ vs bytes h. refl, (λ vs bytes h. refl, tt)))))))
