-- Each request about the desktop database has the fields that its reader reads.
use Rattle.std.proofs.Common.{refl}
use Rattle.std.specs.List.{AllByRecursion}
use Rattle.afp_calls_grammar.specs.grammar.Readers.{desktop_readers}
use Rattle.afp_calls_grammar.proofs.OfGrammar.ReaderLemmas.{ReaderIsSound}

pub desktop_sound : AllByRecursion ReaderIsSound desktop_readers
desktop_sound = (λ vs bytes h. refl, (λ vs bytes h. refl, (λ vs bytes h. refl, (λ vs bytes h. refl, (λ vs bytes h. refl, (λ vs bytes h. refl, (λ vs bytes h. refl, (λ vs bytes h. refl, (λ vs bytes h. refl, (λ vs bytes h. refl, (λ vs bytes h. refl, tt)))))))))))
