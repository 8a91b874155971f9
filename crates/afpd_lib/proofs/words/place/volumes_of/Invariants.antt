use Rattle.std.proofs.Common.{map}
use Rattle.afpd_lib.specs.words.lemma.Values.{volume_value}
use Rattle.afpd_lib.proofs.OfWords.ReadVolumes.{Read}
use Rattle.afpd_lib.proofs.words.place.volumes_of.Given as goal

abbrev pub invariant-loop-word : goal.invariant-loop-word
invariant-loop-word l = Read (map (λ word. word.now) l.words) l.word-index (map volume_value l.volumes.items)
