use Rattle.std.proofs.Common.{◌≡◌, ◌∙◌, ap, refl, map, [], ◌∷◌, ◌++◌, drop, arith, length-drop}
use Rattle.std.proofs.lemmas.List.{map-append, nil_from_length}
use Rattle.std.specs.List.{drop-map}
use Rattle.afpd_lib.specs.words.lemma.Values.{volume_value}
use Rattle.afpd_lib.proofs.OfWords.ReadVolumes.{more, refused, ended, word-at}
use Rattle.afpd_lib.proofs.words.place.volumes_of.Goals as goal

pub returns-in_default-clause-bad : goal.returns-in_default-clause-bad
returns-in_default-clause-bad c = λ _ values are.
    refused _ c.loop-word.word-index _ _ _ (word-at (λ word. word.now) c.args.words.now c.loop-word.word-index _ c.loop-word-test.true) c.in_default.ensures.none c.loop-word.invariant values are

pub loop-word-preserved : goal.loop-word-preserved
loop-word-preserved c =
    let list : map volume_value c.push.new.self.items ≡ map volume_value c.loop-word.volumes.items ++ volume_value c.in-Some.volume ∷ [] =
    ap (map volume_value) c.in-Ok.ensures.items ∙ map-append volume_value c.loop-word.volumes.items (c.in-Some.volume ∷ []) in
    rw list (more _ c.loop-word.word-index _ _ _ _ (word-at (λ word. word.now) c.args.words.now c.loop-word.word-index _ c.loop-word-test.true) refl c.in-Some.ensures.found c.loop-word.invariant)

pub returns-clause-found : goal.returns-clause-found
returns-clause-found c =
    let none : drop c.loop-word.word-index (map (λ word. word.now) c.args.words.now) ≡ [] =
    drop-map (λ word. word.now) c.loop-word.word-index c.args.words.now ∙ ap (map (λ word. word.now)) (nil_from_length (drop c.loop-word.word-index c.args.words.now) (omega (arith, length-drop c.loop-word.word-index c.args.words.now, c.loop-word-test.false))) in
    ended _ c.loop-word.word-index _ none c.loop-word.invariant
