use Rattle.std.proofs.Common.{◌≡◌, ◌∙◌, List, ap, map, sym, refl, rules}
use Rattle.std.proofs.lemmas.Simd.{map-map}
use Rattle.std.specs.Prelude.{Err}
use Rattle.afpd_lib.specs.words.Places.{VolumeValue}
use Rattle.afpd_lib.specs.declared.words.read.WordFault.TheVariants.{Bad}
use Rattle.afpd_lib.specs.declared.words.place.VolumeWord.{VolumeWord}
use Rattle.afpd_lib.specs.declared.words.read.ServerWords.{ServerWords}
use Rattle.afpd_lib.specs.words.lemma.Values.{place_value, values_of, volume_value}
use Rattle.afpd_lib.specs.server.Setup.{kept_at}
use Rattle.afpd_lib.specs.declared.server.setup.VolumePlace.{VolumePlace}
use Rattle.afpd_lib.proofs.server.setup.setup.Goals as goal

-- the places of what was read are those that the words say
same_places : (said : ServerWords) (made : List VolumePlace) (volumes : List VolumeWord) → volumes ≡ said.volumes.items → made ≡ map (λ volume. kept_at (place_value volume.place)) volumes
    → made ≡ map (λ volume. kept_at volume.place) (map volume_value said.volumes.items)
same_places said made volumes same are =
    are ∙ ap (map (λ (volume : VolumeWord). kept_at (place_value volume.place))) same ∙ sym (map-map (λ (volume : VolumeValue). kept_at volume.place) volume_value said.volumes.items)

pub returns-in-Err-clause-bad : goal.returns-in-Err-clause-bad
returns-in-Err-clause-bad c = λ is.
    let same : c.in-Err.fault ≡ Bad = cc is in
    c.in-Err.ensures.bad (ap Err same)

pub returns-in-Ok-places_of-clause-found : goal.returns-in-Ok-places_of-clause-found
returns-in-Ok-places_of-clause-found c = record {
  values = values_of c.in-Ok.said;
  words_are = c.in-Ok.ensures.found;
  places = same_places c.in-Ok.said _ _ (search rules) c.in-Ok-places_of.ensures;
  port = refl;
  workers = refl;
  links = refl;
}
