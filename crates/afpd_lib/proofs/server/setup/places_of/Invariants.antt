use Rattle.std.proofs.Common.{◌≡◌, map, take}
use Rattle.afpd_lib.specs.words.lemma.Values.{place_value}
use Rattle.afpd_lib.specs.server.Setup.{kept_at}
use Rattle.afpd_lib.proofs.server.setup.places_of.Given as goal

abbrev pub invariant-loop-volume : goal.invariant-loop-volume
invariant-loop-volume l = l.places.items ≡ map (λ volume. kept_at (place_value volume.place)) (take l.volume-index l.volumes)
