use Rattle.std.proofs.Common.{◌≡◌, true, get_or, arith}
use Rattle.std.proofs.lemmas.Bool.{lt-ltb}
use Rattle.std.proofs.lemmas.List.Elements.{All-from_get_or}
use Rattle.volume_spec.specs.TypedVolume.{is_long}
use Rattle.volume_changes.proofs.records.touched.ids_in_range.Goals as goal
use Rattle.afp_base.proofs.ListFacts.{all-each}

pub returns : goal.returns
returns c =
    all-each is_long c.args.ids.now
    (All-from_get_or (λ x. is_long x ≡ true) c.args.ids.now 0 (λ i within. lt-ltb (get_or c.args.ids.now i 0) 4294967296 (omega (arith, c.type_inv.ids i))))
