use Rattle.std.proofs.Common.{◌≡◌, true, get_or, arith}
use Rattle.std.proofs.lemmas.Bool.{lt-ltb}
use Rattle.std.proofs.lemmas.List.Elements.{All-from_get_or}
use Rattle.volume_spec.specs.TypedVolume.{is_byte}
use Rattle.volume_spec.proofs.ranges.bytes_in_range.Goals as goal
use Rattle.afp_base.proofs.ListFacts.{all-each}

pub returns : goal.returns
returns c =
    all-each is_byte c.args.bytes.now
    (All-from_get_or (λ x. is_byte x ≡ true) c.args.bytes.now 0 (λ i within. lt-ltb (get_or c.args.bytes.now i 0) 256 (omega (arith, c.type_inv.bytes i))))
