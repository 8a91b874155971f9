use Rattle.std.proofs.Common.{◌≡◌, ◌≤◌, ◌+◌, ◌∙◌, ap, sym, drop, length, true, Some, arith}
use Rattle.std.proofs.lemmas.List.{length-take-le, length-drop}
use Rattle.afp_bitmap.specs.Bits.{is_asked}
use Rattle.volume_tree.proofs.Sums.{field-is, field-long}
use Rattle.volume_tree.proofs.tails.field.Goals as goal

pub piece_at-requires : goal.piece_at-requires
piece_at-requires c =
    let asked : is_asked c.args.bits c.args.bit ≡ true = sym c.is_asked.ensures ∙ c.if-not-is_asked.false in
    field-long c.args.bits c.args.bit c.args.size c.args.at c.args.tail.now asked c.requires.fits

pub returns : goal.returns
returns c =
    let asked : is_asked c.args.bits c.args.bit ≡ true = sym c.is_asked.ensures ∙ c.if-not-is_asked.false in
    let fits : c.args.at + c.args.size ≤ length c.args.tail.now = field-long c.args.bits c.args.bit c.args.size c.args.at c.args.tail.now asked c.requires.fits in
    let enough : c.args.size ≤ length (drop c.args.at c.args.tail.now) = omega (arith, length-drop c.args.at c.args.tail.now) in
    (field-is c.args.bits c.args.bit c.args.size c.args.at c.args.tail.now asked c.requires.at ∙ ap Some (sym c.piece_at.ensures), ap length c.piece_at.ensures ∙ length-take-le c.args.size (drop c.args.at c.args.tail.now) enough)
