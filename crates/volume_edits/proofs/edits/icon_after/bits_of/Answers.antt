use Rattle.std.proofs.Common.{◌≡◌, ◌∙◌, ◌≤◌, ap, sym, arith, length}
use Rattle.std.proofs.lemmas.List.{take_all}
use Rattle.volume_edits.proofs.edits.icon_after.bits_of.Goals as goal

pub returns-then-bytes-lt-LONGEST_ICON : goal.returns-then-bytes-lt-LONGEST_ICON
returns-then-bytes-lt-LONGEST_ICON c =
    let len : length c.as_slice-bytes.result.now ≡ length c.args.bits.now = ap length c.as_slice-bytes.ensures in
    let few : length c.args.bits.now ≤ 65535 = omega (arith, len, c.if-bytes-lt-LONGEST_ICON.true) in
    c.as_slice-bytes.ensures ∙ sym (take_all 65535 c.args.bits.now few)
