use Rattle.std.proofs.Common.{◌≡◌, ◌∙◌, ◌==◌, ◌≤◌, ap, sym, arith, length, take, false, Some, None}
use Rattle.std.proofs.lemmas.Bool.{cond-false}
use Rattle.std.proofs.lemmas.List.{take_all}
use Rattle.volume_spec.specs.SoundVolume.{longest_comment}
use Rattle.volume_edits.proofs.edits.comment_after.text_of.Goals as goal

pub returns-then-bytes-lt-LONGEST : goal.returns-then-bytes-lt-LONGEST
returns-then-bytes-lt-LONGEST c =
    let len : length c.as_slice-bytes.result.now ≡ length c.args.text.now = ap length c.as_slice-bytes.ensures in
    let few : length c.args.text.now ≤ 199 = omega (arith, len, c.if-bytes-lt-LONGEST.true) in
    let some : (length c.args.text.now == 0) ≡ false = grind (arith, len, c.is_empty.ensures, c.if-is_empty.false) in
    ap Some (c.as_slice-bytes.ensures ∙ sym (take_all 199 c.args.text.now few)) ∙ sym (cond-false (length c.args.text.now == 0) None (Some (take longest_comment c.args.text.now)) some)
