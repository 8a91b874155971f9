use Rattle.std.proofs.Common.{◌∙◌, ap, sym}
use Rattle.desktop_db.proofs.KeyBytes.{icon-formed, nine}
use Rattle.volume_spec.specs.TypedVolume.{are_bytes}
use Rattle.volume_edits.proofs.OfPlans.Typed.{icon-typed}
use Rattle.volume_edits.proofs.plans.add_icon.icon_in_range.Goals as goal

pub returns-clause-formed : goal.returns-clause-formed
returns-clause-formed c = icon-formed c.args.key.now c.args.tag c.args.bits.now c.nine_bytes.ensures

pub returns-clause-key : goal.returns-clause-key
returns-clause-key c = nine c.args.key.now c.nine_bytes.ensures

pub returns-clause-typed : goal.returns-clause-typed
returns-clause-typed c =
    icon-typed c.args.key.now c.args.tag c.args.bits.now c.nine_bytes.ensures c.bytes_in_range.ensures c.long_in_range.ensures (ap are_bytes (sym c.as_slice.ensures) ∙ c.bytes_in_range-2.ensures)
