use Rattle.std.proofs.Common.{◌∙◌, ◌++◌, map, ap, arith}
use Rattle.volume_keeper_records.specs.Image.{kept_image}
use Rattle.volume_keeper_records.specs.Records as records
use Rattle.volume_changes.specs.declared.records.touched.Mapping.{Mapping}
use Rattle.volume_changes.specs.records.Differences.{differences}
use Rattle.volume_changes.proofs.OfRecords.Gathering.{next-of, whole-list}
use Rattle.volume_changes.proofs.records.kinds.change_appls.Goals as goal

pub loop-i-preserved : goal.loop-i-preserved
loop-i-preserved g c =
    next-of (λ (m : Mapping). records.appl_record_key m.creator m.node) c.args.mappings.now c.loop-i.i (kept_image (g.S.Transition.before c.args.step.now)) (kept_image (g.S.Transition.after c.args.step.now)) c.args.changes.now.items c.loop-i.changes.items c.change_appl.new.changes.items
    _ c.loop-i-test.true c.loop-i.invariant c.in_ok-change_appl.ensures

pub returns : goal.returns
returns g c =
    c.loop-i.invariant
    ∙ ap (λ l. c.args.changes.now.items ++ differences (map (λ (m : Mapping). records.appl_record_key m.creator m.node) l) (kept_image (g.S.Transition.before c.args.step.now)) (kept_image (g.S.Transition.after c.args.step.now)))
    (whole-list c.args.mappings.now c.loop-i.i (omega (arith, c.loop-i-test.false, c.loop-i.auto.i-end)))
