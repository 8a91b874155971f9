use Rattle.std.proofs.Common.{◌∙◌, List, ℕ, ◌∷◌, ◌++◌, map, ap, arith}
use Rattle.volume_keeper_records.specs.Image.{kept_image}
use Rattle.volume_keeper_records.specs.Records as records
use Rattle.volume_changes.specs.records.Differences.{differences}
use Rattle.volume_changes.proofs.OfRecords.Gathering.{next-of, whole-list}
use Rattle.volume_changes.proofs.records.kinds.change_icons.Goals as goal

pub loop-i-preserved : goal.loop-i-preserved
loop-i-preserved g c =
    next-of (λ (key : List ℕ). records.icon_tag ∷ key) c.args.keys.now c.loop-i.i (kept_image (g.S.Transition.before c.args.step.now)) (kept_image (g.S.Transition.after c.args.step.now)) c.args.changes.now.items c.loop-i.changes.items c.change_icon.new.changes.items
    _ c.loop-i-test.true c.loop-i.invariant c.in_ok-change_icon.ensures

pub returns : goal.returns
returns g c =
    c.loop-i.invariant
    ∙ ap (λ l. c.args.changes.now.items ++ differences (map (λ (key : List ℕ). records.icon_tag ∷ key) l) (kept_image (g.S.Transition.before c.args.step.now)) (kept_image (g.S.Transition.after c.args.step.now)))
    (whole-list c.args.keys.now c.loop-i.i (omega (arith, c.loop-i-test.false, c.loop-i.auto.i-end)))
