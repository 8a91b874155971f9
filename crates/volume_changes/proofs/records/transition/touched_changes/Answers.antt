use Rattle.std.proofs.Common.{◌∙◌, ap}
use Rattle.volume_keeper_records.specs.Image.{kept_image}
use Rattle.volume_changes.specs.records.Touched.{Touched}
use Rattle.volume_changes.proofs.OfRecords.Gathering.{gathered}
use Rattle.volume_changes.proofs.records.transition.touched_changes.Goals as goal

pub returns : goal.returns
returns g c =
    gathered c.args.touched.now (kept_image (g.S.Transition.before c.args.step.now)) (kept_image (g.S.Transition.after c.args.step.now))
    c.new-changes.ensures.items c.in_ok-change_head.ensures
    (c.as_slice.ensures.value ∙ ap (λ (t : Touched). t.nodes) c.touched.view_is) c.in_ok-change_nodes.ensures
    (c.as_slice-2.ensures.value ∙ ap (λ (t : Touched). t.forks) c.touched.view_is) c.in_ok-change_forks.ensures
    (c.as_slice-3.ensures.value ∙ ap (λ (t : Touched). t.comments) c.touched.view_is) c.in_ok-change_comments.ensures
    (c.as_slice-4.ensures.value ∙ ap (λ (t : Touched). t.icons) c.touched.view_is) c.in_ok-change_icons.ensures
    (c.as_slice-5.ensures.value ∙ ap (λ (t : Touched). t.appls) c.touched.view_is) c.in_ok-change_appls.ensures
