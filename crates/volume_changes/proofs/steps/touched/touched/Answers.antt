use Rattle.std.proofs.Common.{refl, subst, take, length, [], List}
use Rattle.volume_spec.specs.Edit.{Edit}
use Rattle.volume_spec.specs.VolumeState.{Appl}
use Rattle.volume_changes.specs.records.EditTouches.{all_touched}
use Rattle.volume_edits.specs.edits.Planned.{edits_of}
use Rattle.volume_changes.specs.steps.lemma.Put.{IsWith, fork_key, icon_key, id_key, mapping_key}
use Rattle.volume_changes.specs.steps.lemma.Touching.{all_appls_in}
use Rattle.volume_changes.proofs.OfSteps.Gathered.{all-edits, within-touched}
use Rattle.volume_changes.proofs.steps.touched.touched.Goals as goal

pub returns-clause-within : goal.returns-clause-within
returns-clause-within c =
    let all = all-edits c.edits-edits.result.now c.args.plan.now.edits (length c.edits-edits.result.now) refl c.edits-edits.ensures in
    within-touched c.edits_touch_their_own.ensures.call c.what_was_put_is_found.ensures.appl c.what_was_put_is_found.ensures.appl_taken c.args.whole.now.state c.args.plan.now.moment (edits_of c.args.plan.now.edits) _
    (subst (λ (es : List Edit). IsWith id_key (all_touched c.args.whole.now.state es).nodes [] c.in_ok-nodes.nodes.items) all c.in_ok-nodes.ensures)
    (subst (λ (es : List Edit). IsWith fork_key (all_touched c.args.whole.now.state es).forks [] c.in_ok-forks.forks.items) all c.in_ok-forks.ensures)
    (subst (λ (es : List Edit). IsWith id_key (all_touched c.args.whole.now.state es).comments [] c.in_ok-comments.comments.items) all c.in_ok-comments.ensures)
    (subst (λ (es : List Edit). IsWith icon_key (all_touched c.args.whole.now.state es).icons [] c.in_ok-icons.icons.items) all c.in_ok-icons.ensures)
    (subst (λ (es : List Edit). IsWith mapping_key (all_appls_in es c.args.whole.now.state.appls) [] c.in_ok-appls.appls.items) all (subst (λ (l : List Appl). IsWith mapping_key (all_appls_in (edits_of (take (length c.edits-edits.result.now) c.edits-edits.result.now)) l) [] c.in_ok-appls.appls.items) c.appls.ensures c.in_ok-appls.ensures))
