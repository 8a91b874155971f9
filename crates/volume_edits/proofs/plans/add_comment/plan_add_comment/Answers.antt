use Rattle.std.proofs.Common.{◌∙◌, ap, sym, refl, []}
use Rattle.volume_spec.specs.Edit as edit
use Rattle.volume_spec.specs.TypedVolume.{are_bytes}
use Rattle.volume_spec.specs.VolumeCalls as call
use Rattle.volume_edits.proofs.OfPlans.Calls.{Passes, plans-edits, plans-one}
use Rattle.volume_edits.proofs.OfPlans.Passing.{add-comment-edits, add-comment-passes, no-comment-edits}
use Rattle.volume_edits.proofs.plans.add_comment.plan_add_comment.Goals as goal

pub returns-then-not-does_comment-clause-plan : goal.returns-then-not-does_comment-clause-plan
returns-then-not-does_comment-clause-plan c =
    let p : Passes c.args.whole.now.state c.args.user c.args.now (call.AddComment c.args.dir.0 c.args.path.now c.args.text) = record {
      holds = c.laws_hold.ensures;
      formed_call = refl;
      typed_call = ap are_bytes (sym c.as_slice.ensures) ∙ c.bytes_in_range.ensures;
      passes = add-comment-passes c.args.whole.now.state c.args.user c.args.now c.args.dir.0 c.args.path.now c.in-Ok.id.0 c.in-Ok.ensures (sym c.lacks_above.ensures ∙ c.if-lacks_above.false);
    } in
    plans-edits c.args.whole.now.state c.args.user c.args.now (call.AddComment c.args.dir.0 c.args.path.now c.args.text) [] c.plan_none.result p (no-comment-edits c.args.whole.now.state c.args.user c.args.now c.args.dir.0 c.args.path.now c.in-Ok.id.0 c.in-Ok.ensures c.args.text (sym c.does_comment.ensures ∙ c.if-not-does_comment.true)) tt c.plan_none.ensures

pub returns-clause-plan : goal.returns-clause-plan
returns-clause-plan c =
    let p : Passes c.args.whole.now.state c.args.user c.args.now (call.AddComment c.args.dir.0 c.args.path.now c.args.text) = record {
      holds = c.laws_hold.ensures;
      formed_call = refl;
      typed_call = ap are_bytes (sym c.as_slice.ensures) ∙ c.bytes_in_range.ensures;
      passes = add-comment-passes c.args.whole.now.state c.args.user c.args.now c.args.dir.0 c.args.path.now c.in-Ok.id.0 c.in-Ok.ensures (sym c.lacks_above.ensures ∙ c.if-lacks_above.false);
    } in
    plans-one c.args.whole.now.state c.args.user c.args.now (call.AddComment c.args.dir.0 c.args.path.now c.args.text) c.comments.result (edit.Comments c.in-Ok.id.0 c.args.text) c.plan_one.result p c.comments.ensures tt
    (add-comment-edits c.args.whole.now.state c.args.user c.args.now c.args.dir.0 c.args.path.now c.in-Ok.id.0 c.in-Ok.ensures c.args.text (sym c.does_comment.ensures ∙ c.if-not-does_comment.false)) c.plan_one.ensures
