use Rattle.std.proofs.Common.{◌∙◌, ap, sym, refl, ◌∷◌, []}
use Rattle.volume_spec.specs.VolumeCalls as call
use Rattle.volume_edits.specs.edits.Planned.{plain}
use Rattle.volume_edits.proofs.OfPlans.Calls.{Passes, passes-call, plans-one}
use Rattle.volume_edits.proofs.OfPlans.Passing.{remove-comment-edits, remove-comment-passes}
use Rattle.volume_spec.specs.Edit as edit
use Rattle.volume_edits.proofs.plans.remove_comment.plan_remove_comment.Goals as goal

pub returns-clause-refused : goal.returns-clause-refused
returns-clause-refused c = passes-call c.args.now (c.comments.result ∷ []) c.plan_one.result _ (remove-comment-passes c.args.whole.now.state c.args.user c.args.now c.args.dir.0 c.args.path.now c.in-Ok.id.0 c.in-Ok.ensures (sym c.lacks_above.ensures ∙ c.if-lacks_above.false) (sym c.has_no_comment.ensures ∙ c.if-has_no_comment.false)) c.plan_one.ensures

pub returns-clause-plan : goal.returns-clause-plan
returns-clause-plan c =
    let none = remove-comment-passes c.args.whole.now.state c.args.user c.args.now c.args.dir.0 c.args.path.now c.in-Ok.id.0 c.in-Ok.ensures (sym c.lacks_above.ensures ∙ c.if-lacks_above.false) (sym c.has_no_comment.ensures ∙ c.if-has_no_comment.false) in
    let p : Passes c.args.whole.now.state c.args.user c.args.now (call.RemoveComment c.args.dir.0 c.args.path.now) = record {
      holds = c.laws_hold.ensures;
      formed_call = refl;
      typed_call = refl;
      passes = none;
    } in
    plans-one c.args.whole.now.state c.args.user c.args.now (call.RemoveComment c.args.dir.0 c.args.path.now) c.comments.result (edit.Comments c.in-Ok.id.0 []) c.plan_one.result p (c.comments.ensures ∙ ap (λ l. plain (edit.Comments c.in-Ok.id.0 l)) c.new.ensures) tt (remove-comment-edits c.args.whole.now.state c.args.user c.args.now c.args.dir.0 c.args.path.now c.in-Ok.id.0 c.in-Ok.ensures) c.plan_one.ensures
