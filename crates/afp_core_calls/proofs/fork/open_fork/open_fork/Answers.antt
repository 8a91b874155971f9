use Rattle.std.proofs.Common.{◌≡◌, ◌∙◌, None, Some, ap, refl, subst}
use Rattle.std.specs.Prelude.{Err, Result}
use Rattle.afp_base.specs.DenyMode.{Access}
use Rattle.afp_base.specs.declared.ids.NodeId.{NodeId}
use Rattle.volume_spec.specs.OpenFork.{open_fork_refusal}
use Rattle.volume_tree.specs.Answered.{Refuses}
use Rattle.volume_tree.specs.declared.resolve.PlanFault.{PlanFault}
use Rattle.volume_tree.specs.declared.resolve.PlanFault.TheVariants.{Code}
use Rattle.afp_core_state.specs.OnVolumes.{IsOpen}
use Rattle.afp_core_calls.proofs.OfFork.OpenForkLemmas.{bits-within, open-finds, open-refused, open_fork-opens, opens-unopened}
use Rattle.afp_core_calls.proofs.OfFork.OnForkLemmas.{within-mask}
use Rattle.afp_core_calls.proofs.fork.open_fork.open_fork.Goals as goal

pub returns-in_default : goal.returns-in_default
returns-in_default g c =
    opens-unopened c.args.state.now c.args.session.0 _ _ c.args.dir.0 c.args.path.now (open_fork-opens c.args.flag c.args.volume c.args.dir c.args.bits c.args.mode c.args.path.now) _
    (subst (IsOpen c.args.state.now c.args.session.0 c.args.volume.0) c.in_default.is c.opened.ensures) c.refused.ensures

pub open_found-requires-clause-bits : goal.open_found-requires-clause-bits
open_found-requires-clause-bits g c =
    within-mask c.args.bits _ (bits-within c.kept_at.result.now.state c.user.result c.args.bits c.mode.inside.read c.mode.inside.write c.args.dir.0 c.args.path.now c.in-Ok.ensures.refused) refl

pub returns-in-Ok : goal.returns-in-Ok
returns-in-Ok g c =
    c.open_found.ensures _ _
    (open-finds c.args.state.now c.args.session.0 c.args.flag c.args.volume c.args.dir c.args.bits c.args.mode c.args.path.now c.user.result c.in-Some.index c.kept_at.result.now.state c.user.ensures c.in-Some.ensures c.kept_at.ensures
    c.access_of-mode.result c.access_of-mode.ensures c.in-Ok.node c.is_resource-resource.result c.is_resource-resource.ensures
    (subst (λ (a : Access). open_fork_refusal c.kept_at.result.now.state c.user.result c.args.bits a.read a.write c.args.dir.0 c.args.path.now ≡ None) c.mode.view_is c.in-Ok.ensures.refused) c.in-Ok.ensures.found c.in-Ok.ensures.id)

pub returns-in-Err-Code : goal.returns-in-Err-Code
returns-in-Err-Code g c =
    let fault : c.in-Err-Code.field-0 ≡ Code c.in-Err-Code.code = rw c.in-Err-Code.is at c.in-Err-Code.field-0-is in
    let refused = subst (λ (answer : Result NodeId PlanFault). Refuses answer (open_fork_refusal c.kept_at.result.now.state c.user.result c.args.bits c.mode.inside.read c.mode.inside.write c.args.dir.0 c.args.path.now)) (c.in-Err-Code.is ∙ ap Err fault) c.open_fork-found.ensures.refused in
    open-refused c.args.state.now c.args.session.0 c.args.flag c.args.volume c.args.dir c.args.bits c.args.mode c.args.path.now c.user.result c.in-Some.index c.kept_at.result.now.state c.user.ensures c.in-Some.ensures c.kept_at.ensures
    c.access_of-mode.result c.access_of-mode.ensures c.in-Err-Code.code _
    (subst (λ (a : Access). open_fork_refusal c.kept_at.result.now.state c.user.result c.args.bits a.read a.write c.args.dir.0 c.args.path.now ≡ Some c.in-Err-Code.code) c.mode.view_is refused)
    c.refused-in-Err-Code.ensures
