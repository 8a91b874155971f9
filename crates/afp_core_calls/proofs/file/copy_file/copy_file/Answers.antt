use Rattle.std.proofs.Common.{◌≡◌, ◌∙◌, ap, refl, subst, sym, ℕ, true, Some}
use Rattle.std.specs.Prelude.{Result}
use Rattle.afp_base.specs.declared.code.Code.TheVariants.{ParamErr}
use Rattle.afp_serial.specs.CopyFile.{CopyAsked}
use Rattle.afp_serial.specs.World.{has_opened, Session}
use Rattle.afp_core_state.specs.KeptWorld.{KeptWorld}
use Rattle.afp_core_state.specs.OnVolumes.{IsOpen}
use Rattle.afp_core_state.proofs.RowLemmas.{is_refused}
use Rattle.volume_edits.specs.edits.Planned.{PlanValue}
use Rattle.volume_tree.specs.declared.resolve.PlanFault.{PlanFault}
use Rattle.session_table.specs.Sessions.{session_of}
use Rattle.afp_core_calls.specs.file.lemma.Copying.{PlansCopy}
use Rattle.afp_core_calls.proofs.OfFile.CopyRows.{copy-runs, copy-told, copy-target-unopened, copy-unopened}
use Rattle.afp_core_calls.proofs.OfFile.FileRows.{copy_file-row}
use Rattle.afp_core_calls.proofs.file.copy_file.copy_file.Goals as goal

pub returns-in_default : goal.returns-in_default
returns-in_default g c =
    let x = c.args in
    let asked : CopyAsked = record { volume = x.volume.0; dir = x.dir.0; path = x.path.now; target = x.target_volume.0; target_dir = x.target_dir.0; target_path = x.target_path.now; new_path = x.new_path.now } in
    copy-unopened x.state.now x.session.0 _ asked (copy_file-row x.volume x.dir x.target_volume x.target_dir x.path.now x.target_path.now x.new_path.now) refl _
    (subst (IsOpen x.state.now x.session.0 x.volume.0) c.in_default.is c.opened.ensures) c.refused.ensures

pub returns-then-not-has_volume : goal.returns-then-not-has_volume
returns-then-not-has_volume g c = λ s at.
    let x = c.args in
    let asked : CopyAsked = record { volume = x.volume.0; dir = x.dir.0; path = x.path.now; target = x.target_volume.0; target_dir = x.target_dir.0; target_path = x.target_path.now; new_path = x.new_path.now } in
    let there = ap (λ (k : KeptWorld). session_of k.world.sessions x.session.0) c.state.view_is ∙ at in
    is_refused x.state.now _ s _ ParamErr _
    (copy-target-unopened x.state.now x.session.0 _ asked (copy_file-row x.volume x.dir x.target_volume x.target_dir x.path.now x.target_path.now x.new_path.now) refl c.in-Some.index s c.in-Some.ensures at
    (sym (c.has_volume.ensures s there) ∙ c.if-not-has_volume.true)) c.refused-then-not-has_volume.ensures refl

pub returns-in-Ok : goal.returns-in-Ok
returns-in-Ok g c =
    let x = c.args in
    let asked : CopyAsked = record { volume = x.volume.0; dir = x.dir.0; path = x.path.now; target = x.target_volume.0; target_dir = x.target_dir.0; target_path = x.target_path.now; new_path = x.new_path.now } in
    let opened : (s : Session) → session_of x.state.now.world.sessions x.session.0 ≡ Some s → has_opened s asked.target ≡ true =
    (λ s at. sym (c.has_volume.ensures s (ap (λ (k : KeptWorld). session_of k.world.sessions x.session.0) c.state.view_is ∙ at)) ∙ c.if-not-has_volume.false) in
    copy-runs x.state.now x.session.0 _ asked (copy_file-row x.volume x.dir x.target_volume x.target_dir x.path.now x.target_path.now x.new_path.now) refl c.user-user.result c.in-Some.index c.user-user.ensures c.in-Some.ensures opened c.in-Ok.target c.in-Ok.plan
    c.in-Ok.ensures _ _ _ c.new-nothing.ensures c.commit_plan.ensures

pub returns-in-Err : goal.returns-in-Err
returns-in-Err g c =
    let x = c.args in
    let asked : CopyAsked = record { volume = x.volume.0; dir = x.dir.0; path = x.path.now; target = x.target_volume.0; target_dir = x.target_dir.0; target_path = x.target_path.now; new_path = x.new_path.now } in
    let opened : (s : Session) → session_of x.state.now.world.sessions x.session.0 ≡ Some s → has_opened s asked.target ≡ true =
    (λ s at. sym (c.has_volume.ensures s (ap (λ (k : KeptWorld). session_of k.world.sessions x.session.0) c.state.view_is ∙ at)) ∙ c.if-not-has_volume.false) in
    copy-told x.state.now x.session.0 _ asked (copy_file-row x.volume x.dir x.target_volume x.target_dir x.path.now x.target_path.now x.new_path.now) refl c.user-user.result c.in-Some.index c.user-user.ensures c.in-Some.ensures opened c.in-Err.fault _ _
    (subst (λ (r : Result (ℕ × PlanValue) PlanFault). PlansCopy x.state.now c.user-user.result c.in-Some.index asked r) c.in-Err.is c.plan_copy-planned.ensures) c.told_of.ensures
