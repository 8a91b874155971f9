use Rattle.std.proofs.Common.{◌≡◌, ◌∙◌, ◌==◌, Bool, None, Some, ap, refl, rules, sym, subst, length, not, true, false}
use Rattle.afp_base.specs.ForkBytes.{resized}
use Rattle.volume_spec.specs.SetForkParms.{length_in}
use Rattle.volume_spec.specs.ForkEffect.{fork_of}
use Rattle.afp_serial.specs.Fork.{is_locked_between}
use Rattle.afp_serial.specs.World.{OpenFork as Opened}
use Rattle.volume_spec.specs.VolumeState.{Row, VolumeState}
use Rattle.volume_spec.specs.Walk.{row_at}
use Rattle.std.specs.Prelude.{slice_get}
use Rattle.afp_core_state.specs.OnForks.{IsFork}
use Rattle.afp_core_calls.specs.fork.lemma.SettingLength.{length_refusal}
use Rattle.afp_core_state.specs.declared.on_fork.OwnFork.{OwnFork}
use Rattle.afp_core_calls.proofs.OfFork.ForkCallRows.{set-denied, set-locked, set-no_length, set-runs, set_fork_parms-row}
use Rattle.afp_core_calls.proofs.OfFork.OnForkLemmas.{fork-refused, fork-unopened, own-plans}
use Rattle.afp_core_state.proofs.PlannedRows.{commits-at}
use Rattle.afp_core_calls.proofs.fork.set_fork_parms.set_fork_parms.Goals as goal

pub returns-in_default : goal.returns-in_default
returns-in_default g c =
    fork-unopened c.args.state.now c.args.session.0 _ c.args.reference.0 _ _ _ (set_fork_parms-row c.args.reference c.args.bits c.args.tail.now) _
    (subst (IsFork c.args.state.now c.args.session.0 c.args.reference.0) c.in_default.is c.fork_at.ensures) c.refused.ensures

pub returns-in-Err : goal.returns-in-Err
returns-in-Err g c =
    let is : c.own.inside.0.1.0.resource ≡ c.in-Some.own.fork.resource = ap (λ (o : OwnFork). o.fork.resource) c.own.view_is in
    fork-refused c.args.state.now c.args.session.0 _ c.args.reference.0 _ _ _ (set_fork_parms-row c.args.reference c.args.bits c.args.tail.now) c.in-Some.own c.in-Some.ensures c.in-Err.code _
    (set-no_length c.args.state.now c.args.session.0 c.args.reference c.in-Some.own c.in-Some.ensures c.args.bits c.args.tail.now c.in-Err.code
    (subst (λ (r : Bool). length_refusal r c.args.bits c.args.tail.now ≡ Some c.in-Err.code) is c.in-Err.ensures.refused)) c.refused-in-Err.ensures

pub returns-then-not-own : goal.returns-then-not-own
returns-then-not-own g c =
    let is : c.own.inside.0.1.0.resource ≡ c.in-Some.own.fork.resource = ap (λ (o : OwnFork). o.fork.resource) c.own.view_is in
    let denied : c.in-Some.own.mode.write ≡ false = search rules in
    fork-refused c.args.state.now c.args.session.0 _ c.args.reference.0 _ _ _ (set_fork_parms-row c.args.reference c.args.bits c.args.tail.now) c.in-Some.own c.in-Some.ensures _ _
    (set-denied c.args.state.now c.args.session.0 c.args.reference c.in-Some.own c.in-Some.ensures c.args.bits c.args.tail.now c.in-Ok.len (subst (λ (r : Bool). length_refusal r c.args.bits c.args.tail.now ≡ None) is c.in-Ok.ensures.ok.0) (subst (λ (r : Bool). c.in-Ok.len ≡ length_in r c.args.bits c.args.tail.now) is c.in-Ok.ensures.ok.1) denied) c.refused-then-not-own.ensures

pub returns-then-is_locked_between : goal.returns-then-is_locked_between
returns-then-is_locked_between g c =
    let locked = subst (λ (x : OwnFork). (v : VolumeState) (file : Row) (o : Opened) → slice_get c.args.state.now.world.volumes x.index ≡ Some v → row_at v.rows x.fork.node ≡ Some file → o.reference ≡ c.args.reference.0
    → c.is_locked_between.result ≡ is_locked_between c.args.state.now.world o (length (fork_of x.fork.resource file)) c.in-Ok.len) c.own.view_is c.is_locked_between.ensures in
    let is : c.own.inside.0.1.0.resource ≡ c.in-Some.own.fork.resource = ap (λ (o : OwnFork). o.fork.resource) c.own.view_is in
    let here = c.in-Some.ensures in
    let writes : c.in-Some.own.mode.write ≡ true = search rules in
    fork-refused c.args.state.now c.args.session.0 _ c.args.reference.0 _ _ _ (set_fork_parms-row c.args.reference c.args.bits c.args.tail.now) c.in-Some.own here _ _
    (set-locked c.args.state.now c.args.session.0 c.args.reference c.in-Some.own here c.args.bits c.args.tail.now c.in-Ok.len (subst (λ (r : Bool). length_refusal r c.args.bits c.args.tail.now ≡ None) is c.in-Ok.ensures.ok.0) (subst (λ (r : Bool). c.in-Ok.len ≡ length_in r c.args.bits c.args.tail.now) is c.in-Ok.ensures.ok.1) writes
    (sym (locked here.file.volume here.file.file here.file.fork here.volume here.node here.reference_is) ∙ c.if-is_locked_between.true)) c.refused-then-is_locked_between.ensures

pub returns : goal.returns
returns g c =
    let locked = subst (λ (x : OwnFork). (v : VolumeState) (file : Row) (o : Opened) → slice_get c.args.state.now.world.volumes x.index ≡ Some v → row_at v.rows x.fork.node ≡ Some file → o.reference ≡ c.args.reference.0
    → c.is_locked_between.result ≡ is_locked_between c.args.state.now.world o (length (fork_of x.fork.resource file)) c.in-Ok.len) c.own.view_is c.is_locked_between.ensures in
    let is : c.own.inside.0.1.0.resource ≡ c.in-Some.own.fork.resource = ap (λ (o : OwnFork). o.fork.resource) c.own.view_is in
    let k = c.args.state.now in
    let own = c.in-Some.own in
    let here = c.in-Some.ensures in
    let len = c.in-Ok.len in
    let bytes = fork_of own.fork.resource here.file.file in
    let answer = c.plan_fork_length-answer.result in
    let v = c.whole_at-whole.result.now.state in
    let writes : c.in-Some.own.mode.write ≡ true = search rules in
    set-runs k c.args.session.0 c.args.reference own here c.args.bits c.args.tail.now len (subst (λ (r : Bool). length_refusal r c.args.bits c.args.tail.now ≡ None) is c.in-Ok.ensures.ok.0) (subst (λ (r : Bool). len ≡ length_in r c.args.bits c.args.tail.now) is c.in-Ok.ensures.ok.1) writes c.resizing_keeps_the_front.ensures.length
    (sym (locked here.file.volume here.file.file here.file.fork here.volume here.node here.reference_is) ∙ c.if-is_locked_between.false) _ answer _ _
    (own-plans k c.args.session.0 c.args.reference.0 own here v c.latest.result (λ l. not (len == length l)) (λ l. resized l len) bytes answer (subst (λ (x : OwnFork). slice_get k.world.volumes x.index ≡ Some v) c.own.view_is c.whole_at-whole.ensures) c.latest.ensures refl c.plan_fork_length-answer.ensures.plan)
    c.new-nothing.ensures c.run_plan.ensures

pub run_plan-requires-clause-may : goal.run_plan-requires-clause-may
run_plan-requires-clause-may g c =
    let k = c.args.state.now in
    let v = c.whole_at-whole.result.now.state in
    commits-at k c.in-Some.own.index v c.plan_fork_length-answer.result (subst (λ (x : OwnFork). slice_get k.world.volumes x.index ≡ Some v) c.own.view_is c.whole_at-whole.ensures) c.plan_fork_length-answer.ensures.may
