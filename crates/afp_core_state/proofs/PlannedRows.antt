-- Rows of calls that change a volume by edits.
use Rattle.std.proofs.Common.{◌≡◌, ◌∙◌, ap, sym, refl, subst, ℕ, ◌==◌, ◌+◌, ◌<◌, arith, get_or, set, false, List, [], ◌∷◌, length, Option, Some, None}
use Rattle.std.specs.Prelude.{IfOk, Result, Ok as with_ok, Err, option_map, slice_get, slice_set}
use Rattle.afp_base.specs.Choice.{first_holding}
use Rattle.afp_base.specs.declared.bytes.OutOfMemory.{OutOfMemory}
use Rattle.afp_base.specs.declared.code.Code.{Code}
use Rattle.afp_base.specs.declared.code.Code.TheVariants.{Ok, MiscErr, ParamErr}
use Rattle.afp_replies.specs.Replies.{canonical_reply}
use Rattle.afp_replies.specs.declared.reply.Reply.{Reply as AfpReply}
use Rattle.afp_calls_grammar.specs.declared.grammar.call.Call.{Call}
use Rattle.afp_serial.specs.Answer.{refusal_reply, verdict_of_row}
use Rattle.afp_serial.specs.World.{Effect, CallRow, plain, user_of, World, Session}
use Rattle.afp_serial.specs.OnVolume.{done_on, opened_on}
use Rattle.volume_keeper.specs.kept.Commits.{Commits, HasEdits, MayCommit}
use Rattle.afp_serial.specs.VolumeRows.{edits_on, keeper_of_edits, with_edits}
use Rattle.afp_serial.specs.Rows.{committed, effect, ends_session, refusal}
use Rattle.afp_serial.specs.declared.ask.Outcome.{Outcome}
use Rattle.afp_serial.specs.declared.ask.Outcome.TheVariants as outcome
use Rattle.afp_serial.specs.declared.ask.Told.{Told}
use Rattle.afp_serial.specs.declared.ask.Told.TheVariants.{Reply}
use Rattle.volume_edits.specs.edits.Planned.{EditValue, PlanValue, edits_of}
use Rattle.volume_edits.specs.plans.Plans.{Plans}
use Rattle.volume_spec.specs.Edit.{Edit, after_call}
use Rattle.volume_spec.specs.VolumeCalls.{VolumeCall, call_edits, volume_refusal}
use Rattle.volume_spec.specs.VolumeState.{VolumeState}
use Rattle.volume_tree.specs.Answered.{Refuses}
use Rattle.volume_tree.specs.declared.resolve.PlanFault.{PlanFault}
use Rattle.volume_tree.specs.declared.resolve.PlanFault.TheVariants as fault
use Rattle.volume_keeper.specs.kept.Kept.{KeptState}
use Rattle.record_keeper.specs.declared.keeper.KeeperFault.{KeeperFault}
use Rattle.record_keeper.specs.declared.keeper.KeeperFault.TheVariants as keeper
use Rattle.session_table.specs.Sessions.{session_of}
use Rattle.afp_core_state.specs.KeptWorld.{KeptWorld, kept_world, volumes_of}
use Rattle.afp_core_state.proofs.KeeperLemmas.{becomes-kept, volume-of}
use Rattle.afp_core_state.specs.OnVolumes.{BecomesKept, IsOpen, IsOpenAt, IsUser, with_kept}
use Rattle.afp_core_state.specs.Running.{done, IsOutcomeOf, RunsRow, RunsVerdict}
use Rattle.afp_core_state.proofs.RowLemmas.{has_effect, is_refused}
use Rattle.afp_core_state.proofs.OnVolumeLemmas.{found-at, keeper-at, keeper-fails, kept-stays, refused-on, set-same, state-at, state-changes, told-effect}
use Rattle.afp_core_state.specs.Planned.{MayCommitAt, RunsCommit, RunsPlan, TellsCommitted}
use Rattle.afp_core_state.specs.RowKinds.{ChangesVolume, IsToldWhereDone}
use Rattle.std.proofs.lemmas.List.{length-map}
use Rattle.std.proofs.lemmas.Option.{same_Some}

-- with its edits a volume is the one behind them
pub edits-become : (w : World) (volume index : ℕ) (v : VolumeState) (edits : List Edit) → volume ≡ index + 1 → slice_get w.volumes index ≡ Some v
    → record w { volumes = slice_set w.volumes index (after_call v w.latest edits) } ≡ with_edits w volume v edits
edits-become w volume index v [] is there = ap (λ (l : List VolumeState). record w { volumes = l }) (set-same w.volumes index v there)
edits-become w volume index v (e ∷ es) is there = ap (λ (l : List VolumeState). record w { volumes = l }) (sym (state-at w.volumes volume index (after_call v w.latest (e ∷ es)) is))

-- a plan with edits is committed to the volume's keeper
pub edits-keeper : (volume index : ℕ) (plan : List EditValue) (edits : List Edit) → volume ≡ index + 1 → edits_of plan ≡ edits → (length plan == 0) ≡ false
    → keeper_of_edits volume edits ≡ Some index
edits-keeper volume index [] edits is same some = cc
edits-keeper volume index (e ∷ es) edits is same some = ap (keeper_of_edits volume) (sym same) ∙ keeper-at volume index is

-- What becomes of the world where the plan of a call is committed: the volume has the call's edits; or the keeper failed; or there was no memory.
module _ (k : KeptWorld) (index user : ℕ) (v : VolumeState) (asked : VolumeCall) (plan : PlanValue) (there : slice_get k.world.volumes index ≡ Some v) (plans : Plans v user k.world.latest asked plan) where
  pub committed-world : (new : KeptWorld) (volume : ℕ) → volume ≡ index + 1 → BecomesKept k index (λ old one. Commits old plan (with_ok tt) one) new
      → new ≡ record k { world = with_edits k.world volume v (call_edits v user k.world.latest asked) }
  committed-world new volume id b =
      let was : b.old.state ≡ v = same_Some b.old.state v (sym b.was.state ∙ there) in
      let behind : after_call b.old.state plan.moment (edits_of plan.edits) ≡ after_call v k.world.latest (call_edits v user k.world.latest asked) =
      (λ i. after_call (was i) (plans.moment i) (plans.edits i)) in
      b.now ∙ ap (with_kept k index) b.is ∙ state-changes k index b.old (after_call b.old.state plan.moment (edits_of plan.edits)) b.was
      ∙ ap (λ (x : VolumeState). record k { world = record k.world { volumes = slice_set k.world.volumes index x } }) behind
      ∙ ap (λ (w : World). record k { world = w }) (edits-become k.world volume index v (call_edits v user k.world.latest asked) id there)

  pub commit-fails : (new : KeptWorld) (want told : Told) (after : World) (volume : ℕ) (to : Option ℕ) → volume ≡ index + 1 → to ≡ keeper_of_edits volume (call_edits v user k.world.latest asked) → told ≡ want → k.world ≡ after
      → BecomesKept k index (λ old one. Commits old plan (Err keeper.Failed) one) new → IsOutcomeOf want after to outcome.Fault told k new
  commit-fails new want told after volume to id commits is same b =
      keeper-fails k new want after to told index (commits ∙ edits-keeper volume index plan.edits (call_edits v user k.world.latest asked) id plans.edits b.is.0) is same
      record { old = b.old; one = b.one; was = b.was; is = b.is.1; now = b.now }

  pub commit-memory : (new : KeptWorld) → BecomesKept k index (λ old one. Commits old plan (Err keeper.Memory) one) new → new ≡ k
  commit-memory new b = b.now ∙ ap (with_kept k index) b.is.1 ∙ kept-stays k index b.old b.was

-- a plan of the volume at an index may be committed to it
pub commits-at : (k : KeptWorld) (index : ℕ) (v : VolumeState) (answer : Result PlanValue PlanFault) → slice_get k.world.volumes index ≡ Some v → IfOk answer (MayCommit v) → IfOk answer (λ plan. MayCommitAt k index plan)
commits-at k index v (with_ok plan) there may = λ x at. subst (λ (y : VolumeState). MayCommit y plan) (same_Some v x (sym there ∙ at)) may
commits-at k index v (Err e) there may = tt

pub plans-commit : (k : KeptWorld) (index user : ℕ) (v : VolumeState) (now : ℕ) (asked : VolumeCall) (answer : Result PlanValue PlanFault) → slice_get k.world.volumes index ≡ Some v
    → IfOk answer (Plans v user now asked) → IfOk answer (λ plan. MayCommitAt k index plan)
plans-commit k index user v now asked (with_ok plan) there plans = commits-at k index v (with_ok plan) there record { may = plans.may; before = plans.before; typed = plans.typed }
plans-commit k index user v now asked (Err e) there plans = tt

-- the volume at an index, and a plan of it
pub index-within : (w : World) (kept : List KeptState) (index : ℕ) (k : KeptWorld) → kept_world (record w { volumes = volumes_of kept }) kept ≡ k → index < length k.world.volumes → index < length kept
index-within w kept index k is within = omega (arith, within, ap (λ (x : KeptWorld). length x.world.volumes) is, length-map kept (λ (x : KeptState). x.state))

pub may-commit : (w : World) (kept : List KeptState) (index : ℕ) (d : KeptState) (k : KeptWorld) (plan : PlanValue) → kept_world (record w { volumes = volumes_of kept }) kept ≡ k → index < length k.world.volumes → d ≡ get_or kept index d
    → MayCommitAt k index plan → MayCommit d.state plan
may-commit w kept index d k plan is within same may =
    may d.state (subst (λ (x : KeptWorld). slice_get x.world.volumes index ≡ Some d.state) is (volume-of kept index d (index-within w kept index k is within) ∙ ap (λ (x : KeptState). Some x.state) (sym same)))

pub commit-becomes : (w : World) (kept : List KeptState) (index : ℕ) (d one : KeptState) (k new : KeptWorld) (plan : PlanValue) (told answer : Result (Unit {0}) KeeperFault) → kept_world (record w { volumes = volumes_of kept }) kept ≡ k
    → index < length k.world.volumes → d ≡ get_or kept index d → told ≡ answer → Commits d plan told one → new ≡ kept_world (record w { volumes = volumes_of (set kept index one) }) (set kept index one)
    → BecomesKept k index (λ old one. Commits old plan answer one) new
commit-becomes w kept index d one k new plan told answer is within same told_is does becomes =
    becomes-kept w kept index d one (λ old one. Commits old plan answer one) k new is (index-within w kept index k is within)
    (subst (λ (x : KeptState). Commits x plan answer one) same (subst (λ (r : Result (Unit {0}) KeeperFault). Commits d plan r one) told_is does)) becomes

-- What the plan of a call comes to where it is committed, as the call's row has it: this effect; and a plan with edits is committed to the volume's
-- keeper.
pub record IsRowPlan (k : KeptWorld) (number : ℕ) (call : Call) (index : ℕ) (v : VolumeState) (plan : PlanValue) (block : List ℕ) : Type 0 where
  pub of : Effect
  pub does : (s : Session) → session_of k.world.sessions number ≡ Some s → effect k.world s call ≡ of
  pub commits : HasEdits plan → (s : Session) → session_of k.world.sessions number ≡ Some s → committed k.world s call ≡ Some index
  pub world : record k.world { volumes = slice_set k.world.volumes index (after_call v plan.moment (edits_of plan.edits)) } ≡ of.world
  pub bytes : block ≡ canonical_reply of.reply

-- a call that is planned of the volume at an index
module _ (k : KeptWorld) (number : ℕ) (call : Call) (goes : ends_session call ≡ false) (index : ℕ) (v : VolumeState) (there : slice_get k.world.volumes index ≡ Some v)
    (refuses : Option Code) (refuses_as : (s : Session) → session_of k.world.sessions number ≡ Some s → refusal k.world s call ≡ option_map plain refuses) where
  module _ (plan : PlanValue) (block : List ℕ) (new : KeptWorld) (passes : refuses ≡ None) (p : IsRowPlan k number call index v plan block) where
    row-done : BecomesKept k index (λ old one. Commits old plan (with_ok tt) one) new → RunsRow k number call (with_ok (done (Reply Ok block false))) new
    row-done b = λ s at.
        let was : b.old.state ≡ v = same_Some b.old.state v (sym b.was.state ∙ there) in
        let after : VolumeState → VolumeState = λ x. after_call x plan.moment (edits_of plan.edits) in
        has_effect k new s call (Reply Ok block false) p.of.world (refuses_as s at ∙ ap (option_map plain) passes)
        (told-effect call (effect k.world s call) p.of block (p.does s at) goes p.bytes)
        (b.now ∙ ap (with_kept k index) b.is ∙ state-changes k index b.old (after b.old.state) b.was
        ∙ ap (λ (x : VolumeState). record k { world = record k.world { volumes = slice_set k.world.volumes index (after x) } }) was
        ∙ ap (λ (w : World). record k { world = w }) p.world)
        (ap (λ (e : Effect). e.world) (sym (p.does s at)))

    row-fails : BecomesKept k index (λ old one. Commits old plan (Err keeper.Failed) one) new → RunsRow k number call (with_ok (refusal_reply MiscErr, outcome.Fault)) new
    row-fails b = λ s at.
        rw (refuses_as s at ∙ ap (option_map plain) passes)
        (keeper-fails k new _ _ _ (refusal_reply MiscErr) index (p.commits b.is.0 s at) refl refl record { old = b.old; one = b.one; was = b.was; is = b.is.1; now = b.now })

    row-ends : (answer : Result (Unit {0}) KeeperFault) (result : Result (Told × Outcome) OutOfMemory) → BecomesKept k index (λ old one. Commits old plan answer one) new → TellsCommitted answer block result
        → RunsRow k number call result new
    row-ends (with_ok committed) (with_ok r) b told = subst (λ (x : Told × Outcome). RunsRow k number call (with_ok x) new) (sym told) (row-done b)
    row-ends (with_ok committed) (Err e) b told = absurd told
    row-ends (Err keeper.Failed) (with_ok r) b told = subst (λ (x : Told × Outcome). RunsRow k number call (with_ok x) new) (sym told) (row-fails b)
    row-ends (Err keeper.Failed) (Err e) b told = absurd told
    row-ends (Err keeper.Memory) (with_ok r) b told = absurd told
    row-ends (Err keeper.Memory) (Err e) b told = b.now ∙ ap (with_kept k index) b.is.1 ∙ kept-stays k index b.old b.was

    pub committed-row : (result : Result (Told × Outcome) OutOfMemory) → RunsCommit k index plan block result new → RunsRow k number call result new
    committed-row result runs = row-ends runs.answer result runs.becomes runs.tells

  pub planned-row : (answer : Result PlanValue PlanFault) (block : List ℕ) (result : Result (Told × Outcome) OutOfMemory) (new : KeptWorld) → Refuses answer refuses
      → IfOk answer (λ plan. refuses ≡ None → IsRowPlan k number call index v plan block) → RunsPlan k index answer block result new → RunsRow k number call result new
  planned-row (with_ok plan) block result new passes plans runs = committed-row plan block new passes (plans passes) result runs
  planned-row (Err (fault.Code code)) block (with_ok r) new refused plans runs = λ s at.
      subst (λ (x : Told × Outcome). IsRowOf' s x) (sym runs.0) (is_refused k new s call code (refusal_reply code) (refuses_as s at ∙ ap (option_map plain) refused) refl runs.1)
    where
      IsRowOf' : Session → Told × Outcome → Type 0
      IsRowOf' s r = RunsVerdict k s (verdict_of_row call (refusal k.world s call)) r new
  planned-row (Err (fault.Code code)) block (Err e) new refused plans runs = absurd runs
  planned-row (Err fault.Memory) block (with_ok r) new refused plans runs = absurd runs
  planned-row (Err fault.Memory) block (Err e) new refused plans runs = runs

-- a call that changes a volume
module _ (k : KeptWorld) (number : ℕ) (call : Call) (volume : ℕ) (asked : VolumeCall) (reply : ℕ → VolumeState → AfpReply) (changes : ChangesVolume call volume asked reply) where
  pub volume-unopened : (told : Told) → IsOpen k number volume None → told ≡ refusal_reply ParamErr → RunsRow k number call (with_ok (done told)) k
  volume-unopened told stands is = λ s at.
      is_refused k k s call ParamErr told (ap (λ (r : CallRow). first_holding (r.refusals k.world s)) changes.row_is ∙ stands s at (λ v. volume_refusal v (user_of s) (opened_on k.world volume) asked)) is refl

  volume-refuses : (user index : ℕ) (v : VolumeState) → IsUser k number user → IsOpenAt k number volume index → slice_get k.world.volumes index ≡ Some v → (s : Session) → session_of k.world.sessions number ≡ Some s
      → refusal k.world s call ≡ option_map plain (volume_refusal v user (opened_on k.world volume) asked)
  volume-refuses user index v calls stands there s at =
      ap (λ (r : CallRow). first_holding (r.refusals k.world s)) changes.row_is
      ∙ refused-on k.world s volume v (λ x. volume_refusal x (user_of s) (opened_on k.world volume) asked) (stands.opened s at) (found-at k number volume index v stands there)
      ∙ ap (λ (u : ℕ). option_map plain (volume_refusal v u (opened_on k.world volume) asked)) (sym (calls s at))

  row-plan : (user index : ℕ) (v : VolumeState) (plan : PlanValue) (block : List ℕ) → IsUser k number user → IsOpenAt k number volume index → slice_get k.world.volumes index ≡ Some v
      → Plans v user k.world.latest asked plan → block ≡ canonical_reply (reply user v) → IsRowPlan k number call index v plan block
  row-plan user index v plan block calls stands there plans bytes =
      let edits : ℕ → VolumeState → List Edit = λ u x. call_edits x u k.world.latest asked in
      record {
        of = record { world = with_edits k.world volume v (edits user v); reply = reply user v };
        does = λ s at.
            ap (λ (r : CallRow). r.effect k.world s) changes.row_is
            ∙ ap (λ (o : Option VolumeState). done_on o k.world (λ x. record { world = with_edits k.world volume x (edits (user_of s) x); reply = reply (user_of s) x })) (found-at k number volume index v stands there)
            ∙ ap (λ (u : ℕ). record { world = with_edits k.world volume v (edits u v); reply = reply u v }) (sym (calls s at));
        commits = λ some s at.
            ap (λ (r : CallRow). r.committed k.world s) changes.row_is
            ∙ ap (λ (o : Option VolumeState). keeper_of_edits volume (edits_on o (edits (user_of s)))) (found-at k number volume index v stands there)
            ∙ ap (λ (u : ℕ). keeper_of_edits volume (edits u v)) (sym (calls s at))
            ∙ edits-keeper volume index plan.edits (edits user v) stands.id plans.edits some;
        world = (λ i. record k.world { volumes = slice_set k.world.volumes index (after_call v (plans.moment i) (plans.edits i)) }) ∙ edits-become k.world volume index v (edits user v) stands.id there;
        bytes = bytes;
      }

  pub plan-runs : (new : KeptWorld) (user index : ℕ) (v : VolumeState) (now : ℕ) (answer : Result PlanValue PlanFault) (block : List ℕ) (result : Result (Told × Outcome) OutOfMemory) → IsUser k number user → IsOpenAt k number volume index
      → slice_get k.world.volumes index ≡ Some v → now ≡ k.world.latest → Refuses answer (volume_refusal v user (opened_on k.world volume) asked) → IfOk answer (Plans v user now asked)
      → IsToldWhereDone (volume_refusal v user (opened_on k.world volume) asked) block (reply user v) → RunsPlan k index answer block result new → RunsRow k number call result new
  plan-runs new user index v now answer block result calls stands there at_now passes plans bytes runs =
      planned-row k number call changes.goes_on index v there (volume_refusal v user (opened_on k.world volume) asked) (volume-refuses user index v calls stands there) answer block result new passes (by answer plans) runs
    where
      by : (answer : Result PlanValue PlanFault) → IfOk answer (Plans v user now asked)
          → IfOk answer (λ plan. volume_refusal v user (opened_on k.world volume) asked ≡ None → IsRowPlan k number call index v plan block)
      by (with_ok plan) plans = λ passes. row-plan user index v plan block calls stands there (subst (λ (n : ℕ). Plans v user n asked plan) at_now plans) (bytes passes)
      by (Err e) plans = tt
