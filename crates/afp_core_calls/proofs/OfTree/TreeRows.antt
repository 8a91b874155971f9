-- Rows of calls that change a volume's tree.
use Rattle.std.proofs.Common.{◌≡◌, ◌∙◌, ap, sym, refl, subst, ℕ, List, Option, Some, None}
use Rattle.std.specs.Prelude.{IfOk, IfSome, IsSome, Result, Ok as with_ok, Err, option_map, slice_get, slice_set}
use Rattle.afp_base.specs.Choice.{first_holding}
use Rattle.afp_base.specs.declared.bytes.OutOfMemory.{OutOfMemory}
use Rattle.afp_base.specs.declared.code.Code.{Code}
use Rattle.afp_base.specs.declared.code.Code.TheVariants.{ParamErr}
use Rattle.afp_replies.specs.Replies.{canonical_reply}
use Rattle.afp_replies.specs.declared.reply.Reply.{Reply as AfpReply}
use Rattle.afp_calls_grammar.specs.declared.grammar.call.Call.{Call}
use Rattle.afp_serial.specs.Answer.{refusal_reply}
use Rattle.afp_serial.specs.World.{CallRow, plain, user_of, World, Session}
use Rattle.afp_serial.specs.OnVolume.{done_on, opened_on, with_volume_state}
use Rattle.afp_serial.specs.Rows.{refusal}
use Rattle.afp_serial.specs.declared.ask.Outcome.{Outcome}
use Rattle.afp_serial.specs.declared.ask.Told.{Told}
use Rattle.volume_spec.specs.Edit.{after_call}
use Rattle.volume_spec.specs.EditLaws.{volume_call}
use Rattle.volume_spec.specs.Shared.{Opened, refused_else}
use Rattle.volume_spec.specs.TreeSteps.{TreeCall, tree_effect, tree_refusal}
use Rattle.volume_spec.specs.VolumeState.{VolumeState}
use Rattle.volume_edits.specs.edits.Planned.{PlanValue, edits_of}
use Rattle.volume_edits.specs.plans.Plans.{Plans}
use Rattle.volume_edits.specs.plans.Requests.{tree_call}
use Rattle.volume_tree.specs.Answered.{Refuses}
use Rattle.volume_tree.specs.declared.resolve.PlanFault.{PlanFault}
use Rattle.volume_tree.specs.declared.resolve.PlanFault.TheVariants as fault
use Rattle.afp_core_calls.specs.lemma.TreeChanges.{AreToldOf, ChangesTree, planned_unless}
use Rattle.afp_core_state.specs.OnVolumes.{IsOpen, IsOpenAt, IsUser}
use Rattle.afp_core_state.specs.KeptWorld.{KeptWorld}
use Rattle.afp_core_state.specs.Planned.{MayCommitAt, RunsPlan}
use Rattle.session_table.specs.Sessions.{session_of}
use Rattle.afp_core_state.specs.Running.{done, RunsRow}
use Rattle.afp_core_state.proofs.RowLemmas.{is_refused}
use Rattle.afp_core_state.proofs.OnVolumeLemmas.{found-at, keeper-at, refused-on, some-holds, state-at}
use Rattle.afp_core_state.proofs.PlannedRows.{IsRowPlan, planned-row, plans-commit}

-- what is not refused at all, the volume does not refuse
passes-first : (behind first : Option Code) → refused_else behind first ≡ None → first ≡ None
passes-first None first h = h
passes-first (Some code) None h = refl
passes-first (Some code) (Some other) h = absurd (cc h)

-- what was planned, where there may be a refusal behind those of the volume
unless-refuses : (behind : Option Code) (planned : Result PlanValue PlanFault) (first : Option Code) → Refuses planned first → Refuses (planned_unless behind planned) (refused_else behind first)
unless-refuses None planned first h = h
unless-refuses (Some code) (with_ok plan) first h = ap (refused_else (Some code)) h
unless-refuses (Some code) (Err (fault.Code other)) first h = ap (refused_else (Some code)) h
unless-refuses (Some code) (Err fault.Memory) first h = tt

unless-plans : (behind : Option Code) (planned : Result PlanValue PlanFault) (P : PlanValue → Type 0) → IfOk planned P → IfOk (planned_unless behind planned) P
unless-plans None planned P h = h
unless-plans (Some code) (with_ok plan) P h = tt
unless-plans (Some code) (Err e) P h = tt

-- it may be committed
pub changes-commit : (k : KeptWorld) (index user : ℕ) (v : VolumeState) (now : ℕ) (behind : Option Code) (call : Option TreeCall) (planned : Result PlanValue PlanFault) → slice_get k.world.volumes index ≡ Some v → IsSome call
    → IfOk planned (λ plan. IfSome call (λ c. Plans v user now (volume_call c) plan)) → IfOk (planned_unless behind planned) (λ plan. MayCommitAt k index plan)
changes-commit k index user v now behind (Some c) planned there some plans = unless-plans behind planned (λ plan. MayCommitAt k index plan) (plans-commit k index user v now (volume_call c) planned there plans)
changes-commit k index user v now behind None planned there some plans = absurd (cc some)

-- a call that changes a volume's tree
module _ (k : KeptWorld) (number : ℕ) (call : Call) (behind : World → Option Code) (volume : ℕ) (asked : TreeCall) (reply : VolumeState → AfpReply) (changes : ChangesTree call behind volume asked reply) where
  pub changes-unopened : (told : Told) → IsOpen k number volume None → told ≡ refusal_reply ParamErr → RunsRow k number call (with_ok (done told)) k
  changes-unopened told stands is = λ s at.
      is_refused k k s call ParamErr told (ap (λ (r : CallRow). first_holding (r.refusals k.world s)) changes.row_is ∙ stands s at (λ v. refused_else (behind k.world) (tree_refusal v (user_of s) (opened_on k.world volume) asked))) is refl

  changes-refuses : (user index : ℕ) (v : VolumeState) → IsUser k number user → IsOpenAt k number volume index → slice_get k.world.volumes index ≡ Some v → (s : Session) → session_of k.world.sessions number ≡ Some s
      → refusal k.world s call ≡ option_map plain (refused_else (behind k.world) (tree_refusal v user (opened_on k.world volume) asked))
  changes-refuses user index v calls stands there s at =
      ap (λ (r : CallRow). first_holding (r.refusals k.world s)) changes.row_is
      ∙ refused-on k.world s volume v (λ x. refused_else (behind k.world) (tree_refusal x (user_of s) (opened_on k.world volume) asked)) (stands.opened s at) (found-at k number volume index v stands there)
      ∙ ap (λ (u : ℕ). option_map plain (refused_else (behind k.world) (tree_refusal v u (opened_on k.world volume) asked))) (sym (calls s at))

  changes-plan : (user index : ℕ) (v : VolumeState) (plan : PlanValue) (block : List ℕ) → IsUser k number user → IsOpenAt k number volume index → slice_get k.world.volumes index ≡ Some v → plan.moment ≡ k.world.latest
      → after_call v k.world.latest (edits_of plan.edits) ≡ tree_effect v user k.world.latest asked → block ≡ canonical_reply (reply v) → IsRowPlan k number call index v plan block
  changes-plan user index v plan block calls stands there at_now does bytes = record {
    of = record { world = with_volume_state k.world volume (tree_effect v user k.world.latest asked); reply = reply v };
    does = λ s at.
        ap (λ (r : CallRow). r.effect k.world s) changes.row_is
        ∙ ap (λ (o : Option VolumeState). done_on o k.world (λ x. record { world = with_volume_state k.world volume (tree_effect x (user_of s) k.world.latest asked); reply = reply x })) (found-at k number volume index v stands there)
        ∙ ap (λ (u : ℕ). record { world = with_volume_state k.world volume (tree_effect v u k.world.latest asked); reply = reply v }) (sym (calls s at));
    commits = λ some s at. ap (λ (r : CallRow). r.committed k.world s) changes.row_is ∙ keeper-at volume index stands.id;
    world =
        ap (λ (x : VolumeState). record k.world { volumes = slice_set k.world.volumes index x }) (ap (λ (n : ℕ). after_call v n (edits_of plan.edits)) at_now ∙ does)
        ∙ ap (λ (l : List VolumeState). record k.world { volumes = l }) (sym (state-at k.world.volumes volume index (tree_effect v user k.world.latest asked) stands.id));
    bytes = bytes;
  }

  pub changes-runs : (new : KeptWorld) (user index : ℕ) (v : VolumeState) (now : ℕ) (opens : List Opened) (after : Option Code) (planned : Result PlanValue PlanFault) (block : List ℕ) (result : Result (Told × Outcome) OutOfMemory)
      → IsUser k number user → IsOpenAt k number volume index → slice_get k.world.volumes index ≡ Some v → now ≡ k.world.latest → opens ≡ opened_on k.world volume → behind k.world ≡ after → AreToldOf k volume asked reply block
      → IfSome (tree_call call) (λ c. Refuses planned (tree_refusal v user opens c)) → IfOk planned (λ plan. IfSome (tree_call call) (λ c. Plans v user now (volume_call c) plan))
      → IfOk planned (λ plan. IfSome (tree_call call) (λ c. after_call v now (edits_of plan.edits) ≡ tree_effect v user now c)) → RunsPlan k index (planned_unless after planned) block result new → RunsRow k number call result new
  changes-runs new user index v now opens after planned block result calls stands there at_now opened after_is told refused plans does runs =
      planned-row k number call changes.goes_on index v there (refused_else (behind k.world) (tree_refusal v user (opened_on k.world volume) asked)) (changes-refuses user index v calls stands there)
      (planned_unless (behind k.world) planned) block result new (unless-refuses (behind k.world) planned (tree_refusal v user (opened_on k.world volume) asked) refused_as)
      (unless-plans (behind k.world) planned _ (by planned plans does))
      (subst (λ (o : Option Code). RunsPlan k index (planned_unless o planned) block result new) (sym after_is) runs)
    where
      refused_as : Refuses planned (tree_refusal v user (opened_on k.world volume) asked)
      refused_as = subst (λ (l : List Opened). Refuses planned (tree_refusal v user l asked)) opened (some-holds (λ (c : TreeCall). Refuses planned (tree_refusal v user opens c)) (tree_call call) asked changes.tree refused)

      by : (planned : Result PlanValue PlanFault) → IfOk planned (λ plan. IfSome (tree_call call) (λ c. Plans v user now (volume_call c) plan))
          → IfOk planned (λ plan. IfSome (tree_call call) (λ c. after_call v now (edits_of plan.edits) ≡ tree_effect v user now c))
          → IfOk planned (λ plan. refused_else (behind k.world) (tree_refusal v user (opened_on k.world volume) asked) ≡ None → IsRowPlan k number call index v plan block)
      by (with_ok plan) plans does = λ passes.
          let made : Plans v user now (volume_call asked) plan = some-holds (λ (c : TreeCall). Plans v user now (volume_call c) plan) (tree_call call) asked changes.tree plans in
          let after : after_call v now (edits_of plan.edits) ≡ tree_effect v user now asked = some-holds (λ (c : TreeCall). after_call v now (edits_of plan.edits) ≡ tree_effect v user now c) (tree_call call) asked changes.tree does in
          changes-plan user index v plan block calls stands there (made.moment ∙ at_now)
          (subst (λ (n : ℕ). after_call v n (edits_of plan.edits) ≡ tree_effect v user n asked) at_now after)
          (told v user (found-at k number volume index v stands there) (passes-first (behind k.world) (tree_refusal v user (opened_on k.world volume) asked) passes))
      by (Err e) plans does = tt
