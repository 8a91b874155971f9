-- The row of FPCopyFile.
use Rattle.std.proofs.Common.{◌≡◌, ◌∙◌, ap, sym, refl, subst, ℕ, Bool, true, false, not, List, [], ◌∷◌, Option, Some, None}
use Rattle.std.specs.Prelude.{Result, Ok as with_ok, Err, option_map, slice_get, slice_set}
use Rattle.afp_base.specs.Choice.{first_holding}
use Rattle.afp_base.proofs.Facts.{some-none}
use Rattle.afp_base.specs.declared.bytes.OutOfMemory.{OutOfMemory}
use Rattle.afp_base.specs.declared.code.Code.{Code}
use Rattle.afp_base.specs.declared.code.Code.TheVariants.{ParamErr}
use Rattle.afp_calls_grammar.specs.declared.grammar.call.Call.{Call}
use Rattle.afp_serial.specs.Answer.{refusal_reply}
use Rattle.afp_serial.specs.CopyFile.{CopyAsked, copies, copy_call, copy_edits, copy_refused, source_of, source_on}
use Rattle.afp_serial.specs.World.{CallRow, has_opened, plain, refused_before, user_of, volume_at, with_empty_reply, World, Session}
use Rattle.afp_serial.specs.OnVolume.{done_on, on_volume, refused_on}
use Rattle.afp_serial.specs.VolumeRows.{edits_on, keeper_of_edits, with_edits}
use Rattle.afp_serial.specs.Rows.{effect, ends_session, refusal, row}
use Rattle.afp_serial.specs.declared.ask.Outcome.{Outcome}
use Rattle.afp_serial.specs.declared.ask.Told.{Told}
use Rattle.volume_edits.specs.edits.Planned.{PlanValue}
use Rattle.volume_spec.specs.CopyFile.{Source, copied_refusal, copy_file_refusal}
use Rattle.volume_spec.specs.Edit.{after_call}
use Rattle.volume_spec.specs.OpenFork.{open_fork_file}
use Rattle.volume_spec.specs.VolumeCalls.{call_edits}
use Rattle.volume_spec.specs.VolumeState.{Row as File, VolumeState}
use Rattle.volume_tree.specs.declared.resolve.PlanFault.{PlanFault}
use Rattle.volume_tree.specs.declared.resolve.PlanFault.TheVariants as fault
use Rattle.session_table.specs.Sessions.{session_of}
use Rattle.afp_core_state.specs.KeptWorld.{KeptWorld}
use Rattle.afp_core_state.specs.OnVolumes.{IsOpen, IsOpenAt, IsUser}
use Rattle.afp_core_state.specs.Planned.{RunsCommit}
use Rattle.afp_core_state.specs.Replies.{Tells}
use Rattle.afp_core_state.specs.Running.{done, RunsRow}
use Rattle.afp_core_state.proofs.KeeperLemmas.{volume_at-index}
use Rattle.afp_core_state.proofs.RowLemmas.{is_refused}
use Rattle.afp_core_state.proofs.OnVolumeLemmas.{found-at}
use Rattle.afp_core_state.proofs.PlannedRows.{IsRowPlan, committed-row, edits-become, edits-keeper}
use Rattle.afp_core_calls.specs.file.lemma.Copying.{IsCopyPlanned, PlansCopy, RefusesCopy, copies_refused, source_is}

-- the refusals, where a volume is not open
module _ (w : World) (s : Session) (asked : CopyAsked) where
  source-unopened : ((refuses : VolumeState → Option Code) → first_holding (on_volume w s asked.volume refuses) ≡ Some (plain ParamErr)) → first_holding ((copies asked).refusals w s) ≡ Some (plain ParamErr)
  source-unopened stands = by (has_opened s asked.volume) (volume_at w.volumes asked.volume) (has_opened s asked.target) (stands (λ v. None))
    where
      by : (b : Bool) (o : Option VolumeState) (c : Bool) → first_holding ((not b, plain ParamErr) ∷ refused_before (refused_on o (λ v. None)) []) ≡ Some (plain ParamErr)
          → first_holding ((not b, plain ParamErr) ∷ (not c, plain ParamErr) ∷ refused_before (refused_on o (λ v. copied_refusal v (user_of s) asked.dir asked.path))
          (refused_before (copy_refused (user_of s) asked (volume_at w.volumes asked.target) (source_on w (user_of s) asked.volume o asked.dir asked.path)) [])) ≡ Some (plain ParamErr)
      by false o c h = refl
      by true o false h = refl
      by true None true h = refl
      by true (Some v) true h = absurd (some-none (plain ParamErr) (sym h))

  target-unopened : has_opened s asked.volume ≡ true → has_opened s asked.target ≡ false → first_holding ((copies asked).refusals w s) ≡ Some (plain ParamErr)
  target-unopened opened other = rw (opened, other) refl

  both-opened : (from : VolumeState) → has_opened s asked.volume ≡ true → has_opened s asked.target ≡ true → volume_at w.volumes asked.volume ≡ Some from → first_holding ((copies asked).refusals w s) ≡ copies_refused w (user_of s) asked (Some from)
  both-opened from opened other there = rw (opened, other, there) refl

-- what is refused of a file that is found
module _ (w : World) (user : ℕ) (asked : CopyAsked) (from : VolumeState) where
  pub file-refused : (code : Code) → copied_refusal from user asked.dir asked.path ≡ Some code → copies_refused w user asked (Some from) ≡ Some (plain code)
  file-refused code h = rw h refl

  pub copy-refused-by : (file : File) (to : Option VolumeState) (code : Code) → copied_refusal from user asked.dir asked.path ≡ None → open_fork_file from user asked.dir asked.path ≡ Some file → volume_at w.volumes asked.target ≡ to
      → refused_on to (λ t. copy_file_refusal t user (source_is w user asked from file) asked.target_dir asked.target_path asked.new_path) ≡ Some code → copies_refused w user asked (Some from) ≡ Some (plain code)
  copy-refused-by file to code passes found there refused = rw (passes, found, there) (by (refused_on to (λ t. copy_file_refusal t user (source_is w user asked from file) asked.target_dir asked.target_path asked.new_path)) refused)
    where
      by : (o : Option Code) → o ≡ Some code → first_holding (refused_before o []) ≡ Some (plain code)
      by None h = absurd (some-none code (sym h))
      by (Some c) h = ap (λ (x : Option Code). first_holding (refused_before x [])) h

  copy-passes : (file : File) (to : VolumeState) → copied_refusal from user asked.dir asked.path ≡ None → open_fork_file from user asked.dir asked.path ≡ Some file → volume_at w.volumes asked.target ≡ Some to
      → copy_file_refusal to user (source_is w user asked from file) asked.target_dir asked.target_path asked.new_path ≡ None → copies_refused w user asked (Some from) ≡ None
  copy-passes file to passes found there refused = rw (passes, found, there, refused) refl

module _ (k : KeptWorld) (number : ℕ) (call : Call) (asked : CopyAsked) (row_is : row call ≡ copies asked) (goes : ends_session call ≡ false) where
  pub copy-unopened : (told : Told) → IsOpen k number asked.volume None → told ≡ refusal_reply ParamErr → RunsRow k number call (with_ok (done told)) k
  copy-unopened told stands is = λ s at.
      is_refused k k s call ParamErr told (ap (λ (r : CallRow). first_holding (r.refusals k.world s)) row_is ∙ source-unopened k.world s asked (stands s at)) is refl

  pub copy-target-unopened : (index : ℕ) (s : Session) → IsOpenAt k number asked.volume index → session_of k.world.sessions number ≡ Some s → has_opened s asked.target ≡ false → refusal k.world s call ≡ Some (plain ParamErr)
  copy-target-unopened index s stands at other = ap (λ (r : CallRow). first_holding (r.refusals k.world s)) row_is ∙ target-unopened k.world s asked (stands.opened s at) other

  module _ (user index : ℕ) (calls : IsUser k number user) (stands : IsOpenAt k number asked.volume index) (opened : (s : Session) → session_of k.world.sessions number ≡ Some s → has_opened s asked.target ≡ true) where
    refuses : (from : VolumeState) → slice_get k.world.volumes index ≡ Some from → (s : Session) → session_of k.world.sessions number ≡ Some s → refusal k.world s call ≡ copies_refused k.world user asked (Some from)
    refuses from there s at =
        ap (λ (r : CallRow). first_holding (r.refusals k.world s)) row_is
        ∙ both-opened k.world s asked from (stands.opened s at) (opened s at) (found-at k number asked.volume index from stands there)
        ∙ ap (λ (u : ℕ). copies_refused k.world u asked (Some from)) (sym (calls s at))

    copy-refused : (code : Code) (told : Told) → RefusesCopy k user index asked code → told ≡ refusal_reply code → RunsRow k number call (with_ok (done told)) k
    copy-refused code told r is = λ s at. is_refused k k s call code told (refuses r.from r.from_there s at ∙ r.refused) is refl

    pub copy-told : (f : PlanFault) (block : List ℕ) (result : Result (Told × Outcome) OutOfMemory) → PlansCopy k user index asked (Err f) → Tells (Err f) block result → RunsRow k number call result k
    copy-told (fault.Code code) block (with_ok r) why told = subst (λ (x : Told × Outcome). RunsRow k number call (with_ok x) k) (sym told) (copy-refused code (refusal_reply code) why refl)
    copy-told (fault.Code code) block (Err e) why told = absurd told
    copy-told fault.Memory block (with_ok r) why told = absurd told
    copy-told fault.Memory block (Err e) why told = refl

    module _ (target : ℕ) (plan : PlanValue) (p : IsCopyPlanned k user index asked target plan) where
      to-at : volume_at k.world.volumes asked.target ≡ Some p.to
      to-at = volume_at-index k.world.volumes asked.target target p.id ∙ p.to_there

      source-at : source_of k.world user asked ≡ Some (source_is k.world user asked p.from p.file)
      source-at =
          ap (λ (o : Option VolumeState). source_on k.world user asked.volume o asked.dir asked.path) (found-at k number asked.volume index p.from stands p.from_there)
          ∙ ap (option_map (λ (file : File). source_is k.world user asked p.from file)) p.found

      passes-none : (s : Session) → session_of k.world.sessions number ≡ Some s → refusal k.world s call ≡ None
      passes-none s at = refuses p.from p.from_there s at ∙ copy-passes k.world user asked p.from p.file p.to p.may p.found to-at p.passes

      copy-plan : IsRowPlan k number call target p.to plan []
      copy-plan =
          let source = source_is k.world user asked p.from p.file in
          let edits = call_edits p.to user k.world.latest (copy_call asked source) in
          record {
            of = with_empty_reply (with_edits k.world asked.target p.to edits);
            does = λ s at.
                ap (λ (r : CallRow). r.effect k.world s) row_is
                ∙ ap (λ (o : Option VolumeState). done_on o k.world (λ v. with_empty_reply (with_edits k.world asked.target v (copy_edits k.world (user_of s) asked (source_of k.world (user_of s) asked) v)))) to-at
                ∙ ap (λ (u : ℕ). with_empty_reply (with_edits k.world asked.target p.to (copy_edits k.world u asked (source_of k.world u asked) p.to))) (sym (calls s at))
                ∙ ap (λ (o : Option Source). with_empty_reply (with_edits k.world asked.target p.to (copy_edits k.world user asked o p.to))) source-at;
            commits = λ some s at.
                ap (λ (r : CallRow). r.committed k.world s) row_is
                ∙ ap (λ (o : Option VolumeState). keeper_of_edits asked.target (edits_on o (copy_edits k.world (user_of s) asked (source_of k.world (user_of s) asked)))) to-at
                ∙ ap (λ (u : ℕ). keeper_of_edits asked.target (copy_edits k.world u asked (source_of k.world u asked) p.to)) (sym (calls s at))
                ∙ ap (λ (o : Option Source). keeper_of_edits asked.target (copy_edits k.world user asked o p.to)) source-at
                ∙ edits-keeper asked.target target plan.edits edits p.id p.plans.edits some;
            world = (λ i. record k.world { volumes = slice_set k.world.volumes target (after_call p.to (p.plans.moment i) (p.plans.edits i)) }) ∙ edits-become k.world asked.target target p.to edits p.id p.to_there;
            bytes = refl;
          }

      pub copy-runs : (new : KeptWorld) (block : List ℕ) (result : Result (Told × Outcome) OutOfMemory) → block ≡ [] → RunsCommit k target plan block result new → RunsRow k number call result new
      copy-runs new block result none runs =
          committed-row k number call goes target p.to p.to_there None passes-none plan [] new refl copy-plan result (subst (λ (l : List ℕ). RunsCommit k target plan l result new) none runs)
