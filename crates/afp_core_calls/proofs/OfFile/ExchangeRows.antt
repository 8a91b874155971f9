-- The row of FPExchangeFiles.
use Rattle.std.proofs.Common.{◌≡◌, ◌∙◌, ap, sym, refl, subst, ℕ, false, List, [], Option, Some, None}
use Rattle.std.specs.Prelude.{Result, Ok as with_ok, Err, option_map, slice_get}
use Rattle.afp_base.specs.Choice.{first_holding}
use Rattle.afp_base.specs.declared.bytes.OutOfMemory.{OutOfMemory}
use Rattle.afp_base.specs.declared.code.Code.{Code}
use Rattle.afp_base.specs.declared.code.Code.TheVariants.{Ok, MiscErr, ParamErr}
use Rattle.afp_names.specs.Path.{PathValue}
use Rattle.afp_replies.specs.declared.reply.Reply.TheVariants.{Empty}
use Rattle.afp_calls_grammar.specs.declared.grammar.call.Call.{Call}
use Rattle.afp_serial.specs.Answer.{refusal_reply}
use Rattle.afp_serial.specs.ExchangeFiles.{exchange_files_row, exchanging, opens_exchanged, pair_on}
use Rattle.afp_serial.specs.World.{Effect, CallRow, plain, user_of, World, Session}
use Rattle.afp_serial.specs.OnVolume.{done_on}
use Rattle.afp_serial.specs.VolumeRows.{edits_on, keeper_of_edits, with_edits}
use Rattle.afp_serial.specs.Rows.{effect, ends_session, refusal, row}
use Rattle.afp_serial.specs.declared.ask.Outcome.{Outcome}
use Rattle.afp_serial.specs.declared.ask.Outcome.TheVariants as outcome
use Rattle.afp_serial.specs.declared.ask.Told.{Told}
use Rattle.afp_serial.specs.declared.ask.Told.TheVariants.{Reply}
use Rattle.volume_edits.specs.edits.Planned.{PlanValue}
use Rattle.volume_edits.specs.plans.Plans.{Plans}
use Rattle.volume_spec.specs.ExchangeFiles.{Pair, exchange_files_refusal, exchanged_files}
use Rattle.volume_spec.specs.VolumeCalls.{ExchangeFiles, call_edits}
use Rattle.volume_spec.specs.VolumeState.{VolumeState}
use Rattle.volume_tree.specs.Answered.{Refuses}
use Rattle.volume_tree.specs.declared.resolve.PlanFault.{PlanFault}
use Rattle.volume_tree.specs.declared.resolve.PlanFault.TheVariants as fault
use Rattle.record_keeper.specs.declared.keeper.KeeperFault.{KeeperFault}
use Rattle.record_keeper.specs.declared.keeper.KeeperFault.TheVariants as keeper
use Rattle.session_table.specs.Sessions.{session_of}
use Rattle.afp_core_state.specs.KeptWorld.{KeptWorld}
use Rattle.afp_core_state.specs.OnVolumes.{BecomesKept, IsOpen, IsOpenAt, IsUser}
use Rattle.volume_keeper.specs.kept.Commits.{Commits}
use Rattle.afp_core_state.specs.Planned.{TellsCommitted}
use Rattle.afp_core_state.specs.Replies.{Tells}
use Rattle.afp_core_state.specs.Running.{done, RunsRow}
use Rattle.afp_core_state.proofs.RowLemmas.{has_effect, is_refused}
use Rattle.afp_core_state.proofs.OnVolumeLemmas.{found-at, refused-on, told-effect}
use Rattle.afp_core_state.proofs.PlannedRows.{commit-fails, commit-memory, committed-world}
use Rattle.afp_core_calls.specs.file.lemma.Exchanging.{RunsExchange, exchanged_behind, exchanged_where, with_exchanged}

module _ (k : KeptWorld) (number : ℕ) (call : Call) (volume dir second_dir : ℕ) (path second_path : PathValue) (row_is : row call ≡ exchange_files_row volume dir second_dir path second_path) (goes : ends_session call ≡ false) where
  pub exchange-unopened : (told : Told) → IsOpen k number volume None → told ≡ refusal_reply ParamErr → RunsRow k number call (with_ok (done told)) k
  exchange-unopened told stands is = λ s at.
      is_refused k k s call ParamErr told (ap (λ (r : CallRow). first_holding (r.refusals k.world s)) row_is ∙ stands s at (λ v. exchange_files_refusal v (user_of s) dir path second_dir second_path)) is refl

  exchange-refuses : (user index : ℕ) (v : VolumeState) → IsUser k number user → IsOpenAt k number volume index → slice_get k.world.volumes index ≡ Some v → (s : Session) → session_of k.world.sessions number ≡ Some s
      → refusal k.world s call ≡ option_map plain (exchange_files_refusal v user dir path second_dir second_path)
  exchange-refuses user index v calls stands there s at =
      ap (λ (r : CallRow). first_holding (r.refusals k.world s)) row_is
      ∙ refused-on k.world s volume v (λ x. exchange_files_refusal x (user_of s) dir path second_dir second_path) (stands.opened s at) (found-at k number volume index v stands there)
      ∙ ap (λ (u : ℕ). option_map plain (exchange_files_refusal v u dir path second_dir second_path)) (sym (calls s at))

  exchange-refused : (user index : ℕ) (v : VolumeState) (code : Code) (told : Told) → IsUser k number user → IsOpenAt k number volume index → slice_get k.world.volumes index ≡ Some v
      → exchange_files_refusal v user dir path second_dir second_path ≡ Some code → told ≡ refusal_reply code → RunsRow k number call (with_ok (done told)) k
  exchange-refused user index v code told calls stands there refused is = λ s at.
      is_refused k k s call code told (exchange-refuses user index v calls stands there s at ∙ ap (option_map plain) refused) is refl

  pub exchange-told : (user index : ℕ) (v : VolumeState) (f : PlanFault) (block : List ℕ) (result : Result (Told × Outcome) OutOfMemory) → IsUser k number user → IsOpenAt k number volume index → slice_get k.world.volumes index ≡ Some v
      → Refuses {A = PlanValue} (Err f) (exchange_files_refusal v user dir path second_dir second_path) → Tells (Err f) block result → RunsRow k number call result k
  exchange-told user index v (fault.Code code) block (with_ok r) calls stands there refused told =
      subst (λ (x : Told × Outcome). RunsRow k number call (with_ok x) k) (sym told) (exchange-refused user index v code (refusal_reply code) calls stands there refused refl)
  exchange-told user index v (fault.Code code) block (Err e) calls stands there refused told = absurd told
  exchange-told user index v fault.Memory block (with_ok r) calls stands there refused told = absurd told
  exchange-told user index v fault.Memory block (Err e) calls stands there refused told = refl

  module _ (user index : ℕ) (v : VolumeState) (plan : PlanValue) (pair : Pair) (calls : IsUser k number user) (stands : IsOpenAt k number volume index) (there : slice_get k.world.volumes index ≡ Some v)
      (passes : exchange_files_refusal v user dir path second_dir second_path ≡ None) (plans : Plans v user k.world.latest (ExchangeFiles dir path second_dir second_path) plan) (found : exchanged_files v user dir path second_dir second_path ≡ Some pair) where
    exchange-done : (between new : KeptWorld) (told : Told) → BecomesKept k index (λ old one. Commits old plan (with_ok tt) one) between → new ≡ with_exchanged volume pair between → told ≡ Reply Ok [] false
        → RunsRow k number call (with_ok (done told)) new
    exchange-done between new told b behind is = λ s at.
        let edits = call_edits v user k.world.latest (ExchangeFiles dir path second_dir second_path) in
        let with = with_edits k.world volume v edits in
        let next : World = record with { opens = opens_exchanged volume (Some pair) with.opens } in
        let of : Effect = record { world = next; reply = Empty } in
        let at_volume = found-at k number volume index v stands there in
        let does : effect k.world s call ≡ of =
        ap (λ (r : CallRow). r.effect k.world s) row_is
        ∙ ap (λ (o : Option VolumeState). exchanging volume (pair_on o (user_of s) dir path second_dir second_path) (done_on o k.world (λ x. record { world = with_edits k.world volume x (call_edits x (user_of s) k.world.latest (ExchangeFiles dir path second_dir second_path)); reply = Empty }))) at_volume
        ∙ ap (λ (u : ℕ). exchanging volume (exchanged_files v u dir path second_dir second_path) (record { world = with_edits k.world volume v (call_edits v u k.world.latest (ExchangeFiles dir path second_dir second_path)); reply = Empty })) (sym (calls s at))
        ∙ ap (λ (p : Option Pair). exchanging volume p (record { world = with; reply = Empty })) found in
        has_effect k new s call told next (exchange-refuses user index v calls stands there s at ∙ ap (option_map plain) passes)
        (is ∙ told-effect call (effect k.world s call) of [] does goes refl)
        (behind ∙ ap (with_exchanged volume pair) (committed-world k index user v (ExchangeFiles dir path second_dir second_path) plan there plans between volume stands.id b))
        (ap (λ (e : Effect). e.world) (sym does))

    exchange-fails : (new : KeptWorld) (told : Told) → BecomesKept k index (λ old one. Commits old plan (Err keeper.Failed) one) new → told ≡ refusal_reply MiscErr → RunsRow k number call (with_ok (told, outcome.Fault)) new
    exchange-fails new told b is = λ s at.
        rw (exchange-refuses user index v calls stands there s at ∙ ap (option_map plain) passes)
        (commit-fails k index user v (ExchangeFiles dir path second_dir second_path) plan there plans new _ told _ volume _ stands.id
        (ap (λ (r : CallRow). r.committed k.world s) row_is
        ∙ ap (λ (o : Option VolumeState). keeper_of_edits volume (edits_on o (λ x. call_edits x (user_of s) k.world.latest (ExchangeFiles dir path second_dir second_path)))) (found-at k number volume index v stands there)
        ∙ ap (λ (u : ℕ). keeper_of_edits volume (call_edits v u k.world.latest (ExchangeFiles dir path second_dir second_path))) (sym (calls s at))) is refl b)

    exchange-ends : (between new : KeptWorld) (answer : Result (Unit {0}) KeeperFault) (result : Result (Told × Outcome) OutOfMemory) → BecomesKept k index (λ old one. Commits old plan answer one) between
        → TellsCommitted answer [] result → new ≡ exchanged_behind result volume pair between → RunsRow k number call result new
    exchange-ends between new (with_ok committed) (with_ok r) b told behind =
        subst (λ (x : Told × Outcome). RunsRow k number call (with_ok x) new) (sym told)
        (exchange-done between new (Reply Ok [] false) b (behind ∙ ap (λ (x : Told × Outcome). exchanged_where x.1 volume pair between) told) refl)
    exchange-ends between new (with_ok committed) (Err e) b told behind = absurd told
    exchange-ends between new (Err keeper.Failed) (with_ok r) b told behind =
        subst (λ (x : KeptWorld). RunsRow k number call (with_ok r) x) (sym (behind ∙ ap (λ (x : Told × Outcome). exchanged_where x.1 volume pair between) told))
        (subst (λ (x : Told × Outcome). RunsRow k number call (with_ok x) between) (sym told) (exchange-fails between (refusal_reply MiscErr) b refl))
    exchange-ends between new (Err keeper.Failed) (Err e) b told behind = absurd told
    exchange-ends between new (Err keeper.Memory) (with_ok r) b told behind = absurd told
    exchange-ends between new (Err keeper.Memory) (Err e) b told behind = behind ∙ commit-memory k index user v (ExchangeFiles dir path second_dir second_path) plan there plans between b

    pub exchange-runs : (new : KeptWorld) (result : Result (Told × Outcome) OutOfMemory) → RunsExchange k index volume pair plan result new → RunsRow k number call result new
    exchange-runs new result runs = exchange-ends runs.between new runs.runs.answer result runs.runs.becomes runs.runs.tells runs.behind
