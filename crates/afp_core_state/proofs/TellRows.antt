-- Rows of calls that tell something of a volume that the session has open.
use Rattle.std.proofs.Common.{◌≡◌, ◌∙◌, ap, sym, refl, subst, ℕ, false, List, [], ◌++◌, Option, Some, None}
use Rattle.std.specs.Prelude.{OnOk, Result, Ok as with_ok, Err, option_map, slice_get}
use Rattle.afp_base.specs.Choice.{first_holding}
use Rattle.afp_base.specs.declared.bytes.OutOfMemory.{OutOfMemory}
use Rattle.afp_base.specs.declared.code.Code.{Code}
use Rattle.afp_base.specs.declared.code.Code.TheVariants.{Ok, ParamErr}
use Rattle.afp_replies.specs.Replies.{canonical_reply}
use Rattle.afp_replies.specs.declared.reply.Reply.{Reply as AfpReply}
use Rattle.afp_calls_grammar.specs.declared.grammar.call.Call.{Call}
use Rattle.afp_serial.specs.Answer.{refusal_reply}
use Rattle.afp_serial.specs.World.{Effect, CallRow, plain, user_of, World, Session}
use Rattle.afp_serial.specs.OnVolume.{done_on}
use Rattle.afp_serial.specs.Rows.{effect, refusal}
use Rattle.afp_serial.specs.declared.ask.Outcome.{Outcome}
use Rattle.afp_serial.specs.declared.ask.Told.{Told}
use Rattle.afp_serial.specs.declared.ask.Told.TheVariants.{Reply}
use Rattle.volume_spec.specs.VolumeState.{VolumeState}
use Rattle.afp_core_state.specs.RowKinds.{TellsOf}
use Rattle.afp_core_state.specs.OnVolumes.{IsOpen, IsOpenAt, IsUser}
use Rattle.afp_core_state.specs.Replies.{Tells}
use Rattle.afp_core_state.specs.KeptWorld.{KeptWorld}
use Rattle.session_table.specs.Sessions.{session_of}
use Rattle.afp_core_state.specs.Running.{done, RunsRow}
use Rattle.afp_core_state.proofs.RowLemmas.{has_effect, is_refused}
use Rattle.volume_tree.specs.Answered.{Refuses}
use Rattle.volume_tree.specs.declared.resolve.PlanFault.{PlanFault}
use Rattle.volume_tree.specs.declared.resolve.PlanFault.TheVariants as fault
use Rattle.afp_core_state.proofs.OnVolumeLemmas.{found-at, refused-on, told-effect}

-- a call that tells something of a volume
module _ (k : KeptWorld) (number : ℕ) (call : Call) (volume : ℕ) (refuses : World → ℕ → VolumeState → Option Code) (reply : World → ℕ → VolumeState → AfpReply) (tells : TellsOf call volume refuses reply) where
  pub tells-unopened : (told : Told) → IsOpen k number volume None → told ≡ refusal_reply ParamErr → RunsRow k number call (with_ok (done told)) k
  tells-unopened told stands is = λ s at.
      is_refused k k s call ParamErr told (ap (λ (r : CallRow). first_holding (r.refusals k.world s)) tells.row_is ∙ stands s at (refuses k.world (user_of s))) is refl

  tells-refuses : (user index : ℕ) (v : VolumeState) → IsUser k number user → IsOpenAt k number volume index → slice_get k.world.volumes index ≡ Some v → (s : Session) → session_of k.world.sessions number ≡ Some s
      → refusal k.world s call ≡ option_map plain (refuses k.world user v)
  tells-refuses user index v calls stands there s at =
      ap (λ (r : CallRow). first_holding (r.refusals k.world s)) tells.row_is
      ∙ refused-on k.world s volume v (refuses k.world (user_of s)) (stands.opened s at) (found-at k number volume index v stands there)
      ∙ ap (λ (u : ℕ). option_map plain (refuses k.world u v)) (sym (calls s at))

  pub tells-refused : (user index : ℕ) (v : VolumeState) (code : Code) (told : Told) → IsUser k number user → IsOpenAt k number volume index → slice_get k.world.volumes index ≡ Some v → refuses k.world user v ≡ Some code
      → told ≡ refusal_reply code → RunsRow k number call (with_ok (done told)) k
  tells-refused user index v code told calls stands there refused is = λ s at.
      is_refused k k s call code told (tells-refuses user index v calls stands there s at ∙ ap (option_map plain) refused) is refl

  pub tells-done : (user index : ℕ) (v : VolumeState) (block : List ℕ) (told : Told) → IsUser k number user → IsOpenAt k number volume index → slice_get k.world.volumes index ≡ Some v → refuses k.world user v ≡ None
      → block ≡ canonical_reply (reply k.world user v) → told ≡ Reply Ok block false → RunsRow k number call (with_ok (done told)) k
  tells-done user index v block told calls stands there passes bytes is = λ s at.
      let of : Effect = record { world = k.world; reply = reply k.world user v } in
      let does : effect k.world s call ≡ of =
      ap (λ (r : CallRow). r.effect k.world s) tells.row_is
      ∙ ap (λ (o : Option VolumeState). done_on o k.world (λ x. record { world = k.world; reply = reply k.world (user_of s) x })) (found-at k number volume index v stands there)
      ∙ ap (λ (u : ℕ). record { world = k.world; reply = reply k.world u v }) (sym (calls s at)) in
      has_effect k k s call told k.world (tells-refuses user index v calls stands there s at ∙ ap (option_map plain) passes)
      (is ∙ told-effect call (effect k.world s call) of block does tells.goes_on bytes) refl (ap (λ (e : Effect). e.world) (sym does))

  pub tells-runs : (user index : ℕ) (v : VolumeState) (code : Option Code) (shown : AfpReply) (answer : Result (Unit {0}) PlanFault) (before block : List ℕ) (result : Result (Told × Outcome) OutOfMemory)
      → IsUser k number user → IsOpenAt k number volume index → slice_get k.world.volumes index ≡ Some v → refuses k.world user v ≡ code → reply k.world user v ≡ shown → Refuses answer code
      → before ≡ [] → OnOk answer (block ≡ before ++ canonical_reply shown) → Tells answer block result → RunsRow k number call result k
  tells-runs user index v code shown (with_ok read) before block (with_ok r) calls stands there refuse show refused none bytes told =
      subst (λ (x : Told × Outcome). RunsRow k number call (with_ok x) k) (sym told)
      (tells-done user index v block (Reply Ok block false) calls stands there (refuse ∙ refused) (bytes ∙ ap (λ (l : List ℕ). l ++ canonical_reply shown) none ∙ ap canonical_reply (sym show)) refl)
  tells-runs user index v code shown (with_ok read) before block (Err e) calls stands there refuse show refused none bytes told = absurd told
  tells-runs user index v code shown (Err (fault.Code c)) before block (with_ok r) calls stands there refuse show refused none bytes told =
      subst (λ (x : Told × Outcome). RunsRow k number call (with_ok x) k) (sym told) (tells-refused user index v c (refusal_reply c) calls stands there (refuse ∙ refused) refl)
  tells-runs user index v code shown (Err (fault.Code c)) before block (Err e) calls stands there refuse show refused none bytes told = absurd told
  tells-runs user index v code shown (Err fault.Memory) before block (with_ok r) calls stands there refuse show refused none bytes told = absurd told
  tells-runs user index v code shown (Err fault.Memory) before block (Err e) calls stands there refuse show refused none bytes told = refl
