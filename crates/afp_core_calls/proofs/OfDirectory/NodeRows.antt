-- Rows of calls that tell of a node that is found, and that of FPCloseDir.
use Rattle.std.proofs.Common.{◌≡◌, ap, sym, refl, subst, ℕ, true, false, [], Option, Some}
use Rattle.std.specs.Prelude.{IfOk, Result, Ok as with_ok, Err, slice_get}
use Rattle.afp_base.specs.declared.bytes.OutOfMemory.{OutOfMemory}
use Rattle.afp_base.specs.declared.code.Code.{Code}
use Rattle.afp_base.specs.declared.code.Code.TheVariants.{Ok, ParamErr}
use Rattle.afp_replies.specs.Replies.{canonical_reply}
use Rattle.afp_replies.specs.declared.reply.Reply.{Reply as AfpReply}
use Rattle.afp_replies.specs.declared.reply.Reply.TheVariants.{Node}
use Rattle.afp_calls_grammar.specs.declared.grammar.call.Call.{Call}
use Rattle.afp_calls_grammar.specs.declared.grammar.call.Call.TheVariants.{CloseDir}
use Rattle.afp_base.specs.declared.ids.NodeId.{NodeId}
use Rattle.afp_base.specs.declared.ids.VolumeId.{VolumeId}
use Rattle.afp_serial.specs.Answer.{refusal_reply}
use Rattle.afp_serial.specs.World.{plain, has_opened, World, Session}
use Rattle.afp_serial.specs.Rows.{refusal, row}
use Rattle.afp_serial.specs.declared.ask.Outcome.{Outcome}
use Rattle.afp_serial.specs.declared.ask.Told.{Told}
use Rattle.afp_serial.specs.declared.ask.Told.TheVariants.{Reply}
use Rattle.volume_spec.specs.VolumeState.{VolumeState}
use Rattle.afp_core_state.proofs.TellRows.{tells-done, tells-refused}
use Rattle.afp_core_state.specs.RowKinds.{TellsOf}
use Rattle.afp_core_calls.specs.directory.lemma.FoundNode.{TellsNode}
use Rattle.afp_core_state.specs.OnVolumes.{IsOpenAt, IsUser}
use Rattle.afp_core_state.specs.KeptWorld.{KeptWorld}
use Rattle.afp_core_state.specs.Running.{RunsRow}
use Rattle.afp_core_state.proofs.RowLemmas.{IsRowOf, has_effect}
use Rattle.volume_tree.specs.Answered.{Refuses}
use Rattle.volume_tree.specs.declared.resolve.PlanFault.{PlanFault}
use Rattle.volume_tree.specs.declared.resolve.PlanFault.TheVariants as fault

-- a call that tells of a node that is found
module _ (k : KeptWorld) (number : ℕ) (call : Call) (volume : ℕ) (refuses : World → ℕ → VolumeState → Option Code) (reply : World → ℕ → VolumeState → AfpReply) (tells : TellsOf call volume refuses reply) where
  pub tells-node : (user index : ℕ) (v : VolumeState) (answer : Result NodeId PlanFault) (result : Result (Told × Outcome) OutOfMemory) → IsUser k number user → IsOpenAt k number volume index
      → slice_get k.world.volumes index ≡ Some v → Refuses answer (refuses k.world user v) → IfOk answer (λ id. reply k.world user v ≡ Node id) → TellsNode answer result → RunsRow k number call result k
  tells-node user index v (with_ok id) (with_ok r) calls stands there refused shown told =
      subst (λ (x : Told × Outcome). RunsRow k number call (with_ok x) k) (sym told)
      (tells-done k number call volume refuses reply tells user index v (canonical_reply (Node id)) (Reply Ok (canonical_reply (Node id)) false) calls stands there refused (ap canonical_reply (sym shown)) refl)
  tells-node user index v (with_ok id) (Err e) calls stands there refused shown told = refl
  tells-node user index v (Err (fault.Code c)) (with_ok r) calls stands there refused shown told =
      subst (λ (x : Told × Outcome). RunsRow k number call (with_ok x) k) (sym told) (tells-refused k number call volume refuses reply tells user index v c (refusal_reply c) calls stands there refused refl)
  tells-node user index v (Err (fault.Code c)) (Err e) calls stands there refused shown told = absurd told
  tells-node user index v (Err fault.Memory) (with_ok r) calls stands there refused shown told = absurd told
  tells-node user index v (Err fault.Memory) (Err e) calls stands there refused shown told = refl

-- FPCloseDir
module _ (k : KeptWorld) (s : Session) (volume : VolumeId) (dir : NodeId) where
  pub close_dir-unopened : has_opened s volume.0 ≡ false → refusal k.world s (CloseDir volume dir) ≡ Some (plain ParamErr)
  unfolding row
  close_dir-unopened h = rw h refl

  pub close_dir-runs : (told : Told) → has_opened s volume.0 ≡ true → told ≡ Reply Ok [] false → IsRowOf k s (CloseDir volume dir) told k
  unfolding row
  close_dir-runs told h is = has_effect k k s (CloseDir volume dir) told k.world (rw h refl) is refl refl
