-- What is owed of a call that changes a volume's tree (this profile); no public contract cites it.
use Rattle.std.specs.Prelude.{◌≡◌, ℕ, false, List, Option, Some, None, Result, Ok, Err}
use Rattle.afp_base.specs.declared.code.Code.{Code}
use Rattle.afp_replies.specs.declared.reply.Reply.{Reply as AfpReply}
use Rattle.afp_replies.specs.declared.reply.Reply.TheVariants.{Empty}
use Rattle.afp_calls_grammar.specs.declared.grammar.call.Call.{Call}
use Rattle.afp_serial.specs.OnVolume.{changes_tree_unless, opened_on}
use Rattle.afp_serial.specs.Rows.{ends_session, row}
use Rattle.afp_serial.specs.World.{World, volume_at}
use Rattle.volume_spec.specs.TreeSteps.{TreeCall, tree_refusal}
use Rattle.volume_spec.specs.VolumeState.{VolumeState}
use Rattle.volume_edits.specs.edits.Planned.{PlanValue}
use Rattle.volume_edits.specs.plans.Requests.{tree_call}
use Rattle.volume_tree.specs.declared.resolve.PlanFault.{PlanFault}
use Rattle.volume_tree.specs.declared.resolve.PlanFault.TheVariants as fault
use Rattle.afp_replies.specs.Replies.{canonical_reply}
use Rattle.afp_core_state.specs.KeptWorld.{KeptWorld}

-- the call's row is this change of the volume's tree, with this behind what the volume refuses, and its session goes on
pub record ChangesTree (call : Call) (behind : World → Option Code) (volume : ℕ) (change : TreeCall) (reply : VolumeState → AfpReply) : Type 0 where
  pub tree : tree_call call ≡ Some change
  pub row_is : row call ≡ changes_tree_unless behind volume change reply
  pub goes_on : ends_session call ≡ false

-- the call changes the volume's tree, with nothing behind what the volume refuses, and tells no more than that it is done
pub record ChangesAlone (call : Call) (volume : ℕ) : Type 0 where
  pub change : TreeCall
  pub changes : ChangesTree call (λ w. None) volume change (λ v. Empty)

-- the bytes are the reply to the change, where it is not refused to a user
abbrev pub AreToldOf : KeptWorld → ℕ → TreeCall → (VolumeState → AfpReply) → List ℕ → Type 0
AreToldOf k volume change reply block =
    (v : VolumeState) (user : ℕ) → volume_at k.world.volumes volume ≡ Some v → tree_refusal v user (opened_on k.world volume) change ≡ None → block ≡ canonical_reply (reply v)

-- what was planned, unless there is a refusal behind those of the volume
abbrev pub planned_unless : Option Code → Result PlanValue PlanFault → Result PlanValue PlanFault
planned_unless None planned = planned
planned_unless (Some code) (Ok plan) = Err (fault.Code code)
planned_unless (Some code) (Err f) = Err f
