-- What the code goes by where a node is found; no public contract cites it.
use Rattle.std.specs.Prelude.{◌≡◌, false, Result, Ok, Err}
use Rattle.afp_base.specs.declared.code.Code.{Code}
use Rattle.afp_replies.specs.declared.reply.Reply.TheVariants.{Node}
use Rattle.afp_base.specs.declared.ids.NodeId.{NodeId}
use Rattle.afp_base.specs.declared.bytes.OutOfMemory.{OutOfMemory}
use Rattle.afp_base.specs.declared.code.Code.TheVariants as code
use Rattle.afp_replies.specs.Replies.{canonical_reply}
use Rattle.afp_core_state.specs.Running.{done}
use Rattle.afp_serial.specs.Answer.{refusal_reply}
use Rattle.afp_serial.specs.declared.ask.Outcome.{Outcome}
use Rattle.afp_serial.specs.declared.ask.Told.{Told}
use Rattle.afp_serial.specs.declared.ask.Told.TheVariants.{Reply}
use Rattle.volume_tree.specs.declared.resolve.PlanFault.{PlanFault}
use Rattle.volume_tree.specs.declared.resolve.PlanFault.TheVariants as fault

-- what is told of a node that was found, or of why none was; its bytes may want memory
abbrev pub TellsNode : Result NodeId PlanFault → Result (Told × Outcome) OutOfMemory → Type 0
TellsNode (Ok id) (Ok r) = r ≡ done (Reply code.Ok (canonical_reply (Node id)) false)
TellsNode (Ok id) (Err e) = Unit {0}
TellsNode (Err (fault.Code code)) (Ok r) = r ≡ done (refusal_reply code)
TellsNode (Err (fault.Code code)) (Err e) = ⊥
TellsNode (Err fault.Memory) (Ok r) = ⊥
TellsNode (Err fault.Memory) (Err e) = Unit {0}
