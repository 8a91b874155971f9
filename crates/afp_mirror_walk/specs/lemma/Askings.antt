-- A call, whom it is asked, and by what its reply is read.
use Rattle.std.specs.Prelude.{◌≡◌, Option, Some, None}
use Rattle.afp_calls_grammar.specs.declared.grammar.call.Call.{Call}
use Rattle.afp_serial.specs.ReplyKinds.{reply_kind}
use Rattle.client_script_lines.specs.calls.Asked.{IsAskable}
use Rattle.afp_mirror_walk.specs.Asks.{Asked}
use Rattle.afp_mirror_walk.specs.Ports.{IsNoLogout}
use Rattle.afp_mirror_walk.specs.declared.walk.calls.Asking.{Asking}
use Rattle.afp_mirror_walk.specs.declared.walk.ends.Side.{Side}

-- It asks this call of this side.
pub record Says (side : Side) (call : Call) (a : Asking) : Type 0 where
  pub of_side : a.side ≡ side
  pub call_is : a.call ≡ call
  pub kind_is : a.kind ≡ reply_kind call
  pub askable : IsAskable call
  pub stays : IsNoLogout call

-- It asks this.
abbrev pub SaysAsked : Option Asked → Asking → Type 0
SaysAsked None a = ⊥
SaysAsked (Some asked) a = Says asked.side asked.call a
