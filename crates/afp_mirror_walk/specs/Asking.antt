-- What the code asks next, beside what is to be asked (this profile).
use Rattle.std.specs.Prelude.{◌≡◌, Some}
use Rattle.afp_serial.specs.ReplyKinds.{reply_kind}
use Rattle.client_script_lines.specs.calls.Asked.{IsAskable}
use Rattle.afp_mirror_walk.specs.Asks.{Asked, asks}
use Rattle.afp_mirror_walk.specs.Ports.{IsNoLogout}
use Rattle.afp_mirror_walk.specs.Standing.{Standing}
use Rattle.afp_mirror_walk.specs.declared.walk.calls.Asking.{Asking}

-- It is the call that is asked next, of its side; its reply is read by that call; and a port can be asked it.
pub record IsAsking (w : Standing) (a : Asking) : Type 0 where
  pub asked : Asked
  pub next : asks w ≡ Some asked
  pub side : a.side ≡ asked.side
  pub call : a.call ≡ asked.call
  pub kind : a.kind ≡ reply_kind a.call
  pub askable : IsAskable a.call
  pub stays : IsNoLogout a.call
