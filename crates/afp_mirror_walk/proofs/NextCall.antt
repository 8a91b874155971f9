-- What is asked next, in one record.
use Rattle.std.proofs.Common.{◌≡◌, Option, Some, None, Ok, Err, refl, sym, ap, ◌∙◌, subst}
use Rattle.std.specs.Prelude.{IfOk, Result}
use Rattle.afp_base.specs.declared.bytes.OutOfMemory.{OutOfMemory}
use Rattle.afp_calls_grammar.specs.declared.grammar.call.Call.{Call}
use Rattle.afp_serial.specs.ReplyKinds.{reply_kind}
use Rattle.client_script_lines.specs.calls.Asked.{IsAskable}
use Rattle.afp_mirror_walk.specs.Asking.{IsAsking}
use Rattle.afp_mirror_walk.specs.Asks.{Asked, asks}
use Rattle.afp_mirror_walk.specs.Ports.{IsNoLogout}
use Rattle.afp_mirror_walk.specs.Standing.{Standing}
use Rattle.afp_mirror_walk.specs.declared.walk.calls.Asking.{Asking}
use Rattle.afp_mirror_walk.specs.lemma.Askings.{Says, SaysAsked}

says-next : (w : Standing) (asked : Asked) (a : Asking) → asks w ≡ Some asked → Says asked.side asked.call a → IsAsking w a
says-next w asked a next s = record {
  asked = asked;
  next = next;
  side = s.of_side;
  call = s.call_is;
  kind = s.kind_is ∙ ap (λ (c : Call). reply_kind c) (sym s.call_is);
  askable = subst IsAskable (sym s.call_is) s.askable;
  stays = subst IsNoLogout (sym s.call_is) s.stays;
}

by-cases : (w : Standing) (o : Option Asked) (a : Asking) → asks w ≡ o → SaysAsked o a → IsAsking w a
by-cases w None a is s = absurd s
by-cases w (Some asked) a is s = says-next w asked a is s

pub next_asking : (w : Standing) (result : Result Asking OutOfMemory) → IfOk result (λ a. SaysAsked (asks w) a) → IfOk result (λ a. IsAsking w a)
next_asking w (Ok a) s = by-cases w (asks w) a refl s
next_asking w (Err lack) s = tt
