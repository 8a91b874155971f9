use Rattle.std.proofs.Common.{Bor, ◌≡◌, ◌∙◌, ap, refl, sym, List, ℕ}
use Rattle.std.proofs.lemmas.Bool.{le-leb, lt-leb, eq-eqb, ne_eqb}
use Rattle.afp_base.specs.declared.code.Code.TheVariants.{BitmapErr, ParamErr}
use Rattle.afp_calls_grammar.specs.declared.grammar.call.Call.TheVariants.{GetSrvrMsg}
use Rattle.afp_serial.specs.GetSrvrMsg.{message_of, message_since}
use Rattle.afp_core_state.specs.KeptWorld.{KeptWorld}
use Rattle.afp_core_state.proofs.RowLemmas.{is_refused}
use Rattle.afp_core_calls.proofs.OfSession.TellingLemmas.{login-text, message-chosen, msg-bits, msg-kind, msg-runs, server-text}
use Rattle.afp_core_calls.proofs.session.server.get_srvr_msg.Goals as goal
use Rattle.afp_core_calls.proofs.session.server.get_srvr_msg.Goals.{then-kind-eq-LOGIN_MESSAGE, else-kind-eq-LOGIN_MESSAGE}

pub returns-then-kind-gt-SERVER_MESSAGE : goal.returns-then-kind-gt-SERVER_MESSAGE
returns-then-kind-gt-SERVER_MESSAGE g c = λ number s at.
    is_refused c.args.state.now _ s (GetSrvrMsg c.args.kind c.args.bits) ParamErr _ (msg-kind c.args.state.now.world s c.args.kind c.args.bits (lt-leb c.args.kind 1 c.if-kind-gt-SERVER_MESSAGE.true)) c.refused.ensures refl

pub returns-then-is_outside : goal.returns-then-is_outside
returns-then-is_outside g c = λ number s at.
    is_refused c.args.state.now _ s (GetSrvrMsg c.args.kind c.args.bits) BitmapErr _
    (msg-bits c.args.state.now.world s c.args.kind c.args.bits (le-leb c.args.kind 1 c.if-kind-gt-SERVER_MESSAGE.false) (sym c.is_outside.ensures ∙ c.if-is_outside.true))
    c.refused-then-is_outside.ensures refl

pub returns : goal.returns
returns g c = λ number s at.
    let k = c.args.state.now in
    let chosen : c.if-kind-eq-LOGIN_MESSAGE.text.now ≡ message_of k.world c.args.kind = elim c.if-kind-eq-LOGIN_MESSAGE.branch [
      | then-kind-eq-LOGIN_MESSAGE w ↦ ap (λ (t : Bor (List ℕ)). t.now) w.text-is ∙ w.message-text.ensures.value ∙ ap (λ (x : KeptWorld). x.world.house.message) c.state.view_is
          ∙ login-text k c.args.kind (eq-eqb c.args.kind 0 w.if-kind-eq-LOGIN_MESSAGE.true)
      | else-kind-eq-LOGIN_MESSAGE w ↦ ap (λ (t : Bor (List ℕ)). t.now) w.text-is ∙ w.message_since-text.ensures ∙ ap (λ (x : KeptWorld). message_since x.world.drain) c.state.view_is
          ∙ server-text k c.args.kind (ne_eqb c.args.kind 0 w.if-kind-eq-LOGIN_MESSAGE.false)
    ] in
    msg-runs k s _ c.put_message.new.block c.args.kind c.args.bits (le-leb c.args.kind 1 c.if-kind-gt-SERVER_MESSAGE.false) (sym c.is_outside.ensures ∙ c.if-is_outside.false)
    (message-chosen k c.args.kind c.args.bits c.if-kind-eq-LOGIN_MESSAGE.text.now c.new-block.result c.put_message.new.block chosen c.new-block.ensures c.in_ok-put_message.ensures)
    c.done.ensures
