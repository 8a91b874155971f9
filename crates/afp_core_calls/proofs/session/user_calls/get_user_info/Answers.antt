use Rattle.std.proofs.Common.{◌==◌, ◌≡◌, ◌∙◌, ap, sym, refl, ℕ, ◌++◌, ◌&&◌, not, List}
use Rattle.afp_base.specs.declared.code.Code.TheVariants.{BitmapErr, ItemNotFound}
use Rattle.afp_calls_grammar.specs.declared.grammar.call.Call.TheVariants.{GetUserInfo}
use Rattle.afp_replies.specs.Replies.{canonical_reply}
use Rattle.afp_serial.specs.GetUserInfo.{asks_own, id_of, user_info}
use Rattle.afp_core_state.specs.KeptWorld.{KeptWorld}
use Rattle.session_table.specs.Sessions.{session_of}
use Rattle.afp_core_state.proofs.RowLemmas.{is_refused}
use Rattle.afp_core_calls.proofs.OfSession.TellingLemmas.{user-info-bits, user-info-other, user-info-runs}
use Rattle.afp_core_calls.proofs.session.user_calls.get_user_info.Goals as goal

pub returns-then-are_refused : goal.returns-then-are_refused
returns-then-are_refused g c = λ s at.
    is_refused c.args.state.now _ s (GetUserInfo c.args.flag c.args.id c.args.bits) BitmapErr _
    (user-info-bits c.args.state.now.world s c.args.flag c.args.id c.args.bits (sym c.are_refused.ensures ∙ c.if-are_refused.true)) c.refused.ensures refl

pub returns-then-is_another : goal.returns-then-is_another
returns-then-is_another g c = λ s at.
    let there = ap (λ (k : KeptWorld). session_of k.world.sessions c.args.session.0) c.state.view_is ∙ at in
    let own : c.id_of-own.result ≡ id_of s.user = c.id_of-own.ensures ∙ ap id_of (c.user.ensures s there) in
    is_refused c.args.state.now _ s (GetUserInfo c.args.flag c.args.id c.args.bits) ItemNotFound _
    (user-info-other c.args.state.now.world s c.args.flag c.args.id c.args.bits (sym c.are_refused.ensures ∙ c.if-are_refused.false)
    (ap (λ (n : ℕ). not (asks_own c.args.flag) && not (c.args.id == n)) (sym own) ∙ sym c.is_another.ensures ∙ c.if-is_another.true)) c.refused-then-is_another.ensures refl

pub returns : goal.returns
returns g c = λ s at.
    let there = ap (λ (k : KeptWorld). session_of k.world.sessions c.args.session.0) c.state.view_is ∙ at in
    let own : c.id_of-own.result ≡ id_of s.user = c.id_of-own.ensures ∙ ap id_of (c.user.ensures s there) in
    user-info-runs c.args.state.now s _ c.put_user_info.new.block c.args.flag c.args.id c.args.bits (sym c.are_refused.ensures ∙ c.if-are_refused.false)
    (ap (λ (n : ℕ). not (asks_own c.args.flag) && not (c.args.id == n)) (sym own) ∙ sym c.is_another.ensures ∙ c.if-is_another.false)
    (c.in_ok-put_user_info.ensures ∙ ap (λ (b : List ℕ). b ++ canonical_reply (user_info c.args.bits c.id_of-own.result)) c.new-block.ensures ∙ ap (λ (n : ℕ). canonical_reply (user_info c.args.bits n)) own)
    c.done.ensures
