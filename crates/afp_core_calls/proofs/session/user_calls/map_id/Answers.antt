use Rattle.std.proofs.Common.{◌≡◌, ◌∙◌, ap, sym, refl, subst, ℕ, ◌<◌, ◌++◌, List, length}
use Rattle.afp_base.specs.declared.code.Code.TheVariants.{ItemNotFound}
use Rattle.afp_calls_grammar.specs.declared.grammar.call.Call.TheVariants.{MapID}
use Rattle.afp_replies.specs.Replies.{canonical_reply}
use Rattle.afp_replies.specs.declared.reply.Reply.TheVariants.{MappedName}
use Rattle.afp_serial.specs.MapID.{name_of_id}
use Rattle.afp_serial.specs.declared.user.User.{User}
use Rattle.afp_core_state.specs.KeptWorld.{KeptWorld}
use Rattle.afp_core_state.proofs.RowLemmas.{is_refused}
use Rattle.afp_core_calls.proofs.OfSession.LoginLemmas.{none-left}
use Rattle.afp_core_calls.proofs.OfSession.NameLemmas.{named-short}
use Rattle.afp_core_calls.proofs.OfSession.TellingLemmas.{map-id-none, map-id-runs}
use Rattle.afp_core_calls.proofs.session.user_calls.map_id.Goals as goal

pub returns-in_default : goal.returns-in_default
returns-in_default g c = λ number s at.
    let users : c.users.result.now ≡ c.args.state.now.world.house.users = c.users.ensures.value ∙ ap (λ (k : KeptWorld). k.world.house.users) c.state.view_is in
    let none = none-left c.in_ok-name.field-0 c.in_default.not-Some in
    is_refused c.args.state.now _ s (MapID c.args.function c.args.id) ItemNotFound _
    (map-id-none c.args.state.now.world s c.args.function c.args.id (ap (λ (l : List User). name_of_id l c.args.function c.args.id) (sym users) ∙ sym c.in_ok-name.ensures ∙ none)) c.refused.ensures refl

pub put_name-requires : goal.put_name-requires
put_name-requires g c =
    let value = c.users.ensures.value in
    let named = ap (λ (l : List User). name_of_id l c.args.function c.args.id) (sym value) ∙ sym c.in_ok-name.ensures ∙ c.in-Some.is in
    subst (λ (name : List ℕ). length name < 256) (sym c.as_slice.ensures) (named-short _ c.args.function c.args.id _ c.users.ensures.sound named)

pub returns : goal.returns
returns g c = λ number s at.
    let users : c.users.result.now ≡ c.args.state.now.world.house.users = c.users.ensures.value ∙ ap (λ (k : KeptWorld). k.world.house.users) c.state.view_is in
    let named = ap (λ (l : List User). name_of_id l c.args.function c.args.id) (sym users) ∙ sym c.in_ok-name.ensures ∙ c.in-Some.is in
    map-id-runs c.args.state.now s _ c.put_name.new.block c.args.function c.args.id _ named
    (c.in_ok-put_name.ensures ∙ ap (λ (b : List ℕ). b ++ canonical_reply (MappedName c.is_utf8_function.result c.as_slice.result.now)) c.new-block.ensures
    ∙ (λ i. canonical_reply (MappedName (c.is_utf8_function.ensures i) (c.as_slice.ensures i))))
    c.done.ensures
