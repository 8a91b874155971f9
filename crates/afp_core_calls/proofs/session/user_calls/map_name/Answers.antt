use Rattle.std.proofs.Common.{◌≡◌, ◌∙◌, ap, sym, refl, ℕ, ◌++◌, List}
use Rattle.afp_base.specs.declared.code.Code.TheVariants.{ItemNotFound}
use Rattle.afp_calls_grammar.specs.declared.grammar.call.Call.TheVariants.{MapName}
use Rattle.afp_replies.specs.Replies.{canonical_reply}
use Rattle.afp_replies.specs.declared.reply.Reply.TheVariants.{MappedId}
use Rattle.afp_serial.specs.MapName.{id_of_name}
use Rattle.afp_serial.specs.declared.user.User.{User}
use Rattle.afp_core_state.specs.KeptWorld.{KeptWorld}
use Rattle.afp_core_state.proofs.RowLemmas.{is_refused}
use Rattle.afp_core_calls.proofs.OfSession.LoginLemmas.{none-left}
use Rattle.afp_core_calls.proofs.OfSession.TellingLemmas.{map-name-none, map-name-runs}
use Rattle.afp_core_calls.proofs.session.user_calls.map_name.Goals as goal

pub returns-in_default : goal.returns-in_default
returns-in_default g c = λ number s at.
    let users : c.users.result.now ≡ c.args.state.now.world.house.users = c.users.ensures.value ∙ ap (λ (k : KeptWorld). k.world.house.users) c.state.view_is in
    let none = none-left c.id_of_name.result c.in_default.not-Some in
    is_refused c.args.state.now _ s (MapName c.args.function c.args.name.now) ItemNotFound _
    (map-name-none c.args.state.now.world s c.args.function c.args.name.now (ap (λ (l : List User). id_of_name l c.args.function c.args.name.now) (sym users) ∙ sym c.id_of_name.ensures ∙ none)) c.refused.ensures refl

pub returns : goal.returns
returns g c = λ number s at.
    let users : c.users.result.now ≡ c.args.state.now.world.house.users = c.users.ensures.value ∙ ap (λ (k : KeptWorld). k.world.house.users) c.state.view_is in
    let named = ap (λ (l : List User). id_of_name l c.args.function c.args.name.now) (sym users) ∙ sym c.id_of_name.ensures ∙ c.in-Some.is in
    map-name-runs c.args.state.now s _ c.push_u32.new.self c.args.function c.in-Some.id c.args.name.now named
    (c.in_ok-push_u32.ensures.ok ∙ ap (λ (b : List ℕ). b ++ canonical_reply (MappedId c.in-Some.id)) c.new-block.ensures)
    c.done.ensures
