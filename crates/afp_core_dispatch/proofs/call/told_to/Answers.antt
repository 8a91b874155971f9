use Rattle.std.proofs.Common.{◌∙◌, ap, is_some, refl}
use Rattle.afp_serial.specs.Answer.{refusal_reply}
use Rattle.afp_core_state.specs.KeptWorld.{KeptWorld}
use Rattle.session_table.specs.Sessions.{session_of}
use Rattle.afp_core_dispatch.proofs.KeepingLemmas.{refused-runs, spelled-runs}
use Rattle.afp_core_dispatch.specs.lemma.Requests.{as_request}
use Rattle.afp_core_dispatch.proofs.call.told_to.Goals as goal

pub returns-in-Ok : goal.returns-in-Ok
returns-in-Ok g c =
    spelled-runs c.args.state.now c.run.new.state c.args.session.0 (as_request c.args.request.now) c.in-Ok.call c.run.result c.is_some-has_user.result
    (λ s at. c.is_some-has_user.ensures ∙ ap is_some (c.user.ensures s (ap (λ (k : KeptWorld). session_of k.world.sessions c.args.session.0) c.state.view_is ∙ at)))
    c.in-Ok.ensures c.run.ensures

pub returns-in-Err-Refused : goal.returns-in-Err-Refused
returns-in-Err-Refused g c =
    refused-runs c.args.state.now _ c.args.session.0 (as_request c.args.request.now) c.in-Err-Refused.code c.refused.result c.is_some-has_user.result
    (λ s at. c.is_some-has_user.ensures ∙ ap is_some (c.user.ensures s (ap (λ (k : KeptWorld). session_of k.world.sessions c.args.session.0) c.state.view_is ∙ at)))
    (rw c.in-Err-Refused.field-0-is at c.in-Err-Refused.ensures) (c.refused.ensures ∙ ap refusal_reply c.in-Err-Refused.code-is) refl
