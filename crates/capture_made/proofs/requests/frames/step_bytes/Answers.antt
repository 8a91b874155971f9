use Rattle.std.proofs.Common.{◌≡◌, subst}
use Rattle.std.specs.Prelude.{IfOk}
use Rattle.afp_calls_grammar.specs.declared.grammar.call.Call.{Call}
use Rattle.dsi_frame.specs.Frame.{canonical_frame}
use Rattle.afp_client.specs.session.State.{call_frame}
use Rattle.capture_made.proofs.requests.frames.step_bytes.Goals as goal

pub returns : goal.returns
returns c = subst (λ (k : Call). IfOk c.call_bytes.result (λ bytes. bytes ≡ canonical_frame (call_frame c.args.id k))) c.in_ok-call.ensures.call c.call_bytes.ensures
