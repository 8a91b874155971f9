use Rattle.std.proofs.Common.{◌≡◌, ◌∙◌, ℕ, ap, List, ◌++◌, length}
use Rattle.dsi_frame.specs.Frame.{Frame}
use Rattle.afp_calls_grammar.specs.grammar.Call.{canonical_call, canonical_piece}
use Rattle.afp_client.specs.session.State.{Waiting}
use Rattle.afp_client.proofs.OfSession.RequestLemmas.{call_framed}
use Rattle.afp_client.proofs.session.request.Request.of.Goals as goal

pub returns : goal.returns
returns c =
    let waits : Frame → Waiting = λ f. record { request = f; retries = 0 } in
    let block : c.write_call.new.block ≡ canonical_call c.args.call.now =
    c.in_ok-write_call.ensures.block ∙ ap (λ (bytes : List ℕ). bytes ++ canonical_call c.args.call.now) c.new-payload.ensures in
    let piece : c.as_slice-2.result.now ≡ canonical_piece c.args.call.now =
    c.as_slice-2.ensures ∙ (c.in_ok-write_call.ensures.enclosed ∙ ap (λ (bytes : List ℕ). bytes ++ canonical_piece c.args.call.now) c.new-piece.ensures) in
    let whole : c.extend.new.self ≡ canonical_call c.args.call.now ++ canonical_piece c.args.call.now =
    c.in_ok-extend.ensures.ok ∙ (ap (λ (bytes : List ℕ). bytes ++ c.as_slice-2.result.now) block ∙ ap (λ (bytes : List ℕ). canonical_call c.args.call.now ++ bytes) piece) in
    let place : length c.as_slice.result.now ≡ length (canonical_call c.args.call.now) = ap length (c.as_slice.ensures ∙ block) in
    ap waits (call_framed c.args.id (length c.as_slice-3.result.now) c.args.call.now c.has_data.result c.header_of_call-header.result (length c.as_slice.result.now) c.extend.new.self
    c.has_data.ensures c.header_of_call-header.ensures.header place whole)
