use Rattle.std.proofs.Common.{◌∙◌, ◌++◌, List, ℕ, ap}
use Rattle.afp_base.specs.declared.code.Code.TheVariants as code
use Rattle.afp_client.specs.session.Opening.{open_session_frame}
use Rattle.afp_client.specs.session.Takes.{writes_opening}
use Rattle.afp_client.specs.declared.session.stage.OpeningStep.TheVariants as steps
use Rattle.afp_server.specs.link.OpenSession.{option_bytes}
use Rattle.dsi_frame.specs.Frame.{canonical_frame}
use Rattle.dsi_frame.specs.Replies.{reply_to}
use Rattle.once_across_breaks_drill.specs.rounds.Lines.{LineState}
use Rattle.once_across_breaks_drill.proofs.OfRounds.OpeningSteps.{OpensNext, is-opened, opens-served, session-good}
use Rattle.once_across_breaks_drill.proofs.rounds.opening.open_round.Goals as goal

pub serve-requires : goal.serve-requires
serve-requires g c = (open_session_frame 0, session-good, c.as_slice.ensures ∙ c.in_ok-start.ensures.frame ∙ ap (λ (l : List ℕ). l ++ canonical_frame (open_session_frame 0)) c.new-request.ensures)

pub take-requires : goal.take-requires
take-requires g c =
    let t = g.T.Teller.shown c.args.teller.now in
    let u = g.T.Teller.shown c.serve.new.teller in
    let link = c.in_ok-link-in-Some.link in
    let x : OpensNext c.args.now c.start.new.self c.in-Some.behind link c.as_slice-in-Some.result.now t u =
    opens-served c.requests_are_told_in_order.ensures.openings c.args.now link c.args.caller c.start.new.self c.in_ok-line.line c.in-Some.behind c.in_ok-serve.field-0 c.new-reply.result c.serve.new.out c.as_slice-in-Some.result.now t u
    c.in_ok-start.ensures.state c.requires c.in_ok-link-in-Some.ensures (ap (λ (l : LineState). l.stage) c.in_ok-line.ensures) c.new-reply.ensures c.in-Some.is c.as_slice-in-Some.ensures
    (c.in_ok-serve.ensures (open_session_frame 0) session-good (c.as_slice.ensures ∙ c.in_ok-start.ensures.frame ∙ ap (λ (l : List ℕ). l ++ canonical_frame (open_session_frame 0)) c.new-request.ensures)) in
    (reply_to (open_session_frame 0) code.Ok option_bytes, code.Ok, writes_opening c.start.new.self steps.Login 1 0, x.next)

pub returns : goal.returns
returns g c =
    let t = g.T.Teller.shown c.args.teller.now in
    let u = g.T.Teller.shown c.serve.new.teller in
    let link = c.in_ok-link-in-Some.link in
    let s = c.start.new.self in
    let x : OpensNext c.args.now s c.in-Some.behind link c.as_slice-in-Some.result.now t u =
    opens-served c.requests_are_told_in_order.ensures.openings c.args.now link c.args.caller s c.in_ok-line.line c.in-Some.behind c.in_ok-serve.field-0 c.new-reply.result c.serve.new.out c.as_slice-in-Some.result.now t u
    c.in_ok-start.ensures.state c.requires c.in_ok-link-in-Some.ensures (ap (λ (l : LineState). l.stage) c.in_ok-line.ensures) c.new-reply.ensures c.in-Some.is c.as_slice-in-Some.ensures
    (c.in_ok-serve.ensures (open_session_frame 0) session-good (c.as_slice.ensures ∙ c.in_ok-start.ensures.frame ∙ ap (λ (l : List ℕ). l ++ canonical_frame (open_session_frame 0)) c.new-request.ensures)) in
    let taken = c.in_ok-taken-in-Some.ensures (reply_to (open_session_frame 0) code.Ok option_bytes) code.Ok (writes_opening s steps.Login 1 0) x.next in
    is-opened c.args.now c.args.caller s c.args.out.now t (record { caller = c.in_ok-taken-in-Some.taken.0; line = c.in-Some.behind; link = link }) c.as_slice-in-Some.result.now c.take.new.out u c.in_ok-start.ensures.state x taken.0 taken.2
