use Rattle.std.proofs.Common.{ℕ, refl, sym, ap, ◌∙◌, subst}
use Rattle.afp_server.specs.link.lemma.SessionState.{SessionState}
use Rattle.afp_server.specs.link.Progress.{LeavesBy}
use Rattle.afp_server.specs.link.Requests.{is_over}
use Rattle.afp_server.proofs.link.idle.idle_open.Goals as goal

pub returns-then-not-send_request-clause-idles : goal.returns-then-not-send_request-clause-idles
returns-then-not-send_request-clause-idles g c = (c.send_request.ensures.after, (c.requires, refl, c.if-not-send_request.ensures.sends))

pub returns-then-not-is_over-clause-idles : goal.returns-then-not-is_over-clause-idles
returns-then-not-is_over-clause-idles g c = (
  c.send_request.ensures.after,
  (
    ap (λ (n : ℕ). is_over c.args.drain.now n) (sym c.now-now.ensures) ∙ sym c.if-not-is_over.ensures,
    c.requires,
    refl,
    c.if-not-send_request.ensures.sends,
  ),
)

pub returns-clause-idles : goal.returns-clause-idles
returns-clause-idles g c = (
  c.send_request.ensures.after,
  (
    ap (λ (n : ℕ). is_over c.args.drain.now n) (sym c.now-now.ensures) ∙ sym c.if-not-is_over.ensures,
    ap (λ (s : SessionState). s.stage) c.leave.ensures.closed,
    c.if-not-send_request.ensures.sends,
    subst (λ (n : ℕ). LeavesBy n c.args.number (g.T.Teller.shown c.args.teller.now) (g.T.Teller.shown c.leave.new.teller)) c.now-now.ensures c.leave.ensures.leaves,
  ),
)
