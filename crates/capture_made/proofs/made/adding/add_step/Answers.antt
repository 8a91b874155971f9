use Rattle.std.proofs.Common.{[], ◌∷◌, subst, sym}
use Rattle.capture_log.specs.Taking.{IsLink}
use Rattle.capture_made.specs.declared.requests.request.Request.{Request}
use Rattle.capture_made.specs.made.lemma.Adding.{Exchanged}
use Rattle.capture_made.proofs.OfMade.AddingLemmas.{on_ok_with, step-link}
use Rattle.capture_made.proofs.made.adding.add_step.Goals as goal

pub exchange-requires-clause-link : goal.exchange-requires-clause-link
exchange-requires-clause-link g c = subst (λ (r : Request). IsLink r.link) (sym c.in_ok-request.ensures.request) (step-link c.args.steps.now)

pub returns-clause-exchanged : goal.returns-clause-exchanged
returns-clause-exchanged g c =
    on_ok_with c.exchange.result _ _
    (λ x s is. subst (λ (r : Request). Exchanged s (r ∷ []) c.args.text.now c.exchange.new.capture c.exchange.new.text) c.in_ok-request.ensures.request (x s is))
    c.exchange.ensures.exchanged
