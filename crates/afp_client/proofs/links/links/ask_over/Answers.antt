use Rattle.std.proofs.Common.{inl, inr, refl}
use Rattle.afp_client.proofs.OfLinks.TalkLemmas.{answers-left, answers-none, asks-call, ends-unasked}
use Rattle.afp_client.specs.links.History.{asks}
use Rattle.std.proofs.Common.{◌∷◌}
use Rattle.afp_client.proofs.links.links.ask_over.Goals as goal

pub returns-in-Err-clause-answers : goal.returns-in-Err-clause-answers
returns-in-Err-clause-answers g c = λ first old past all is over.
    inl (
      refl,
      inr (ends-unasked g.D.Link.Link.link_state c.args.turns first old past all c.args.link c.args.core.now c.args.noted.now c.args.idle.now c.args.cost.now (g.D.Dialer.dialer_state c.args.dialer.now) (g.D.Dialer.dialer_state c.back.new.self)
          over c.back.ensures),
    )

pub returns-in-Ok-await_links-clause-answers : goal.returns-in-Ok-await_links-clause-answers
returns-in-Ok-await_links-clause-answers g c = λ first old past all is over.
    let asked_now = asks-call g.D.Link.Link.link_state first old past all c.args.core.now c.ask.new.self c.args.call.now c.args.out.now c.ask.new.out c.args.link c.args.noted.now c.args.cost.now c.args.idle.now (g.D.Dialer.dialer_state c.args.dialer.now)
    over c.requires.ready c.requires.empty c.in-Ok.ensures.state c.in-Ok.ensures.frame in
    answers-left g.D.Link.Link.link_state c.args.turns first old past all c.args.core.now.state c.args.call.now c.in-Ok-await_links.left.link c.in-Ok-await_links.left.came c.told_on.result c.await_links.new.core c.await_links.new.noted c.await_links.new.idle c.await_links.new.cost
    (g.D.Dialer.dialer_state c.await_links.new.dialer) (g.D.Dialer.dialer_state c.told_on.new.dialer)
    (c.in-Ok-await_links.ensures.leaves first old past (asks c.args.core.now.state c.args.call.now ∷ all) is asked_now) c.told_on.ensures

pub returns-in-Err-await_links-clause-answers : goal.returns-in-Err-await_links-clause-answers
returns-in-Err-await_links-clause-answers g c = λ first old past all is over.
    let asked_now = asks-call g.D.Link.Link.link_state first old past all c.args.core.now c.ask.new.self c.args.call.now c.args.out.now c.ask.new.out c.args.link c.args.noted.now c.args.cost.now c.args.idle.now (g.D.Dialer.dialer_state c.args.dialer.now)
    over c.requires.ready c.requires.empty c.in-Ok.ensures.state c.in-Ok.ensures.frame in
    answers-none g.D.Link.Link.link_state c.args.turns first old past all c.args.core.now.state c.args.call.now c.in-Err-await_links.end c.await_links.new.core c.await_links.new.noted c.await_links.new.idle c.await_links.new.cost
    (g.D.Dialer.dialer_state c.await_links.new.dialer) (c.in-Err-await_links.ensures.leaves first old past (asks c.args.core.now.state c.args.call.now ∷ all) is asked_now)
