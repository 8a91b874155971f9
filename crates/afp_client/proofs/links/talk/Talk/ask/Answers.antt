use Rattle.std.proofs.Common.{rules}
use Rattle.afp_client.proofs.OfLinks.TalkLemmas.{asks-ends}
use Rattle.afp_client.proofs.links.talk.Talk.ask.Goals as goal

pub returns-in-Err-clause-answers : goal.returns-in-Err-clause-answers
returns-in-Err-clause-answers g c = λ first old past all is at.
    asks-ends g.D.Link.Link.link_state c.args.self.now.turns first old past all c.args.self.now.core.state c.args.call.now c.args.self.now.link c.take.new.self c.in-Some.link c.in-Err.end
    c.args.self.now.core c.ask_over.new.core c.args.self.now.noted c.ask_over.new.noted c.args.self.now.idle c.ask_over.new.idle c.args.self.now.cost c.ask_over.new.cost
    (g.D.Dialer.dialer_state c.args.self.now.dialer) (g.D.Dialer.dialer_state c.ask_over.new.dialer)
    at (search rules) (search rules) (c.in-Err.ensures.answers first old past all is)
