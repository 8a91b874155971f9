use Rattle.afp_client.proofs.OfLinks.TalkLemmas.{closes-link, leaves-open}
use Rattle.afp_client.proofs.links.links.close_over.Goals as goal

pub returns : goal.returns
returns g c = record {
  closes = λ first old past all client noted idle cost over.
      closes-link g.D.Link.Link.link_state first old past all client c.args.out.now c.put_close.new.out c.args.link c.flush.new.link noted c.flush.result idle cost
      (g.D.Dialer.dialer_state c.args.dialer.now) (g.D.Dialer.dialer_state c.back-2.new.self) over c.requires.empty c.in-Ok.ensures.ok c.flush.ensures.sends c.back-2.ensures;
}

pub returns-in_default : goal.returns-in_default
returns-in_default g c = record {
  closes = λ first old past all client noted idle cost over.
      leaves-open g.D.Link.Link.link_state first old past all client c.args.link noted idle cost (g.D.Dialer.dialer_state c.args.dialer.now) (g.D.Dialer.dialer_state c.back.new.self) over c.back.ensures;
}
