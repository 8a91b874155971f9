use Rattle.afp_client.proofs.OfLinks.TalkLemmas.{leaves-open}
use Rattle.afp_client.proofs.links.links.leave_over.Goals as goal

pub returns : goal.returns
returns g c = record {
  leaves = λ first old past all client noted idle cost over.
      leaves-open g.D.Link.Link.link_state first old past all client c.args.link noted idle cost (g.D.Dialer.dialer_state c.args.dialer.now) (g.D.Dialer.dialer_state c.back.new.self) over c.back.ensures;
}
