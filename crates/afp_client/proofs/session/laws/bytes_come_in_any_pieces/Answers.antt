use Rattle.afp_client.proofs.OfSession.LinkLemmas.{link_asks, link_begins, link_breaks, link_is_fed, link_takes}
use Rattle.afp_client.proofs.session.laws.bytes_come_in_any_pieces.Goals as goal

pub returns-clause-begin : goal.returns-clause-begin
returns-clause-begin c = link_begins

pub returns-clause-feed : goal.returns-clause-feed
returns-clause-feed c = link_is_fed

pub returns-clause-ask : goal.returns-clause-ask
returns-clause-ask c = link_asks

pub returns-clause-take : goal.returns-clause-take
returns-clause-take c = link_takes

pub returns-clause-breaks : goal.returns-clause-breaks
returns-clause-breaks c = link_breaks
