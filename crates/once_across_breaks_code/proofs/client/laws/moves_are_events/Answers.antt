use Rattle.once_across_breaks_code.proofs.OfClient.Eventing.{moves-are-events}
use Rattle.once_across_breaks_code.proofs.client.laws.moves_are_events.Goals as goal

pub returns : goal.returns
returns c = moves-are-events
