use Rattle.once_across_breaks_code.proofs.OfServer.AskedLemmas.{in-order, in-order-alone}
use Rattle.once_across_breaks_code.proofs.server.laws.tellers_are_asked_in_order.Goals as goal

pub returns-clause-among : goal.returns-clause-among
returns-clause-among c = in-order

pub returns-clause-alone : goal.returns-clause-alone
returns-clause-alone c = in-order-alone
