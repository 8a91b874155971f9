use Rattle.once_across_breaks_live.proofs.NearLemmas.{next-is}
use Rattle.once_across_breaks_live.proofs.client_end.ClientEnd.next.Goals as goal

pub returns-clause-takes : goal.returns-clause-takes
returns-clause-takes c =
    next-is c.note.result c.event-event.result c.args.self.now.client c.event-event.new.self c.args.up.now c.event-event.new.out c.args.self.now.results.items c.note.new.results.items
    c.event-event.ensures.happens c.note.ensures.goes_on c.note.ensures.told c.note.ensures.memory
