use Rattle.once_across_breaks_drill.proofs.OfRounds.Requests.{calls-told, openings-go, openings-told}
use Rattle.once_across_breaks_drill.proofs.rounds.laws.requests_are_told_in_order.Goals as goal

pub returns-clause-calls : goal.returns-clause-calls
returns-clause-calls c = calls-told

pub returns-clause-openings : goal.returns-clause-openings
returns-clause-openings c = openings-told (record { exclusive = c.one_way_to_read.ensures.exclusive; one = c.one_way_to_read.ensures.one_list })

pub returns-clause-goes_on : goal.returns-clause-goes_on
returns-clause-goes_on c = openings-go (record { exclusive = c.one_way_to_read.ensures.exclusive; one = c.one_way_to_read.ensures.one_list })
