use Rattle.afp_client.proofs.OfLinks.LawLemmas.{leads_follows, writes_frames, takes_bytes}
use Rattle.afp_client.proofs.links.laws.histories_are_steps.Goals as goal

pub returns-clause-follows : goal.returns-clause-follows
returns-clause-follows c = leads_follows c.steps_join.ensures

pub returns-clause-writes : goal.returns-clause-writes
returns-clause-writes c = writes_frames

pub returns-clause-takes : goal.returns-clause-takes
returns-clause-takes c = takes_bytes
