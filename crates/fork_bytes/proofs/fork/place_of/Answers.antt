use Rattle.fork_bytes.proofs.Places.{at-its-index}
use Rattle.fork_bytes.proofs.fork.place_of.Goals as goal

pub returns-then-has_at-clause-place : goal.returns-then-has_at-clause-place
returns-then-has_at-clause-place c rising = at-its-index c.args.blocks.now c.args.index c.args.index rising (c.has_at.ensures.within c.if-has_at.true) (c.has_at.ensures.found c.if-has_at.true)
