use Rattle.std.proofs.Common.{lit≤}
use Rattle.afp_calls_grammar.specs.grammar.Call.{canonical_call, canonical_piece}
use Rattle.test_sessions.proofs.client.flush.Goals as goal

pub ask-requires-clause-fits : goal.ask-requires-clause-fits
unfolding canonical_call canonical_piece
ask-requires-clause-fits c = lit≤ tt
