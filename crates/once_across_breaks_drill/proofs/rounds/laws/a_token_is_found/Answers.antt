use Rattle.once_across_breaks_drill.proofs.OfRounds.Tokens.{token-found}
use Rattle.once_across_breaks_drill.proofs.rounds.laws.a_token_is_found.Goals as goal

pub returns : goal.returns
returns c = token-found c.first_openings_are_told.ensures
