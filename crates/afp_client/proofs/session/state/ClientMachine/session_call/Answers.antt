use Rattle.std.proofs.Common.{◌≤◌, ℕ, List, length, None, subst, sym}
use Rattle.afp_base.specs.Limits.{payload_limit}
use Rattle.afp_calls_grammar.specs.grammar.Call.{canonical_call}
use Rattle.afp_calls_grammar.specs.declared.grammar.call.Call.TheVariants.{GetSessionToken, DisconnectOldSession}
use Rattle.afp_client.proofs.OfSession.OpeningLemmas.{token-fits, rejoin-fits}
use Rattle.afp_client.proofs.session.state.ClientMachine.session_call.Goals as goal

pub returns-in-None-clause-fits : goal.returns-in-None-clause-fits
returns-in-None-clause-fits c = subst (λ (id : List ℕ). length (canonical_call (GetSessionToken 0 None id)) ≤ payload_limit) (sym c.new.ensures) token-fits

pub returns-in_ok-copy-in-Some-clause-fits : goal.returns-in_ok-copy-in-Some-clause-fits
returns-in_ok-copy-in-Some-clause-fits c =
    subst (λ (token : List ℕ). length (canonical_call (DisconnectOldSession 0 token)) ≤ payload_limit) (sym c.in_ok-copy-in-Some.ensures)
    (rejoin-fits c.in-Some.token (rw c.in-Some.is at c.self.invariant.1))
