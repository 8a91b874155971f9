-- How long the requests of an opening are.
use Rattle.std.proofs.Common.{◌≡◌, ℕ, ◌+◌, ◌%◌, ◌≤◌, List, [], ◌∷◌, ◌++◌, length, None, arith, length-append, lit≤}
use Rattle.std.specs.Prelude.{replicate}
use Rattle.std.proofs.lemmas.List.{length-replicate}
use Rattle.std.specs.Int.{byte_at}
use Rattle.afp_base.specs.Limits.{payload_limit}
use Rattle.afp_calls_grammar.specs.grammar.Call.{canonical_call}
use Rattle.afp_calls_grammar.specs.declared.grammar.call.Call.TheVariants.{Login as LoginCall, DisconnectOldSession}
use Rattle.afp_client.specs.session.Opening.{session_call, login_tail}
use Rattle.afp_client.specs.session.Takes.{most_token}

pub length-login : (version uam rest : List ℕ) → length (canonical_call (LoginCall version uam rest)) ≡ 3 + length version + length uam + length rest
unfolding canonical_call
length-login version uam rest =
    let last = length-append rest [] in
    let second = length-append uam (rest ++ []) in
    let first = length-append version (byte_at 0 (length uam) ∷ (uam ++ (rest ++ []))) in
    omega (arith, first, second, last)

pub length-tail : (name password : List ℕ) → length (login_tail name password) ≡ 1 + length name + length name % 2 + length password
length-tail name password =
    let pad : List ℕ = replicate (length name % 2) 0 in
    let front = length-append name pad in
    let all = length-append (name ++ pad) password in
    omega (arith, front, all, length-replicate {A = ℕ} (length name % 2) 0)

pub token-fits : length (canonical_call (session_call None)) ≤ payload_limit
unfolding canonical_call
token-fits = lit≤ tt

pub rejoin-fits : (token : List ℕ) → length token ≤ most_token → length (canonical_call (DisconnectOldSession 0 token)) ≤ payload_limit
unfolding canonical_call
rejoin-fits token h = omega (arith, length-append token [])
