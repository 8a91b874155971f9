-- Which requests a script's client may be asked (this profile).
use Rattle.std.specs.Prelude.{ℕ, ◌+◌, ◌≤◌, length}
use Rattle.afp_base.specs.Limits.{payload_limit}
use Rattle.afp_calls_grammar.specs.declared.grammar.call.Call.{Call}
use Rattle.afp_calls_grammar.specs.declared.grammar.call.Call.TheVariants.{Login, LoginExt, GetSessionToken, DisconnectOldSession}
use Rattle.afp_calls_grammar.specs.grammar.Call.{IsSpellable, canonical_call, canonical_piece}

-- it is none of the requests that open a session
abbrev pub IsCommand : Call → Type 0
IsCommand (Login version uam rest) = ⊥
IsCommand (LoginExt flags version uam name path_kind path rest) = ⊥
IsCommand (GetSessionToken kind stamp id) = ⊥
IsCommand (DisconnectOldSession kind token) = ⊥
IsCommand call = Unit {0}

-- a command that some bytes spell, and that fits a frame
pub record IsAskable (call : Call) : Type 0 where
  pub command : IsCommand call
  pub spellable : IsSpellable call
  pub size : length (canonical_call call) + length (canonical_piece call) ≤ payload_limit
