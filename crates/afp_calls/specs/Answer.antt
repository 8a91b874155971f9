-- What reading a request answers (this profile).
use Rattle.std.specs.Prelude.{◌≡◌, ◌⊎◌, ℕ, List, Option, Some, None, Result, Ok, Err}
use Rattle.afp_calls_grammar.specs.declared.grammar.call.Call.{Call}
use Rattle.afp_calls_grammar.specs.declared.grammar.call.ReadFault.{ReadFault}
use Rattle.afp_calls_grammar.specs.declared.grammar.call.ReadFault.TheVariants as faults
use Rattle.afp_calls_grammar.specs.grammar.Call.{Spells, IsSpellable}
use Rattle.afp_calls_grammar.specs.grammar.Laws.{BeginsWithCommand, BeginsWithNoCommand}
use Rattle.afp_calls_grammar.specs.grammar.Spelt.{spelt_call}

-- the block and what comes with it spell the request, and no other; so it can be written again
pub record IsRequest (block : List ℕ) (enclosed : Option (List ℕ)) (call : Call) : Type 0 where
  pub spells : Spells call block enclosed
  pub spelt : spelt_call block enclosed ≡ Some call
  pub spellable : IsSpellable call

-- no request is spelt, since the command is not known
pub record IsUnknown (block : List ℕ) (enclosed : Option (List ℕ)) : Type 0 where
  pub first : BeginsWithNoCommand block
  pub spelt : spelt_call block enclosed ≡ None

-- no request is spelt, though the command is known, or there is none
pub record IsMisspelt (block : List ℕ) (enclosed : Option (List ℕ)) : Type 0 where
  pub first : BeginsWithCommand block
  pub spelt : spelt_call block enclosed ≡ None

-- exactly one of these holds of a block and data; want of memory may take the place of each
abbrev pub IsReadAnswer : List ℕ → Option (List ℕ) → Result Call ReadFault → Type 0
IsReadAnswer block enclosed (Ok call) = IsRequest block enclosed call
IsReadAnswer block enclosed (Err faults.NotSupported) = IsUnknown block enclosed
IsReadAnswer block enclosed (Err faults.Param) = IsMisspelt block enclosed
IsReadAnswer block enclosed (Err faults.Memory) = Unit {0}

-- the answer is this fault, or there is no memory
abbrev pub IsReadRefusal : Result Call ReadFault → ReadFault → Type 0
IsReadRefusal (Ok call) fault = ⊥
IsReadRefusal (Err found) fault = (found ≡ fault) ⊎ (found ≡ faults.Memory)
