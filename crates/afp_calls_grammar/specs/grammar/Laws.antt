-- What holds of every request and every block, whatever function is run.
use Rattle.std.specs.Prelude.{◌≡◌, ◌↔◌, ℕ, true, false, List, [], ◌∷◌, Option, Some, None}
use Rattle.afp_base.specs.Bytes.{IsBytes}
use Rattle.afp_calls_grammar.specs.declared.grammar.call.Call.{Call}
use Rattle.afp_calls_grammar.specs.grammar.Call.{Spells, IsTypedCall, IsSpellable, canonical_call, canonical_data}
use Rattle.afp_calls_grammar.specs.grammar.Spelt.{is_command, spelt_call}

-- the block has a first byte, which is no command
abbrev pub BeginsWithNoCommand : List ℕ → Type 0
BeginsWithNoCommand [] = ⊥
BeginsWithNoCommand (n ∷ bytes) = is_command n ≡ false

-- the block is empty, or its first byte is a command
abbrev pub BeginsWithCommand : List ℕ → Type 0
BeginsWithCommand [] = Unit {0}
BeginsWithCommand (n ∷ bytes) = is_command n ≡ true

-- what a block and what comes with it spell is one request, the same as the function gives
abbrev pub IsFunction : Type 0
IsFunction = (block : List ℕ) (enclosed : Option (List ℕ)) (call : Call) → ((spelt_call block enclosed ≡ Some call) ↔ Spells call block enclosed)

abbrev pub SpellsOne : Type 0
SpellsOne = (block : List ℕ) (enclosed : Option (List ℕ)) (c d : Call) → Spells c block enclosed → Spells d block enclosed → c ≡ d

-- the canonical spelling of a request is spelt by it alone, and is read as it again
abbrev pub CanonicalIsSpelt : Type 0
CanonicalIsSpelt = (call : Call) → IsTypedCall call → IsSpellable call → Spells call (canonical_call call) (canonical_data call)

abbrev pub CanonicalIsReadAgain : Type 0
CanonicalIsReadAgain = (call : Call) → IsTypedCall call → IsSpellable call → spelt_call (canonical_call call) (canonical_data call) ≡ Some call

abbrev pub CanonicalIsOfOne : Type 0
CanonicalIsOfOne = (c d : Call) → IsTypedCall c → IsSpellable c → Spells d (canonical_call c) (canonical_data c) → d ≡ c

-- what bytes spell can be written
abbrev pub SpeltCanBeWritten : Type 0
SpeltCanBeWritten = (call : Call) (block : List ℕ) (enclosed : Option (List ℕ)) → IsBytes block → Spells call block enclosed → IsSpellable call

-- a block whose first byte is no command spells nothing
abbrev pub UnknownIsNotSpelt : Type 0
UnknownIsNotSpelt = (block : List ℕ) (enclosed : Option (List ℕ)) → BeginsWithNoCommand block → spelt_call block enclosed ≡ None
