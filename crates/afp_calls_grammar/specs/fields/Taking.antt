-- How the words of a request are taken from a block, one after the other.
use Rattle.std.specs.Prelude.{◌≡◌, ℕ, Bool, true, false, List, Option, Some, None, Result, Ok, Err}
use Rattle.afp_calls_grammar.specs.declared.grammar.call.Call.{Call}
use Rattle.afp_calls_grammar.specs.declared.grammar.call.ReadFault.{ReadFault}
use Rattle.afp_calls_grammar.specs.declared.grammar.call.ReadFault.TheVariants as faults
use Rattle.afp_calls_grammar.specs.grammar.Words.{Word, Plain, Counted, Pathname, Tail, Value}
use Rattle.afp_calls_grammar.specs.grammar.Reading.{Reading, Then, Alone, With, Reader, read_by}
use Rattle.afp_calls_grammar.specs.fields.Input.{Input, bytes_left, read_on}

-- the words whose value copies bytes of the block, which takes memory
abbrev pub takes_memory : Word → Bool
takes_memory (Plain n) = true
takes_memory (Counted n) = true
takes_memory Pathname = true
takes_memory Tail = true
takes_memory _ = false

-- The word is taken from the front: what is read of it and more is read of the more behind it. Param: it does not stand there. Memory: its value copies bytes.
abbrev pub Takes : (w : Word) → Input → Result (Value w) ReadFault → Input → Type 0
Takes w old (Ok x) new = (more : Value w → Reading) → read_on (Then w more) old ≡ read_on (more x) new
Takes w old (Err faults.Param) new = (more : Value w → Reading) → read_on (Then w more) old ≡ None
Takes w old (Err faults.Memory) new = takes_memory w ≡ true
Takes w old (Err faults.NotSupported) new = ⊥

-- Nothing comes with the block, so a request that comes alone is read. Param: something comes with it.
abbrev pub StandsAlone : Input → Result (Unit {0}) ReadFault → Type 0
StandsAlone f (Ok x) = (call : Call) → read_on (Alone call) f ≡ Some call
StandsAlone f (Err faults.Param) = (call : Call) → read_on (Alone call) f ≡ None
StandsAlone f (Err faults.Memory) = ⊥
StandsAlone f (Err faults.NotSupported) = ⊥

-- The first bytes, so many, of what comes with the block are taken, and the request of them is read. Param: fewer come, or nothing.
abbrev pub TakesEnclosed : ℕ → Input → Result (List ℕ) ReadFault → Type 0
TakesEnclosed size f (Ok piece) = (make : List ℕ → Call) → read_on (With size make) f ≡ Some (make piece)
TakesEnclosed size f (Err faults.Param) = (make : List ℕ → Call) → read_on (With size make) f ≡ None
TakesEnclosed size f (Err faults.Memory) = ⊥
TakesEnclosed size f (Err faults.NotSupported) = ⊥

-- The answer is the request that was found. Param: none was found.
abbrev pub IsFound : Option Call → Result Call ReadFault → Type 0
IsFound found (Ok call) = found ≡ Some call
IsFound found (Err faults.Param) = found ≡ None
IsFound found (Err faults.Memory) = Unit {0}
IsFound found (Err faults.NotSupported) = ⊥

-- The answer is the request that the reader of this number finds, if one of the readers has it.
abbrev pub GivesBy : List Reader → ℕ → Input → Result Call ReadFault → Type 0
GivesBy rs n old answer = IsFound (read_by rs n old.place old.enclosed (bytes_left old)) answer
