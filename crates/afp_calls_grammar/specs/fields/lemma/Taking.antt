-- What the code and the proofs go by beside Taking; no public contract cites it.
use Rattle.std.specs.Prelude.{◌≡◌, ℕ, ◌+◌, ◌≤◌, ◌<◌, List, length, Result, Ok, Err}
use Rattle.std.specs.Borrow.{Bor}
use Rattle.afp_calls_grammar.specs.declared.grammar.call.Call.{Call}
use Rattle.afp_calls_grammar.specs.declared.grammar.call.ReadFault.{ReadFault}
use Rattle.afp_calls_grammar.specs.declared.grammar.call.ReadFault.TheVariants as faults
use Rattle.afp_calls_grammar.specs.grammar.Reading.{Reader, path_size, path_text}
use Rattle.afp_calls_grammar.specs.fields.Input.{Input, bytes_left, read_on}
use Rattle.afp_calls_grammar.specs.fields.lemma.Input.{piece_at, behind}
use Rattle.afp_calls_grammar.specs.fields.Taking.{IsFound}

-- The answer is the request that the reader finds.
abbrev pub Gives : Reader → Input → Result Call ReadFault → Type 0
Gives r old answer = IsFound (read_on r.reading old) answer

-- The next n bytes are taken. Param: there are fewer.
abbrev pub TakesPiece : ℕ → Input → Result (Bor (List ℕ)) ReadFault → Input → Type 0
TakesPiece n old (Ok x) new = (old.place ≤ length old.bytes) × (old.place + n ≤ length old.bytes) × (x.now ≡ piece_at old n) × (new ≡ behind old n)
TakesPiece n old (Err fault) new = (old.place ≤ length old.bytes) × (length old.bytes < old.place + n) × (fault ≡ faults.Param) × (new ≡ old)

-- The next n bytes are taken and copied. Param: there are fewer.
abbrev pub TakesCopy : ℕ → Input → Result (List ℕ) ReadFault → Input → Type 0
TakesCopy n old (Ok x) new = (old.place + n ≤ length old.bytes) × (x ≡ piece_at old n) × (new ≡ behind old n)
TakesCopy n old (Err faults.Param) new = (old.place ≤ length old.bytes) × (length old.bytes < old.place + n) × (new ≡ old)
TakesCopy n old (Err faults.Memory) new = new ≡ old
TakesCopy n old (Err faults.NotSupported) new = ⊥

-- A path's bytes, of that type, are taken behind the type. Param: there are fewer than their count.
abbrev pub TakesText : ℕ → Input → Result (Bor (List ℕ)) ReadFault → Input → Type 0
TakesText kind old (Ok x) new = (old.place + path_size kind (bytes_left old) ≤ length old.bytes) × (x.now ≡ path_text kind (bytes_left old)) × (new ≡ behind old (path_size kind (bytes_left old)))
TakesText kind old (Err fault) new = (length old.bytes < old.place + path_size kind (bytes_left old)) × (fault ≡ faults.Param)
