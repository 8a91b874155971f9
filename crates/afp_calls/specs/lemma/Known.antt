-- What the groups of requests answer together, for the proofs; no public contract cites it.
use Rattle.std.specs.Prelude.{◌≡◌, ℕ, true, false, List, Option, Some, None, Result, Ok, Err}
use Rattle.afp_calls_grammar.specs.declared.grammar.call.Call.{Call}
use Rattle.afp_calls_grammar.specs.declared.grammar.call.ReadFault.{ReadFault}
use Rattle.afp_calls_grammar.specs.declared.grammar.call.ReadFault.TheVariants as faults
use Rattle.afp_calls_grammar.specs.grammar.Reading.{Reader, has_reader, read_by}
use Rattle.afp_calls_grammar.specs.grammar.Readers.{session_readers, volume_readers, directory_readers, file_readers, fork_readers, desktop_readers}
use Rattle.afp_calls_grammar.specs.grammar.Spelt.{readers}
use Rattle.afp_calls_grammar.specs.fields.Input.{Input, bytes_left}
use Rattle.afp_calls.specs.declared.group.Group.{Group}
use Rattle.afp_calls.specs.declared.group.Group.TheVariants as groups

-- The answer is the request that the reader of this number finds. NotSupported: no reader has the number. Param: one has, and finds none.
abbrev pub Knows : List Reader → ℕ → Input → Result Call ReadFault → Type 0
Knows rs n f (Ok call) = (has_reader rs n ≡ true) × (read_by rs n f.place f.enclosed (bytes_left f) ≡ Some call)
Knows rs n f (Err faults.Param) = (has_reader rs n ≡ true) × (read_by rs n f.place f.enclosed (bytes_left f) ≡ None)
Knows rs n f (Err faults.NotSupported) = has_reader rs n ≡ false
Knows rs n f (Err faults.Memory) = Unit {0}

-- how the requests of a group are read
abbrev pub readers_of : Group → List Reader
readers_of groups.Session = session_readers
readers_of groups.Volume = volume_readers
readers_of groups.Directory = directory_readers
readers_of groups.File = file_readers
readers_of groups.Fork = fork_readers
readers_of groups.Desktop = desktop_readers

-- The reader of this number is one of the group's. None: no reader has the number.
abbrev pub IsGroupWith : ℕ → Option Group → Type 0
IsGroupWith n (Some group) = (has_reader readers n ≡ true) × ((place : ℕ) (enclosed : Option (List ℕ)) (bytes : List ℕ) → read_by readers n place enclosed bytes ≡ read_by (readers_of group) n place enclosed bytes)
IsGroupWith n None = has_reader readers n ≡ false
