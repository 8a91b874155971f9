-- The request that a block and what comes with it spell, or none (AFP Reference, "AFP Calls"): the same as its spelling, as a function.
use Rattle.std.specs.Prelude.{ℕ, Bool, List, [], ◌∷◌, ◌++◌, Option, None}
use Rattle.afp_calls_grammar.specs.declared.grammar.call.Call.{Call}
use Rattle.afp_calls_grammar.specs.grammar.Reading.{Reader, has_reader, read_by}
use Rattle.afp_calls_grammar.specs.grammar.Readers.{session_readers}
use Rattle.afp_calls_grammar.specs.grammar.Readers.{volume_readers}
use Rattle.afp_calls_grammar.specs.grammar.Readers.{directory_readers}
use Rattle.afp_calls_grammar.specs.grammar.Readers.{file_readers}
use Rattle.afp_calls_grammar.specs.grammar.Readers.{fork_readers}
use Rattle.afp_calls_grammar.specs.grammar.Readers.{desktop_readers}

-- every request
abbrev pub readers : List Reader
readers = session_readers ++ (volume_readers ++ (directory_readers ++ (file_readers ++ (fork_readers ++ desktop_readers))))

-- whether a request has this number
unfoldable pub is_command : ℕ → Bool
is_command n = has_reader readers n

-- the request that the block, and what comes with it, spell
unfoldable pub spelt_call : List ℕ → Option (List ℕ) → Option Call
spelt_call [] enclosed = None
spelt_call (n ∷ bytes) enclosed = read_by readers n 1 enclosed bytes
