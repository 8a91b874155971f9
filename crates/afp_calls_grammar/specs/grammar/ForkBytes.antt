-- The requests that read and write the bytes of a fork (AFP Reference, "Fork Commands"). Each has its fields, and beside them how they are read.
use Rattle.std.specs.Prelude.{ℕ, ℤ, List, [], ◌∷◌, pos, negsuc}
use Rattle.afp_base.specs.declared.ids.ForkRef.{ForkRef}
use Rattle.afp_calls_grammar.specs.grammar.Commands.{read_command, read_ext_command, write_command, write_ext_command}
use Rattle.afp_calls_grammar.specs.declared.grammar.call.Call.TheVariants.{Read, ReadExt, Write, WriteExt}
use Rattle.afp_calls_grammar.specs.grammar.Words.{Number, Pad, Signed32, Signed64, Layout, in_command, in_write, command, fork_ref, i32, i64, pad, u32, u8}
use Rattle.afp_calls_grammar.specs.grammar.Reading.{Reader, reader, Alone, With}

-- how many bytes a signed count asks for: none where it is negative, which the call refuses (this profile)
abbrev pub piece_size : ℤ → ℕ
piece_size (pos n) = n
piece_size (negsuc n) = 0

-- AFP Reference, FPRead
abbrev pub read : ForkRef → ℤ → ℕ → ℕ → ℕ → Layout
read reference offset count mask character = in_command (command read_command ∷ pad ∷ fork_ref reference ∷ i32 offset ∷ u32 count ∷ u8 mask ∷ u8 character ∷ [])

abbrev pub read_reader : Reader
read_reader = reader read_command (Pad ∷ Number 2 ∷ Signed32 ∷ Number 4 ∷ Number 1 ∷ Number 1 ∷ []) (λ _ reference offset count mask character. Alone (Read (record { 0 = reference }) offset count mask character))

-- AFP Reference, FPReadExt
abbrev pub read_ext : ForkRef → ℤ → ℤ → Layout
read_ext reference offset count = in_command (command read_ext_command ∷ pad ∷ fork_ref reference ∷ i64 offset ∷ i64 count ∷ [])

abbrev pub read_ext_reader : Reader
read_ext_reader = reader read_ext_command (Pad ∷ Number 2 ∷ Signed64 ∷ Signed64 ∷ []) (λ _ reference offset count. Alone (ReadExt (record { 0 = reference }) offset count))

-- AFP Reference, FPWrite
abbrev pub write : ℕ → ForkRef → ℤ → ℕ → List ℕ → Layout
write flag reference offset count piece = in_write (command write_command ∷ u8 flag ∷ fork_ref reference ∷ i32 offset ∷ u32 count ∷ []) count piece

abbrev pub write_reader : Reader
write_reader = reader write_command (Number 1 ∷ Number 2 ∷ Signed32 ∷ Number 4 ∷ []) (λ flag reference offset count. With count (λ piece. Write flag (record { 0 = reference }) offset count piece))

-- AFP Reference, FPWriteExt
abbrev pub write_ext : ℕ → ForkRef → ℤ → ℤ → List ℕ → Layout
write_ext flag reference offset count piece = in_write (command write_ext_command ∷ u8 flag ∷ fork_ref reference ∷ i64 offset ∷ i64 count ∷ []) (piece_size count) piece

abbrev pub write_ext_reader : Reader
write_ext_reader = reader write_ext_command (Number 1 ∷ Number 2 ∷ Signed64 ∷ Signed64 ∷ []) (λ flag reference offset count. With (piece_size count) (λ piece. WriteExt flag (record { 0 = reference }) offset count piece))
