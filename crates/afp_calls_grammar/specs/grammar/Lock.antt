-- The requests about byte-range locks (AFP Reference, "Fork Commands"). Each has its fields, and beside them how they are read.
use Rattle.std.specs.Prelude.{ℕ, ℤ, [], ◌∷◌}
use Rattle.afp_base.specs.declared.ids.ForkRef.{ForkRef}
use Rattle.afp_calls_grammar.specs.grammar.Commands.{byte_range_lock_command, byte_range_lock_ext_command}
use Rattle.afp_calls_grammar.specs.declared.grammar.call.Call.TheVariants.{ByteRangeLock, ByteRangeLockExt}
use Rattle.afp_calls_grammar.specs.grammar.Words.{Number, Signed32, Signed64, Layout, in_command, command, fork_ref, i32, i64, u8}
use Rattle.afp_calls_grammar.specs.grammar.Reading.{Reader, reader, Alone}

-- AFP Reference, FPByteRangeLock
abbrev pub byte_range_lock : ℕ → ForkRef → ℤ → ℤ → Layout
byte_range_lock flags reference offset length = in_command (command byte_range_lock_command ∷ u8 flags ∷ fork_ref reference ∷ i32 offset ∷ i32 length ∷ [])

abbrev pub byte_range_lock_reader : Reader
byte_range_lock_reader = reader byte_range_lock_command (Number 1 ∷ Number 2 ∷ Signed32 ∷ Signed32 ∷ []) (λ flags reference offset length. Alone (ByteRangeLock flags (record { 0 = reference }) offset length))

-- AFP Reference, FPByteRangeLockExt
abbrev pub byte_range_lock_ext : ℕ → ForkRef → ℤ → ℤ → Layout
byte_range_lock_ext flags reference offset length = in_command (command byte_range_lock_ext_command ∷ u8 flags ∷ fork_ref reference ∷ i64 offset ∷ i64 length ∷ [])

abbrev pub byte_range_lock_ext_reader : Reader
byte_range_lock_ext_reader = reader byte_range_lock_ext_command (Number 1 ∷ Number 2 ∷ Signed64 ∷ Signed64 ∷ []) (λ flags reference offset length. Alone (ByteRangeLockExt flags (record { 0 = reference }) offset length))
