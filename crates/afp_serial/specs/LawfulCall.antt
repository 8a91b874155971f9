-- What is known of a call that bytes spell: its numbers are in the ranges of their fields, its texts are bytes, and its paths go down to names (AFP Reference, "Command formats", "Pathnames").
use Rattle.std.specs.Prelude.{ℕ, ℤ, pos, negsuc, ◌^◌, ◌==◌, nat_lt, Bool, true, ◌&&◌, List, length, Option, None, Some}
use Rattle.std.specs.List.{list_all}
use Rattle.afp_calls_grammar.specs.grammar.Call.{layout_of}
use Rattle.afp_calls_grammar.specs.grammar.Words.{Word, Value, RequestField, Enclosed, Nothing, Piece, Literal, Pad, LastPad, Even, Number, Within, Count, Optional, Signed32, Signed64, Plain, Counted, Pathname, Tail}
use Rattle.afp_calls_grammar.specs.declared.grammar.call.Call.{Call}
use Rattle.volume_spec.specs.TypedVolume.{are_bytes}
use Rattle.volume_spec.specs.Walk.{is_named_path}

-- a number of so many bytes
abbrev pub is_number : ℕ → ℕ → Bool
is_number n x = nat_lt x (256 ^ n)

-- a number of so many bytes, where there is one
abbrev pub is_number_or_none : ℕ → Option ℕ → Bool
is_number_or_none n None = true
is_number_or_none n (Some x) = is_number n x

-- a signed number from minus this one on, and below it
abbrev pub is_signed : ℕ → ℤ → Bool
is_signed bound (pos n) = nat_lt n bound
is_signed bound (negsuc n) = nat_lt n bound

abbrev pub is_lawful_value : (w : Word) → Value w → Bool
is_lawful_value (Literal n) x = true
is_lawful_value Pad x = true
is_lawful_value LastPad x = true
is_lawful_value Even x = true
is_lawful_value (Number n) x = is_number n x
is_lawful_value (Within n low high) x = is_number n x
is_lawful_value (Count n) x = is_number n x
is_lawful_value (Optional there n) x = is_number_or_none n x
is_lawful_value Signed32 x = is_signed 2147483648 x
is_lawful_value Signed64 x = is_signed 9223372036854775808 x
is_lawful_value (Plain n) x = (length x == n) && are_bytes x
is_lawful_value (Counted n) x = are_bytes x
is_lawful_value Pathname x = is_named_path x
is_lawful_value Tail x = are_bytes x

abbrev pub is_lawful_field : RequestField → Bool
is_lawful_field f = is_lawful_value f.word f.value

-- what comes with a block is bytes
abbrev pub is_lawful_piece : Enclosed → Bool
is_lawful_piece Nothing = true
is_lawful_piece (Piece size piece) = are_bytes piece

-- the bytes that come with a block, where some do
abbrev pub are_bytes_or_none : Option (List ℕ) → Bool
are_bytes_or_none None = true
are_bytes_or_none (Some bytes) = are_bytes bytes

unfoldable pub is_lawful_call : Call → Bool
is_lawful_call call = list_all is_lawful_field (layout_of call).fields && is_lawful_piece (layout_of call).enclosed
