-- How many bytes a request's fields have at most.
use Rattle.std.specs.Prelude.{ℕ, ◌+◌, List, [], ◌∷◌, length}
use Rattle.afp_names.specs.Path.{canonical_path}
use Rattle.afp_calls_grammar.specs.grammar.Words.{RequestField, Value, Word, Literal, Pad, LastPad, Even, Number, Within, Count, Optional, Signed32, Signed64, Plain, Counted, Pathname, Tail}

abbrev pub word_size : (w : Word) → Value w → ℕ
word_size (Literal n) x = 1
word_size Pad x = 1
word_size LastPad x = 1
word_size Even x = 1
word_size (Number n) x = n
word_size (Within n low high) x = n
word_size (Count n) x = n
word_size (Optional there n) x = n
word_size Signed32 x = 4
word_size Signed64 x = 8
word_size (Plain n) x = length x
word_size (Counted n) x = n + length x
word_size Pathname x = 7 + length (canonical_path x)
word_size Tail x = length x

abbrev pub fields_size : List RequestField → ℕ
fields_size [] = 0
fields_size (f ∷ fs) = word_size f.word f.value + fields_size fs
