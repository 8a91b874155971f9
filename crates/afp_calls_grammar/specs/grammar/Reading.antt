-- How the words of a request are read, one after the other: the same as their spelling, as a function.
use Rattle.std.specs.Prelude.{ℕ, ◌+◌, ◌%◌, ◌==◌, ◌&&◌, Bool, true, false, List, [], ◌∷◌, length, take, drop, Option, Some, None, is_none, nat_le, option_and_then, if◌then◌else◌}
use Rattle.std.specs.List.{list_any}
use Rattle.std.specs.Int.{w32, w64, cast_signed}
use Rattle.byteorder.specs.Endian.{big_number}
use Rattle.afp_names.specs.Path.{path_fault, path_steps}
use Rattle.afp_calls_grammar.specs.declared.grammar.call.Call.{Call}
use Rattle.afp_calls_grammar.specs.grammar.Words.{Word, Literal, Pad, LastPad, Even, Number, Within, Count, Optional, Signed32, Signed64, Plain, Counted, Pathname, Tail, Value, hint_size, count_size}

-- a word's value, and how many bytes it has
pub record Taken (w : Word) : Type 0 where
  pub value : Value w
  pub size : ℕ

-- behind a path's type: the count of its bytes; the size of hint, count and bytes together; the bytes
abbrev pub path_count : ℕ → List ℕ → ℕ
path_count kind bytes = big_number (count_size kind) (drop (hint_size kind) bytes)

abbrev pub path_size : ℕ → List ℕ → ℕ
path_size kind bytes = hint_size kind + count_size kind + path_count kind bytes

abbrev pub path_text : ℕ → List ℕ → List ℕ
path_text kind bytes = take (path_count kind bytes) (drop (hint_size kind + count_size kind) bytes)

-- the word that stands at the front of the bytes, which begin at this place of their block
unfoldable pub next : (w : Word) → ℕ → List ℕ → Option (Taken w)
next (Literal n) place [] = None
next (Literal n) place (b ∷ bytes) = if b == n then Some (record { value = tt; size = 1 }) else None
next Pad place bytes = if nat_le 1 (length bytes) then Some (record { value = tt; size = 1 }) else None
next LastPad place [] = Some (record { value = tt; size = 0 })
next LastPad place (b ∷ bytes) = Some (record { value = tt; size = 1 })
next Even place bytes = if nat_le (place % 2) (length bytes) then Some (record { value = tt; size = place % 2 }) else None
next (Number n) place bytes = if nat_le n (length bytes) then Some (record { value = big_number n bytes; size = n }) else None
next (Within n low high) place bytes = if nat_le n (length bytes) && (nat_le low (big_number n bytes) && nat_le (big_number n bytes) high) then Some (record { value = big_number n bytes; size = n }) else None
next (Count n) place bytes = if nat_le n (length bytes) then Some (record { value = big_number n bytes; size = n }) else None
next (Optional true n) place bytes = if nat_le n (length bytes) then Some (record { value = Some (big_number n bytes); size = n }) else None
next (Optional false n) place bytes = Some (record { value = None; size = 0 })
next Signed32 place bytes = if nat_le 4 (length bytes) then Some (record { value = cast_signed w32 (big_number 4 bytes); size = 4 }) else None
next Signed64 place bytes = if nat_le 8 (length bytes) then Some (record { value = cast_signed w64 (big_number 8 bytes); size = 8 }) else None
next (Plain n) place bytes = if nat_le n (length bytes) then Some (record { value = take n bytes; size = n }) else None
next (Counted n) place bytes = if nat_le (n + big_number n bytes) (length bytes) then Some (record { value = take (big_number n bytes) (drop n bytes); size = n + big_number n bytes }) else None
next Pathname place [] = None
next Pathname place (kind ∷ bytes) = if nat_le (path_size kind bytes) (length bytes) && is_none (path_fault kind (path_text kind bytes)) then Some (record { value = record { kind = kind; steps = path_steps kind (path_text kind bytes) }; size = 1 + path_size kind bytes }) else None
next Tail place bytes = Some (record { value = bytes; size = length bytes })

-- What is read from a place of a block on: a word, and what is read behind it by its value; or nothing more. Then nothing may be enclosed, and this is the request; or at least so many bytes must be, and these first ones give the request.
pub data Reading : Type 0 where
  Then : (w : Word) → (Value w → Reading) → Reading
  Alone : Call → Reading
  With : ℕ → (List ℕ → Call) → Reading

-- the request that the reading finds in the bytes, which begin at this place, and in what is enclosed
unfoldable pub read : Reading → ℕ → Option (List ℕ) → List ℕ → Option Call
read (Then w more) place enclosed bytes = option_and_then (λ t. read (more t.value) (place + t.size) enclosed (drop t.size bytes)) (next w place bytes)
read (Alone call) place None bytes = Some call
read (Alone call) place (Some piece) bytes = None
read (With size make) place None bytes = None
read (With size make) place (Some piece) bytes = if nat_le size (length piece) then Some (make (take size piece)) else None

-- words, one after the other, and what is read behind them by their values
abbrev pub Maker : List Word → Type 0
Maker [] = Reading
Maker (w ∷ ws) = Value w → Maker ws

abbrev pub words : (ws : List Word) → Maker ws → Reading
words [] make = make
words (w ∷ ws) make = Then w (λ x. words ws (make x))

-- a command, and what is read behind its number
pub record Reader : Type 0 where
  pub number : ℕ
  pub reading : Reading

abbrev pub reader : ℕ → (ws : List Word) → Maker ws → Reader
reader n ws make = record { number = n; reading = words ws make }

-- whether one of the readers has this number
abbrev pub has_reader : List Reader → ℕ → Bool
has_reader rs n = list_any (λ r. r.number == n) rs

-- the request of the first of the readers with this number
abbrev pub read_by : List Reader → ℕ → ℕ → Option (List ℕ) → List ℕ → Option Call
read_by [] n place enclosed bytes = None
read_by (r ∷ rs) n place enclosed bytes = if r.number == n then read r.reading place enclosed bytes else read_by rs n place enclosed bytes
