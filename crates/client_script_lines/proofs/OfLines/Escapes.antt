-- what words stand for, one byte further
use Rattle.std.proofs.Common.{◌≡◌, ℕ, ◌<◌, ◌≤◌, Bool, true, false, List, [], ◌∷◌, ◌++◌, length, drop, slice_index, refl, sym, ap, ◌∙◌, arith, append_assoc, append-nil, option_map, Option, Some, None}
use Rattle.std.specs.Prelude.{if◌then◌else◌}
use Rattle.std.specs.Result.{result_ok}
use Rattle.hex.specs.Hex.{decode_sized}
use Rattle.client_script_lines.specs.lines.Words.{plain, onto, onto_escaped, is_percent}

pub literal : (word : List ℕ) → 0 < length word → is_percent (slice_index word 0) ≡ false → plain word ≡ onto (slice_index word 0) (plain (drop 1 word))
unfolding plain
literal [] h e = absurd (omega (arith, h))
literal (b ∷ []) h e = ap (λ (x : Bool). if x then None else onto b (plain [])) e
literal (b ∷ c ∷ []) h e = ap (λ (x : Bool). if x then None else onto b (plain (c ∷ []))) e
literal (b ∷ c ∷ d ∷ word) h e = ap (λ (x : Bool). if x then onto_escaped (result_ok (decode_sized (c ∷ d ∷ []) 1)) (plain word) else onto b (plain (c ∷ d ∷ word))) e

pub short_escape : (word : List ℕ) → 0 < length word → length word < 3 → is_percent (slice_index word 0) ≡ true → plain word ≡ None
unfolding plain
short_escape [] h s e = absurd (omega (arith, h))
short_escape (b ∷ []) h s e = ap (λ (x : Bool). if x then None else onto b (plain [])) e
short_escape (b ∷ c ∷ []) h s e = ap (λ (x : Bool). if x then None else onto b (plain (c ∷ []))) e
short_escape (b ∷ c ∷ d ∷ word) h s e = absurd (omega (arith, s))

pub long_escape : (word : List ℕ) → 3 ≤ length word → is_percent (slice_index word 0) ≡ true
    → plain word ≡ onto_escaped (result_ok (decode_sized (slice_index word 1 ∷ slice_index word 2 ∷ []) 1)) (plain (drop 3 word))
unfolding plain
long_escape [] h e = absurd (omega (arith, h))
long_escape (b ∷ []) h e = absurd (omega (arith, h))
long_escape (b ∷ c ∷ []) h e = absurd (omega (arith, h))
long_escape (b ∷ c ∷ d ∷ word) h e = ap (λ (x : Bool). if x then onto_escaped (result_ok (decode_sized (c ∷ d ∷ []) 1)) (plain word) else onto b (plain (c ∷ d ∷ word))) e

-- two digits that spell no byte
pub none_escaped : (o : Option (List ℕ)) (rest : Option (List ℕ)) → None ≡ o → onto_escaped o rest ≡ None
none_escaped o rest e = ap (λ (x : Option (List ℕ)). onto_escaped x rest) (sym e)

pub some_escaped : (o : Option (List ℕ)) (byte : List ℕ) (rest : Option (List ℕ)) → Some byte ≡ o → length byte ≡ 1 → onto_escaped o rest ≡ onto (slice_index byte 0) rest
some_escaped o [] rest e n = absurd (omega (arith, n))
some_escaped o (b ∷ []) rest e n = ap (λ (x : Option (List ℕ)). onto_escaped x rest) (sym e)
some_escaped o (b ∷ c ∷ more) rest e n = absurd (omega (arith, n))

joined : (bytes : List ℕ) (byte : ℕ) (o : Option (List ℕ)) → option_map (λ (left : List ℕ). bytes ++ left) (onto byte o) ≡ option_map (λ (left : List ℕ). (bytes ++ byte ∷ []) ++ left) o
joined bytes byte None = refl
joined bytes byte (Some left) = ap Some (sym (append_assoc bytes (byte ∷ []) left))

-- one byte more was read
pub read_on : (word rest more bytes : List ℕ) (byte : ℕ) → plain word ≡ option_map (λ (left : List ℕ). bytes ++ left) (plain rest) → plain rest ≡ onto byte (plain more)
    → plain word ≡ option_map (λ (left : List ℕ). (bytes ++ byte ∷ []) ++ left) (plain more)
read_on word rest more bytes byte e f = e ∙ ap (λ (o : Option (List ℕ)). option_map (λ (left : List ℕ). bytes ++ left) o) f ∙ joined bytes byte (plain more)

-- none is left
pub read_all : (word rest bytes : List ℕ) → plain word ≡ option_map (λ (left : List ℕ). bytes ++ left) (plain rest) → length rest ≡ 0 → plain word ≡ Some bytes
unfolding plain
read_all word [] bytes e n = e ∙ ap Some (append-nil bytes)
read_all word (b ∷ rest) bytes e n = absurd (omega (arith, n))

pub read_none : (word rest bytes : List ℕ) → plain word ≡ option_map (λ (left : List ℕ). bytes ++ left) (plain rest) → plain rest ≡ None → plain word ≡ None
read_none word rest bytes e n = e ∙ ap (λ (o : Option (List ℕ)). option_map (λ (left : List ℕ). bytes ++ left) o) n

same : (o : Option (List ℕ)) → o ≡ option_map (λ (left : List ℕ). [] ++ left) o
same None = refl
same (Some left) = refl

pub read_nothing : (word : List ℕ) → plain word ≡ option_map (λ (left : List ℕ). [] ++ left) (plain word)
read_nothing word = same (plain word)
