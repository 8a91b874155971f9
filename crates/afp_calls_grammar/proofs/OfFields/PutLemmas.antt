-- Fields that are put one after the other.
use Rattle.std.proofs.Common.{◌≡◌, ℕ, ◌+◌, ◌-◌, List, [], ◌∷◌, ◌++◌, length, sym, ◌∙◌, ap, arith}
use Rattle.std.proofs.lemmas.List.{append-nil, append_assoc, length-append}
use Rattle.afp_calls_grammar.specs.grammar.Words.{RequestField, canonical, canonical_fields}
use Rattle.afp_calls_grammar.specs.fields.Putting.{put_on}

-- from a place of the block on
put_from : (start place : ℕ) (fs : List RequestField) (bytes : List ℕ) → length bytes ≡ start + place → put_on start fs bytes ≡ bytes ++ canonical_fields place fs
put_from start place [] bytes at = sym (append-nil bytes)
put_from start place (f ∷ fs) bytes at =
    let here : length bytes - start ≡ place = omega (arith, at) in
    let first = canonical f.word f.value place in
    let behind : length (bytes ++ first) ≡ start + (place + length first) = omega (arith, length-append bytes first, at) in
    ap (λ (n : ℕ). put_on start fs (bytes ++ canonical f.word f.value n)) here ∙ put_from start (place + length first) fs (bytes ++ first) behind ∙ append_assoc bytes first _

pub put_together : (fs : List RequestField) (bytes : List ℕ) → put_on (length bytes) fs bytes ≡ bytes ++ canonical_fields 0 fs
put_together fs bytes = put_from (length bytes) 0 fs bytes (omega arith)
