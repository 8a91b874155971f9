-- bytes that a source gave, when n more of them are given
use Rattle.std.proofs.Common.{◌≡◌, ℕ, ◌+◌, List, ◌++◌, take, drop, sym, ap, ◌∙◌}
use Rattle.std.proofs.Math.Seq.{take-add}
use Rattle.std.proofs.lemmas.List.{take-append-drop, drop-drop}

pub given_more : (bytes : List ℕ) (place n : ℕ) → take (place + n) bytes ≡ take place bytes ++ take n (drop place bytes)
given_more bytes place n = take-add place n bytes

pub coming_less : (bytes : List ℕ) (place n : ℕ) → drop place bytes ≡ take n (drop place bytes) ++ drop (place + n) bytes
coming_less bytes place n = sym (take-append-drop n (drop place bytes)) ∙ ap (λ (l : List ℕ). take n (drop place bytes) ++ l) (drop-drop n place bytes)
