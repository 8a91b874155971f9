-- the elements of a path, one further
use Rattle.std.proofs.Common.{◌≡◌, ℕ, ◌≤◌, Bool, true, false, ◌&&◌, List, length, refl, sym, ap, ◌∙◌, arith, All, nat_lt, ltb-true, ltb-false}
use Rattle.std.specs.List.{list_all, slice_split, before_first, after_first, position_or_len}
use Rattle.std.proofs.lemmas.List.Sums.{fails_before_first}
use Rattle.std.proofs.lemmas.List.Splits.{slice_split_first, slice_split_none}
use Rattle.client_script_lines.specs.lines.Words.{is_element, is_slash}

none-pass : (p : ℕ → Bool) (xs : List ℕ) → length xs ≤ position_or_len p xs → All (λ x. p x ≡ false) xs
none-pass p xs h = λ k d below. fails_before_first p xs k d (omega (arith, h, below))

and-true : (b : Bool) → (b && true) ≡ b
and-true true = refl
and-true false = refl

pub last_element : (text : List ℕ) → nat_lt (position_or_len is_slash text) (length text) ≡ false → list_all is_element (slice_split is_slash text) ≡ is_element text
last_element text e = ap (λ (ls : List (List ℕ)). list_all is_element ls) (slice_split_none is_slash text (none-pass is_slash text (ltb-false _ _ e))) ∙ and-true (is_element text)

pub next_element : (text : List ℕ) → nat_lt (position_or_len is_slash text) (length text) ≡ true
    → list_all is_element (slice_split is_slash text) ≡ (is_element (before_first is_slash text) && list_all is_element (slice_split is_slash (after_first is_slash text)))
next_element text e = ap (λ (ls : List (List ℕ)). list_all is_element ls) (slice_split_first is_slash text 0 (ltb-true _ _ e))

-- an element that is none ends a path, and one that is some leaves the rest
abbrev pub elements_of : List ℕ → Bool
elements_of text = list_all is_element (slice_split is_slash text)

pub bad_element : (text left element : List ℕ) → elements_of text ≡ elements_of left → nat_lt (position_or_len is_slash left) (length left) ≡ true → element ≡ before_first is_slash left → is_element element ≡ false
    → elements_of text ≡ false
bad_element text left element e more is bad =
    e ∙ (next_element left more ∙ ap (λ (b : Bool). b && elements_of (after_first is_slash left)) (ap (λ (x : List ℕ). is_element x) (sym is) ∙ bad))

pub good_element : (text left element rest : List ℕ) → elements_of text ≡ elements_of left → nat_lt (position_or_len is_slash left) (length left) ≡ true → element ≡ before_first is_slash left
    → rest ≡ after_first is_slash left → is_element element ≡ true → elements_of text ≡ elements_of rest
good_element text left element rest e more is behind good =
    e ∙ (next_element left more ∙ (ap (λ (b : Bool). b && elements_of (after_first is_slash left)) (ap (λ (x : List ℕ). is_element x) (sym is) ∙ good) ∙ ap (λ (x : List ℕ). elements_of x) (sym behind)))
