-- The names of a path, one further.
use Rattle.std.proofs.Common.{◌≡◌, ℕ, ◌≤◌, Bool, true, false, List, [], ◌∷◌, ◌++◌, length, refl, sym, ap, ◌∙◌, arith, All, nat_lt, ltb-true, ltb-false, append_assoc}
use Rattle.std.proofs.lemmas.List.{append-nil}
use Rattle.std.specs.List.{before_first, after_first, position_or_len}
use Rattle.std.proofs.lemmas.List.Sums.{fails_before_first}
use Rattle.std.proofs.lemmas.List.Splits.{slice_split_first, slice_split_none}
use Rattle.client_script_lines.specs.lines.Words.{is_slash}
use Rattle.client_script_run.specs.line.Values.{but_last, ended, last_of, names_in, text_of}

none-pass : (p : ℕ → Bool) (xs : List ℕ) → length xs ≤ position_or_len p xs → All (λ x. p x ≡ false) xs
none-pass p xs h = λ k d below. fails_before_first p xs k d (omega (arith, h, below))

-- a word without a slash is one name
one-name : (word : List ℕ) → nat_lt (position_or_len is_slash word) (length word) ≡ false → names_in word ≡ word ∷ []
one-name word e = slice_split_none is_slash word (none-pass is_slash word (ltb-false _ _ e))

more-names : (word : List ℕ) → nat_lt (position_or_len is_slash word) (length word) ≡ true → names_in word ≡ before_first is_slash word ∷ names_in (after_first is_slash word)
more-names word e = slice_split_first is_slash word 0 (ltb-true _ _ e)

-- there is a name
some-name-if : (word : List ℕ) (b : Bool) → nat_lt (position_or_len is_slash word) (length word) ≡ b → (name : List ℕ) × (names : List (List ℕ)) × (names_in word ≡ name ∷ names)
some-name-if word true e = (before_first is_slash word, names_in (after_first is_slash word), more-names word e)
some-name-if word false e = (word, [], one-name word e)

some-name : (word : List ℕ) → (name : List ℕ) × (names : List (List ℕ)) × (names_in word ≡ name ∷ names)
some-name word = some-name-if word (nat_lt (position_or_len is_slash word) (length word)) refl

but-last-more : (name : List ℕ) (names : List (List ℕ)) (next : List ℕ) (more : List (List ℕ)) → names ≡ next ∷ more → but_last (name ∷ names) ≡ name ∷ but_last names
but-last-more name names next more e = ap (λ (ns : List (List ℕ)). but_last (name ∷ ns)) e ∙ sym (ap (λ (ns : List (List ℕ)). name ∷ but_last ns) e)

last-of-more : (name : List ℕ) (names : List (List ℕ)) (next : List ℕ) (more : List (List ℕ)) → names ≡ next ∷ more → last_of (name ∷ names) ≡ last_of names
last-of-more name names next more e = ap (λ (ns : List (List ℕ)). last_of (name ∷ ns)) e ∙ sym (ap (λ (ns : List (List ℕ)). last_of ns) e)

-- the directory's text and the last name, where a name is the last
pub last-directory : (word : List ℕ) → nat_lt (position_or_len is_slash word) (length word) ≡ false → ended (but_last (names_in word)) ≡ []
last-directory word e = ap (λ (ns : List (List ℕ)). ended (but_last ns)) (one-name word e)

pub last-name : (word : List ℕ) → nat_lt (position_or_len is_slash word) (length word) ≡ false → last_of (names_in word) ≡ word
last-name word e = ap (λ (ns : List (List ℕ)). last_of ns) (one-name word e)

-- and where one more is before it
pub next-directory : (word : List ℕ) → nat_lt (position_or_len is_slash word) (length word) ≡ true
    → ended (but_last (names_in word)) ≡ text_of (before_first is_slash word) ++ 0 ∷ [] ++ ended (but_last (names_in (after_first is_slash word)))
next-directory word e =
    let some = some-name (after_first is_slash word) in
    ap (λ (ns : List (List ℕ)). ended (but_last ns)) (more-names word e)
    ∙ ap (λ (ns : List (List ℕ)). ended ns) (but-last-more (before_first is_slash word) (names_in (after_first is_slash word)) some.0 some.1 some.2)

pub next-name : (word : List ℕ) → nat_lt (position_or_len is_slash word) (length word) ≡ true → last_of (names_in word) ≡ last_of (names_in (after_first is_slash word))
next-name word e =
    let some = some-name (after_first is_slash word) in
    ap (λ (ns : List (List ℕ)). last_of ns) (more-names word e) ∙ last-of-more (before_first is_slash word) (names_in (after_first is_slash word)) some.0 some.1 some.2

-- what was appended, and what is left
abbrev pub rest_text : List ℕ → List ℕ
rest_text word = ended (but_last (names_in word))

pub all-put : (out now word left : List ℕ) → now ++ rest_text left ≡ out ++ rest_text word → nat_lt (position_or_len is_slash left) (length left) ≡ false → now ≡ out ++ rest_text word
all-put out now word left e none = sym (append-nil now) ∙ sym (ap (λ (t : List ℕ). now ++ t) (last-directory left none)) ∙ e

regroup : (a b c d : List ℕ) → ((a ++ b) ++ c) ++ d ≡ a ++ ((b ++ c) ++ d)
regroup a b c d = append_assoc (a ++ b) c d ∙ append_assoc a b (c ++ d) ∙ ap (λ (x : List ℕ). a ++ x) (sym (append_assoc b c d))

pub more-put : (out now next word left name rest : List ℕ) → now ++ rest_text left ≡ out ++ rest_text word → nat_lt (position_or_len is_slash left) (length left) ≡ true
    → name ≡ before_first is_slash left → rest ≡ after_first is_slash left → next ≡ (now ++ text_of name) ++ 0 ∷ [] → next ++ rest_text rest ≡ out ++ rest_text word
more-put out now next word left name rest e some is behind put =
    ap (λ (t : List ℕ). t ++ rest_text rest) put
    ∙ ap (λ (r : List ℕ). ((now ++ text_of name) ++ 0 ∷ []) ++ rest_text r) behind
    ∙ ap (λ (n : List ℕ). ((now ++ text_of n) ++ 0 ∷ []) ++ rest_text (after_first is_slash left)) is
    ∙ regroup now (text_of (before_first is_slash left)) (0 ∷ []) (rest_text (after_first is_slash left))
    ∙ sym (ap (λ (t : List ℕ). now ++ t) (next-directory left some))
    ∙ e
