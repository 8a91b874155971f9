-- How bytes split into runs, from the front on.
use Rattle.std.proofs.Common.{◌≡◌, ℕ, suc, zero, ◌<◌, ◌≤◌, ◌+◌, ◌-◌, ◌==◌, ◌||◌, true, false, not, nat_le, is_none, List, [], ◌∷◌, ◌++◌, length, take, drop, replicate, get_or, Option, Some, None, refl, sym, ◌∙◌, ap, arith}
use Rattle.std.specs.List.{list_any, position_or_len}
use Rattle.std.proofs.lemmas.Bool.{ne_eqb, eq-eqb}
use Rattle.std.proofs.lemmas.List.{append_assoc, append-nil, drop-drop, drop_all, take_all, length-drop}
use Rattle.std.proofs.lemmas.List.Sums.{position_or_len_is, prefix_len-le-length}
use Rattle.afp_names.specs.LongName.{longest_long_name}
use Rattle.afp_names.specs.declared.path.Step.{Step}
use Rattle.afp_names.specs.declared.path.Step.TheVariants.{Up, Down}
use Rattle.afp_names.specs.declared.name.NameFault.{NameFault}
use Rattle.afp_names.specs.declared.name.NameFault.TheVariants.{Memory}
use Rattle.afp_names.specs.Name.{name_fault}
use Rattle.afp_names.specs.MacRoman.{mac_roman_text}
use Rattle.afp_names.specs.Path.{Run, ZeroRun, ElementRun, onto_runs, runs, is_element, element_name, path_fault, path_steps, has_bad_element}
use Rattle.afp_names.specs.declared.path.PathFault.TheVariants.{Kind, Element}

one-add : (n : ℕ) → 1 + n ≡ suc n
one-add n = omega arith

-- how many zero bytes, and how many others, the bytes begin with
abbrev pub zeros_before : List ℕ → ℕ
zeros_before bytes = position_or_len (λ byte. not (byte == 0)) bytes

abbrev pub element_before : List ℕ → ℕ
element_before bytes = position_or_len (λ byte. byte == 0) bytes

suc_not_zero : (b : ℕ) → (suc b == 0) ≡ false
suc_not_zero b = ne_eqb (suc b) 0 (λ e. cc)

zeros_before-other : (b : ℕ) (bytes : List ℕ) → zeros_before (suc b ∷ bytes) ≡ 0
zeros_before-other b bytes = rw (suc_not_zero b) refl

element_before-other : (b : ℕ) (bytes : List ℕ) → element_before (suc b ∷ bytes) ≡ 1 + element_before bytes
element_before-other b bytes = rw (suc_not_zero b) refl

-- the runs begin with no run of zero bytes, or with no element
abbrev pub BeginsNoZeroRun : List Run → Type 0
BeginsNoZeroRun [] = Unit {0}
BeginsNoZeroRun (ZeroRun k ∷ rest) = ⊥
BeginsNoZeroRun (ElementRun bytes ∷ rest) = Unit {0}

abbrev pub BeginsNoElement : List Run → Type 0
BeginsNoElement [] = Unit {0}
BeginsNoElement (ZeroRun k ∷ rest) = Unit {0}
BeginsNoElement (ElementRun bytes ∷ rest) = ⊥

pub onto-element : (b : ℕ) (rs : List Run) → BeginsNoZeroRun (onto_runs (suc b) rs)
onto-element b [] = tt
onto-element b (ZeroRun k ∷ rest) = tt
onto-element b (ElementRun bytes ∷ rest) = tt

pub onto-zero : (rs : List Run) → BeginsNoElement (onto_runs 0 rs)
onto-zero [] = tt
onto-zero (ZeroRun k ∷ rest) = tt
onto-zero (ElementRun bytes ∷ rest) = tt

no_zero_first : (bytes : List ℕ) → zeros_before bytes ≡ 0 → BeginsNoZeroRun (runs bytes)
unfolding runs
no_zero_first [] e = tt
no_zero_first (zero ∷ bytes) e = absurd (omega arith)
no_zero_first (suc b ∷ bytes) e = onto-element b (runs bytes)

no_element_first : (bytes : List ℕ) → element_before bytes ≡ 0 → BeginsNoElement (runs bytes)
unfolding runs
no_element_first [] e = tt
no_element_first (zero ∷ bytes) e = onto-zero (runs bytes)
no_element_first (suc b ∷ bytes) e = absurd (omega (arith, element_before-other b bytes))

pub zero_onto : (rs : List Run) → BeginsNoZeroRun rs → onto_runs 0 rs ≡ ZeroRun 1 ∷ rs
zero_onto [] h = refl
zero_onto (ZeroRun k ∷ rest) h = absurd h
zero_onto (ElementRun bytes ∷ rest) h = refl

pub byte_onto : (b : ℕ) (rs : List Run) → BeginsNoElement rs → onto_runs (suc b) rs ≡ ElementRun (suc b ∷ []) ∷ rs
byte_onto b [] h = refl
byte_onto b (ZeroRun k ∷ rest) h = refl
byte_onto b (ElementRun bytes ∷ rest) h = absurd h

runs-zeros_by : (n : ℕ) (bytes : List ℕ) → zeros_before bytes ≡ n → runs (0 ∷ bytes) ≡ ZeroRun (suc n) ∷ runs (drop n bytes)
unfolding runs
runs-zeros_by zero bytes e = zero_onto (runs bytes) (no_zero_first bytes e)
runs-zeros_by (suc n) [] e = absurd (omega arith)
runs-zeros_by (suc n) (zero ∷ bytes) e = rw (runs-zeros_by n bytes (omega arith)) refl
runs-zeros_by (suc n) (suc b ∷ bytes) e = absurd (omega (arith, zeros_before-other b bytes))

-- bytes that begin with zero bytes: the first run is these
pub runs-zeros : (bytes : List ℕ) → 0 < zeros_before bytes → runs bytes ≡ ZeroRun (zeros_before bytes) ∷ runs (drop (zeros_before bytes) bytes)
runs-zeros [] h = absurd (omega arith)
runs-zeros (zero ∷ bytes) h = rw one-add (runs-zeros_by (zeros_before bytes) bytes refl)
runs-zeros (suc b ∷ bytes) h = absurd (omega (arith, zeros_before-other b bytes))

runs-element_by : (n b : ℕ) (bytes : List ℕ) → element_before bytes ≡ n → runs (suc b ∷ bytes) ≡ ElementRun (suc b ∷ take n bytes) ∷ runs (drop n bytes)
unfolding runs
runs-element_by zero b bytes e = byte_onto b (runs bytes) (no_element_first bytes e)
runs-element_by (suc n) b [] e = absurd (omega arith)
runs-element_by (suc n) b (zero ∷ bytes) e = absurd (omega arith)
runs-element_by (suc n) b (suc d ∷ bytes) e = rw (runs-element_by n d bytes (omega (arith, element_before-other d bytes))) refl

-- bytes that begin with another byte: the first run is the element before the first zero byte
pub runs-element : (bytes : List ℕ) → 0 < length bytes → zeros_before bytes ≡ 0 → runs bytes ≡ ElementRun (take (element_before bytes) bytes) ∷ runs (drop (element_before bytes) bytes)
runs-element [] some h = absurd (omega arith)
runs-element (zero ∷ bytes) some h = absurd (omega arith)
runs-element (suc b ∷ bytes) some h = rw (element_before-other b bytes, one-add) (runs-element_by (element_before bytes) b bytes refl)

pub element_no_zero : (bytes : List ℕ) → list_any (λ byte. byte == 0) (take (element_before bytes) bytes) ≡ false
element_no_zero [] = refl
element_no_zero (zero ∷ bytes) = refl
element_no_zero (suc b ∷ bytes) = rw (element_before-other b bytes, one-add, suc_not_zero b) (element_no_zero bytes)

-- where a search for the end of a run stops
pub zeros_before-stop : (bytes : List ℕ) (i : ℕ) → i ≤ length bytes → ((k : ℕ) → k < i → get_or bytes k 0 ≡ 0) → (i < length bytes → get_or bytes i 0 ≡ 0 → ⊥) → i ≡ zeros_before bytes
zeros_before-stop bytes i within before at =
    sym (position_or_len_is (λ byte. not (byte == 0)) bytes i 0 within (λ k below. rw (eq-eqb (get_or bytes k 0) 0 (before k below)) refl) (λ more. rw (ne_eqb (get_or bytes i 0) 0 (at more)) refl))

pub element_before-stop : (bytes : List ℕ) (i : ℕ) → i ≤ length bytes → ((k : ℕ) → k < i → get_or bytes k 0 ≡ 0 → ⊥) → (i < length bytes → get_or bytes i 0 ≡ 0) → i ≡ element_before bytes
element_before-stop bytes i within before at =
    sym (position_or_len_is (λ byte. byte == 0) bytes i 0 within (λ k below. ne_eqb (get_or bytes k 0) 0 (before k below)) (λ more. eq-eqb (get_or bytes i 0) 0 (at more)))

pub zeros_before-le : (bytes : List ℕ) → zeros_before bytes ≤ length bytes
zeros_before-le bytes = prefix_len-le-length (λ byte. not (not (byte == 0))) bytes

pub element_before-le : (bytes : List ℕ) → element_before bytes ≤ length bytes
element_before-le bytes = prefix_len-le-length (λ byte. not (byte == 0)) bytes

-- what is read of bytes that begin with zero bytes
pub path_steps-zeros : (kind : ℕ) (bytes : List ℕ) → 0 < zeros_before bytes → path_steps kind bytes ≡ replicate (zeros_before bytes - 1) Up ++ path_steps kind (drop (zeros_before bytes) bytes)
unfolding path_steps
path_steps-zeros kind bytes h = rw (runs-zeros bytes h) refl

pub has_bad-zeros : (kind : ℕ) (bytes : List ℕ) → 0 < zeros_before bytes → has_bad_element kind bytes ≡ has_bad_element kind (drop (zeros_before bytes) bytes)
unfolding has_bad_element
has_bad-zeros kind bytes h = rw (runs-zeros bytes h) refl

-- what is read of bytes that begin with an element
pub path_steps-element : (kind : ℕ) (bytes : List ℕ) → 0 < length bytes → zeros_before bytes ≡ 0 → path_steps kind bytes ≡ Down (element_name kind (take (element_before bytes) bytes)) ∷ path_steps kind (drop (element_before bytes) bytes)
unfolding path_steps
path_steps-element kind bytes some h = rw (runs-element bytes some h) refl

pub has_bad-element : (kind : ℕ) (bytes : List ℕ) → 0 < length bytes → zeros_before bytes ≡ 0 → has_bad_element kind bytes ≡ (not (is_element kind (take (element_before bytes) bytes)) || has_bad_element kind (drop (element_before bytes) bytes))
unfolding has_bad_element
has_bad-element kind bytes some h = rw (runs-element bytes some h) refl

pub path_steps-nil : (kind : ℕ) → path_steps kind [] ≡ []
unfolding path_steps runs
path_steps-nil kind = refl

pub has_bad-nil : (kind : ℕ) → has_bad_element kind [] ≡ false
unfolding has_bad_element runs
has_bad-nil kind = refl

-- what is left of the bytes behind a place, as a slice
abbrev pub rest_at : List ℕ → ℕ → List ℕ
rest_at bytes place = take (length bytes - place) (drop place bytes)

pub rest_is : (bytes : List ℕ) (place : ℕ) → rest_at bytes place ≡ drop place bytes
rest_is bytes place = take_all (length bytes - place) (drop place bytes) (omega (arith, length-drop place bytes))

-- the steps of a loop over the runs: what was read so far, and what is to come, are all
pub read_zeros : (kind place z : ℕ) (bytes : List ℕ) (old new : List Step) → z ≡ zeros_before (rest_at bytes place) → 0 < z → new ≡ old ++ replicate (z - 1) Up → old ++ path_steps kind (drop place bytes) ≡ path_steps kind bytes → new ++ path_steps kind (drop (place + z) bytes) ≡ path_steps kind bytes
read_zeros kind place z bytes old new found more en all =
    let ez : z ≡ zeros_before (drop place bytes) = rw (rest_is bytes place) at found in
    let some : 0 < zeros_before (drop place bytes) = omega arith in
    let next : path_steps kind (drop place bytes) ≡ replicate (z - 1) Up ++ path_steps kind (drop z (drop place bytes)) = rw ez (path_steps-zeros kind (drop place bytes) some) in
    rw (en, append_assoc, ← drop-drop z place bytes, ← next) all

pub bad_zeros : (kind place z : ℕ) (bytes : List ℕ) → z ≡ zeros_before (rest_at bytes place) → 0 < z → has_bad_element kind (drop place bytes) ≡ has_bad_element kind bytes → has_bad_element kind (drop (place + z) bytes) ≡ has_bad_element kind bytes
bad_zeros kind place z bytes found more all =
    let ez : z ≡ zeros_before (drop place bytes) = rw (rest_is bytes place) at found in
    let some : 0 < zeros_before (drop place bytes) = omega arith in
    let next : has_bad_element kind (drop place bytes) ≡ has_bad_element kind (drop z (drop place bytes)) = rw ez (has_bad-zeros kind (drop place bytes) some) in
    rw (← drop-drop z place bytes) (sym next ∙ all)

pub read_element : (kind place n : ℕ) (bytes : List ℕ) (name : List ℕ) (old new : List Step) → place < length bytes → zeros_before (rest_at bytes place) ≡ 0 → n ≡ element_before (rest_at bytes place) → name ≡ element_name kind (take n (rest_at bytes place)) → new ≡ old ++ Down name ∷ [] → old ++ path_steps kind (drop place bytes) ≡ path_steps kind bytes → new ++ path_steps kind (drop (place + n) bytes) ≡ path_steps kind bytes
read_element kind place n bytes name old new within starts found named en all =
    let some : 0 < length (drop place bytes) = omega (arith, length-drop place bytes) in
    let none : zeros_before (drop place bytes) ≡ 0 = rw (rest_is bytes place) at starts in
    let el : n ≡ element_before (drop place bytes) = rw (rest_is bytes place) at found in
    let ename : name ≡ element_name kind (take n (drop place bytes)) = rw (rest_is bytes place) at named in
    let next : path_steps kind (drop place bytes) ≡ Down name ∷ path_steps kind (drop n (drop place bytes)) = rw (ename, el) (path_steps-element kind (drop place bytes) some none) in
    rw (en, append_assoc, ← drop-drop n place bytes, ← next) all

pub bad_element : (kind place n : ℕ) (bytes : List ℕ) → place < length bytes → zeros_before (rest_at bytes place) ≡ 0 → n ≡ element_before (rest_at bytes place) → is_element kind (take n (rest_at bytes place)) ≡ true → has_bad_element kind (drop place bytes) ≡ has_bad_element kind bytes → has_bad_element kind (drop (place + n) bytes) ≡ has_bad_element kind bytes
bad_element kind place n bytes within starts found is all =
    let some : 0 < length (drop place bytes) = omega (arith, length-drop place bytes) in
    let none : zeros_before (drop place bytes) ≡ 0 = rw (rest_is bytes place) at starts in
    let el : n ≡ element_before (drop place bytes) = rw (rest_is bytes place) at found in
    let good : is_element kind (take n (drop place bytes)) ≡ true = rw (rest_is bytes place) at is in
    let first : is_element kind (take (element_before (drop place bytes)) (drop place bytes)) ≡ true = rw (← el) good in
    let next : has_bad_element kind (drop place bytes) ≡ has_bad_element kind (drop n (drop place bytes)) = rw el (rw first at (has_bad-element kind (drop place bytes) some none)) in
    rw (← drop-drop n place bytes) (sym next ∙ all)

pub bad_here : (kind place n : ℕ) (bytes : List ℕ) → place < length bytes → zeros_before (rest_at bytes place) ≡ 0 → n ≡ element_before (rest_at bytes place) → is_element kind (take n (rest_at bytes place)) ≡ false → has_bad_element kind (drop place bytes) ≡ has_bad_element kind bytes → has_bad_element kind bytes ≡ true
bad_here kind place n bytes within starts found is all =
    let some : 0 < length (drop place bytes) = omega (arith, length-drop place bytes) in
    let none : zeros_before (drop place bytes) ≡ 0 = rw (rest_is bytes place) at starts in
    let el : n ≡ element_before (drop place bytes) = rw (rest_is bytes place) at found in
    let bad : is_element kind (take n (drop place bytes)) ≡ false = rw (rest_is bytes place) at is in
    let first : is_element kind (take (element_before (drop place bytes)) (drop place bytes)) ≡ false = rw (← el) bad in
    sym all ∙ (rw first at (has_bad-element kind (drop place bytes) some none))

pub place_after : (bytes : List ℕ) (place n m : ℕ) → place ≤ length bytes → n ≤ length (rest_at bytes place) → place + n ≤ length bytes
place_after bytes place n m within short = let short' : n ≤ length (drop place bytes) = rw (rest_is bytes place) at short in omega (arith, length-drop place bytes)

-- at the end nothing is left
pub path_steps-end : (kind place : ℕ) (bytes : List ℕ) (steps : List Step) → length bytes ≤ place → steps ++ path_steps kind (drop place bytes) ≡ path_steps kind bytes → steps ≡ path_steps kind bytes
path_steps-end kind place bytes steps done all =
    let left : drop place bytes ≡ [] = drop_all place bytes done in
    sym (append-nil steps) ∙ rw (left, path_steps-nil kind) at all

pub has_bad-end : (kind place : ℕ) (bytes : List ℕ) → length bytes ≤ place → has_bad_element kind (drop place bytes) ≡ has_bad_element kind bytes → has_bad_element kind bytes ≡ false
has_bad-end kind place bytes done all =
    let left : drop place bytes ≡ [] = drop_all place bytes done in
    sym all ∙ (ap (has_bad_element kind) left ∙ has_bad-nil kind)

-- what an element is, by its kind
pub element_name-utf8 : (kind : ℕ) (bytes : List ℕ) → (kind ≡ 2 → ⊥) → element_name kind bytes ≡ bytes
unfolding element_name
element_name-utf8 kind bytes other = rw (ne_eqb kind 2 other) refl

pub element_name-long : (kind : ℕ) (bytes : List ℕ) → kind ≡ 2 → element_name kind bytes ≡ mac_roman_text bytes
unfolding element_name
element_name-long kind bytes long = rw long refl

pub is_element-utf8 : (kind : ℕ) (bytes : List ℕ) → (kind ≡ 2 → ⊥) → is_element kind bytes ≡ is_none (name_fault bytes)
unfolding is_element
is_element-utf8 kind bytes other = rw (ne_eqb kind 2 other) refl

pub is_element-long : (kind : ℕ) (bytes : List ℕ) → kind ≡ 2 → is_element kind bytes ≡ nat_le (length bytes) longest_long_name
unfolding is_element
is_element-long kind bytes long = rw long refl

not_none : (o : Option NameFault) → (o ≡ None → ⊥) → is_none o ≡ false
not_none None h = absurd (h refl)
not_none (Some fault) h = refl

pub is_element-faulty : (kind : ℕ) (bytes : List ℕ) (fault : NameFault) → (kind ≡ 2 → ⊥) → (name_fault bytes ≡ None → fault ≡ Memory) → (fault ≡ Memory → ⊥) → is_element kind bytes ≡ false
is_element-faulty kind bytes fault other memory not_memory =
    is_element-utf8 kind bytes other ∙ not_none (name_fault bytes) (λ none. not_memory (memory none))

-- which fault a path has
pub path_fault-kind : (kind : ℕ) (bytes : List ℕ) → (kind == 2 || kind == 3) ≡ false → path_fault kind bytes ≡ Some Kind
unfolding path_fault
path_fault-kind kind bytes unknown = rw unknown refl

pub path_fault-element : (kind : ℕ) (bytes : List ℕ) → (kind == 2 || kind == 3) ≡ true → has_bad_element kind bytes ≡ true → path_fault kind bytes ≡ Some Element
unfolding path_fault
path_fault-element kind bytes known bad = rw (known, bad) refl

pub path_fault-none : (kind : ℕ) (bytes : List ℕ) → (kind == 2 || kind == 3) ≡ true → has_bad_element kind bytes ≡ false → path_fault kind bytes ≡ None
unfolding path_fault
path_fault-none kind bytes known good = rw (known, good) refl
