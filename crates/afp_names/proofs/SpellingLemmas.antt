-- The shortest spelling of a path that was read is read as it again, and is no longer than the bytes that it was read from.
use Rattle.std.proofs.Common.{◌≡◌, ℕ, suc, zero, ◌<◌, ◌≤◌, ◌+◌, ◌-◌, ◌==◌, ◌||◌, Bool, true, false, not, nat_lt, List, [], ◌∷◌, ◌++◌, length, map, replicate, flat_map, get_or, Option, Some, None, refl, ◌∙◌, ap, arith}
use Rattle.std.specs.List.{list_any}
use Rattle.std.proofs.lemmas.Bool.{ne_eqb, eqb-true, both_ways, and_from, ltb-false, ltb-true, or_parts, not-false}
use Rattle.std.proofs.lemmas.List.{length-append}
use Rattle.std.proofs.lemmas.Str.{chars-encodes}
use lib.Utf8.{scalar, scalars, low_scalar}
use Rattle.afp_names.specs.declared.path.Step.{Step}
use Rattle.afp_names.specs.declared.path.Step.TheVariants.{Up, Down}
use Rattle.afp_names.specs.MacRoman.{mac_roman_char, upper_characters}
use Rattle.afp_names.specs.LongName.{shown_byte}
use Rattle.afp_names.specs.Path.{Run, ZeroRun, ElementRun, onto_runs, runs, run_steps, is_bad_run, is_element, element_name, element_of, has_bad_element, path_fault, path_steps, IsPath, steps_bytes, canonical_path, longest_path, longest_utf8_path, longest_long_path}
use Rattle.afp_names.proofs.MacRomanLemmas.{passes_at, mac_roman_byte-char}
use Rattle.afp_names.proofs.PathLemmas.{BeginsNoZeroRun, BeginsNoElement, onto-zero, byte_onto, path_steps-nil, has_bad-nil}

-- the bytes are bytes
abbrev pub AllBytes : List ℕ → Type 0
AllBytes bytes = (k : ℕ) → get_or bytes k 0 < 256

-- an element of a path: some bytes, none of them 0
record IsElement (bytes : List ℕ) : Type 0 where
  pub some : 0 < length bytes
  pub no_zero : list_any (λ byte. byte == 0) bytes ≡ false
  pub small : AllBytes bytes

-- runs that bytes may split into: no run is empty, and no two of a sort stand side by side
abbrev AreRuns : List Run → Type 0
AreRuns [] = Unit {0}
AreRuns (ZeroRun k ∷ rest) = (0 < k) × BeginsNoZeroRun rest × AreRuns rest
AreRuns (ElementRun bytes ∷ rest) = IsElement bytes × BeginsNoElement rest × AreRuns rest

one_byte : (b : ℕ) → suc b < 256 → IsElement (suc b ∷ [])
one_byte b small = record { some = omega arith; no_zero = rw (ne_eqb (suc b) 0 (λ e. cc)) refl; small = λ k. at k }
  where
    at : (k : ℕ) → get_or (suc b ∷ []) k 0 < 256
    at zero = small
    at (suc k) = omega arith

more_bytes : (b : ℕ) (bytes : List ℕ) → suc b < 256 → IsElement bytes → IsElement (suc b ∷ bytes)
more_bytes b bytes small rest = record { some = omega arith; no_zero = rw (ne_eqb (suc b) 0 (λ e. cc)) rest.no_zero; small = λ k. at k }
  where
    at : (k : ℕ) → get_or (suc b ∷ bytes) k 0 < 256
    at zero = small
    at (suc k) = rest.small k

onto_are_runs : (b : ℕ) (rs : List Run) → b < 256 → AreRuns rs → AreRuns (onto_runs b rs)
onto_are_runs zero [] small h = (omega arith, tt, tt)
onto_are_runs zero (ZeroRun k ∷ rest) small h = (omega arith, h.1, h.2)
onto_are_runs zero (ElementRun bytes ∷ rest) small h = (omega arith, tt, h)
onto_are_runs (suc b) [] small h = (one_byte b small, tt, tt)
onto_are_runs (suc b) (ZeroRun k ∷ rest) small h = (one_byte b small, tt, h)
onto_are_runs (suc b) (ElementRun bytes ∷ rest) small h = (more_bytes b bytes small h.0, h.1, h.2)

runs_are_runs : (bytes : List ℕ) → AllBytes bytes → AreRuns (runs bytes)
unfolding runs
runs_are_runs [] small = tt
runs_are_runs (b ∷ bytes) small = onto_are_runs b (runs bytes) (small 0) (runs_are_runs bytes (λ k. small (suc k)))

-- how many bytes runs have
abbrev run_size : Run → ℕ
run_size (ZeroRun k) = k
run_size (ElementRun bytes) = length bytes

abbrev size_of : List Run → ℕ
size_of [] = 0
size_of (r ∷ rest) = run_size r + size_of rest

size_of-onto : (b : ℕ) (rs : List Run) → size_of (onto_runs b rs) ≡ 1 + size_of rs
size_of-onto zero [] = omega arith
size_of-onto zero (ZeroRun k ∷ rest) = omega arith
size_of-onto zero (ElementRun bytes ∷ rest) = omega arith
size_of-onto (suc b) [] = omega arith
size_of-onto (suc b) (ZeroRun k ∷ rest) = omega arith
size_of-onto (suc b) (ElementRun bytes ∷ rest) = omega arith

size_of-runs : (bytes : List ℕ) → size_of (runs bytes) ≡ length bytes
unfolding runs
size_of-runs [] = refl
size_of-runs (b ∷ bytes) = omega (arith, size_of-onto b (runs bytes), size_of-runs bytes)

-- an element that was read is spelt by the same bytes
scalar_by : (t : Bool) (b : ℕ) → nat_lt b 128 ≡ t → b < 256 → scalar (mac_roman_char b) ≡ true
unfolding mac_roman_char upper_characters
scalar_by true b e small = rw e (low_scalar b (let low = ltb-true b 128 e in omega arith))
scalar_by false b e small = rw e (passes_at scalar upper_characters (b - 128) refl (let low = ltb-false b 128 e in omega arith))

scalars_of : (bytes : List ℕ) → AllBytes bytes → scalars (map mac_roman_char bytes) ≡ true
scalars_of [] small = refl
scalars_of (b ∷ bytes) small = and_from (scalar (mac_roman_char b)) (scalars (map mac_roman_char bytes)) (scalar_by (nat_lt b 128) b refl (small 0)) (scalars_of bytes (λ k. small (suc k)))

shown_byte-char : (b : ℕ) → b < 256 → shown_byte (mac_roman_char b) ≡ b
unfolding shown_byte
shown_byte-char b small = rw (mac_roman_byte-char b small) refl

shown-chars : (bytes : List ℕ) → AllBytes bytes → map shown_byte (map mac_roman_char bytes) ≡ bytes
shown-chars [] small = refl
shown-chars (b ∷ bytes) small = rw (shown_byte-char b (small 0), shown-chars bytes (λ k. small (suc k))) refl

element_of_by : (t : Bool) (kind : ℕ) (bytes : List ℕ) → AllBytes bytes → (kind == 2) ≡ t → element_of kind (element_name kind bytes) ≡ bytes
unfolding element_of element_name
element_of_by true kind bytes small e = rw (e, chars-encodes (map mac_roman_char bytes) (scalars_of bytes small)) (shown-chars bytes small)
element_of_by false kind bytes small e = rw e refl

element_of-name : (kind : ℕ) (bytes : List ℕ) → AllBytes bytes → element_of kind (element_name kind bytes) ≡ bytes
element_of-name kind bytes small = element_of_by (kind == 2) kind bytes small refl

-- a step whose element is read as it
abbrev IsStep : ℕ → Step → Type 0
IsStep kind Up = Unit {0}
IsStep kind (Down name) = record { element : IsElement (element_of kind name); good : is_element kind (element_of kind name) ≡ true; again : element_name kind (element_of kind name) ≡ name }

abbrev AreSteps : ℕ → List Step → Type 0
AreSteps kind [] = Unit {0}
AreSteps kind (step ∷ steps) = IsStep kind step × AreSteps kind steps

ups_are_steps : (kind n : ℕ) (steps : List Step) → AreSteps kind steps → AreSteps kind (replicate n Up ++ steps)
ups_are_steps kind zero steps h = h
ups_are_steps kind (suc n) steps h = (tt, ups_are_steps kind n steps h)

run_step : (kind : ℕ) (bytes : List ℕ) → IsElement bytes → is_element kind bytes ≡ true → IsStep kind (Down (element_name kind bytes))
run_step kind bytes element good =
    let same : element_of kind (element_name kind bytes) ≡ bytes = element_of-name kind bytes element.small in
    record { element = rw same element; good = rw same good; again = rw same refl }

steps_of_runs : (kind : ℕ) (rs : List Run) → AreRuns rs → list_any (is_bad_run kind) rs ≡ false → AreSteps kind (flat_map (run_steps kind) rs)
steps_of_runs kind [] h good = tt
steps_of_runs kind (ZeroRun k ∷ rest) h good = ups_are_steps kind (k - 1) (flat_map (run_steps kind) rest) (steps_of_runs kind rest h.2 good)
steps_of_runs kind (ElementRun bytes ∷ rest) h good =
    let parts = or_parts (not (is_element kind bytes)) (list_any (is_bad_run kind) rest) good in
    (run_step kind bytes h.0 (not-false (is_element kind bytes) parts.0), steps_of_runs kind rest h.2 parts.1)

-- these bytes are read as these steps
record ReadAs (kind : ℕ) (bytes : List ℕ) (steps : List Step) : Type 0 where
  pub are : path_steps kind bytes ≡ steps
  pub good : has_bad_element kind bytes ≡ false

nothing_read : (kind : ℕ) → ReadAs kind [] []
nothing_read kind = record { are = path_steps-nil kind; good = has_bad-nil kind }

zero_read : (kind : ℕ) → ReadAs kind (0 ∷ []) []
unfolding path_steps has_bad_element runs
zero_read kind = record { are = refl; good = refl }

-- one zero byte more behind a zero byte is one step up
up_runs : (kind : ℕ) (rs : List Run) → (flat_map (run_steps kind) (onto_runs 0 (onto_runs 0 rs)) ≡ Up ∷ flat_map (run_steps kind) (onto_runs 0 rs)) × (list_any (is_bad_run kind) (onto_runs 0 (onto_runs 0 rs)) ≡ list_any (is_bad_run kind) (onto_runs 0 rs))
up_runs kind [] = (refl, refl)
up_runs kind (ZeroRun k ∷ rest) = (let more : suc (suc k) - 1 ≡ suc k = omega arith in let one : suc k - 1 ≡ k = omega arith in rw (more, one) refl, refl)
up_runs kind (ElementRun bytes ∷ rest) = (refl, refl)

up_read : (kind : ℕ) (bytes : List ℕ) (steps : List Step) → ReadAs kind (0 ∷ bytes) steps → ReadAs kind (0 ∷ 0 ∷ bytes) (Up ∷ steps)
unfolding path_steps has_bad_element runs
up_read kind bytes steps h =
    let one = up_runs kind (runs bytes) in
    record { are = one.0 ∙ ap (λ rest. Up ∷ rest) h.are; good = one.1 ∙ h.good }

-- an element in front of bytes that begin with no other
runs-append : (bytes rest : List ℕ) → 0 < length bytes → list_any (λ byte. byte == 0) bytes ≡ false → BeginsNoElement (runs rest) → runs (bytes ++ rest) ≡ ElementRun bytes ∷ runs rest
unfolding runs
runs-append [] rest some none h = absurd (omega arith)
runs-append (zero ∷ bytes) rest some none h = absurd (both_ways true none refl)
runs-append (suc b ∷ []) rest some none h = byte_onto b (runs rest) h
runs-append (suc b ∷ c ∷ bytes) rest some none h =
    let parts = or_parts (suc b == 0) (list_any (λ byte. byte == 0) (c ∷ bytes)) none in
    rw (runs-append (c ∷ bytes) rest (omega arith) parts.1 h) refl

down_read : (kind : ℕ) (name bytes : List ℕ) (steps : List Step) → IsStep kind (Down name) → BeginsNoElement (runs bytes) → ReadAs kind bytes steps → ReadAs kind (element_of kind name ++ bytes) (Down name ∷ steps)
unfolding path_steps has_bad_element
down_read kind name bytes steps step h rest =
    let first = runs-append (element_of kind name) bytes step.element.some step.element.no_zero h in
    record { are = rw (first, step.again) (ap (λ ss. Down name ∷ ss) rest.are); good = rw (first, step.good) rest.good }

-- a zero byte in front of an element is no step
gap_read : (kind : ℕ) (name bytes : List ℕ) (steps : List Step) → IsStep kind (Down name) → BeginsNoElement (runs bytes) → ReadAs kind (element_of kind name ++ bytes) steps → ReadAs kind (0 ∷ element_of kind name ++ bytes) steps
unfolding path_steps has_bad_element runs
gap_read kind name bytes steps step h all =
    let first = runs-append (element_of kind name) bytes step.element.some step.element.no_zero h in
    let gap : onto_runs 0 (runs (element_of kind name ++ bytes)) ≡ ZeroRun 1 ∷ runs (element_of kind name ++ bytes) = rw first refl in
    record { are = rw gap all.are; good = rw gap all.good }

no_element_behind : (kind : ℕ) (name : List ℕ) (steps : List Step) → BeginsNoElement (runs (steps_bytes kind (Some (Down name)) steps))
unfolding runs
no_element_behind kind name [] = tt
no_element_behind kind name (Up ∷ steps) = onto-zero (runs (0 ∷ steps_bytes kind (Some Up) steps))
no_element_behind kind name (Down next ∷ steps) = onto-zero (runs (element_of kind next ++ steps_bytes kind (Some (Down next)) steps))

-- steps are spelt behind a step up, behind a step down, and behind none
steps_read : (kind : ℕ) (steps : List Step) → AreSteps kind steps → ReadAs kind (0 ∷ steps_bytes kind (Some Up) steps) steps × ((name : List ℕ) → ReadAs kind (steps_bytes kind (Some (Down name)) steps) steps) × ReadAs kind (steps_bytes kind None steps) steps
steps_read kind [] h = (zero_read kind, λ name. nothing_read kind, nothing_read kind)
steps_read kind (Up ∷ steps) h =
    let rest = steps_read kind steps h.1 in
    let up = up_read kind (steps_bytes kind (Some Up) steps) steps rest.0 in
    (up, λ name. up, up)
steps_read kind (Down name ∷ steps) h =
    let rest = steps_read kind steps h.1 in
    let behind = steps_bytes kind (Some (Down name)) steps in
    let clear = no_element_behind kind name steps in
    let down = down_read kind name behind steps h.0 clear (rest.1 name) in
    let gap = gap_read kind name behind (Down name ∷ steps) h.0 clear down in
    (gap, λ before. gap, down)

-- the spelling of steps up
ups_after_up : (kind n : ℕ) (steps : List Step) → length (steps_bytes kind (Some Up) (replicate (suc n) Up ++ steps)) ≡ 1 + n + length (steps_bytes kind (Some Up) steps)
ups_after_up kind zero steps = omega arith
ups_after_up kind (suc n) steps = omega (arith, ups_after_up kind n steps)

ups_size : (kind n : ℕ) (before : Option Step) (steps : List Step) → length (steps_bytes kind before (replicate (suc n) Up ++ steps)) ≤ 2 + n + length (steps_bytes kind (Some Up) steps)
ups_size kind zero (Some Up) steps = omega arith
ups_size kind zero (Some (Down name)) steps = omega arith
ups_size kind zero None steps = omega arith
ups_size kind (suc n) (Some Up) steps = omega (arith, ups_after_up kind n steps)
ups_size kind (suc n) (Some (Down name)) steps = omega (arith, ups_after_up kind n steps)
ups_size kind (suc n) None steps = omega (arith, ups_after_up kind n steps)

-- what a zero byte costs before a name that stands behind a name
abbrev gap_after : Option Step → ℕ
gap_after (Some (Down name)) = 1
gap_after (Some Up) = 0
gap_after None = 0

down_size : (kind : ℕ) (before : Option Step) (name : List ℕ) (steps : List Step) → length (steps_bytes kind before (Down name ∷ steps)) ≡ gap_after before + length (element_of kind name) + length (steps_bytes kind (Some (Down name)) steps)
down_size kind (Some (Down first)) name steps = omega (arith, length-append (element_of kind name) (steps_bytes kind (Some (Down name)) steps))
down_size kind (Some Up) name steps = omega (arith, length-append (element_of kind name) (steps_bytes kind (Some (Down name)) steps))
down_size kind None name steps = omega (arith, length-append (element_of kind name) (steps_bytes kind (Some (Down name)) steps))

gap_after_le : (before : Option Step) → gap_after before ≤ 1
gap_after_le (Some (Down name)) = omega arith
gap_after_le (Some Up) = omega arith
gap_after_le None = omega arith

-- a spelling of the steps of runs is no longer than the runs
runs_size : (kind : ℕ) (rs : List Run) → AreRuns rs → ((before : Option Step) → length (steps_bytes kind before (flat_map (run_steps kind) rs)) ≤ gap_after before + size_of rs) × (BeginsNoElement rs → (before : Option Step) → length (steps_bytes kind before (flat_map (run_steps kind) rs)) ≤ size_of rs)
runs_size kind [] h = (λ before. omega arith, λ clear before. omega arith)
runs_size kind (ZeroRun zero ∷ rest) h = absurd (omega (arith, h.0))
runs_size kind (ZeroRun (suc zero) ∷ rest) h =
    let more = (runs_size kind rest h.2).0 in
    (λ before. omega (arith, more before, gap_after_le before), λ clear before. omega (arith, more before, gap_after_le before))
runs_size kind (ZeroRun (suc (suc k)) ∷ rest) h =
    let more = (runs_size kind rest h.2).0 (Some Up) in
    let steps = flat_map (run_steps kind) rest in
    let times : suc (suc k) - 1 ≡ suc k = omega arith in
    let here : (before : Option Step) → length (steps_bytes kind before (replicate (suc (suc k) - 1) Up ++ steps)) ≤ suc (suc k) + size_of rest = λ before. rw times (omega (arith, ups_size kind k before steps, more)) in
    (λ before. omega (arith, here before), λ clear before. here before)
runs_size kind (ElementRun bytes ∷ rest) h =
    let name = element_name kind bytes in
    let same = ap length (element_of-name kind bytes h.0.small) in
    let more = (runs_size kind rest h.2).1 h.1 (Some (Down name)) in
    (λ before. omega (arith, down_size kind before name (flat_map (run_steps kind) rest), same, more), λ clear. absurd clear)

longest_by : (t : Bool) (kind n : ℕ) → (kind == 2) ≡ t → n ≤ longest_utf8_path → (kind ≡ 2 → n ≤ longest_long_path) → n ≤ longest_path kind
longest_by true kind n e fits long = rw e (long (eqb-true kind 2 e))
longest_by false kind n e fits long = rw e fits

pub within_longest : (kind n : ℕ) → n ≤ longest_utf8_path → (kind ≡ 2 → n ≤ longest_long_path) → n ≤ longest_path kind
within_longest kind n fits long = longest_by (kind == 2) kind n refl fits long

-- the canonical spelling of a path that is read is no longer than the bytes that it is read from
pub length-canonical_path : (kind : ℕ) (bytes : List ℕ) (steps : List Step) → AllBytes bytes → steps ≡ path_steps kind bytes → length (canonical_path (record { kind = kind; steps = steps })) ≤ length bytes
unfolding path_steps canonical_path
length-canonical_path kind bytes steps small are =
    let short = (runs_size kind (runs bytes) (runs_are_runs bytes small)).0 None in
    rw are (omega (arith, short, size_of-runs bytes))

-- a path that is read within the limit of its kind is a path
pub is_path-read : (kind : ℕ) (bytes : List ℕ) (steps : List Step) → AllBytes bytes → length bytes ≤ longest_path kind → (kind == 2 || kind == 3) ≡ true → has_bad_element kind bytes ≡ false → steps ≡ path_steps kind bytes → IsPath (record { kind = kind; steps = steps })
unfolding path_steps has_bad_element path_fault canonical_path
is_path-read kind bytes steps small fits known good are =
    let shape = runs_are_runs bytes small in
    let valid : AreSteps kind steps = rw are (steps_of_runs kind (runs bytes) shape good) in
    let read = (steps_read kind steps valid).2 in
    let short = length-canonical_path kind bytes steps small are in
    record {
      fits = omega (arith, short, fits);
      spelt = record { no_fault = rw (known, read.good) refl; steps = read.are };
    }
