-- The steps of a path of long names that is spelt by bytes are to names; and names are bytes.
use Rattle.std.proofs.Common.{◌≡◌, ◌∙◌, ap, sym, refl, ℕ, zero, suc, ◌-◌, ◌<◌, arith, ◌==◌, Bool, true, false, not, ◌&&◌, ◌||◌, cond, List, [], ◌∷◌, length, map, get_or, ltb, leb}
use Rattle.std.specs.Prelude.{is_none, flat_map, replicate, nat_le, nat_lt}
use Rattle.std.specs.List.{list_any, list_all}
use Rattle.std.specs.Str.{is_utf8}
use Rattle.std.proofs.Math.Utf8.{scalar, scalars}
use Rattle.std.proofs.lemmas.Bool.{and_parts, and_from, cond_both, not-true, ne_eqb, ltb-true, leb-true, lt-ltb, or_parts, not-false}
use Rattle.std.proofs.lemmas.Str.{is_utf8-from_IsUtf8}
use Rattle.afp_names.proofs.MacRomanLemmas.{mac_roman_text-name, passes_at}
use Rattle.afp_names.proofs.NameLemmas.{name_fault-none}
use Rattle.afp_names.specs.MacRoman.{mac_roman_char, mac_roman_text, upper_characters}
use Rattle.afp_names.specs.Name.{name_fault}
use Rattle.afp_names.specs.Path.{PathValue, Run, ZeroRun, ElementRun, onto_runs, runs, is_element, element_name, is_bad_run, has_bad_element, run_steps, path_steps, SpellsPath}
use Rattle.afp_names.specs.declared.path.Step.TheVariants.{Up}
use Rattle.volume_spec.proofs.PathNames.{steps-append, ups, no-bad, utf8-path-named}
use Rattle.volume_spec.specs.TypedVolume.{is_byte, are_bytes}
use Rattle.volume_spec.specs.Walk.{is_named_step, is_named_path}

-- elements have bytes, none of them 0
abbrev is-whole-run : Run → Bool
is-whole-run (ZeroRun k) = true
is-whole-run (ElementRun bytes) = nat_lt 0 (length bytes) && (not (list_any (λ byte. byte == 0) bytes) && are_bytes bytes)

one-byte : (b : ℕ) → is_byte (suc b) ≡ true → is-whole-run (ElementRun (suc b ∷ [])) ≡ true
one-byte b small =
    let some : (suc b == 0) ≡ false = ne_eqb (suc b) 0 (λ e. omega arith) in
    let none : not ((suc b == 0) || false) ≡ true = ap (λ x. not (x || false)) some in
    and_from (not ((suc b == 0) || false)) (is_byte (suc b) && true) none (and_from (is_byte (suc b)) true small refl)

onto-whole : (b : ℕ) (rs : List Run) → is_byte b ≡ true → list_all is-whole-run rs ≡ true → list_all is-whole-run (onto_runs b rs) ≡ true
onto-whole zero [] small h = refl
onto-whole zero (ZeroRun k ∷ rest) small h = h
onto-whole zero (ElementRun bytes ∷ rest) small h = h
onto-whole (suc b) [] small h = and_from (is-whole-run (ElementRun (suc b ∷ []))) true (one-byte b small) refl
onto-whole (suc b) (ZeroRun k ∷ rest) small h = and_from (is-whole-run (ElementRun (suc b ∷ []))) (list_all is-whole-run (ZeroRun k ∷ rest)) (one-byte b small) h
onto-whole (suc b) (ElementRun bytes ∷ rest) small h =
    let e = and_parts (is-whole-run (ElementRun bytes)) (list_all is-whole-run rest) h in
    let f = and_parts (nat_lt 0 (length bytes)) (not (list_any (λ byte. byte == 0) bytes) && are_bytes bytes) e.0 in
    let g = and_parts (not (list_any (λ byte. byte == 0) bytes)) (are_bytes bytes) f.1 in
    let some : (suc b == 0) ≡ false = ne_eqb (suc b) 0 (λ e. omega arith) in
    let none : not ((suc b == 0) || list_any (λ byte. byte == 0) bytes) ≡ true = ap (λ x. not (x || list_any (λ byte. byte == 0) bytes)) some ∙ g.0 in
    and_from (is-whole-run (ElementRun (suc b ∷ bytes))) (list_all is-whole-run rest)
    (and_from (nat_lt 0 (length (suc b ∷ bytes))) _ (lt-ltb 0 (length (suc b ∷ bytes)) (omega arith))
    (and_from (not ((suc b == 0) || list_any (λ byte. byte == 0) bytes)) _ none (and_from (is_byte (suc b)) (are_bytes bytes) small g.1))) e.1

runs-whole : (bytes : List ℕ) → are_bytes bytes ≡ true → list_all is-whole-run (runs bytes) ≡ true
unfolding runs
runs-whole [] small = refl
runs-whole (b ∷ bytes) small = let e = and_parts (is_byte b) (are_bytes bytes) small in onto-whole b (runs bytes) e.0 (runs-whole bytes e.1)

-- a character of the set is a Unicode scalar value
char-scalar : (b : ℕ) → is_byte b ≡ true → scalar (mac_roman_char b) ≡ true
unfolding mac_roman_char upper_characters
char-scalar b small = cond_both (nat_lt b 128) b (get_or upper_characters (b - 128) 0) (λ c. scalar c ≡ true)
    (λ low. ascii b (ltb-true b 128 low))
    (λ high. passes_at scalar upper_characters (b - 128) refl (let h = ltb-true b 256 small in omega arith))
  where
    ascii : (c : ℕ) → c < 128 → scalar c ≡ true
    ascii c low = ap (λ x. cond x true (leb 57344 c && ltb c 1114112)) (lt-ltb c 55296 (omega arith))

text-scalars : (bytes : List ℕ) → are_bytes bytes ≡ true → scalars (map mac_roman_char bytes) ≡ true
text-scalars [] small = refl
text-scalars (b ∷ bytes) small = let e = and_parts (is_byte b) (are_bytes bytes) small in and_from (scalar (mac_roman_char b)) (scalars (map mac_roman_char bytes)) (char-scalar b e.0) (text-scalars bytes e.1)

-- what bytes of a long name spell is a name
text-named : (bytes : List ℕ) → is-whole-run (ElementRun bytes) ≡ true → nat_le (length bytes) 31 ≡ true → is_none (name_fault (mac_roman_text bytes)) ≡ true
text-named bytes whole short =
    let f = and_parts (nat_lt 0 (length bytes)) (not (list_any (λ byte. byte == 0) bytes) && are_bytes bytes) whole in
    let g = and_parts (not (list_any (λ byte. byte == 0) bytes)) (are_bytes bytes) f.1 in
    let good = mac_roman_text-name bytes (each bytes g.1) (ltb-true 0 (length bytes) f.0) (leb-true (length bytes) 31 short) (not-true (list_any (λ byte. byte == 0) bytes) g.0) in
    let text : is_utf8 (mac_roman_text bytes) ≡ true = is_utf8-from_IsUtf8 (mac_roman_text bytes) (map mac_roman_char bytes, (text-scalars bytes g.1, refl)) in
    ap is_none (name_fault-none (mac_roman_text bytes) (ne_eqb (length (mac_roman_text bytes)) 0 (λ e. let h = good.0 in omega arith)) good.1 good.2 text)
  where
    each : (bytes : List ℕ) → are_bytes bytes ≡ true → (k : ℕ) → get_or bytes k 0 < 256
    each [] small k = omega arith
    each (b ∷ bytes) small zero = ltb-true b 256 (and_parts (is_byte b) (are_bytes bytes) small).0
    each (b ∷ bytes) small (suc k) = each bytes (and_parts (is_byte b) (are_bytes bytes) small).1 k

-- in kind 2 an element spells a name
runs-named-long : (kind : ℕ) (rs : List Run) → (kind == 2) ≡ true → list_all is-whole-run rs ≡ true → list_any (is_bad_run kind) rs ≡ false → list_all is_named_step (flat_map (run_steps kind) rs) ≡ true
unfolding is_element element_name
runs-named-long kind [] long whole h = refl
runs-named-long kind (ZeroRun k ∷ rs) long whole h =
    steps-append (replicate (k - 1) Up) (flat_map (run_steps kind) rs) (ups (k - 1)) (runs-named-long kind rs long whole h)
runs-named-long kind (ElementRun bytes ∷ rs) long whole h =
    let w = and_parts (is-whole-run (ElementRun bytes)) (list_all is-whole-run rs) whole in
    let e = or_parts (not (is_element kind bytes)) (list_any (is_bad_run kind) rs) h in
    let short : nat_le (length bytes) 31 ≡ true = ap (λ b. cond b (nat_le (length bytes) 31) (is_none (name_fault bytes))) (sym long) ∙ not-false (is_element kind bytes) e.0 in
    let same : element_name kind bytes ≡ mac_roman_text bytes = ap (λ b. cond b (mac_roman_text bytes) bytes) long in
    and_from (is_none (name_fault (element_name kind bytes))) (list_all is_named_step (flat_map (run_steps kind) rs))
    (ap (λ n. is_none (name_fault n)) same ∙ text-named bytes w.0 short) (runs-named-long kind rs long w.1 e.1)

long-path : (bytes : List ℕ) (path : PathValue) → are_bytes bytes ≡ true → SpellsPath bytes path → (path.kind == 2) ≡ true → is_named_path path ≡ true
unfolding path_steps has_bad_element
long-path bytes path small spells long =
    ap (λ l. list_all is_named_step l) (sym spells.steps) ∙ runs-named-long path.kind (runs bytes) long (runs-whole bytes small) (no-bad path.kind bytes spells.no_fault)

pub path-named : (bytes : List ℕ) (path : PathValue) → are_bytes bytes ≡ true → SpellsPath bytes path → is_named_path path ≡ true
path-named bytes path small spells = by (path.kind == 2) refl
  where
    by : (b : Bool) → (path.kind == 2) ≡ b → is_named_path path ≡ true
    by true long = long-path bytes path small spells long
    by false utf8 = utf8-path-named bytes path spells utf8
