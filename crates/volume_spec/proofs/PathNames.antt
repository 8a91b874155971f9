-- The steps of a path that is spelt by bytes are to names.
use Rattle.std.proofs.Common.{◌≡◌, ◌∙◌, ap, sym, refl, ℕ, zero, suc, ◌-◌, ◌==◌, Bool, true, false, not, ◌||◌, cond, List, [], ◌∷◌, ◌++◌, length, Some, None}
use Rattle.std.specs.Prelude.{is_none, flat_map, replicate, nat_le}
use Rattle.std.specs.List.{list_any, list_all}
use Rattle.std.proofs.lemmas.Bool.{and_parts, and_from, or_parts, not-false}
use Rattle.afp_names.specs.MacRoman.{mac_roman_text}
use Rattle.afp_names.specs.Name.{name_fault}
use Rattle.afp_names.specs.Path.{PathValue, Run, ZeroRun, ElementRun, runs, is_element, element_name, is_bad_run, has_bad_element, run_steps, path_fault, path_steps, SpellsPath}
use Rattle.afp_names.specs.declared.path.Step.{Step}
use Rattle.afp_names.specs.declared.path.Step.TheVariants.{Up}
use Rattle.afp_names.specs.declared.path.PathFault.TheVariants.{Kind, Element}
use Rattle.volume_spec.specs.Walk.{is_named_step, is_named_path}

pub steps-append : (xs ys : List Step) → list_all is_named_step xs ≡ true → list_all is_named_step ys ≡ true → list_all is_named_step (xs ++ ys) ≡ true
steps-append [] ys h k = k
steps-append (x ∷ xs) ys h k = let e = and_parts (is_named_step x) (list_all is_named_step xs) h in and_from (is_named_step x) (list_all is_named_step (xs ++ ys)) e.0 (steps-append xs ys e.1 k)

pub ups : (n : ℕ) → list_all is_named_step (replicate n Up) ≡ true
ups zero = refl
ups (suc n) = ups n

-- in kind 3 an element is a name
runs-named : (kind : ℕ) (rs : List Run) → (kind == 2) ≡ false → list_any (is_bad_run kind) rs ≡ false → list_all is_named_step (flat_map (run_steps kind) rs) ≡ true
unfolding is_element element_name
runs-named kind [] utf8 h = refl
runs-named kind (ZeroRun k ∷ rs) utf8 h =
    steps-append (replicate (k - 1) Up) (flat_map (run_steps kind) rs) (ups (k - 1)) (runs-named kind rs utf8 h)
runs-named kind (ElementRun bytes ∷ rs) utf8 h =
    let e = or_parts (not (is_element kind bytes)) (list_any (is_bad_run kind) rs) h in
    let good : is_none (name_fault bytes) ≡ true = ap (λ b. cond b (nat_le (length bytes) 31) (is_none (name_fault bytes))) (sym utf8) ∙ not-false (is_element kind bytes) e.0 in
    let same : element_name kind bytes ≡ bytes = ap (λ b. cond b (mac_roman_text bytes) bytes) utf8 in
    and_from (is_none (name_fault (element_name kind bytes))) (list_all is_named_step (flat_map (run_steps kind) rs))
    (ap (λ n. is_none (name_fault n)) same ∙ good) (runs-named kind rs utf8 e.1)

-- no path that is spelt has a bad element
pub no-bad : (kind : ℕ) (bytes : List ℕ) → path_fault kind bytes ≡ None → has_bad_element kind bytes ≡ false
unfolding path_fault
no-bad kind bytes h = by (not (kind == 2 || kind == 3)) (has_bad_element kind bytes) h
  where
    by : (a b : Bool) → cond a (Some Kind) (cond b (Some Element) None) ≡ None → b ≡ false
    by true b h = absurd (cc)
    by false true h = absurd (cc)
    by false false h = refl

pub utf8-path-named : (bytes : List ℕ) (path : PathValue) → SpellsPath bytes path → (path.kind == 2) ≡ false → is_named_path path ≡ true
unfolding path_steps has_bad_element
utf8-path-named bytes path spells utf8 =
    ap (λ l. list_all is_named_step l) (sym spells.steps) ∙ runs-named path.kind (runs bytes) utf8 (no-bad path.kind bytes spells.no_fault)
