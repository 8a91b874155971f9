-- The paths of a drill: those of eight files, and the empty one.
use Rattle.std.proofs.Common.{◌≡◌, refl, ap, ℕ, zero, suc, ◌+◌, ◌%◌, ◌<◌, ◌≤◌, true, false, cond, List, [], ◌∷◌, length, Option, Some, None, arith, lit<, lit≤}
use Rattle.std.specs.Prelude.{◌==◌, ◌||◌, IsAscii, is_none, not}
use Rattle.std.proofs.lemmas.Bool.{ne_eqb}
use Rattle.std.proofs.lemmas.Str.{IsUtf8-from_ascii, is_utf8-from_IsUtf8}
use Rattle.std.proofs.Math.Nat.{mod-lt}
use Rattle.afp_names.proofs.NameLemmas.{name_fault-none}
use Rattle.afp_names.specs.Name.{name_fault}
use Rattle.afp_names.specs.declared.name.NameFault.{NameFault}
use Rattle.afp_names.specs.declared.path.PathFault.TheVariants.{Element}
use Rattle.afp_names.specs.Path.{IsPath, PathValue, canonical_path, element_name, element_of, has_bad_element, is_element, path_fault, path_steps, runs}
use Rattle.volume_spec.specs.TypedVolume.{are_bytes}
use Rattle.capture_made.specs.requests.Requests.{name, path}

-- a path of names in UTF-8 whose bytes are bytes
pub record IsGoodPath (p : PathValue) : Type 0 where
  pub is : IsPath p
  pub bytes : are_bytes (canonical_path p) ≡ true
  pub short : length (canonical_path p) ≤ 255
  pub kind : p.kind ≡ 3

abbrev nth_name : ℕ → List ℕ
nth_name k = 110 ∷ (48 + k) ∷ []

pub root-good : IsGoodPath (path [])
unfolding canonical_path element_of element_name has_bad_element is_element path_fault path_steps runs
root-good = record { is = record { fits = lit≤ tt; spelt = record { no_fault = refl; steps = refl } }; bytes = refl; short = lit≤ tt; kind = refl }

ascii : (k : ℕ) → k < 8 → IsAscii (nth_name k)
ascii k h zero = lit< tt
ascii k h (suc zero) = omega (arith, h)
ascii k h (suc (suc i)) = lit< tt

-- such a name has no fault
name-ok : (k : ℕ) → k < 8 → name_fault (nth_name k) ≡ None
name-ok k h =
    let other : ((48 + k) == 0) ≡ false = ne_eqb (48 + k) 0 (λ e. absurd (omega (arith, e))) in
    name_fault-none (nth_name k) refl (lit≤ tt) (ap (λ b. b || false) other) (is_utf8-from_IsUtf8 (nth_name k) (IsUtf8-from_ascii (nth_name k) (ascii k h)))

if-named : (o : Option NameFault) → o ≡ None → cond (not (is_none o) || false) (Some Element) None ≡ None
if-named o is = ap (λ f. cond (not (is_none f) || false) (Some Element) None) is

nth-good : (k : ℕ) → k < 8 → IsGoodPath (path (nth_name k))
unfolding canonical_path element_of element_name has_bad_element is_element path_fault path_steps runs
nth-good zero h = record { is = record { fits = lit≤ tt; spelt = record { no_fault = if-named (name_fault (nth_name 0)) (name-ok 0 h); steps = refl } }; bytes = refl; short = lit≤ tt; kind = refl }
nth-good (suc zero) h = record { is = record { fits = lit≤ tt; spelt = record { no_fault = if-named (name_fault (nth_name 1)) (name-ok 1 h); steps = refl } }; bytes = refl; short = lit≤ tt; kind = refl }
nth-good (suc (suc zero)) h = record { is = record { fits = lit≤ tt; spelt = record { no_fault = if-named (name_fault (nth_name 2)) (name-ok 2 h); steps = refl } }; bytes = refl; short = lit≤ tt; kind = refl }
nth-good (suc (suc (suc zero))) h = record { is = record { fits = lit≤ tt; spelt = record { no_fault = if-named (name_fault (nth_name 3)) (name-ok 3 h); steps = refl } }; bytes = refl; short = lit≤ tt; kind = refl }
nth-good (suc (suc (suc (suc zero)))) h = record { is = record { fits = lit≤ tt; spelt = record { no_fault = if-named (name_fault (nth_name 4)) (name-ok 4 h); steps = refl } }; bytes = refl; short = lit≤ tt; kind = refl }
nth-good (suc (suc (suc (suc (suc zero))))) h = record { is = record { fits = lit≤ tt; spelt = record { no_fault = if-named (name_fault (nth_name 5)) (name-ok 5 h); steps = refl } }; bytes = refl; short = lit≤ tt; kind = refl }
nth-good (suc (suc (suc (suc (suc (suc zero)))))) h = record { is = record { fits = lit≤ tt; spelt = record { no_fault = if-named (name_fault (nth_name 6)) (name-ok 6 h); steps = refl } }; bytes = refl; short = lit≤ tt; kind = refl }
nth-good (suc (suc (suc (suc (suc (suc (suc zero))))))) h = record { is = record { fits = lit≤ tt; spelt = record { no_fault = if-named (name_fault (nth_name 7)) (name-ok 7 h); steps = refl } }; bytes = refl; short = lit≤ tt; kind = refl }
nth-good (suc (suc (suc (suc (suc (suc (suc (suc k)))))))) h = absurd (omega (arith, h))

pub name-good : (number : ℕ) → IsGoodPath (path (name number))
name-good number = nth-good (number % 8) (mod-lt number (omega arith))
