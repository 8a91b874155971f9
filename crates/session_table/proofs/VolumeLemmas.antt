-- The ids of open volumes by their flags.
use Rattle.std.proofs.Common.{◌≡◌, ◌∙◌, ap, sym, refl, ℕ, zero, suc, ◌+◌, ◌<◌, ◌≤◌, ◌==◌, Bool, true, false, not, cond, List, [], ◌∷◌, length, filter, get_or, slice_set, arith}
use Rattle.std.specs.Prelude.{nat_lt}
use Rattle.std.specs.List.{list_any}
use Rattle.std.proofs.lemmas.Bool.{eq-eqb, ne_eqb, lt-ltb, false_from_ne_true, ltb-true}
use Rattle.afp_serial.specs.OnFork.{placed}
use Rattle.session_table.specs.lemma.Volumes.{ids_from}

abbrev is : ℕ → ℕ → Bool
is v other = other == v

abbrev is_not : ℕ → ℕ → Bool
is_not v other = not (other == v)

not-below : (v id : ℕ) → id ≤ v → nat_lt v id ≡ false
not-below v id h = false_from_ne_true (nat_lt v id) (λ less. let e : v < id = ltb-true v id less in omega arith)

-- a lower id than the first is none of them
pub none-below : (id v : ℕ) (flags : List Bool) → v < id → list_any (is v) (ids_from id flags) ≡ false
none-below id v [] h = refl
none-below id v (true ∷ flags) h = rw (ne_eqb id v (λ e. let same : id ≡ v = e in absurd (omega arith))) (none-below (suc id) v flags (omega arith))
none-below id v (false ∷ flags) h = none-below (suc id) v flags (omega arith)

-- the id at a place is one of them where its flag is set
pub has-id : (id v k : ℕ) (flags : List Bool) → v ≡ id + k → list_any (is v) (ids_from id flags) ≡ get_or flags k false
has-id id v k [] e = refl
has-id id v zero (true ∷ flags) e = let same : id ≡ v = omega arith in rw (eq-eqb id v same) refl
has-id id v zero (false ∷ flags) e = none-below (suc id) v flags (omega arith)
has-id id v (suc k) (true ∷ flags) e = rw (ne_eqb id v (λ s. let same : id ≡ v = s in absurd (omega arith))) (has-id (suc id) v k flags (omega arith))
has-id id v (suc k) (false ∷ flags) e = has-id (suc id) v k flags (omega arith)

placed-first : (id v : ℕ) (flags : List Bool) → v < id → placed (λ o. o) v (ids_from id flags) ≡ v ∷ ids_from id flags
placed-first id v [] h = refl
placed-first id v (true ∷ flags) h = rw (lt-ltb v id h) refl
placed-first id v (false ∷ flags) h = placed-first (suc id) v flags (omega arith)

-- a flag that is set puts its id among them
pub open-id : (id v k : ℕ) (flags : List Bool) → v ≡ id + k → k < length flags
    → ids_from id (slice_set flags k true) ≡ cond (list_any (is v) (ids_from id flags)) (ids_from id flags) (placed (λ o. o) v (ids_from id flags))
open-id id v k [] e h = absurd (omega arith)
open-id id v zero (true ∷ flags) e h = let same : id ≡ v = omega arith in rw (eq-eqb id v same) refl
open-id id v zero (false ∷ flags) e h =
    let same : id ≡ v = omega arith in
    rw (none-below (suc id) v flags (omega arith)) (ap (λ n. n ∷ ids_from (suc id) flags) same ∙ sym (placed-first (suc id) v flags (omega arith)))
open-id id v (suc k) (true ∷ flags) e h =
    rw (ne_eqb id v (λ s. let same : id ≡ v = s in absurd (omega arith))) (
    rw (not-below v id (omega arith)) (
    ap (λ l. id ∷ l) (open-id (suc id) v k flags (omega arith) (omega arith)) ∙ by (list_any (is v) (ids_from (suc id) flags))))
  where
    by : (b : Bool) → id ∷ cond b (ids_from (suc id) flags) (placed (λ o. o) v (ids_from (suc id) flags)) ≡ cond b (id ∷ ids_from (suc id) flags) (id ∷ placed (λ o. o) v (ids_from (suc id) flags))
    by true = refl
    by false = refl
open-id id v (suc k) (false ∷ flags) e h = open-id (suc id) v k flags (omega arith) (omega arith)

-- ids that are not among them
pub close-below : (id v : ℕ) (flags : List Bool) → v < id → filter (is_not v) (ids_from id flags) ≡ ids_from id flags
close-below id v [] h = refl
close-below id v (true ∷ flags) h = rw (ne_eqb id v (λ e. let same : id ≡ v = e in absurd (omega arith))) (ap (λ l. id ∷ l) (close-below (suc id) v flags (omega arith)))
close-below id v (false ∷ flags) h = close-below (suc id) v flags (omega arith)

pub close-behind : (id v : ℕ) (flags : List Bool) → id + length flags ≤ v → filter (is_not v) (ids_from id flags) ≡ ids_from id flags
close-behind id v [] h = refl
close-behind id v (true ∷ flags) h = rw (ne_eqb id v (λ e. let same : id ≡ v = e in absurd (omega arith))) (ap (λ l. id ∷ l) (close-behind (suc id) v flags (omega arith)))
close-behind id v (false ∷ flags) h = close-behind (suc id) v flags (omega arith)

pub none-behind : (id v : ℕ) (flags : List Bool) → id + length flags ≤ v → list_any (is v) (ids_from id flags) ≡ false
none-behind id v [] h = refl
none-behind id v (true ∷ flags) h = rw (ne_eqb id v (λ e. let same : id ≡ v = e in absurd (omega arith))) (none-behind (suc id) v flags (omega arith))
none-behind id v (false ∷ flags) h = none-behind (suc id) v flags (omega arith)

-- a flag that is not set takes its id out
pub close-id : (id v k : ℕ) (flags : List Bool) → v ≡ id + k → ids_from id (slice_set flags k false) ≡ filter (is_not v) (ids_from id flags)
close-id id v k [] e = refl
close-id id v zero (true ∷ flags) e = let same : id ≡ v = omega arith in rw (eq-eqb id v same) (sym (close-below (suc id) v flags (omega arith)))
close-id id v zero (false ∷ flags) e = sym (close-below (suc id) v flags (omega arith))
close-id id v (suc k) (true ∷ flags) e = rw (ne_eqb id v (λ s. let same : id ≡ v = s in absurd (omega arith))) (ap (λ l. id ∷ l) (close-id (suc id) v k flags (omega arith)))
close-id id v (suc k) (false ∷ flags) e = close-id (suc id) v k flags (omega arith)

-- no flag is set where there are no ids
pub any-flag : (id : ℕ) (flags : List Bool) → not (list_any (λ flag. flag) flags) ≡ (length (ids_from id flags) == 0)
any-flag id [] = refl
any-flag id (true ∷ flags) = sym (ne_eqb (suc (length (ids_from (suc id) flags))) 0 (λ e. let none : suc (length (ids_from (suc id) flags)) ≡ 0 = e in absurd (omega arith)))
any-flag id (false ∷ flags) = any-flag (suc id) flags
