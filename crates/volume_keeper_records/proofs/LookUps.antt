-- What is found at a key in the records of rows, and after changes.
use Rattle.std.proofs.Common.{◌≡◌, ◌∙◌, ℕ, Bool, true, false, cond, List, [], ◌∷◌, ◌++◌, ◌||◌, map, refl, sym, ap, subst}
use Rattle.std.specs.Prelude.{Option, Some, None, T}
use Rattle.std.specs.List.{list_any}
use Rattle.std.specs.Cmp.{tied_itself}
use Rattle.std.specs.Cmp.Lexicographic.{nat_list_cmp_total}
use Rattle.std.specs.Ordering.{is_eq, is_lt, eq_by_cmp, ordering_reverse}
use Rattle.std.specs.declared.cmp.Ordering.{Ordering}
use Rattle.std.specs.declared.cmp.Ordering.TheVariants.{Less, Equal, Greater}
use Rattle.std.specs.FinMap.{find, is_sorted, get, get-insert, get-remove, get-from_sorted, from_sorted, insert, remove}
use Rattle.std.specs.FinMap.Entries.{below_all}
use Rattle.record_keeper.specs.declared.record.Record.{Record}
use Rattle.record_keeper.specs.declared.record.Change.{Change}
use Rattle.record_keeper.specs.declared.record.Change.TheVariants.{Put, Remove}
use Rattle.record_keeper.specs.Records.{Records, changed}
use Rattle.record_keeper.specs.Reading.{IsBelow, RisesByKey}
use Rattle.afp_base.proofs.Facts.{T_both}
use Rattle.record_keeper.proofs.KeptRows.{by_bytes, one_key}
use Rattle.volume_keeper_records.specs.declared.rows.TableRow.{TableRow}
use Rattle.volume_keeper_records.specs.Records.{record_of}
use Rattle.volume_keeper_records.specs.Image.{entries_of}
use Rattle.volume_keeper_records.specs.Migration.{put_of}

abbrev pub are_one : List ℕ → List ℕ → Bool
are_one q k = eq_by_cmp by_bytes q k

abbrev pub key_of_row : TableRow → List ℕ
key_of_row x = (record_of x).key

equal_of : (o : Ordering) → is_eq o ≡ true → o ≡ Equal
equal_of Less e = absurd (cc)
equal_of Equal e = refl
equal_of Greater e = absurd (cc)

pub one_of : (q k : List ℕ) → are_one q k ≡ true → q ≡ k
one_of q k e = one_key q k (equal_of (by_bytes q k) e)

pub itself : (k : List ℕ) → are_one k k ≡ true
itself k = ap is_eq (tied_itself nat_list_cmp_total k)

-- ---- look-ups in rows

-- what the records of rows have at a key
abbrev pub found : List TableRow → List ℕ → Option (List ℕ)
found [] q = None
found (x ∷ xs) q = cond (are_one q (key_of_row x)) (Some (record_of x).value) (found xs q)

abbrev pub or_then : Option (List ℕ) → Option (List ℕ) → Option (List ℕ)
or_then None other = other
or_then (Some v) other = Some v

or_cond : (b : Bool) (v : List ℕ) (o p : Option (List ℕ)) → cond b (Some v) (or_then o p) ≡ or_then (cond b (Some v) o) p
or_cond true v o p = refl
or_cond false v o p = refl

pub found-append : (xs ys : List TableRow) (q : List ℕ) → found (xs ++ ys) q ≡ or_then (found xs q) (found ys q)
found-append [] ys q = refl
found-append (x ∷ xs) ys q = ap (cond (are_one q (key_of_row x)) (Some (record_of x).value)) (found-append xs ys q) ∙ or_cond (are_one q (key_of_row x)) (record_of x).value (found xs q) (found ys q)

found_entries : (xs : List TableRow) (q : List ℕ) → find by_bytes q (entries_of (map record_of xs)) ≡ found xs q
found_entries [] q = refl
found_entries (x ∷ xs) q = ap (cond (are_one q (key_of_row x)) (Some (record_of x).value)) (found_entries xs q)

below_entries : (k : List ℕ) (rs : List Record) → IsBelow k rs → T (below_all by_bytes k (entries_of rs))
below_entries k [] b = tt
below_entries k (r ∷ rs) b = T_both _ _ (subst (λ o. T (is_lt o)) (sym b.0) tt) (below_entries k rs b.1)

pub sorted_entries : (rs : List Record) → RisesByKey rs → T (is_sorted by_bytes (entries_of rs))
sorted_entries [] s = tt
sorted_entries (r ∷ rs) s = T_both _ _ (below_entries r.key rs s.0) (sorted_entries rs s.1)

-- the map of rising records has at a key what they have
pub got : (xs : List TableRow) (q : List ℕ) → RisesByKey (map record_of xs) → get (from_sorted {R = by_bytes} (entries_of (map record_of xs))) q ≡ found xs q
got xs q s = get-from_sorted by_bytes (entries_of (map record_of xs)) q (sorted_entries (map record_of xs) s) ∙ found_entries xs q

-- ---- rising keys

abbrev pub any_at : List TableRow → List ℕ → Bool
any_at xs q = list_any (λ x. are_one q (key_of_row x)) xs

-- each row is found under its key
abbrev pub AreFound : List TableRow → List TableRow → Type 0
AreFound all [] = Unit {0}
AreFound all (x ∷ xs) = (found all (key_of_row x) ≡ Some (record_of x).value) × AreFound all xs

-- a lower key in front hides none
found_behind : (x : TableRow) (all xs : List TableRow) → IsBelow (key_of_row x) (map record_of xs) → AreFound all xs → AreFound (x ∷ all) xs
found_behind x all [] b f = tt
found_behind x all (y ∷ ys) b f =
    let higher : by_bytes (key_of_row y) (key_of_row x) ≡ Greater = nat_list_cmp_total.antisymm (key_of_row y) (key_of_row x) ∙ ap ordering_reverse b.0 in
    (ap (λ o. cond (is_eq o) (Some (record_of x).value) (found all (key_of_row y))) higher ∙ f.0, found_behind x all ys b.1 f.1)

pub each_found : (xs : List TableRow) → RisesByKey (map record_of xs) → AreFound xs xs
each_found [] s = tt
each_found (x ∷ xs) s = (ap (λ b. cond b (Some (record_of x).value) (found xs (key_of_row x))) (itself (key_of_row x)), found_behind x xs xs s.0 (each_found xs s.1))

pub first_found : (all xs ys : List TableRow) → AreFound all (xs ++ ys) → AreFound all xs
first_found all [] ys f = tt
first_found all (x ∷ xs) ys f = (f.0, first_found all xs ys f.1)

-- ---- look-ups after changes

-- what stands at a key after changes
abbrev pub after : List Change → List ℕ → Option (List ℕ) → Option (List ℕ)
after [] q o = o
after (Put k v ∷ cs) q o = after cs q (cond (are_one q k) (Some v) o)
after (Remove k ∷ cs) q o = after cs q (cond (are_one q k) None o)

pub got_changed : (cs : List Change) (m : Records) (q : List ℕ) → get (changed cs m) q ≡ after cs q (get m q)
got_changed [] m q = refl
got_changed (Put k v ∷ cs) m q = got_changed cs (insert m k v) q ∙ ap (after cs q) (get-insert nat_list_cmp_total m k v q)
got_changed (Remove k ∷ cs) m q = got_changed cs (remove m k) q ∙ ap (after cs q) (get-remove nat_list_cmp_total m k q)

-- rows that are found in others are put: there is what those have
pub after_puts : (all xs : List TableRow) (q : List ℕ) (o : Option (List ℕ)) → AreFound all xs → after (map put_of xs) q o ≡ cond (any_at xs q) (found all q) o
after_puts all [] q o f = refl
after_puts all (x ∷ xs) q o f =
    after_puts all xs q (cond (are_one q (key_of_row x)) (Some (record_of x).value) o) f.1
    ∙ elim (are_one q (key_of_row x)) as (λ b. are_one q (key_of_row x) ≡ b → cond (any_at xs q) (found all q) (cond b (Some (record_of x).value) o) ≡ cond (b || any_at xs q) (found all q) o) [
      | true ↦ λ e. ap (cond (any_at xs q) (found all q)) (sym f.0 ∙ ap (found all) (sym (one_of q (key_of_row x) e))) ∙ same_both (any_at xs q) (found all q)
      | false ↦ λ e. refl
    ] refl
  where
    same_both : (b : Bool) (p : Option (List ℕ)) → cond b p p ≡ p
    same_both true p = refl
    same_both false p = refl
