-- What is found at a key in the records of rows, and after changes.
use Rattle.std.proofs.Common.{◌≡◌, ◌∙◌, ℕ, Bool, true, false, cond, List, [], ◌∷◌, ◌++◌, ◌||◌, map, refl, sym, ap, subst}
use Rattle.std.specs.Prelude.{Option, Some, None, T, ◌&&◌}
use Rattle.std.specs.List.{filter, list_any}
use Rattle.std.specs.Cmp.{tied_itself}
use Rattle.std.specs.Cmp.Lexicographic.{nat_list_cmp_total}
use Rattle.std.specs.Ordering.{is_eq, is_lt, eq_by_cmp, ordering_reverse}
use Rattle.std.specs.declared.cmp.Ordering.{Ordering}
use Rattle.std.specs.declared.cmp.Ordering.TheVariants.{Less, Equal, Greater}
use Rattle.std.specs.FinMap.{find, is_sorted, get, get-insert, get-remove, get-from_sorted, from_sorted, insert, remove}
use Rattle.std.specs.FinMap.Entries.{below_all}
use Rattle.record_keeper.specs.declared.record.Record.{Record}
use Rattle.record_keeper.specs.declared.record.Change.{Change}
use Rattle.record_keeper.specs.declared.record.Change.TheVariants.{Put, Remove}
use Rattle.record_keeper.specs.Records.{Records, changed}
use Rattle.record_keeper.specs.Reading.{IsBelow, RisesByKey}
use Rattle.record_keeper.proofs.KeptRows.{by_bytes, one_key}
use Rattle.volume_keeper_records.specs.declared.rows.TableRow.{TableRow}
use Rattle.volume_keeper_records.specs.Records.{record_of}
use Rattle.volume_keeper_records.specs.Image.{entries_of}

abbrev pub are_one : List ℕ → List ℕ → Bool
are_one q k = eq_by_cmp by_bytes q k

abbrev pub key_of_row : TableRow → List ℕ
key_of_row x = (record_of x).key

equal_of : (o : Ordering) → is_eq o ≡ true → o ≡ Equal
equal_of Less e = absurd (cc)
equal_of Equal e = refl
equal_of Greater e = absurd (cc)

pub one_of : (q k : List ℕ) → are_one q k ≡ true → q ≡ k
one_of q k e = one_key q k (equal_of (by_bytes q k) e)

pub itself : (k : List ℕ) → are_one k k ≡ true
itself k = ap is_eq (tied_itself nat_list_cmp_total k)

-- ---- look-ups in rows

-- what the records of rows have at a key
abbrev pub found : List TableRow → List ℕ → Option (List ℕ)
found [] q = None
found (x ∷ xs) q = cond (are_one q (key_of_row x)) (Some (record_of x).value) (found xs q)

abbrev pub or_then : Option (List ℕ) → Option (List ℕ) → Option (List ℕ)
or_then None other = other
or_then (Some v) other = Some v

or_cond : (b : Bool) (v : List ℕ) (o p : Option (List ℕ)) → cond b (Some v) (or_then o p) ≡ or_then (cond b (Some v) o) p
or_cond true v o p = refl
or_cond false v o p = refl

pub found-append : (xs ys : List TableRow) (q : List ℕ) → found (xs ++ ys) q ≡ or_then (found xs q) (found ys q)
found-append [] ys q = refl
found-append (x ∷ xs) ys q = ap (cond (are_one q (key_of_row x)) (Some (record_of x).value)) (found-append xs ys q) ∙ or_cond (are_one q (key_of_row x)) (record_of x).value (found xs q) (found ys q)

found_entries : (xs : List TableRow) (q : List ℕ) → find by_bytes q (entries_of (map record_of xs)) ≡ found xs q
found_entries [] q = refl
found_entries (x ∷ xs) q = ap (cond (are_one q (key_of_row x)) (Some (record_of x).value)) (found_entries xs q)

both : (a b : Bool) → T a → T b → T (a && b)
both true b p q = q
both false b p q = p

below_entries : (k : List ℕ) (rs : List Record) → IsBelow k rs → T (below_all by_bytes k (entries_of rs))
below_entries k [] b = tt
below_entries k (r ∷ rs) b = both _ _ (subst (λ o. T (is_lt o)) (sym b.0) tt) (below_entries k rs b.1)

pub sorted_entries : (rs : List Record) → RisesByKey rs → T (is_sorted by_bytes (entries_of rs))
sorted_entries [] s = tt
sorted_entries (r ∷ rs) s = both _ _ (below_entries r.key rs s.0) (sorted_entries rs s.1)

-- the map of rising records has at a key what they have
pub got : (xs : List TableRow) (q : List ℕ) → RisesByKey (map record_of xs) → get (from_sorted {R = by_bytes} (entries_of (map record_of xs))) q ≡ found xs q
got xs q s = get-from_sorted by_bytes (entries_of (map record_of xs)) q (sorted_entries (map record_of xs) s) ∙ found_entries xs q

-- ---- rising keys

abbrev pub any_at : List TableRow → List ℕ → Bool
any_at xs q = list_any (λ x. are_one q (key_of_row x)) xs

none_below : (k : List ℕ) (xs : List TableRow) → IsBelow k (map record_of xs) → found xs k ≡ None
none_below k [] b = refl
none_below k (x ∷ xs) b = ap (λ o. cond (is_eq o) (Some (record_of x).value) (found xs k)) b.0 ∙ none_below k xs b.1

any_below : (k : List ℕ) (xs : List TableRow) → IsBelow k (map record_of xs) → any_at xs k ≡ false
any_below k [] b = refl
any_below k (x ∷ xs) b = ap (λ o. is_eq o || any_at xs k) b.0 ∙ any_below k xs b.1

pub below_filter : (k : List ℕ) (p : TableRow → Bool) (xs : List TableRow) → IsBelow k (map record_of xs) → IsBelow k (map record_of (filter p xs))
below_filter k p [] b = tt
below_filter k p (x ∷ xs) b = elim (p x) as (λ t. IsBelow k (map record_of (cond t (x ∷ filter p xs) (filter p xs)))) [
  | true ↦ (b.0, below_filter k p xs b.1)
  | false ↦ below_filter k p xs b.1
]

-- each row is found under its key
abbrev pub AreFound : List TableRow → List TableRow → Type 0
AreFound all [] = Unit {0}
AreFound all (x ∷ xs) = (found all (key_of_row x) ≡ Some (record_of x).value) × AreFound all xs

-- a lower key in front hides none
found_behind : (x : TableRow) (all xs : List TableRow) → IsBelow (key_of_row x) (map record_of xs) → AreFound all xs → AreFound (x ∷ all) xs
found_behind x all [] b f = tt
found_behind x all (y ∷ ys) b f =
    let higher : by_bytes (key_of_row y) (key_of_row x) ≡ Greater = nat_list_cmp_total.antisymm (key_of_row y) (key_of_row x) ∙ ap ordering_reverse b.0 in
    (ap (λ o. cond (is_eq o) (Some (record_of x).value) (found all (key_of_row y))) higher ∙ f.0, found_behind x all ys b.1 f.1)

pub each_found : (xs : List TableRow) → RisesByKey (map record_of xs) → AreFound xs xs
each_found [] s = tt
each_found (x ∷ xs) s = (ap (λ b. cond b (Some (record_of x).value) (found xs (key_of_row x))) (itself (key_of_row x)), found_behind x xs xs s.0 (each_found xs s.1))

pub first_found : (all xs ys : List TableRow) → AreFound all (xs ++ ys) → AreFound all xs
first_found all [] ys f = tt
first_found all (x ∷ xs) ys f = (f.0, first_found all xs ys f.1)

-- ---- look-ups after changes

-- what stands at a key after changes
abbrev pub after : List Change → List ℕ → Option (List ℕ) → Option (List ℕ)
after [] q o = o
after (Put k v ∷ cs) q o = after cs q (cond (are_one q k) (Some v) o)
after (Remove k ∷ cs) q o = after cs q (cond (are_one q k) None o)

pub got_changed : (cs : List Change) (m : Records) (q : List ℕ) → get (changed cs m) q ≡ after cs q (get m q)
got_changed [] m q = refl
got_changed (Put k v ∷ cs) m q = got_changed cs (insert m k v) q ∙ ap (after cs q) (get-insert nat_list_cmp_total m k v q)
got_changed (Remove k ∷ cs) m q = got_changed cs (remove m k) q ∙ ap (after cs q) (get-remove nat_list_cmp_total m k q)

pub after-append : (cs ds : List Change) (q : List ℕ) (o : Option (List ℕ)) → after (cs ++ ds) q o ≡ after ds q (after cs q o)
after-append [] ds q o = refl
after-append (Put k v ∷ cs) ds q o = after-append cs ds q (cond (are_one q k) (Some v) o)
after-append (Remove k ∷ cs) ds q o = after-append cs ds q (cond (are_one q k) None o)
