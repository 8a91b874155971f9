-- The entries of the sessions tell what the rows tell, after each call.
use Rattle.std.proofs.Common.{◌≡◌, ◌∙◌, refl, sym, ap, subst, ℕ, zero, suc, ◌-◌, ◌<◌, ◌≤◌, Bool, true, false, cond, ◌||◌, ◌&&◌, ◌==◌, if◌then◌else◌, List, [], ◌∷◌, length, map, filter, take, drop, Option, Some, None, inl, inr, arith}
use Rattle.std.specs.Prelude.{nat_lt, nat_le, slice_get, slice_index_or, option_map}
use Rattle.std.specs.Cmp.{IsTotalOrder}
use Rattle.std.specs.List.{AllByRecursion, list_any}
use Rattle.std.specs.List.Sorted.{IsNonDecreasingBy, IsStrictlySortedBy}
use Rattle.std.specs.Map.{keys_of, remove_entry}
use Rattle.std.specs.BTreeMap.{insert_entry, is_at}
use Rattle.std.specs.Ordering.{nat_cmp, is_eq, match_ordering, ordering_then}
use Rattle.std.specs.declared.cmp.Ordering.{Ordering}
use Rattle.std.specs.declared.cmp.Ordering.TheVariants.{Less, Equal, Greater}
use Rattle.std.proofs.lemmas.Bool.{cases_Bool, or_right, or_parts}
use Rattle.std.proofs.lemmas.Bool.Decides.{nat_tests}
use Rattle.std.proofs.lemmas.Cmp.{nat_cmp_total, then_total}
use Rattle.afp_base.specs.DenyMode.{Fork}
use Rattle.afp_base.specs.declared.ids.ForkRef.{ForkRef}
use Rattle.sorted_map.specs.map.Entries.{at}
use Rattle.fork_table.specs.declared.open_fork.OpenFork.{OpenFork}
use Rattle.fork_table.specs.declared.own.OwnRef.{OwnRef}
use Rattle.fork_table.specs.ForkTable.{is_open_of_session, exchange_row}
use Rattle.fork_table.specs.lemma.Kept.{FindsOne, does_pass}
use Rattle.fork_table.specs.lemma.Own.{own_cmp, own_entry, own_ref, is_own, session_of, AreOwn, IsOwnPart, IsSplitBy}
use Rattle.fork_table.proofs.Entries.{other_put, own_put, other_taken, own_taken, found_passing, none_passing, out_again, nothing_taken}
use Rattle.fork_table.proofs.References.{Rise, Above}
use Rattle.afp_base.proofs.Facts.{nat_cmp_equal, nat_cmp_less}

abbrev Entry : Type 0
Entry = OwnRef × Unit {0}

-- ---- the order
own_total : IsTotalOrder own_cmp
own_total = then_total {R = λ a b. nat_cmp a.session.0 b.session.0} {S = λ a b. nat_cmp a.reference.0 b.reference.0}
    (record { antisymm = λ x y. nat_cmp_total.antisymm x.session.0 y.session.0; trans = λ x y z. nat_cmp_total.trans x.session.0 y.session.0 z.session.0; congr = λ x y z. nat_cmp_total.congr x.session.0 y.session.0 z.session.0 })
    (record { antisymm = λ x y. nat_cmp_total.antisymm x.reference.0 y.reference.0; trans = λ x y z. nat_cmp_total.trans x.reference.0 y.reference.0 z.reference.0; congr = λ x y z. nat_cmp_total.congr x.reference.0 y.reference.0 z.reference.0 })

number_itself : (m : ℕ) → nat_cmp m m ≡ Equal
number_itself m = grind (arith, nat_tests)

own_itself : (k : OwnRef) → own_cmp k k ≡ Equal
own_itself k = λ i. ordering_then (number_itself k.session.0 i) (number_itself k.reference.0 i)

-- of one key the session is one
same_session : (k : OwnRef) (e : OwnRef) → is_eq (own_cmp k e) ≡ true → k.session.0 ≡ e.session.0
same_session k e h = elim (nat_cmp k.session.0 e.session.0) as (λ r. nat_cmp k.session.0 e.session.0 ≡ r → is_eq (ordering_then r (nat_cmp k.reference.0 e.reference.0)) ≡ true → k.session.0 ≡ e.session.0) [
  | Less ↦ λ is h. absurd (cc h)
  | Equal ↦ λ is h. nat_cmp_equal k.session.0 e.session.0 is
  | Greater ↦ λ is h. absurd (cc h)
] refl h

-- a key's entries are of its session
of_one : (s : ℕ) (b : Bool) (k : OwnRef) (e : Entry) → (k.session.0 == s) ≡ b → is_eq (own_cmp k e.0) ≡ true → is_own s e ≡ b
of_one s b k e is h = ap (λ n. n == s) (sym (same_session k e.0 h)) ∙ is

-- ---- the entries of rows of one session
rest_none : {A : Type 0} (b : Bool) (x : A) (o : Option A) → cond b (Some x) o ≡ None → o ≡ None
rest_none true x o h = absurd (cc h)
rest_none false x o h = h

in_session : (s m n : ℕ) (v w : OpenFork) → is_open_of_session s v ≡ true → is_open_of_session s w ≡ true → own_cmp (own_ref m v) (own_ref n w) ≡ nat_cmp m n
in_session s m n v w one two = ap (λ o. ordering_then o (nat_cmp m n)) (let e : nat_cmp v.session.0 w.session.0 ≡ Equal = grind (arith, nat_tests, one, two) in e)

abbrev pub of_rows : ℕ → List (ℕ × OpenFork) → List (ℕ × OpenFork)
of_rows s rows = filter (λ row. is_open_of_session s row.1) rows

-- an entry that is put in
entries_put : (s : ℕ) (rows : List (ℕ × OpenFork)) (r : ℕ) (v : OpenFork) → is_open_of_session s v ≡ true → at nat_cmp rows r ≡ None
    → map own_entry (insert_entry nat_cmp (of_rows s rows) r v) ≡ insert_entry own_cmp (map own_entry (of_rows s rows)) (own_ref r v) tt
entries_put s [] r v own none = refl
entries_put s (e ∷ es) r v own none = elim (is_open_of_session s e.1) as (λ b. is_open_of_session s e.1 ≡ b
    → map own_entry (insert_entry nat_cmp (if b then e ∷ of_rows s es else of_rows s es) r v) ≡ insert_entry own_cmp (map own_entry (if b then e ∷ of_rows s es else of_rows s es)) (own_ref r v) tt) [
      | true ↦ λ one.
          let here = in_session s r e.0 v e.1 own one in
          elim (nat_cmp r e.0) as (λ o. nat_cmp r e.0 ≡ o → cond (is_eq o) (Some e.1) (at nat_cmp es r) ≡ None
          → map own_entry (match_ordering o ((r, v) ∷ e ∷ of_rows s es) ((e.0, v) ∷ of_rows s es) (e ∷ insert_entry nat_cmp (of_rows s es) r v))
          ≡ match_ordering (own_cmp (own_ref r v) (own_ref e.0 e.1)) (own_entry (r, v) ∷ own_entry e ∷ map own_entry (of_rows s es)) (own_entry e ∷ map own_entry (of_rows s es)) (own_entry e ∷ insert_entry own_cmp (map own_entry (of_rows s es)) (own_ref r v) tt)) [
            | Less ↦ λ is none. ap (λ o. match_ordering o (own_entry (r, v) ∷ own_entry e ∷ map own_entry (of_rows s es)) (own_entry e ∷ map own_entry (of_rows s es)) (own_entry e ∷ insert_entry own_cmp (map own_entry (of_rows s es)) (own_ref r v) tt)) (sym (here ∙ is))
            | Equal ↦ λ is none. absurd (cc none)
            | Greater ↦ λ is none. ap (λ l. own_entry e ∷ l) (entries_put s es r v own none)
                ∙ ap (λ o. match_ordering o (own_entry (r, v) ∷ own_entry e ∷ map own_entry (of_rows s es)) (own_entry e ∷ map own_entry (of_rows s es)) (own_entry e ∷ insert_entry own_cmp (map own_entry (of_rows s es)) (own_ref r v) tt)) (sym (here ∙ is))
          ] refl none
      | false ↦ λ other. entries_put s es r v own (rest_none (is_eq (nat_cmp r e.0)) e.1 (at nat_cmp es r) none)
    ] refl

-- an entry that is taken out
entries_taken : (s : ℕ) (rows : List (ℕ × OpenFork)) (r : ℕ) (o : OpenFork) → is_open_of_session s o ≡ true → Some o ≡ at nat_cmp rows r
    → map own_entry (of_rows s (remove_entry (is_at (nat_cmp r)) rows)) ≡ remove_entry (is_at (own_cmp (own_ref r o))) (map own_entry (of_rows s rows))
entries_taken s [] r o own found = absurd (cc found)
entries_taken s (e ∷ es) r o own found = elim (is_eq (nat_cmp r e.0)) as (λ b. is_eq (nat_cmp r e.0) ≡ b → Some o ≡ cond b (Some e.1) (at nat_cmp es r)
    → map own_entry (of_rows s (cond b es (e ∷ remove_entry (is_at (nat_cmp r)) es))) ≡ remove_entry (is_at (own_cmp (own_ref r o))) (map own_entry (if is_open_of_session s e.1 then e ∷ of_rows s es else of_rows s es))) [
      | true ↦ λ is found.
          let same : o ≡ e.1 = cc found in
          let one : is_open_of_session s e.1 ≡ true = ap (is_open_of_session s) (sym same) ∙ own in
          let here : is_eq (own_cmp (own_ref r o) (own_ref e.0 e.1)) ≡ true = ap is_eq (in_session s r e.0 o e.1 own one) ∙ is in
          ap (λ b. cond b (map own_entry (of_rows s es)) (own_entry e ∷ remove_entry (is_at (own_cmp (own_ref r o))) (map own_entry (of_rows s es)))) (sym here)
          ∙ ap (λ b. remove_entry (is_at (own_cmp (own_ref r o))) (map own_entry (if b then e ∷ of_rows s es else of_rows s es))) (sym one)
      | false ↦ λ is found. elim (is_open_of_session s e.1) as (λ b. is_open_of_session s e.1 ≡ b
          → map own_entry (if b then e ∷ of_rows s (remove_entry (is_at (nat_cmp r)) es) else of_rows s (remove_entry (is_at (nat_cmp r)) es)) ≡ remove_entry (is_at (own_cmp (own_ref r o))) (map own_entry (if b then e ∷ of_rows s es else of_rows s es))) [
            | true ↦ λ one.
                let here : is_eq (own_cmp (own_ref r o) (own_ref e.0 e.1)) ≡ false = ap is_eq (in_session s r e.0 o e.1 own one) ∙ is in
                ap (λ l. own_entry e ∷ l) (entries_taken s es r o own found)
                ∙ ap (λ b. cond b (map own_entry (of_rows s es)) (own_entry e ∷ remove_entry (is_at (own_cmp (own_ref r o))) (map own_entry (of_rows s es)))) (sym here)
            | false ↦ λ other. entries_taken s es r o own found
          ] refl
    ] refl found

-- a row of another session that is taken out
others_taken : (s : ℕ) (rows : List (ℕ × OpenFork)) (r : ℕ) (o : OpenFork) → is_open_of_session s o ≡ false → Some o ≡ at nat_cmp rows r → of_rows s (remove_entry (is_at (nat_cmp r)) rows) ≡ of_rows s rows
others_taken s [] r o other found = refl
others_taken s (e ∷ es) r o other found = elim (is_eq (nat_cmp r e.0)) as (λ b. Some o ≡ cond b (Some e.1) (at nat_cmp es r) → of_rows s (cond b es (e ∷ remove_entry (is_at (nat_cmp r)) es)) ≡ (if is_open_of_session s e.1 then e ∷ of_rows s es else of_rows s es)) [
  | true ↦ λ found. let same : o ≡ e.1 = cc found in ap (λ b. if b then e ∷ of_rows s es else of_rows s es) (sym (ap (is_open_of_session s) (sym same) ∙ other))
  | false ↦ λ found. ap (λ l. if is_open_of_session s e.1 then e ∷ l else l) (others_taken s es r o other found)
] found

-- no entry is of a reference that no row has
entries_none : (rows : List (ℕ × OpenFork)) (r : ℕ) (v : OpenFork) → at nat_cmp rows r ≡ None → at own_cmp (map own_entry rows) (own_ref r v) ≡ None
entries_none [] r v none = refl
entries_none (e ∷ es) r v none = elim (is_eq (nat_cmp r e.0)) as (λ b. is_eq (nat_cmp r e.0) ≡ b → cond b (Some e.1) (at nat_cmp es r) ≡ None → at own_cmp (map own_entry (e ∷ es)) (own_ref r v) ≡ None) [
  | true ↦ λ is none. absurd (cc none)
  | false ↦ λ is none.
      ap (λ b. cond b (Some tt) (at own_cmp (map own_entry es) (own_ref r v))) (then_not (nat_cmp v.session.0 e.1.session.0) (nat_cmp r e.0) is) ∙ entries_none es r v none
] refl none
  where
    then_not : (x y : Ordering) → is_eq y ≡ false → is_eq (ordering_then x y) ≡ false
    then_not Less y h = refl
    then_not Equal y h = h
    then_not Greater y h = refl

-- ---- the table's edits
module _ (rows : List (ℕ × OpenFork)) (own : List Entry) (a : AreOwn rows own) where
  pub own_absent : (r : ℕ) (v : OpenFork) → at nat_cmp rows r ≡ None → at own_cmp own (own_ref r v) ≡ None
  own_absent r v none =
      let s = v.session.0 in
      let itself : (s == s) ≡ true = grind (arith, nat_tests) in
      sym (found_passing own_cmp (is_own s) (own_ref r v) own (λ e h. of_one s true (own_ref r v) e itself h))
      ∙ ap (λ l. at own_cmp l (own_ref r v)) (a s)
      ∙ entries_none (of_rows s rows) r v (none_passing nat_cmp (λ row. is_open_of_session s row.1) r rows none)

  pub own_more : {rows' : List (ℕ × OpenFork)} {own' : List Entry} (r : ℕ) (v : OpenFork) → Rise rows → IsStrictlySortedBy own_cmp (keys_of own) → at nat_cmp rows r ≡ None
      → rows' ≡ insert_entry nat_cmp rows r v → own' ≡ insert_entry own_cmp own (own_ref r v) tt → AreOwn rows' own'
  own_more r v rise sorted none rows_are own_are = λ s.
      ap (filter (is_own s)) own_are
      ∙ elim (is_open_of_session s v) as (λ b. is_open_of_session s v ≡ b → filter (is_own s) (insert_entry own_cmp own (own_ref r v) tt) ≡ map own_entry (of_rows s (insert_entry nat_cmp rows r v))) [
        | true ↦ λ one.
            own_put own_cmp own_total (is_own s) (own_ref r v) tt own sorted (own_absent r v none) one
            ∙ ap (λ l. insert_entry own_cmp l (own_ref r v) tt) (a s)
            ∙ sym (entries_put s rows r v one none)
            ∙ ap (map own_entry) (sym (own_put nat_cmp nat_cmp_total (λ row. is_open_of_session s row.1) r v rows rise none one))
        | false ↦ λ other.
            other_put own_cmp (is_own s) (own_ref r v) tt own (own_absent r v none) other
            ∙ a s
            ∙ ap (map own_entry) (sym (other_put nat_cmp (λ row. is_open_of_session s row.1) r v rows none other))
      ] refl
      ∙ ap (λ l. map own_entry (of_rows s l)) (sym rows_are)

  pub own_undone : {own' own'' : List Entry} (r : ℕ) (v : OpenFork) → at nat_cmp rows r ≡ None → own' ≡ insert_entry own_cmp own (own_ref r v) tt → own'' ≡ remove_entry (is_at (own_cmp (own_ref r v))) own' → own'' ≡ own
  own_undone r v none put taken = taken ∙ ap (remove_entry (is_at (own_cmp (own_ref r v)))) put ∙ out_again own_cmp (own_ref r v) tt own (own_itself (own_ref r v)) (own_absent r v none)

  pub own_less : {rows' : List (ℕ × OpenFork)} {own' : List Entry} (r : ℕ) (o : OpenFork) → Some o ≡ at nat_cmp rows r → rows' ≡ remove_entry (is_at (nat_cmp r)) rows → own' ≡ remove_entry (is_at (own_cmp (own_ref r o))) own → AreOwn rows' own'
  own_less r o found rows_are own_are = λ s.
      ap (filter (is_own s)) own_are
      ∙ elim (is_open_of_session s o) as (λ b. is_open_of_session s o ≡ b → filter (is_own s) (remove_entry (is_at (own_cmp (own_ref r o))) own) ≡ map own_entry (of_rows s (remove_entry (is_at (nat_cmp r)) rows))) [
        | true ↦ λ one.
            own_taken own_cmp (is_own s) (own_ref r o) own (λ e h. of_one s true (own_ref r o) e one h)
            ∙ ap (remove_entry (is_at (own_cmp (own_ref r o)))) (a s)
            ∙ sym (entries_taken s rows r o one found)
        | false ↦ λ other.
            other_taken own_cmp (is_own s) (own_ref r o) own (λ e h. of_one s false (own_ref r o) e other h)
            ∙ a s
            ∙ ap (map own_entry) (sym (others_taken s rows r o other found))
      ] refl
      ∙ ap (λ l. map own_entry (of_rows s l)) (sym rows_are)

  pub own_same : {rows' : List (ℕ × OpenFork)} (r : ℕ) → at nat_cmp rows r ≡ None → rows' ≡ remove_entry (is_at (nat_cmp r)) rows → AreOwn rows' own
  own_same r none rows_are = subst (λ l. AreOwn l own) (sym (rows_are ∙ nothing_taken nat_cmp r rows none)) a

  pub own_exchanged : {rows' : List (ℕ × OpenFork)} (f g : Fork) → rows' ≡ map (exchange_row f g) rows → AreOwn rows' own
  own_exchanged f g rows_are = λ s. a s ∙ same s rows ∙ ap (λ l. map own_entry (of_rows s l)) (sym rows_are)
    where
      same : (s : ℕ) (rows : List (ℕ × OpenFork)) → map own_entry (of_rows s rows) ≡ map own_entry (of_rows s (map (exchange_row f g) rows))
      same s [] = refl
      same s (e ∷ es) = elim (is_open_of_session s e.1) as (λ b. map own_entry (if b then e ∷ of_rows s es else of_rows s es) ≡ map own_entry (if b then exchange_row f g e ∷ of_rows s (map (exchange_row f g) es) else of_rows s (map (exchange_row f g) es))) [
        | true ↦ ap (λ l. own_entry e ∷ l) (same s es)
        | false ↦ same s es
      ]

-- ---- what is asked of them
-- the first of a session's entries
first_found : (s : ℕ) (rows : List (ℕ × OpenFork)) → FindsOne (is_open_of_session s) rows (option_map (λ (e : Entry). e.0.reference) (slice_get (map own_entry (of_rows s rows)) 0))
first_found s [] = refl
first_found s (e ∷ es) = elim (is_open_of_session s e.1) as (λ b. is_open_of_session s e.1 ≡ b → FindsOne (is_open_of_session s) (e ∷ es) (option_map (λ (x : Entry). x.0.reference) (slice_get (map own_entry (if b then e ∷ of_rows s es else of_rows s es)) 0))) [
  | true ↦ λ one. let number : (e.0 == e.0) ≡ true = grind (arith, nat_tests) in (λ i. (number i && one i) || list_any (λ row. (row.0 == e.0) && is_open_of_session s row.1) es)
  | false ↦ λ other. further (option_map (λ (x : Entry). x.0.reference) (slice_get (map own_entry (of_rows s es)) 0)) other (first_found s es)
] refl
  where
    further : (o : Option ForkRef) → is_open_of_session s e.1 ≡ false → FindsOne (is_open_of_session s) es o → FindsOne (is_open_of_session s) (e ∷ es) o
    further (Some r) other h = or_right _ _ h
    further None other h = λ i. other i || h i

pub finds_first : (rows : List (ℕ × OpenFork)) (s : ℕ) {mine : List Entry} → mine ≡ map own_entry (of_rows s rows) → FindsOne (is_open_of_session s) rows (option_map (λ (e : Entry). e.0.reference) (slice_get mine 0))
finds_first rows s is = subst (λ l. FindsOne (is_open_of_session s) rows (option_map (λ (e : Entry). e.0.reference) (slice_get l 0))) (sym is) (first_found s rows)

-- an open that passes
pub finds_passing : (p : OpenFork → Bool) (rows : List (ℕ × OpenFork)) (r : ℕ) → does_pass p (at nat_cmp rows r) ≡ true → list_any (λ row. (row.0 == r) && p row.1) rows ≡ true
finds_passing p [] r h = absurd (cc h)
finds_passing p (e ∷ es) r h = elim (nat_cmp r e.0) as (λ o. nat_cmp r e.0 ≡ o → does_pass p (cond (is_eq o) (Some e.1) (at nat_cmp es r)) ≡ true → (((e.0 == r) && p e.1) || list_any (λ row. (row.0 == r) && p row.1) es) ≡ true) [
  | Less ↦ λ is h. or_right _ _ (finds_passing p es r h)
  | Equal ↦ λ is h. let one = nat_cmp_equal r e.0 is in let number : (e.0 == r) ≡ true = grind (arith, nat_tests, one) in (λ i. (number i && h i) || list_any (λ row. (row.0 == r) && p row.1) es)
  | Greater ↦ λ is h. or_right _ _ (finds_passing p es r h)
] refl h

-- where no entry of the session has an open that passes, no open passes
pub finds_none : (s : ℕ) (p : OpenFork → Bool) (rows : List (ℕ × OpenFork)) → Rise rows → ((o : OpenFork) → p o ≡ true → is_open_of_session s o ≡ true)
    → list_any (λ (e : Entry). does_pass p (at nat_cmp rows e.0.reference.0)) (map own_entry (of_rows s rows)) ≡ false → list_any (λ row. p row.1) rows ≡ false
unfolding IsStrictlySortedBy
finds_none s p [] rise own none = refl
finds_none s p (e ∷ es) rise own none = elim (is_open_of_session s e.1) as (λ b. is_open_of_session s e.1 ≡ b
    → list_any (λ (x : Entry). does_pass p (at nat_cmp (e ∷ es) x.0.reference.0)) (map own_entry (if b then e ∷ of_rows s es else of_rows s es)) ≡ false → (p e.1 || list_any (λ row. p row.1) es) ≡ false) [
      | true ↦ λ one none.
          let parts = or_parts (does_pass p (at nat_cmp (e ∷ es) e.0)) _ none in
          let here : p e.1 ≡ false = ap (λ o. does_pass p (cond (is_eq o) (Some e.1) (at nat_cmp es e.0))) (sym (number_itself e.0)) ∙ parts.0 in
          (λ i. here i || finds_none s p es rise.1 own (sym (behind es rise.0) ∙ parts.1) i)
      | false ↦ λ other none. (λ i. not_own other i || finds_none s p es rise.1 own (sym (behind es rise.0) ∙ none) i)
    ] refl none
  where
    not_own : is_open_of_session s e.1 ≡ false → p e.1 ≡ false
    not_own other = elim (cases_Bool (p e.1)) [ inl passes ↦ absurd (let one = own e.1 passes in cc (one, other)) | inr fails ↦ fails ]

    above_not : (n : ℕ) → nat_cmp e.0 n ≡ Less → is_eq (nat_cmp n e.0) ≡ false
    above_not n less = let low = nat_cmp_less e.0 n less in grind (arith, nat_tests)

    behind : (l : List (ℕ × OpenFork)) → Above e.0 l → list_any (λ (x : Entry). does_pass p (at nat_cmp (e ∷ es) x.0.reference.0)) (map own_entry (of_rows s l)) ≡ list_any (λ (x : Entry). does_pass p (at nat_cmp es x.0.reference.0)) (map own_entry (of_rows s l))
    behind [] a = refl
    behind (row ∷ l) a = elim (is_open_of_session s row.1) as (λ b. list_any (λ (x : Entry). does_pass p (at nat_cmp (e ∷ es) x.0.reference.0)) (map own_entry (if b then row ∷ of_rows s l else of_rows s l)) ≡ list_any (λ (x : Entry). does_pass p (at nat_cmp es x.0.reference.0)) (map own_entry (if b then row ∷ of_rows s l else of_rows s l))) [
      | true ↦ (λ i. does_pass p (cond (above_not row.0 a.0 i) (Some e.1) (at nat_cmp es row.0)) || behind l a.1 i)
      | false ↦ behind l a.1
    ]

-- ---- two halvings
all_at : (es : List Entry) (i : ℕ) (P : OwnRef → Type 0) → AllByRecursion P (keys_of es) → i < length es → (d : Entry) → P (slice_index_or es i d).0
all_at [] i P a h d = absurd (omega arith)
all_at (e ∷ es) zero P a h d = a.0
all_at (e ∷ es) (suc i) P a h d = all_at es i P a.1 (omega arith) d

not_falling : (a b : OwnRef) → own_cmp a b ≡ Less → a.session.0 ≤ b.session.0
not_falling a b h = elim (nat_cmp a.session.0 b.session.0) as (λ o. nat_cmp a.session.0 b.session.0 ≡ o → ordering_then o (nat_cmp a.reference.0 b.reference.0) ≡ Less → a.session.0 ≤ b.session.0) [
  | Less ↦ λ is h. let low = nat_cmp_less a.session.0 b.session.0 is in omega (arith, low)
  | Equal ↦ λ is h. let one = nat_cmp_equal a.session.0 b.session.0 is in omega (arith, one)
  | Greater ↦ λ is h. absurd (cc h)
] refl h

pub sessions_rise : (own : List Entry) → IsStrictlySortedBy own_cmp (keys_of own) → IsNonDecreasingBy session_of own
unfolding IsStrictlySortedBy
sessions_rise [] s i j d le h = absurd (omega arith)
sessions_rise (e ∷ es) s zero zero d le h = omega arith
sessions_rise (e ∷ es) s zero (suc j) d le h = not_falling e.0 (slice_index_or es j d).0 (all_at es j (λ y. own_cmp e.0 y ≡ Less) s.0 (omega arith) d)
sessions_rise (e ∷ es) s (suc i) zero d le h = absurd (omega arith)
sessions_rise (e ∷ es) s (suc i) (suc j) d le h = sessions_rise es s.1 i j d (omega arith) (omega arith)

abbrev IsFrom : ℕ → List Entry → ℕ → Type 0
IsFrom s own first = IsSplitBy (λ e. nat_lt (session_of e) s) own first

abbrev IsUpTo : ℕ → List Entry → ℕ → Type 0
IsUpTo s own last = IsSplitBy (λ e. nat_le (session_of e) s) own last

split_rest : {test : Entry → Bool} {e : Entry} {es : List Entry} {place : ℕ} → IsSplitBy test (e ∷ es) (suc place) → IsSplitBy test es place
split_rest a = record { within = omega (arith, a.within); front = λ k d less. a.front (suc k) d (omega (arith, less)); rest = λ k d low high. a.rest (suc k) d (omega (arith, low)) (omega (arith, high)) }

split_none : {test : Entry → Bool} {e : Entry} {es : List Entry} → IsSplitBy test (e ∷ es) 0 → IsSplitBy test es 0
split_none a = record { within = omega arith; front = λ k d less. absurd (omega (arith, less)); rest = λ k d low high. a.rest (suc k) d (omega arith) (omega (arith, high)) }

none_of : (s : ℕ) (own : List Entry) → IsUpTo s own 0 → filter (is_own s) own ≡ []
none_of s [] a = refl
none_of s (e ∷ es) a =
    let other : is_own s e ≡ false = (let f = a.rest 0 e (omega arith) (omega arith) in grind (arith, nat_tests, f)) in
    ap (λ b. if b then e ∷ filter (is_own s) es else filter (is_own s) es) other ∙ none_of s es (split_none a)

pub in_turn : (s : ℕ) (own : List Entry) (first last : ℕ) → IsFrom s own first → IsUpTo s own last → first ≤ last
in_turn s [] first last a b = omega (arith, a.within, b.within)
in_turn s (e ∷ es) zero last a b = omega arith
in_turn s (e ∷ es) (suc first) zero a b = absurd (let f = a.front 0 e (omega arith) in let g = b.rest 0 e (omega arith) (omega arith) in grind (arith, nat_tests, f, g))
in_turn s (e ∷ es) (suc first) (suc last) a b = let more = in_turn s es first last (split_rest a) (split_rest b) in omega (arith, more)

own_part : (s : ℕ) (own : List Entry) (first last : ℕ) → IsFrom s own first → IsUpTo s own last → take (last - first) (drop first own) ≡ filter (is_own s) own
own_part s [] zero zero a b = refl
own_part s [] zero (suc last) a b = absurd (omega (arith, b.within))
own_part s [] (suc first) last a b = absurd (omega (arith, a.within))
own_part s (e ∷ es) zero zero a b = sym (none_of s (e ∷ es) b)
own_part s (e ∷ es) zero (suc last) a b =
    let same : is_own s e ≡ true = (let f = a.rest 0 e (omega arith) (omega arith) in let g = b.front 0 e (omega arith) in grind (arith, nat_tests, f, g)) in
    let more : suc last - 0 ≡ suc (last - 0) = omega arith in
    ap (λ n. take n (e ∷ es)) more ∙ ap (λ l. e ∷ l) (own_part s es zero last (split_none a) (split_rest b)) ∙ ap (λ t. if t then e ∷ filter (is_own s) es else filter (is_own s) es) (sym same)
own_part s (e ∷ es) (suc first) zero a b = absurd (let f = a.front 0 e (omega arith) in let g = b.rest 0 e (omega arith) (omega arith) in grind (arith, nat_tests, f, g))
own_part s (e ∷ es) (suc first) (suc last) a b =
    let other : is_own s e ≡ false = (let f = a.front 0 e (omega arith) in grind (arith, nat_tests, f)) in
    let less : suc last - suc first ≡ last - first = omega arith in
    ap (λ n. take n (drop first es)) less ∙ own_part s es first last (split_rest a) (split_rest b) ∙ ap (λ t. if t then e ∷ filter (is_own s) es else filter (is_own s) es) (sym other)

pub is_part : (s : ℕ) (own : List Entry) (first last : ℕ) → IsFrom s own first → IsUpTo s own last → IsOwnPart own s first last
is_part s own first last a b = record { order = in_turn s own first last a b; within = b.within; part = own_part s own first last a b }
