-- The rows of the table, and the open forks that a world has.
use Rattle.std.proofs.Common.{◌≡◌, ◌∙◌, refl, sym, ap, subst, ℕ, ◌<◌, ◌⊎◌, inl, inr, Bool, true, false, cond, ◌||◌, ◌&&◌, ◌==◌, if◌then◌else◌, List, [], ◌∷◌, length, map, filter, Option, Some, None, arith}
use Rattle.std.specs.Prelude.{Result, Ok, Err, count_by, find, nat_le, nat_lt, option_map}
use Rattle.std.specs.List.{AllByRecursion, list_any}
use Rattle.std.specs.List.Sorted.{IsStrictlySortedBy}
use Rattle.std.specs.BTreeMap.{insert_entry}
use Rattle.std.specs.Cmp.{ranked}
use Rattle.std.specs.Map.{keys_of}
use Rattle.std.specs.Option.{is_some}
use Rattle.std.specs.Ordering.{nat_cmp, is_eq, match_ordering}
use Rattle.std.specs.declared.cmp.Ordering.TheVariants.{Less, Equal, Greater}
use Rattle.std.proofs.lemmas.Bool.{cases_order, eq-eqb, le-ltb, lt-ltb, ne_eqb}
use Rattle.std.proofs.lemmas.List.Sums.{length-filter}
use Rattle.afp_base.specs.Choice.{first_holding}
use Rattle.afp_base.specs.DenyMode.{Access, Fork, do_conflict}
use Rattle.afp_base.specs.Limits.{most_forks}
use Rattle.afp_base.specs.declared.ids.ForkRef.{ForkRef}
use Rattle.afp_base.specs.declared.ids.SessionNumber.{SessionNumber}
use Rattle.afp_serial.specs.Fork.{has_most_forks, is_denied, lowest_free, with_open}
use Rattle.afp_serial.specs.ForkLaws.{ReferenceCounts, ReferenceIsFree, ReferenceIsLowest}
use Rattle.afp_serial.specs.OnFork.{own_fork}
use Rattle.afp_serial.specs.OnVolume.{opened_on}
use Rattle.afp_serial.specs.World.{is_open, World, Session, OpenFork}
use Rattle.volume_spec.specs.Shared.{Opened}
use Rattle.deny_modes.specs.Opens.{Open, has_conflict}
use Rattle.fork_table.specs.ForkTable as table
use Rattle.fork_table.specs.declared.open_fork.OpenFork.{OpenFork as Row}
use Rattle.fork_table.specs.declared.open_fork.OpenFault.{OpenFault}
use Rattle.fork_table.specs.declared.open_fork.OpenFault.TheVariants.{Deny, TooMany, Memory}
use Rattle.sorted_map.specs.map.Entries.{at}
use Rattle.afp_core_state.specs.Forks.{HasForks, OpensFork, forks_of, new_open, open_of, shown_opens, with_opens}
use Rattle.afp_base.proofs.Facts.{or-false}
use Rattle.afp_base.proofs.ListFacts.{any-map, filter-map, length-mapped}

-- ---- lists

-- how many of the images pass
pub count-map : {A B : Type 0} (p : B → Bool) (f : A → B) (xs : List A) → count_by p (map f xs) ≡ length (filter (λ x. p (f x)) xs)
count-map p f xs = sym (length-filter p (map f xs)) ∙ ap length (filter-map p f xs) ∙ length-mapped f (filter (λ x. p (f x)) xs)

-- ---- rows

abbrev pub row_of : ℕ × Row → OpenFork
row_of row = open_of row.0 row.1

abbrev pub Rise : List (ℕ × Row) → Type 0
Rise rows = IsStrictlySortedBy nat_cmp (keys_of rows)

abbrev Above : ℕ → List (ℕ × Row) → Type 0
Above r rows = AllByRecursion (λ k. nat_cmp r k ≡ Less) (keys_of rows)

differs-less : (m n : ℕ) → nat_cmp m n ≡ Less → (n == m) ≡ false
differs-less m n is = ne_eqb n m (λ same. let low : m < n = ranked m n Less (sym is) in omega (arith, low, same))

differs-more : (m n : ℕ) → nat_cmp m n ≡ Greater → (n == m) ≡ false
differs-more m n is = ne_eqb n m (λ same. let low : n < m = ranked m n Greater (sym is) in omega (arith, low, same))

same-number : (m n : ℕ) → nat_cmp m n ≡ Equal → n ≡ m
same-number m n is = sym (ranked m n Equal (sym is))

none-above : (r : ℕ) (rows : List (ℕ × Row)) → Above r rows → at nat_cmp rows r ≡ None
none-above r [] a = refl
none-above r (e ∷ es) a = ap (λ o. cond (is_eq o) (Some e.1) (at nat_cmp es r)) a.0 ∙ none-above r es a.1

-- a reference is open just where a row is at it
pub open-at : (rows : List (ℕ × Row)) (k : ℕ) → table.is_open_reference rows k ≡ is_some (at nat_cmp rows k)
open-at [] k = refl
open-at (e ∷ es) k = elim (nat_cmp k e.0) as (λ o. nat_cmp k e.0 ≡ o → ((e.0 == k) || table.is_open_reference es k) ≡ is_some (cond (is_eq o) (Some e.1) (at nat_cmp es k))) [
  | Less ↦ λ is. ap (λ b. b || table.is_open_reference es k) (differs-less k e.0 is) ∙ open-at es k
  | Equal ↦ λ is. ap (λ b. b || table.is_open_reference es k) (eq-eqb e.0 k (same-number k e.0 is))
  | Greater ↦ λ is. ap (λ b. b || table.is_open_reference es k) (differs-more k e.0 is) ∙ open-at es k
] refl

pub open-rows : (rows : List (ℕ × Row)) (k : ℕ) → is_open (map row_of rows) k ≡ table.is_open_reference rows k
open-rows rows k = any-map (λ (o : OpenFork). o.reference == k) row_of rows

-- a test of the open fork of a reference
abbrev pub told : (Row → Bool) → Option Row → Bool
told p None = false
told p (Some o) = p o

pub told-at : (p : Row → Bool) (rows : List (ℕ × Row)) (k : ℕ) → Rise rows → list_any (λ row. (row.0 == k) && p row.1) rows ≡ told p (at nat_cmp rows k)
unfolding IsStrictlySortedBy
told-at p [] k s = refl
told-at p (e ∷ es) k s = elim (nat_cmp k e.0) as (λ o. nat_cmp k e.0 ≡ o → (((e.0 == k) && p e.1) || list_any (λ row. (row.0 == k) && p row.1) es) ≡ told p (cond (is_eq o) (Some e.1) (at nat_cmp es k))) [
  | Less ↦ λ is. ap (λ b. (b && p e.1) || list_any (λ row. (row.0 == k) && p row.1) es) (differs-less k e.0 is) ∙ told-at p es k s.1
  | Equal ↦ λ is.
      let one : e.0 ≡ k = same-number k e.0 is in
      let none : at nat_cmp es k ≡ None = none-above k es (subst (λ n. Above n es) one s.0) in
      let rest : list_any (λ row. (row.0 == k) && p row.1) es ≡ false = told-at p es k s.1 ∙ ap (told p) none in
      (λ i. (eq-eqb e.0 k one i && p e.1) || rest i) ∙ or-false (p e.1)
  | Greater ↦ λ is. ap (λ b. (b && p e.1) || list_any (λ row. (row.0 == k) && p row.1) es) (differs-more k e.0 is) ∙ told-at p es k s.1
] refl

-- ---- the open fork of a reference

abbrev is_own : ℕ → ℕ → OpenFork → Bool
is_own k s o = (o.reference == k) && (o.session == s)

own-find : (rows : List (ℕ × Row)) (s k : ℕ) → Rise rows → find (is_own k s) (map row_of rows) ≡ option_map (open_of k) (table.own_open s (at nat_cmp rows k))
unfolding IsStrictlySortedBy
own-find [] s k rise = refl
own-find (e ∷ es) s k rise = elim (nat_cmp k e.0) as (λ o. nat_cmp k e.0 ≡ o → cond ((e.0 == k) && (e.1.session.0 == s)) (Some (row_of e)) (find (is_own k s) (map row_of es)) ≡ option_map (open_of k) (table.own_open s (cond (is_eq o) (Some e.1) (at nat_cmp es k)))) [
  | Less ↦ λ is. passed (differs-less k e.0 is) ∙ own-find es s k rise.1
  | Equal ↦ λ is.
      let one : e.0 ≡ k = same-number k e.0 is in
      let none : at nat_cmp es k ≡ None = none-above k es (subst (λ n. Above n es) one rise.0) in
      here one (own-find es s k rise.1 ∙ ap (λ o. option_map (open_of k) (table.own_open s o)) none)
  | Greater ↦ λ is. passed (differs-more k e.0 is) ∙ own-find es s k rise.1
] refl
  where
    passed : (e.0 == k) ≡ false → cond ((e.0 == k) && (e.1.session.0 == s)) (Some (row_of e)) (find (is_own k s) (map row_of es)) ≡ find (is_own k s) (map row_of es)
    passed other = ap (λ b. cond (b && (e.1.session.0 == s)) (Some (row_of e)) (find (is_own k s) (map row_of es))) other

    here : e.0 ≡ k → find (is_own k s) (map row_of es) ≡ None → cond ((e.0 == k) && (e.1.session.0 == s)) (Some (row_of e)) (find (is_own k s) (map row_of es)) ≡ option_map (open_of k) (table.own_open s (Some e.1))
    here one less =
        ap (λ b. cond (b && (e.1.session.0 == s)) (Some (row_of e)) (find (is_own k s) (map row_of es))) (eq-eqb e.0 k one)
        ∙ (elim (e.1.session.0 == s) as (λ b. cond b (Some (row_of e)) (find (is_own k s) (map row_of es)) ≡ option_map (open_of k) (if b then Some e.1 else None)) [
          | true ↦ ap (λ n. Some (open_of n e.1)) one
          | false ↦ less
        ])

pub own-is : (w : World) (x : Session) (t : table.Table) (s r : ℕ) (res : Option Row) → Rise t.opens → HasForks w (forks_of t) → x.number ≡ s → res ≡ table.own_open s (at nat_cmp t.opens r) → own_fork w x r ≡ option_map (open_of r) res
own-is w x t s r res rise has number is =
    (λ i. find (is_own r (number i)) (has.opens i)) ∙ own-find t.opens s r rise ∙ ap (option_map (open_of r)) (sym is)

-- where it is the session's, it is open
pub own-open : (rows : List (ℕ × Row)) (s r : ℕ) (o : Row) → Some o ≡ table.own_open s (at nat_cmp rows r) → is_open (map row_of rows) r ≡ true
own-open rows s r o is = open-rows rows r ∙ open-at rows r ∙ by (at nat_cmp rows r) is
  where
    by : (found : Option Row) → Some o ≡ table.own_open s found → is_some found ≡ true
    by None h = absurd (cc h)
    by (Some v) h = refl

-- ---- a fork is opened

denied-is : (w : World) (t : table.Table) (fork : Fork) (access : Access) → HasForks w (forks_of t) → is_denied w fork access ≡ has_conflict (table.plain_opens t.opens) fork access
unfolding is_denied
denied-is w t fork access has =
    ap (list_any (λ (o : OpenFork). do_conflict o.fork o.access fork access)) has.opens
    ∙ any-map (λ (o : OpenFork). do_conflict o.fork o.access fork access) row_of t.opens
    ∙ sym (any-map (λ (o : Open). do_conflict o.fork o.access fork access) table.plain_open t.opens)

most-is : (w : World) (x : Session) (t : table.Table) (s : ℕ) → HasForks w (forks_of t) → x.number ≡ s → has_most_forks w x ≡ nat_le most_forks (table.count_open s t.opens)
unfolding has_most_forks
most-is w x t s has number =
    (λ i. nat_le 256 (count_by (λ (o : OpenFork). o.session == number i) (has.opens i)))
    ∙ ap (nat_le 256) (count-map (λ (o : OpenFork). o.session == s) row_of t.opens)

lowest-is : (rows : List (ℕ × Row)) (r : ℕ) → ReferenceIsFree → ReferenceIsLowest → ReferenceCounts → table.IsLowestFree rows r → r ≡ lowest_free (map row_of rows)
lowest-is rows r free lowest counts is = by (cases_order r (lowest_free (map row_of rows)))
  where
    by : (r ≡ lowest_free (map row_of rows)) ⊎ ((r < lowest_free (map row_of rows)) ⊎ (lowest_free (map row_of rows) < r)) → r ≡ lowest_free (map row_of rows)
    by (inl same) = same
    by (inr (inl low)) = absurd (let taken = sym (open-rows rows r) ∙ lowest (map row_of rows) r is.first low in cc (taken, is.free))
    by (inr (inr high)) = absurd (let taken = open-rows rows (lowest_free (map row_of rows)) ∙ is.lower (lowest_free (map row_of rows)) (counts (map row_of rows)).0 high in cc (taken, free (map row_of rows)))

placed-new : (rows : List (ℕ × Row)) (r : ℕ) (v : Row) → table.is_open_reference rows r ≡ false → map row_of (insert_entry nat_cmp rows r v) ≡ with_open (open_of r v) (map row_of rows)
placed-new [] r v free = refl
placed-new (e ∷ es) r v free = elim (nat_cmp r e.0) as (λ o. nat_cmp r e.0 ≡ o → map row_of (match_ordering o ((r, v) ∷ e ∷ es) ((e.0, v) ∷ es) (e ∷ insert_entry nat_cmp es r v)) ≡ (if nat_lt r e.0 then open_of r v ∷ row_of e ∷ map row_of es else row_of e ∷ with_open (open_of r v) (map row_of es))) [
  | Less ↦ λ is. ap (λ b. if b then open_of r v ∷ row_of e ∷ map row_of es else row_of e ∷ with_open (open_of r v) (map row_of es)) (sym (lt-ltb r e.0 (ranked r e.0 Less (sym is))))
  | Equal ↦ λ is. absurd (let taken = ap (λ b. b || table.is_open_reference es r) (eq-eqb e.0 r (same-number r e.0 is)) in cc (taken, free))
  | Greater ↦ λ is.
      let high : e.0 < r = ranked r e.0 Greater (sym is) in
      ap (λ l. row_of e ∷ l) (placed-new es r v (ap (λ b. b || table.is_open_reference es r) (sym (differs-more r e.0 is)) ∙ free))
      ∙ ap (λ b. if b then open_of r v ∷ row_of e ∷ map row_of es else row_of e ∷ with_open (open_of r v) (map row_of es)) (sym (le-ltb r e.0 (omega (arith, high))))
] refl

-- the first that holds of two conditions
none-of : (a b : Bool) → first_holding ((a, Deny) ∷ (b, TooMany) ∷ []) ≡ None → (a ≡ false) × (b ≡ false)
none-of true b h = absurd (cc h)
none-of false true h = absurd (cc h)
none-of false false h = (refl, refl)

first-of : (a b : Bool) → first_holding ((a, Deny) ∷ (b, TooMany) ∷ []) ≡ Some Deny → a ≡ true
first-of true b h = refl
first-of false true h = absurd (cc h)
first-of false false h = absurd (cc h)

second-of : (a b : Bool) → first_holding ((a, Deny) ∷ (b, TooMany) ∷ []) ≡ Some TooMany → (a ≡ false) × (b ≡ true)
second-of true b h = absurd (cc h)
second-of false true h = (refl, refl)
second-of false false h = absurd (cc h)

pub opens-fork : (w : World) (x : Session) (t t' : table.Table) (s : SessionNumber) (fork : Fork) (access : Access) (res : Result ForkRef OpenFault) → ReferenceIsFree → ReferenceIsLowest → ReferenceCounts
    → HasForks w (forks_of t) → x.number ≡ s.0 → table.OpensInTable t s fork access res t' → OpensFork w x (forks_of t) fork access res (forks_of t')
opens-fork w x t t' s fork access (Ok r) free lowest counts has number is =
    let none = none-of (has_conflict (table.plain_opens t.opens) fork access) (nat_le most_forks (table.count_open s.0 t.opens)) is.0 in
    let same : r.0 ≡ lowest_free (map row_of t.opens) = lowest-is t.opens r.0 free lowest counts is.1.0 in
    let row : Row = record { session = s; fork = fork; mode = access } in
    let new : open_of r.0 row ≡ new_open (forks_of t) x.number fork access = λ i. record { reference = same i; session = sym number i; fork = fork; access = access } in (
      denied-is w t fork access has ∙ none.0,
      most-is w x t s.0 has number ∙ none.1,
      same,
      ap forks_of is.1.1 ∙ ap (with_opens (forks_of t)) (placed-new t.opens r.0 row is.1.0.free ∙ ap (λ (o : OpenFork). with_open o (map row_of t.opens)) new),
    )
opens-fork w x t t' s fork access (Err Deny) free lowest counts has number is =
    (denied-is w t fork access has ∙ first-of (has_conflict (table.plain_opens t.opens) fork access) (nat_le most_forks (table.count_open s.0 t.opens)) is.0, ap forks_of is.1)
opens-fork w x t t' s fork access (Err TooMany) free lowest counts has number is =
    let both = second-of (has_conflict (table.plain_opens t.opens) fork access) (nat_le most_forks (table.count_open s.0 t.opens)) is.0 in
    (denied-is w t fork access has ∙ both.0, most-is w x t s.0 has number ∙ both.1, ap forks_of is.1)
opens-fork w x t t' s fork access (Err Memory) free lowest counts has number is = ap forks_of is.1

-- ---- the open forks of a volume

abbrev shown_of : OpenFork → Opened
shown_of o = record { node = o.fork.node; resource = o.fork.resource }

pub opened-is : (w : World) (t : table.Table) (v : ℕ) → HasForks w (forks_of t) → shown_opens (table.forks_of v t.opens) ≡ opened_on w v
unfolding opened_on
opened-is w t v has =
    over (filter (λ (row : ℕ × Row). row.1.fork.volume == v) t.opens)
    ∙ ap (map shown_of) (sym (filter-map (λ (o : OpenFork). o.fork.volume == v) row_of t.opens) ∙ ap (filter (λ (o : OpenFork). o.fork.volume == v)) (sym has.opens))
  where
    over : (rows : List (ℕ × Row)) → shown_opens (map (λ row. (record { 0 = row.1.fork.node }, row.1.fork.resource)) rows) ≡ map shown_of (map row_of rows)
    over [] = refl
    over (row ∷ rows) = ap (λ l. shown_of (row_of row) ∷ l) (over rows)
