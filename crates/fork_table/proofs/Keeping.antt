-- The opens of the deny modes are the rows, and each lock has its open, after each call.
use Rattle.std.proofs.Common.{◌≡◌, ◌∙◌, refl, sym, ap, subst, ℕ, suc, ◌<◌, ◌≤◌, Bool, true, false, cond, not, ◌||◌, ◌&&◌, ◌==◌, if◌then◌else◌, List, [], ◌∷◌, length, map, filter, Some, None, arith}
use Rattle.std.specs.Prelude.{Result, Ok, Err, option_map, nat_lt}
use Rattle.std.specs.List.{list_any, list_all}
use Rattle.std.specs.List.Sorted.{IsStrictlySortedBy}
use Rattle.std.specs.Map.{remove_entry}
use Rattle.std.specs.BTreeMap.{insert_entry, is_at}
use Rattle.std.specs.Ordering.{nat_cmp, is_eq, match_ordering}
use Rattle.std.specs.declared.cmp.Ordering.TheVariants.{Less, Equal, Greater}
use Rattle.std.proofs.lemmas.Bool.Decides.{nat_tests}
use Rattle.std.proofs.lemmas.Bool.{and_parts, eqb-true, or_parts, or_right}
use Rattle.std.proofs.lemmas.List.Folds.{list_all-map}
use Rattle.afp_base.specs.DenyMode.{Fork, is_one_fork}
use Rattle.afp_base.specs.Overlap.{Range}
use Rattle.afp_base.specs.declared.ids.NodeId.{NodeId}
use Rattle.sorted_map.specs.map.Entries.{at}
use Rattle.deny_modes.specs.Opens.{Open, opens_on, has_reference, in_exchange, exchange_open, exchanged_opens, with_noted, without_reference}
use Rattle.deny_modes.proofs.Forks.{both_cross}
use Rattle.range_locks.specs.declared.fault.LockFault.{LockFault}
use Rattle.range_locks.specs.declared.fault.LockFault.TheVariants.{Locked, Overlap, Full, Memory}
use Rattle.range_locks.specs.declared.fault.NotLocked.{NotLocked}
use Rattle.range_locks.specs.Locks.{ForkLock, SetsLock, TakesLock, with_fork_lock, without_holder, is_fork_lock, exchange_lock, exchanged_locks}
use Rattle.range_locks.proofs.Keeping.{any_filter as any_in_filter}
use Rattle.fork_table.specs.declared.open_fork.OpenFork.{OpenFork}
use Rattle.fork_table.specs.ForkTable.{Table, plain_open, plain_opens, is_open_reference, is_held, closing, exchange_row, forks_of}
use Rattle.fork_table.specs.lemma.Kept.{IsTable}
use Rattle.fork_table.specs.lemma.Own.{AreOwn}
use Rattle.fork_table.specs.declared.own.OwnRef.{OwnRef}
use Rattle.fork_table.proofs.Owning.{own_exchanged}
use Rattle.fork_table.proofs.References.{Rise, Above, shows_new, shows_less, fresh_row}
use Rattle.afp_base.proofs.Facts.{eqb-itself, nat_cmp_equal, nat_cmp_greater, nat_cmp_less, or_swap}
use Rattle.afp_base.proofs.ListFacts.{all-weaker, any-map, any-same, any-weaker, filter-all}
use Rattle.afp_base.proofs.Forks.{one_fork-itself}

-- ---- tests

all_filter : {A : Type 0} (p q keep : A → Bool) (xs : List A) → ((x : A) → keep x ≡ true → p x ≡ true → q x ≡ true) → list_all p xs ≡ true → list_all q (filter keep xs) ≡ true
all_filter p q keep [] gives h = refl
all_filter p q keep (x ∷ xs) gives h =
    let parts = and_parts (p x) (list_all p xs) h in
    elim (keep x) as (λ b. keep x ≡ b → list_all q (if b then x ∷ filter keep xs else filter keep xs) ≡ true) [
      | true ↦ λ is. (λ i. gives x is parts.0 i && all_filter p q keep xs gives parts.1 i)
      | false ↦ λ is. all_filter p q keep xs gives parts.1
    ] refl

any_filter : {A : Type 0} (p q keep : A → Bool) (xs : List A) → ((x : A) → p x ≡ true → (keep x ≡ true) × (q x ≡ true)) → list_any p xs ≡ true → list_any q (filter keep xs) ≡ true
any_filter p q keep [] gives h = absurd (cc h)
any_filter p q keep (x ∷ xs) gives h = elim (p x) as (λ b. p x ≡ b → (b || list_any p xs) ≡ true → list_any q (if keep x then x ∷ filter keep xs else filter keep xs) ≡ true) [
  | true ↦ λ is h.
      let both = gives x is in
      ap (λ b. list_any q (if b then x ∷ filter keep xs else filter keep xs)) both.0 ∙ ap (λ b. b || list_any q (filter keep xs)) both.1
  | false ↦ λ is h.
      let more = any_filter p q keep xs gives h in
      elim (keep x) as (λ b. list_any q (if b then x ∷ filter keep xs else filter keep xs) ≡ true) [ true ↦ or_right (q x) (list_any q (filter keep xs)) more | false ↦ more ]
] refl h

none_go : {A : Type 0} (p : A → Bool) (xs : List A) → list_any p xs ≡ false → filter (λ x. not (p x)) xs ≡ xs
none_go p [] h = refl
none_go p (x ∷ xs) h =
    let parts = or_parts (p x) (list_any p xs) h in
    ap (λ b. if not b then x ∷ filter (λ x. not (p x)) xs else filter (λ x. not (p x)) xs) parts.0 ∙ ap (λ l. x ∷ l) (none_go p xs parts.1)

-- what a first filter takes would not pass the second
filter_inner : {A : Type 0} (p keep : A → Bool) (xs : List A) → list_any (λ x. not (keep x) && p x) xs ≡ false → filter p (filter keep xs) ≡ filter p xs
filter_inner p keep [] none = refl
filter_inner p keep (x ∷ xs) none = elim (keep x) as (λ b. ((not b && p x) || list_any (λ x. not (keep x) && p x) xs) ≡ false → filter p (if b then x ∷ filter keep xs else filter keep xs) ≡ (if p x then x ∷ filter p xs else filter p xs)) [
  | true ↦ λ none. ap (λ l. if p x then x ∷ l else l) (filter_inner p keep xs none)
  | false ↦ λ none.
      let parts = or_parts (p x) (list_any (λ x. not (keep x) && p x) xs) none in
      filter_inner p keep xs parts.1 ∙ ap (λ b. if b then x ∷ filter p xs else filter p xs) (sym parts.0)
] none

-- ---- an open that is new
any_new : (p : ℕ × OpenFork → Bool) (rows : List (ℕ × OpenFork)) (r : ℕ) (v : OpenFork) → at nat_cmp rows r ≡ None → list_any p (insert_entry nat_cmp rows r v) ≡ (p (r, v) || list_any p rows)
any_new p [] r v none = refl
any_new p (e ∷ es) r v none = elim (nat_cmp r e.0) as (λ o. cond (is_eq o) (Some e.1) (at nat_cmp es r) ≡ None → list_any p (match_ordering o ((r, v) ∷ e ∷ es) ((e.0, v) ∷ es) (e ∷ insert_entry nat_cmp es r v)) ≡ (p (r, v) || list_any p (e ∷ es))) [
  | Less ↦ λ none. refl
  | Equal ↦ λ none. absurd (cc none)
  | Greater ↦ λ none. ap (λ t. p e || t) (any_new p es r v none) ∙ or_swap (p e) (p (r, v)) (list_any p es)
] none

all_new : (p : ℕ × OpenFork → Bool) (rows : List (ℕ × OpenFork)) (r : ℕ) (v : OpenFork) → at nat_cmp rows r ≡ None → p (r, v) ≡ true → list_all p rows ≡ true → list_all p (insert_entry nat_cmp rows r v) ≡ true
all_new p [] r v none here h = ap (λ b. b && true) here
all_new p (e ∷ es) r v none here h = elim (nat_cmp r e.0) as (λ o. cond (is_eq o) (Some e.1) (at nat_cmp es r) ≡ None → list_all p (match_ordering o ((r, v) ∷ e ∷ es) ((e.0, v) ∷ es) (e ∷ insert_entry nat_cmp es r v)) ≡ true) [
  | Less ↦ λ none. (λ i. here i && h i)
  | Equal ↦ λ none. absurd (cc none)
  | Greater ↦ λ none. let parts = and_parts (p e) (list_all p es) h in (λ i. parts.0 i && all_new p es r v none here parts.1 i)
] none

pub fresh : (rows : List (ℕ × OpenFork)) (r : ℕ) → is_open_reference rows r ≡ false → has_reference (plain_opens rows) r ≡ false
fresh rows r free = any-map (λ (o : Open). o.reference == r) plain_open rows ∙ free

pub no_row : (rows : List (ℕ × OpenFork)) (r : ℕ) → is_open_reference rows r ≡ false → at nat_cmp rows r ≡ None
no_row rows r free = fresh_row rows r (fresh rows r free)

pub table_opened : {rows rows' : List (ℕ × OpenFork)} {own own' : List (OwnRef × Unit {0})} {opens opens' : List Open} {locks : List ForkLock} (r : ℕ) (v : OpenFork) → IsTable rows own opens locks → 1 ≤ r → is_open_reference rows r ≡ false
    → rows' ≡ insert_entry nat_cmp rows r v → AreOwn rows' own' → opens' ≡ with_noted (plain_open (r, v)) opens → IsTable rows' own' opens' locks
table_opened {rows = rows} {rows' = rows'} {locks = locks} r v t from_one free rows_are own_are opens_are =
    let absent = no_row rows r free in
    let positive : nat_lt 0 r ≡ true = grind (arith, nat_tests, from_one) in record {
      from_one = ap (list_all (λ (row : ℕ × OpenFork). nat_lt 0 row.0)) rows_are ∙ all_new (λ row. nat_lt 0 row.0) rows r v absent positive t.from_one;
      sessions = own_are;
      shown = opens_are ∙ ap (with_noted (plain_open (r, v))) t.shown ∙ sym (shows_new rows r v absent) ∙ ap plain_opens (sym rows_are);
      held = ap (λ l. list_all (is_held l) locks) rows_are ∙ all-weaker (is_held rows) (is_held (insert_entry nat_cmp rows r v)) locks (λ l h.
          any_new (λ (row : ℕ × OpenFork). (row.0 == l.reference) && is_one_fork row.1.fork l.fork) rows r v absent ∙ or_right _ _ h) t.held;
    }

-- an open that is noted and forgotten
pub forgotten : (opens : List Open) (new : Open) → has_reference opens new.reference ≡ false → without_reference new.reference (with_noted new opens) ≡ opens
forgotten [] new none = ap (λ b. if not b then new ∷ [] else []) (eqb-itself new.reference)
forgotten (o ∷ os) new none =
    let parts = or_parts (o.reference == new.reference) (has_reference os new.reference) none in
    elim (nat_lt new.reference o.reference) as (λ b. without_reference new.reference (if b then new ∷ o ∷ os else o ∷ with_noted new os) ≡ o ∷ os) [
      | true ↦ ap (λ b. if not b then new ∷ without_reference new.reference (o ∷ os) else without_reference new.reference (o ∷ os)) (eqb-itself new.reference) ∙ none_go (λ (x : Open). x.reference == new.reference) (o ∷ os) none
      | false ↦ ap (λ b. if not b then o ∷ without_reference new.reference (with_noted new os) else without_reference new.reference (with_noted new os)) parts.0 ∙ ap (λ l. o ∷ l) (forgotten os new parts.1)
    ]

pub table_same : {rows rows' : List (ℕ × OpenFork)} {own own' : List (OwnRef × Unit {0})} {opens opens' : List Open} {locks : List ForkLock} → IsTable rows own opens locks → rows' ≡ rows → own' ≡ own → opens' ≡ opens → IsTable rows' own' opens' locks
table_same {rows = rows} {rows' = rows'} {own = own} {own' = own'} {locks = locks} t rows_are own_are opens_are = record {
  from_one = ap (list_all (λ (row : ℕ × OpenFork). nat_lt 0 row.0)) rows_are ∙ t.from_one;
  sessions = subst (λ l. AreOwn l own') (sym rows_are) (subst (AreOwn rows) (sym own_are) t.sessions);
  shown = opens_are ∙ t.shown ∙ sym (ap plain_opens rows_are);
  held = ap (λ l. list_all (is_held l) locks) rows_are ∙ t.held;
}

-- ---- locks
pub found_held : (rows : List (ℕ × OpenFork)) (r : ℕ) (f : Fork) → Some f ≡ option_map (λ o. o.fork) (at nat_cmp rows r) → list_any (λ row. (row.0 == r) && is_one_fork row.1.fork f) rows ≡ true
found_held [] r f found = absurd (cc found)
found_held (e ∷ es) r f found = elim (nat_cmp r e.0) as (λ o. nat_cmp r e.0 ≡ o → Some f ≡ option_map (λ o. o.fork) (cond (is_eq o) (Some e.1) (at nat_cmp es r)) → (((e.0 == r) && is_one_fork e.1.fork f) || list_any (λ row. (row.0 == r) && is_one_fork row.1.fork f) es) ≡ true) [
  | Less ↦ λ is found. or_right _ _ (found_held es r f found)
  | Equal ↦ λ is found.
      let one = nat_cmp_equal r e.0 is in
      let same : f ≡ e.1.fork = cc found in
      let number : (e.0 == r) ≡ true = grind (arith, nat_tests, one) in
      let fork : is_one_fork e.1.fork f ≡ true = ap (is_one_fork e.1.fork) same ∙ one_fork-itself e.1.fork in
      (λ i. (number i && fork i) || list_any (λ row. (row.0 == r) && is_one_fork row.1.fork f) es)
  | Greater ↦ λ is found. or_right _ _ (found_held es r f found)
] refl found

all_with : (q : ForkLock → Bool) (new : ForkLock) (ls : List ForkLock) → q new ≡ true → list_all q ls ≡ true → list_all q (with_fork_lock new ls) ≡ true
all_with q new [] here h = (λ i. here i && true)
all_with q new (l ∷ ls) here h =
    let parts = and_parts (q l) (list_all q ls) h in
    elim (nat_lt new.reference l.reference) as (λ b. list_all q (if b then new ∷ l ∷ ls else l ∷ with_fork_lock new ls) ≡ true) [
      | true ↦ (λ i. here i && h i)
      | false ↦ (λ i. parts.0 i && all_with q new ls here parts.1 i)
    ]

sets_all : (q : ForkLock → Bool) (old new : List ForkLock) (f : Fork) (r : ℕ) (range : Range) (res : Result (Unit {0}) LockFault) → SetsLock old f r range res new → q (record { reference = r; fork = f; range = range }) ≡ true → list_all q old ≡ true → list_all q new ≡ true
sets_all q old new f r range (Ok done) s here h = ap (list_all q) s.1 ∙ all_with q _ old here h
sets_all q old new f r range (Err Locked) s here h = ap (list_all q) s.1 ∙ h
sets_all q old new f r range (Err Overlap) s here h = ap (list_all q) s.1 ∙ h
sets_all q old new f r range (Err Full) s here h = ap (list_all q) s.1 ∙ h
sets_all q old new f r range (Err Memory) s here h = ap (list_all q) s.1 ∙ h

takes_all : (q : ForkLock → Bool) (old new : List ForkLock) (f : Fork) (r : ℕ) (range : Range) (res : Result (Unit {0}) NotLocked) → TakesLock old f r range res new → list_all q old ≡ true → list_all q new ≡ true
takes_all q old new f r range (Ok done) s h = ap (list_all q) s.1 ∙ all_filter q q (λ l. not (is_fork_lock f r range l)) old (λ l k p. p) h
takes_all q old new f r range (Err fault) s h = ap (list_all q) s.1 ∙ h

pub table_locked : {rows : List (ℕ × OpenFork)} {own : List (OwnRef × Unit {0})} {opens : List Open} {locks locks' : List ForkLock} (f : Fork) (r : ℕ) (range : Range) (res : Result (Unit {0}) LockFault) → IsTable rows own opens locks → Some f ≡ option_map (λ o. o.fork) (at nat_cmp rows r) → SetsLock locks f r range res locks' → IsTable rows own opens locks'
table_locked {rows = rows} {locks = locks} {locks' = locks'} f r range res t found set = record { from_one = t.from_one; sessions = t.sessions; shown = t.shown; held = sets_all (is_held rows) locks locks' f r range res set (found_held rows r f found) t.held }

pub table_unlocked : {rows : List (ℕ × OpenFork)} {own : List (OwnRef × Unit {0})} {opens : List Open} {locks locks' : List ForkLock} (f : Fork) (r : ℕ) (range : Range) (res : Result (Unit {0}) NotLocked) → IsTable rows own opens locks → TakesLock locks f r range res locks' → IsTable rows own opens locks'
table_unlocked {rows = rows} {locks = locks} {locks' = locks'} f r range res t taken = record { from_one = t.from_one; sessions = t.sessions; shown = t.shown; held = takes_all (is_held rows) locks locks' f r range res taken t.held }

-- ---- an open that goes
none_less : (r : ℕ) (rows : List (ℕ × OpenFork)) → Above r rows → filter (λ row. not (row.0 == r)) rows ≡ rows
none_less r [] a = refl
none_less r (e ∷ es) a =
    ap (λ b. if not b then e ∷ filter (λ row. not (row.0 == r)) es else filter (λ row. not (row.0 == r)) es) (let h = nat_cmp_less r e.0 a.0 in let t : (e.0 == r) ≡ false = grind (arith, nat_tests) in t)
    ∙ ap (λ l. e ∷ l) (none_less r es a.1)

pub less_is : (rows : List (ℕ × OpenFork)) (r : ℕ) → Rise rows → remove_entry (is_at (nat_cmp r)) rows ≡ filter (λ row. not (row.0 == r)) rows
unfolding IsStrictlySortedBy
less_is [] r s = refl
less_is (e ∷ es) r s = elim (nat_cmp r e.0) as (λ o. nat_cmp r e.0 ≡ o → cond (is_eq o) es (e ∷ remove_entry (is_at (nat_cmp r)) es) ≡ filter (λ row. not (row.0 == r)) (e ∷ es)) [
  | Less ↦ λ is. ap (λ l. e ∷ l) (less_is es r s.1) ∙ kept (let h = nat_cmp_less r e.0 is in let t : (e.0 == r) ≡ false = grind (arith, nat_tests) in t)
  | Equal ↦ λ is.
      let one = nat_cmp_equal r e.0 is in
      sym (none_less r es (subst (λ k. Above k es) (sym one) s.0))
      ∙ ap (λ b. if not b then e ∷ filter (λ row. not (row.0 == r)) es else filter (λ row. not (row.0 == r)) es) (let t : true ≡ (e.0 == r) = grind (arith, nat_tests, one) in t)
  | Greater ↦ λ is. ap (λ l. e ∷ l) (less_is es r s.1) ∙ kept (let h = nat_cmp_greater r e.0 is in let t : (e.0 == r) ≡ false = grind (arith, nat_tests) in t)
] refl
  where
    kept : (e.0 == r) ≡ false → e ∷ filter (λ row. not (row.0 == r)) es ≡ filter (λ row. not (row.0 == r)) (e ∷ es)
    kept other = ap (λ b. if not b then e ∷ filter (λ row. not (row.0 == r)) es else filter (λ row. not (row.0 == r)) es) (sym other)

pub table_closed : {rows rows' : List (ℕ × OpenFork)} {own own' : List (OwnRef × Unit {0})} {opens opens' : List Open} {locks locks' : List ForkLock} (r : ℕ) → IsTable rows own opens locks → Rise rows → rows' ≡ remove_entry (is_at (nat_cmp r)) rows → AreOwn rows' own' → opens' ≡ without_reference r opens → locks' ≡ without_holder r locks → IsTable rows' own' opens' locks'
table_closed {rows = rows} {rows' = rows'} {locks = locks} r t rise rows_are own_are opens_are locks_are = record {
  from_one = ap (list_all (λ (row : ℕ × OpenFork). nat_lt 0 row.0)) (rows_are ∙ less_is rows r rise) ∙ all_filter (λ row. nat_lt 0 row.0) (λ row. nat_lt 0 row.0) (λ row. not (row.0 == r)) rows (λ row k h. h) t.from_one;
  sessions = own_are;
  shown = opens_are ∙ ap (without_reference r) t.shown ∙ sym (shows_less rows r rise) ∙ ap plain_opens (sym rows_are);
  held = (λ i. list_all (is_held ((rows_are ∙ less_is rows r rise) i)) (locks_are i))
      ∙ all_filter (is_held rows) (is_held (filter (λ row. not (row.0 == r)) rows)) (λ l. not (l.reference == r)) locks (λ l stays h.
      any_filter (λ (row : ℕ × OpenFork). (row.0 == l.reference) && is_one_fork row.1.fork l.fork) (λ row. (row.0 == l.reference) && is_one_fork row.1.fork l.fork) (λ row. not (row.0 == r)) rows
      (λ row p. (let same = eqb-true row.0 l.reference (and_parts _ _ p).0 in ap (λ n. not (n == r)) same ∙ stays, p)) h) t.held;
}

-- ---- all opens of a session, or of a session on a volume, go
alone : (goes : OpenFork → Bool) (rows : List (ℕ × OpenFork)) (r : ℕ) → Rise rows → list_any (λ row. (row.0 == r) && goes row.1) rows ≡ true → list_any (λ row. not (not (row.0 == r)) && not (goes row.1)) rows ≡ false
unfolding IsStrictlySortedBy
alone goes [] r s h = refl
alone goes (e ∷ es) r s h = elim (e.0 == r) as (λ b. (e.0 == r) ≡ b → ((b && goes e.1) || list_any (λ row. (row.0 == r) && goes row.1) es) ≡ true → ((not (not b) && not (goes e.1)) || list_any (λ row. not (not (row.0 == r)) && not (goes row.1)) es) ≡ false) [
  | true ↦ λ is h.
      let above : Above r es = subst (λ k. Above k es) (eqb-true e.0 r is) s.0 in
      let here : goes e.1 ≡ true = or_left (goes e.1) _ (none_there (λ row. goes row.1) es above) h in
      (λ i. not (here i) || none_twice es above i)
  | false ↦ λ is h. alone goes es r s.1 h
] refl h
  where
    or_left : (a b : Bool) → b ≡ false → (a || b) ≡ true → a ≡ true
    or_left true b none h = refl
    or_left false b none h = absurd (cc (none, h))

    none_there : (p : ℕ × OpenFork → Bool) (rows : List (ℕ × OpenFork)) → Above r rows → list_any (λ row. (row.0 == r) && p row) rows ≡ false
    none_there p [] a = refl
    none_there p (x ∷ xs) a =
        let other : (x.0 == r) ≡ false = (let k = nat_cmp_less r x.0 a.0 in grind (arith, nat_tests)) in
        (λ i. (other i && p x) || none_there p xs a.1 i)

    none_twice : (rows : List (ℕ × OpenFork)) → Above r rows → list_any (λ row. not (not (row.0 == r)) && not (goes row.1)) rows ≡ false
    none_twice [] a = refl
    none_twice (x ∷ xs) a =
        let other : (x.0 == r) ≡ false = (let k = nat_cmp_less r x.0 a.0 in grind (arith, nat_tests)) in
        (λ i. (not (not (other i)) && not (goes x.1)) || none_twice xs a.1 i)

pub closing_more : (goes : OpenFork → Bool) (t t' : Table) (r : ℕ) → Rise t.opens → list_any (λ row. (row.0 == r) && goes row.1) t.opens ≡ true
    → t'.opens ≡ filter (λ row. not (row.0 == r)) t.opens → t'.locks ≡ without_holder r t.locks → closing goes t' ≡ closing goes t
closing_more goes t t' r rise there opens_are locks_are =
    let stays = λ (row : ℕ × OpenFork). not (goes row.1) in
    let no_stay = alone goes t.opens r rise there in
    let same : filter stays t'.opens ≡ filter stays t.opens = ap (filter stays) opens_are ∙ filter_inner stays (λ row. not (row.0 == r)) t.opens no_stay in
    let closed : is_open_reference (filter stays t.opens) r ≡ false = any_in_filter (λ row. row.0 == r) stays t.opens ∙ any-same (λ (row : ℕ × OpenFork). (row.0 == r) && stays row) (λ row. not (not (row.0 == r)) && stays row) t.opens (λ row. ap (λ b. b && stays row) (twice (row.0 == r))) ∙ no_stay in
    λ i. record {
      opens = same i;
      locks = ((λ j. filter (λ l. is_open_reference (same j) l.reference) (locks_are j)) ∙ filter_inner (λ (l : ForkLock). is_open_reference (filter stays t.opens) l.reference) (λ l. not (l.reference == r)) t.locks (no_lock (filter stays t.opens) closed t.locks)) i;
    }
  where
    twice : (b : Bool) → b ≡ not (not b)
    twice true = refl
    twice false = refl

    no_lock : (rows : List (ℕ × OpenFork)) → is_open_reference rows r ≡ false → (ls : List ForkLock) → list_any (λ (l : ForkLock). not (not (l.reference == r)) && is_open_reference rows l.reference) ls ≡ false
    no_lock rows closed [] = refl
    no_lock rows closed (l ∷ ls) = elim (l.reference == r) as (λ b. (l.reference == r) ≡ b → ((not (not b) && is_open_reference rows l.reference) || list_any (λ l. not (not (l.reference == r)) && is_open_reference rows l.reference) ls) ≡ false) [
      | true ↦ λ is. (λ i. (ap (is_open_reference rows) (eqb-true l.reference r is) ∙ closed) i || no_lock rows closed ls i)
      | false ↦ λ is. no_lock rows closed ls
    ] refl

pub closing_done : (goes : OpenFork → Bool) (t : Table) → list_all (is_held t.opens) t.locks ≡ true → list_any (λ row. goes row.1) t.opens ≡ false → closing goes t ≡ t
closing_done goes t held none =
    let same : filter (λ (row : ℕ × OpenFork). not (goes row.1)) t.opens ≡ t.opens = none_go (λ (row : ℕ × OpenFork). goes row.1) t.opens none in
    let open_all : list_all (λ (l : ForkLock). is_open_reference t.opens l.reference) t.locks ≡ true = all-weaker (is_held t.opens) (λ l. is_open_reference t.opens l.reference) t.locks (λ l h. any-weaker (λ (row : ℕ × OpenFork). (row.0 == l.reference) && is_one_fork row.1.fork l.fork) (λ row. row.0 == l.reference) t.opens (λ row p. (and_parts _ _ p).0) h) held in
    λ i. record { opens = same i; locks = ((λ j. filter (λ l. is_open_reference (same j) l.reference) t.locks) ∙ filter-all (λ (l : ForkLock). is_open_reference t.opens l.reference) t.locks open_all) i }

pub shorter : (p : ℕ × OpenFork → Bool) (rows : List (ℕ × OpenFork)) (r : ℕ) → list_any (λ row. (row.0 == r) && p row) rows ≡ true → length (filter (λ row. not (row.0 == r)) rows) < length rows
shorter p [] r h = absurd (cc h)
shorter p (e ∷ es) r h = elim (e.0 == r) as (λ b. ((b && p e) || list_any (λ row. (row.0 == r) && p row) es) ≡ true → length (if not b then e ∷ filter (λ row. not (row.0 == r)) es else filter (λ row. not (row.0 == r)) es) < suc (length es)) [
  | true ↦ λ h. let more = at_most es in omega (arith, more)
  | false ↦ λ h. let more = shorter p es r h in omega (arith, more)
] h
  where
    at_most : (rows : List (ℕ × OpenFork)) → length (filter (λ row. not (row.0 == r)) rows) ≤ length rows
    at_most [] = omega arith
    at_most (x ∷ xs) = let more = at_most xs in elim (x.0 == r) as (λ b. length (if not b then x ∷ filter (λ row. not (row.0 == r)) xs else filter (λ row. not (row.0 == r)) xs) ≤ suc (length xs)) [ true ↦ omega (arith, more) | false ↦ omega (arith, more) ]

-- ---- two forks change places
pub table_exchanged : {rows rows' : List (ℕ × OpenFork)} {own : List (OwnRef × Unit {0})} {opens opens' : List Open} {locks locks' : List ForkLock} (a b : Fork) → IsTable rows own opens locks → rows' ≡ map (exchange_row a b) rows → opens' ≡ exchanged_opens a b opens → locks' ≡ exchanged_locks a b locks → IsTable rows' own opens' locks'
table_exchanged {rows = rows} {rows' = rows'} {own = own} {locks = locks} a b t rows_are opens_are locks_are = record {
  from_one = ap (list_all (λ (row : ℕ × OpenFork). nat_lt 0 row.0)) rows_are ∙ list_all-map (λ (row : ℕ × OpenFork). nat_lt 0 row.0) (exchange_row a b) rows ∙ t.from_one;
  sessions = own_exchanged rows own t.sessions a b rows_are;
  shown = opens_are ∙ ap (exchanged_opens a b) t.shown ∙ shows rows ∙ ap plain_opens (sym rows_are);
  held = (λ i. list_all (is_held (rows_are i)) (locks_are i)) ∙ list_all-map (is_held (map (exchange_row a b) rows)) (exchange_lock a b) locks
      ∙ all-weaker (is_held rows) (λ l. is_held (map (exchange_row a b) rows) (exchange_lock a b l)) locks (λ l h.
      any-map (λ (row : ℕ × OpenFork). (row.0 == l.reference) && is_one_fork row.1.fork (in_exchange a b l.fork)) (exchange_row a b) rows
      ∙ any-same (λ (row : ℕ × OpenFork). (row.0 == l.reference) && is_one_fork (in_exchange a b row.1.fork) (in_exchange a b l.fork)) (λ row. (row.0 == l.reference) && is_one_fork row.1.fork l.fork) rows (λ row. ap (λ t. (row.0 == l.reference) && t) (both_cross a b row.1.fork l.fork)) ∙ h) t.held;
}
  where
    shows : (rows : List (ℕ × OpenFork)) → exchanged_opens a b (plain_opens rows) ≡ plain_opens (map (exchange_row a b) rows)
    shows [] = refl
    shows (e ∷ es) = ap (λ l. exchange_open a b (plain_open e) ∷ l) (shows es)

-- ---- the opens of a volume are those of its rows
pub opens_of_rows : (volume : ℕ) (rows : List (ℕ × OpenFork)) → opens_on volume (plain_opens rows) ≡ forks_of volume rows
opens_of_rows volume [] = refl
opens_of_rows volume (e ∷ es) =
    elim (e.1.fork.volume == volume) as (λ b. map {B = NodeId × Bool} (λ (o : Open). (record { 0 = o.fork.node }, o.fork.resource)) (if b then plain_open e ∷ filter (λ o. o.fork.volume == volume) (plain_opens es) else filter (λ o. o.fork.volume == volume) (plain_opens es))
    ≡ map {B = NodeId × Bool} (λ (row : ℕ × OpenFork). (record { 0 = row.1.fork.node }, row.1.fork.resource)) (if b then e ∷ filter (λ row. row.1.fork.volume == volume) es else filter (λ row. row.1.fork.volume == volume) es)) [
      | true ↦ ap (λ l. (record { 0 = e.1.fork.node }, e.1.fork.resource) ∷ l) (opens_of_rows volume es)
      | false ↦ opens_of_rows volume es
    ]
