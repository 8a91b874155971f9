-- The child of a node is found among its parent's, and taken away at its place.
use Rattle.std.proofs.Common.{◌≡◌, ◌∙◌, ap, sym, refl, subst, ℕ, suc, ◌+◌, ◌==◌, ◌<◌, Bool, true, false, not, ◌&&◌, ◌||◌, cond, List, [], ◌∷◌, ◌++◌, length, map, take, drop, inl, inr, Option, Some, None, arith}
use Rattle.std.specs.Prelude.{bytes_eq, nat_lt, position, unwrap_or}
use Rattle.std.proofs.lemmas.Slice.Eq.{bytes_eq-Decides}
use Rattle.std.proofs.lemmas.List.{length-drop}
use Rattle.std.specs.List.{list_all, list_any, filter, find, remove, position_or_len}
use Rattle.std.proofs.lemmas.Bool.{and_parts, and_from, cases_Bool, cond_both, cond-true, cond-false, or_right, lt-ltb, eqb-true, eq-eqb, ltb-true, ne_eqb}
use Rattle.volume_spec.proofs.Ordered.{order-all}
use Rattle.volume_spec.proofs.Orders.{rising-ids-differ}
use Rattle.volume_spec.specs.Order.{stands_before, put_in, in_order, rises}
use Rattle.afp_base.specs.Apart.{are_apart}
use Rattle.volume_spec.specs.VolumeState.{Row}
use Rattle.volume_spec.specs.Walk.{row_at}
use Rattle.node_rows.proofs.Siblings.{parent-before}
use Rattle.node_rows.proofs.Sorting.{key_place, order-all-back}
use Rattle.node_rows.specs.Children.{child_of, child_order}
use Rattle.node_rows.specs.lemma.Kept.{AreKept}
use Rattle.node_rows.specs.lemma.Places.{is_child, is_child_at, is_other}
use Rattle.node_rows.specs.declared.child.Child.{Child}
use Rattle.afp_base.proofs.Facts.{right_true}
use Rattle.afp_base.proofs.ListFacts.{all-weaker, any-at, any-map, any-weaker, apart-map, none-all, not-any}
use Rattle.volume_spec.proofs.Keys.{before-differs}

-- order leaves elements apart, and each that passes

put-apart : {A : Type 0} (key : A → List ℕ) (r : A → A → Bool) (x : A) (l : List A) → ((a b : A) → r a b ≡ true → r b a ≡ true) → list_all (λ y. not (r x y)) l ≡ true → are_apart r l ≡ true → are_apart r (put_in key x l) ≡ true
put-apart key r x [] back h apart = refl
put-apart {A} key r x (y ∷ ys) back h apart =
    let e = and_parts (not (r x y)) (list_all (λ z. not (r x z)) ys) h in
    let f = and_parts (not (list_any (r y) ys)) (are_apart r ys) apart in
    cond_both (stands_before (key x) (key y)) (x ∷ y ∷ ys) (y ∷ put_in key x ys) (λ l. are_apart r l ≡ true)
    (λ first. and_from (not (list_any (r x) (y ∷ ys))) (are_apart r (y ∷ ys)) (not-any (r x) (y ∷ ys) h) apart)
    (λ later. and_from (not (list_any (r y) (put_in key x ys))) (are_apart r (put_in key x ys)) (not-any (r y) (put_in key x ys) (put-all (λ z. not (r y z)) ys (turned e.0) (none-all (r y) ys f.0))) (put-apart key r x ys back e.1 f.1))
  where
    turned : not (r x y) ≡ true → not (r y x) ≡ true
    turned differ = elim (cases_Bool (r y x)) [ inl same ↦ absurd (cc (ap not (back y x same))) | inr other ↦ ap not other ]

    put-all : (p : A → Bool) (l : List A) → p x ≡ true → list_all p l ≡ true → list_all p (put_in key x l) ≡ true
    put-all p [] here h = and_from (p x) true here refl
    put-all p (z ∷ zs) here h =
        let e = and_parts (p z) (list_all p zs) h in
        cond_both (stands_before (key x) (key z)) (x ∷ z ∷ zs) (z ∷ put_in key x zs) (λ l. list_all p l ≡ true)
        (λ first. and_from (p x) (list_all p (z ∷ zs)) here h) (λ later. and_from (p z) (list_all p (put_in key x zs)) e.0 (put-all p zs here e.1))

order-apart : {A : Type 0} (key : A → List ℕ) (r : A → A → Bool) (xs : List A) → ((a b : A) → r a b ≡ true → r b a ≡ true) → are_apart r xs ≡ true → are_apart r (in_order key xs) ≡ true
order-apart key r [] back apart = refl
order-apart key r (x ∷ xs) back apart =
    let e = and_parts (not (list_any (r x) xs)) (are_apart r xs) apart in
    put-apart key r x (in_order key xs) back (order-all key (λ y. not (r x y)) xs (none-all (r x) xs e.0)) (order-apart key r xs back e.1)

order-any : {A : Type 0} (key : A → List ℕ) (p : A → Bool) (xs : List A) → list_any p xs ≡ true → list_any p (in_order key xs) ≡ true
order-any key p xs some = elim (cases_Bool (list_any p (in_order key xs))) [
  | inl there ↦ there
  | inr none ↦ absurd (any-at p (λ x. not (p x)) xs some (order-all-back key (λ x. not (p x)) xs (none-all p (in_order key xs) (ap not none))) (λ x is isnt. cc (ap not is)))
]

-- the children of kept nodes have ids that differ, and a node's child is there

pub ids-apart : (rows : List Row) (children : List Child) (next : ℕ) → AreKept rows children next → are_apart (λ (a : Child) b. a.id.0 == b.id.0) children ≡ true
ids-apart rows children next k =
    ap (λ l. are_apart (λ (a : Child) b. a.id.0 == b.id.0) l) k.sorted
    ∙ order-apart child_order (λ (a : Child) b. a.id.0 == b.id.0) (map child_of rows) (λ a b same. eq-eqb b.id.0 a.id.0 (sym (eqb-true a.id.0 b.id.0 same)))
    (apart-map (λ (a : Child) b. a.id.0 == b.id.0) child_of rows ∙ rising-ids-differ rows k.rising)

own : (row : Row) → is_child row (child_of row) ≡ true
own row = and_from (is_child_at row.parent row.id (child_of row)) (bytes_eq (child_order (child_of row)) (child_order (child_of row)))
    (and_from (row.parent == row.parent) (row.id == row.id) (eq-eqb row.parent row.parent refl) (eq-eqb row.id row.id refl)) ((bytes_eq-Decides (child_order (child_of row)) (child_order (child_of row))).1 refl)

pub child-there : (rows : List Row) (children : List Child) (next id : ℕ) (s : Row) → row_at rows id ≡ Some s → AreKept rows children next → list_any (is_child s) children ≡ true
unfolding row_at
child-there rows children next id s at_id k =
    ap (λ l. list_any (is_child s) l) k.sorted
    ∙ order-any child_order (is_child s) (map child_of rows) (any-map (is_child s) child_of rows ∙ found rows at_id)
  where
    found : (rows : List Row) → find (λ (row : Row). row.id == id) rows ≡ Some s → list_any (λ (row : Row). is_child s (child_of row)) rows ≡ true
    found [] h = absurd (cc)
    found (r ∷ rs) h = elim (cases_Bool (r.id == id)) [
      | inl here ↦
          let first : cond (r.id == id) (Some r) (find (λ (row : Row). row.id == id) rs) ≡ Some r = cond-true (r.id == id) (Some r) (find (λ (row : Row). row.id == id) rs) here in
          let same : r ≡ s = cc (sym first ∙ h) in
          ap (λ t. t || list_any (λ (row : Row). is_child s (child_of row)) rs) (ap (λ (q : Row). is_child s (child_of q)) same ∙ own s)
      | inr other ↦
          let first : cond (r.id == id) (Some r) (find (λ (row : Row). row.id == id) rs) ≡ find (λ (row : Row). row.id == id) rs = cond-false (r.id == id) (Some r) (find (λ (row : Row). row.id == id) rs) other in
          or_right (is_child s (child_of r)) (list_any (λ (row : Row). is_child s (child_of row)) rs) (found rs (sym first ∙ h))
    ]

-- the place at which it goes

-- whether a child has this id
abbrev pub has_id : ℕ → Child → Bool
has_id id child = child.id.0 == id

further : (c : Child) (cs : List Child) (n : ℕ) → remove (c ∷ cs) (1 + n) ≡ c ∷ remove cs n
further c cs n = let more : 1 + n ≡ suc n = omega arith in ap (λ k. take k (c ∷ cs) ++ drop (suc k) (c ∷ cs)) more

none-left : (id : ℕ) (cs : List Child) → list_all (λ c. not (has_id id c)) cs ≡ true → filter (is_other id) cs ≡ cs
none-left id [] h = refl
none-left id (c ∷ cs) h =
    let e = and_parts (not (has_id id c)) (list_all (λ d. not (has_id id d)) cs) h in
    cond-true (not (has_id id c)) (c ∷ filter (is_other id) cs) (filter (is_other id) cs) e.0 ∙ ap (λ l. c ∷ l) (none-left id cs e.1)

-- others behind one with an id have another
others-behind : (id : ℕ) (c : Child) (cs : List Child) → has_id id c ≡ true → list_all (λ (b : Child). not (c.id.0 == b.id.0)) cs ≡ true → list_all (λ d. not (has_id id d)) cs ≡ true
others-behind id c cs here others = all-weaker (λ (b : Child). not (c.id.0 == b.id.0)) (λ d. not (has_id id d)) cs
    (λ d other. ap (λ n. not (d.id.0 == n)) (sym (eqb-true c.id.0 id here)) ∙ turn c.id.0 d.id.0 other) others
  where
    turn : (a b : ℕ) → not (a == b) ≡ true → not (b == a) ≡ true
    turn a b differ = elim (cases_Bool (b == a)) [ inl same ↦ absurd (cc (ap not (eq-eqb a b (sym (eqb-true b a same))))) | inr other ↦ ap not other ]

-- in a list that has the id once
gone-first : (id : ℕ) (cs : List Child) → are_apart (λ (a : Child) b. a.id.0 == b.id.0) cs ≡ true → list_any (has_id id) cs ≡ true
    → (position_or_len (has_id id) cs < length cs) × (filter (is_other id) cs ≡ remove cs (position_or_len (has_id id) cs))
gone-first id [] apart there = absurd (cc)
gone-first id (c ∷ cs) apart there =
    let e = and_parts (not (list_any (λ (b : Child). c.id.0 == b.id.0) cs)) (are_apart (λ (a : Child) b. a.id.0 == b.id.0) cs) apart in
    elim (cases_Bool (has_id id c)) [
      | inl here ↦
          let at_first : position_or_len (has_id id) (c ∷ cs) ≡ 0 = cond-false (not (has_id id c)) (1 + position_or_len (has_id id) cs) 0 (ap not here) in (
            omega arith,
            cond-false (not (has_id id c)) (c ∷ filter (is_other id) cs) (filter (is_other id) cs) (ap not here)
                ∙ none-left id cs (others-behind id c cs here (none-all (λ (b : Child). c.id.0 == b.id.0) cs e.0)) ∙ ap (λ n. remove (c ∷ cs) n) (sym at_first),
          )
      | inr other ↦
          let rest = gone-first id cs e.1 (ap (λ t. t || list_any (has_id id) cs) (sym other) ∙ there) in
          let behind : position_or_len (has_id id) (c ∷ cs) ≡ 1 + position_or_len (has_id id) cs = cond-true (not (has_id id c)) (1 + position_or_len (has_id id) cs) 0 (ap not other) in
          let within : position_or_len (has_id id) cs < length cs = rest.0 in (
            omega arith,
            cond-true (not (has_id id c)) (c ∷ filter (is_other id) cs) (filter (is_other id) cs) (ap not other) ∙ ap (λ l. c ∷ l) rest.1
                ∙ sym (further c cs (position_or_len (has_id id) cs)) ∙ ap (λ n. remove (c ∷ cs) n) (sym behind),
          )
    ]

apart-from : (dir id : ℕ) (c : Child) (cs : List Child) → list_any (is_child_at dir id) cs ≡ true → not (list_any (λ (b : Child). c.id.0 == b.id.0) cs) ≡ true → has_id id c ≡ false
apart-from dir id c cs later none = elim (cases_Bool (has_id id c)) [
  | inl here ↦ absurd (any-at (is_child_at dir id) (λ d. not (has_id id d)) cs later (others-behind id c cs here (none-all (λ (b : Child). c.id.0 == b.id.0) cs none)) (λ d both isnt. cc (ap not (right_true (d.parent.0 == dir) (d.id.0 == id) both))))
  | inr other ↦ other
]

-- from the first child of its parent on
from : (dir id : ℕ) (cs : List Child) → are_apart (λ (a : Child) b. a.id.0 == b.id.0) cs ≡ true → list_any (is_child_at dir id) cs ≡ true
    → (key_place child_order (dir ∷ []) cs + position_or_len (has_id id) (drop (key_place child_order (dir ∷ []) cs) cs) < length cs)
    × (filter (is_other id) cs ≡ remove cs (key_place child_order (dir ∷ []) cs + position_or_len (has_id id) (drop (key_place child_order (dir ∷ []) cs) cs)))
from dir id [] apart there = absurd (cc)
from dir id (c ∷ cs) apart there =
    let e = and_parts (not (list_any (λ (b : Child). c.id.0 == b.id.0) cs)) (are_apart (λ (a : Child) b. a.id.0 == b.id.0) cs) apart in
    elim (cases_Bool (stands_before (child_order c) (dir ∷ []))) [
      | inl before ↦
          let less : c.parent.0 < dir = ltb-true c.parent.0 dir (sym (parent-before c.parent.0 dir c.key) ∙ before) in
          let elsewhere : is_child_at dir id c ≡ false = ap (λ t. t && (c.id.0 == id)) (ne_eqb c.parent.0 dir (λ same. omega arith)) in
          let later : list_any (is_child_at dir id) cs ≡ true = ap (λ t. t || list_any (is_child_at dir id) cs) (sym elsewhere) ∙ there in
          let other : has_id id c ≡ false = apart-from dir id c cs later e.0 in
          let rest = from dir id cs e.1 later in
          let n : ℕ = key_place child_order (dir ∷ []) cs in
          let place : key_place child_order (dir ∷ []) (c ∷ cs) ≡ suc n = cond-true (not (not (stands_before (child_order c) (dir ∷ [])))) (1 + n) 0 (ap (λ t. not (not t)) before) ∙ (let s : 1 + n ≡ suc n = omega arith in s) in
          let p : ℕ = position_or_len (has_id id) (drop n cs) in
          let within : n + p < length cs = rest.0 in
          subst (λ m. (m + position_or_len (has_id id) (drop m (c ∷ cs)) < length (c ∷ cs)) × (filter (is_other id) (c ∷ cs) ≡ remove (c ∷ cs) (m + position_or_len (has_id id) (drop m (c ∷ cs))))) (sym place) (
            omega arith,
            cond-true (not (has_id id c)) (c ∷ filter (is_other id) cs) (filter (is_other id) cs) (ap not other) ∙ ap (λ l. c ∷ l) rest.1 ∙ sym (further c cs (n + p))
                ∙ (let m : 1 + (n + p) ≡ suc n + p = omega arith in ap (λ k. remove (c ∷ cs) k) m),
          )
      | inr after ↦
          let place : key_place child_order (dir ∷ []) (c ∷ cs) ≡ 0 = cond-false (not (not (stands_before (child_order c) (dir ∷ [])))) (1 + key_place child_order (dir ∷ []) cs) 0 (ap (λ t. not (not t)) after) in
          let whole = gone-first id (c ∷ cs) apart (any-weaker (is_child_at dir id) (has_id id) (c ∷ cs) (λ d both. right_true (d.parent.0 == dir) (d.id.0 == id) both) there) in
          subst (λ m. (m + position_or_len (has_id id) (drop m (c ∷ cs)) < length (c ∷ cs)) × (filter (is_other id) (c ∷ cs) ≡ remove (c ∷ cs) (m + position_or_len (has_id id) (drop m (c ∷ cs))))) (sym place)
          (let q : 0 + position_or_len (has_id id) (c ∷ cs) ≡ position_or_len (has_id id) (c ∷ cs) = omega arith in subst (λ m. (m < length (c ∷ cs)) × (filter (is_other id) (c ∷ cs) ≡ remove (c ∷ cs) m)) (sym q) whole)
    ]

pub gone-at : (dir id : ℕ) (cs : List Child) (first : ℕ) → first ≡ key_place child_order (dir ∷ []) cs → are_apart (λ (a : Child) b. a.id.0 == b.id.0) cs ≡ true → list_any (is_child_at dir id) cs ≡ true
    → (first + position_or_len (has_id id) (drop first cs) < length cs) × (filter (is_other id) cs ≡ remove cs (first + position_or_len (has_id id) (drop first cs)))
gone-at dir id cs first is apart there =
    subst (λ n. (n + position_or_len (has_id id) (drop n cs) < length cs) × (filter (is_other id) cs ≡ remove cs (n + position_or_len (has_id id) (drop n cs)))) (sym is) (from dir id cs apart there)

-- the same, as it is sought: from the first child on, by its place there
pub found-behind : (dir id : ℕ) (cs rest : List Child) (first behind : ℕ) (answer : Option ℕ) → first ≡ key_place child_order (dir ∷ []) cs → rest ≡ drop first cs → answer ≡ position (has_id id) rest → behind ≡ unwrap_or answer 0
    → are_apart (λ (a : Child) b. a.id.0 == b.id.0) cs ≡ true → list_any (is_child_at dir id) cs ≡ true → (first + behind < length cs) × (filter (is_other id) cs ≡ remove cs (first + behind))
found-behind dir id cs rest first behind answer is rest_is answer_is behind_is apart there =
    let whole = gone-at dir id cs first is apart there in
    let p : ℕ = position_or_len (has_id id) (drop first cs) in
    let within : first + p < length cs = whole.0 in
    let inside : p < length (drop first cs) = omega (arith, length-drop first cs) in
    let found : position (has_id id) (drop first cs) ≡ Some p = cond-true (nat_lt p (length (drop first cs))) (Some p) None (lt-ltb p (length (drop first cs)) inside) in
    let same : behind ≡ p = behind_is ∙ ap (λ o. unwrap_or o 0) (answer_is ∙ ap (λ l. position (has_id id) l) rest_is ∙ found) in
    subst (λ b. (first + b < length cs) × (filter (is_other id) cs ≡ remove cs (first + b))) (sym same) whole

-- by its parent and key

pub among : (row : Row) (cs : List Child) → list_any (is_child row) cs ≡ true → list_any (is_child_at row.parent row.id) cs ≡ true
among row cs there = any-weaker (is_child row) (is_child_at row.parent row.id) cs (λ d both. (and_parts (is_child_at row.parent row.id d) (bytes_eq (child_order d) (child_order (child_of row))) both).0) there

pub gone-by-key : (row : Row) (cs : List Child) → rises child_order cs ≡ true → are_apart (λ (a : Child) b. a.id.0 == b.id.0) cs ≡ true → list_any (is_child row) cs ≡ true
    → (key_place child_order (child_order (child_of row)) cs < length cs) × (filter (is_other row.id) cs ≡ remove cs (key_place child_order (child_order (child_of row)) cs))
gone-by-key row [] h apart there = absurd (cc)
gone-by-key row (c ∷ cs) h apart there =
    let k : List ℕ = child_order (child_of row) in
    let r = and_parts (list_all (λ y. stands_before (child_order c) (child_order y)) cs) (rises child_order cs) h in
    let e = and_parts (not (list_any (λ (b : Child). c.id.0 == b.id.0) cs)) (are_apart (λ (a : Child) b. a.id.0 == b.id.0) cs) apart in
    elim (cases_Bool (stands_before (child_order c) k)) [
      | inl before ↦
          let later : list_any (is_child row) cs ≡ true = ap (λ t. t || list_any (is_child row) cs) (sym (passed before)) ∙ there in
          let other : has_id row.id c ≡ false = apart-from row.parent row.id c cs (among row cs later) e.0 in
          let rest = gone-by-key row cs r.1 e.1 later in
          let n : ℕ = key_place child_order k cs in
          let place : key_place child_order k (c ∷ cs) ≡ 1 + n = cond-true (not (not (stands_before (child_order c) k))) (1 + n) 0 (ap (λ t. not (not t)) before) in
          let within : n < length cs = rest.0 in (
            omega arith,
            cond-true (not (has_id row.id c)) (c ∷ filter (is_other row.id) cs) (filter (is_other row.id) cs) (ap not other) ∙ ap (λ l. c ∷ l) rest.1 ∙ sym (further c cs n) ∙ ap (λ m. remove (c ∷ cs) m) (sym place),
          )
      | inr after ↦
          let place : key_place child_order k (c ∷ cs) ≡ 0 = cond-false (not (not (stands_before (child_order c) k))) (1 + key_place child_order k cs) 0 (ap (λ t. not (not t)) after) in
          let here : has_id row.id c ≡ true = right_true (c.parent.0 == row.parent) (c.id.0 == row.id) (and_parts (is_child_at row.parent row.id c) (bytes_eq (child_order c) k) (first r.0 after)).0 in
          let whole = gone-first row.id (c ∷ cs) apart (ap (λ t. t || list_any (has_id row.id) cs) here) in
          let at_first : position_or_len (has_id row.id) (c ∷ cs) ≡ 0 = cond-false (not (has_id row.id c)) (1 + position_or_len (has_id row.id) cs) 0 (ap not here) in (
            omega arith,
            whole.1 ∙ ap (λ m. remove (c ∷ cs) m) (at_first ∙ sym place),
          )
    ]
  where
    passed : stands_before (child_order c) (child_order (child_of row)) ≡ true → is_child row c ≡ false
    passed before = elim (cases_Bool (is_child row c)) [
      | inl is ↦ absurd (cc (ap not (right_true (is_child_at row.parent row.id c) (bytes_eq (child_order c) (child_order (child_of row))) is), before-differs (child_order c) (child_order (child_of row)) before))
      | inr isnt ↦ isnt
    ]

    first : list_all (λ y. stands_before (child_order c) (child_order y)) cs ≡ true → stands_before (child_order c) (child_order (child_of row)) ≡ false → is_child row c ≡ true
    first all after = elim (cases_Bool (is_child row c)) [
      | inl is ↦ is
      | inr isnt ↦ absurd (any-at (is_child row) (λ y. stands_before (child_order c) (child_order y)) cs (ap (λ t. t || list_any (is_child row) cs) (sym isnt) ∙ there) all (λ y is above.
          cc (sym after ∙ ap (λ q. stands_before (child_order c) q) (sym ((bytes_eq-Decides (child_order y) (child_order (child_of row))).0 (right_true (is_child_at row.parent row.id y) (bytes_eq (child_order y) (child_order (child_of row))) is))) ∙ above)))
    ]

-- the same, as it is sought: at the place of a key that is the node's
pub found-by-key : (row : Row) (cs : List Child) (k : List ℕ) (place : ℕ) → place ≡ key_place child_order k cs → k ≡ child_order (child_of row) → rises child_order cs ≡ true → are_apart (λ (a : Child) b. a.id.0 == b.id.0) cs ≡ true
    → list_any (is_child row) cs ≡ true → (place < length cs) × (filter (is_other row.id) cs ≡ remove cs place)
found-by-key row cs k place is key h apart there =
    subst (λ n. (n < length cs) × (filter (is_other row.id) cs ≡ remove cs n)) (sym (is ∙ ap (λ l. key_place child_order l cs) key)) (gone-by-key row cs h apart there)
