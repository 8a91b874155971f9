-- The entries of lists: which they are, and that several replies give all.
use Rattle.std.proofs.Common.{◌==◌, ◌≡◌, ◌∙◌, ap, sym, refl, ℕ, zero, suc, ◌+◌, ◌-◌, ◌≤◌, ◌<◌, arith, Bool, true, false, not, ◌&&◌, ◌||◌, cond, List, [], ◌∷◌, ◌++◌, length, take, drop, Option, None, inl, inr, subst}
use Rattle.std.specs.Prelude.{Result, Ok, Err, min, nat_le, nat_lt, sum_by}
use Rattle.std.specs.List.{count_by, filter, list_all}
use Rattle.std.proofs.lemmas.Bool.{and_parts, and_from, cond_both, cases_Bool, both_ways, or_cases, eqb-true, eqb-false, le-leb, leb-true, ltb-true, ltb-false, not-true, not-false}
use Rattle.std.proofs.lemmas.List.{length-append, length-drop, length-take, take_min, drop-drop}
use Rattle.std.proofs.lemmas.List.Sums.{sum_by-cons, sum_by-take-le}
use Rattle.std.proofs.Math.Seq.{take-add, take-length}
use Rattle.afp_base.specs.Limits.{payload_limit}
use Rattle.afp_base.specs.declared.code.Code.{Code}
use Rattle.afp_base.specs.declared.code.Code.TheVariants.{AccessDenied, BitmapErr, ObjectTypeErr, ObjectNotFound, ParamErr}
use Rattle.afp_bitmap.specs.Bits.{file_mask, dir_mask, is_outside}
use Rattle.afp_names.specs.Path.{PathValue}
use Rattle.volume_spec.proofs.Listings.{count-once, lists-by-key}
use Rattle.volume_spec.proofs.Ordered.{order-count}
use Rattle.volume_spec.proofs.Refusals.{none-holds, none-first}
use Rattle.volume_spec.proofs.Trees.{tree-parts}
use Rattle.volume_spec.specs.Shared.{Opened, behind}
use Rattle.volume_spec.specs.Enumerate.{ListAsked, is_counted, counted_children, list_head, longest_entry, entry_size, fits_reply, longest_front, from_start, entries, enumerate_refusal}
use Rattle.volume_spec.specs.Listing.{row_key, children, listed, page}
use Rattle.volume_spec.specs.ListLaws.{is_counted_child, PageAsked, asked_from, entries_in_turn}
use Rattle.volume_spec.specs.Order.{rises, in_order}
use Rattle.volume_spec.specs.SoundVolume.{IsSoundVolume}
use Rattle.volume_spec.specs.VolumeState.{Row, VolumeState}
use Rattle.volume_spec.specs.Walk.{found, has_directory}
use Rattle.afp_base.proofs.ListFacts.{apart-filter}
use Rattle.volume_spec.proofs.Rising.{keys-filter}
use Rattle.volume_spec.specs.Rights.{lacks, read_right}

-- what is counted

-- a count over a filtered list, as a sum over the whole
count-kept : {A : Type 0} (is keep : A → Bool) (xs : List A) → count_by is (filter keep xs) ≡ sum_by (λ x. cond (keep x) (cond (is x) 1 0) 0) xs
count-kept is keep [] = refl
count-kept is keep (x ∷ xs) =
    let rest = count-kept is keep xs in
    cond_both (keep x) (x ∷ filter keep xs) (filter keep xs) (λ l. count_by is l ≡ sum_by (λ y. cond (keep y) (cond (is y) 1 0) 0) (x ∷ xs))
    (λ kept. sum_by-cons (λ y. cond (is y) 1 0) x (filter keep xs) ∙ (λ i. cond (is x) 1 0 + rest i)
    ∙ ap (λ b. cond b (cond (is x) 1 0) 0 + sum_by (λ y. cond (keep y) (cond (is y) 1 0) 0) xs) (sym kept)
    ∙ sym (sum_by-cons (λ y. cond (keep y) (cond (is y) 1 0) 0) x xs))
    (λ gone. rest ∙ no-more (sum_by (λ y. cond (keep y) (cond (is y) 1 0) 0) xs) ∙ ap (λ b. cond b (cond (is x) 1 0) 0 + sum_by (λ y. cond (keep y) (cond (is y) 1 0) 0) xs) (sym gone)
    ∙ sym (sum_by-cons (λ y. cond (keep y) (cond (is y) 1 0) 0) x xs))
  where
    no-more : (n : ℕ) → n ≡ 0 + n
    no-more n = omega arith

pub counts-once : (v : VolumeState) (asked : ListAsked) (dir id : ℕ) → IsSoundVolume v → count_by (λ (row : Row). row.id == id) (counted_children v.rows asked dir) ≡ cond (is_counted_child v.rows asked dir id) 1 0
unfolding counted_children listed is_counted_child children
counts-once v asked dir id s =
    let is : Row → Bool = λ row. row.id == id in
    let keep : Row → Bool = is_counted asked in
    let child : Row → Bool = λ row. row.parent == dir in
    count-kept is keep (in_order row_key (filter child v.rows))
    ∙ order-count row_key (λ (row : Row). cond (keep row) (cond (is row) 1 0) 0) (filter child v.rows)
    ∙ sym (count-kept is keep (filter child v.rows))
    ∙ count-once (filter child v.rows) keep id (apart-filter (λ (a : Row) b. a.id == b.id) child v.rows (tree-parts v s.tree).apart)

pub counts-by-key : (v : VolumeState) (asked : ListAsked) (dir : ℕ) → IsSoundVolume v → rises row_key (counted_children v.rows asked dir) ≡ true
unfolding counted_children
counts-by-key v asked dir s = keys-filter row_key (is_counted asked) (listed v.rows dir) (lists-by-key v dir s)

-- the longest first part that passes

take-again : {A : Type 0} (n : ℕ) (xs : List A) → take (length (take n xs)) xs ≡ take n xs
take-again n xs = ap (λ k. take k xs) (length-take n xs) ∙ take_min n xs

front-is : {A : Type 0} (p : List A → Bool) (n : ℕ) (xs : List A) → longest_front p n xs ≡ take (length (longest_front p n xs)) xs
front-is p zero xs = refl
front-is p (suc n) xs = cond_both (p (take (suc n) xs)) (take (suc n) xs) (longest_front p n xs) (λ l. l ≡ take (length l) xs)
    (λ passes. sym (take-again (suc n) xs)) (λ fails. front-is p n xs)

front-few : {A : Type 0} (p : List A → Bool) (n : ℕ) (xs : List A) → length (longest_front p n xs) ≤ n
front-few p zero xs = omega arith
front-few p (suc n) xs =
    let shorter : length (longest_front p n xs) ≤ n = front-few p n xs in
    let size : length (take (suc n) xs) ≡ min (suc n) (length xs) = length-take (suc n) xs in
    cond_both (p (take (suc n) xs)) (take (suc n) xs) (longest_front p n xs) (λ l. length l ≤ suc n) (λ passes. omega arith) (λ fails. omega arith)

-- it passes where there is something in it
front-passes : {A : Type 0} (p : List A → Bool) (n : ℕ) (xs : List A) → 0 < length (longest_front p n xs) → p (longest_front p n xs) ≡ true
front-passes p zero xs = λ some. absurd (omega arith)
front-passes p (suc n) xs = cond_both (p (take (suc n) xs)) (take (suc n) xs) (longest_front p n xs) (λ l. 0 < length l → p l ≡ true)
    (λ passes some. passes) (λ fails. front-passes p n xs)

-- no longer first part passes
front-most : {A : Type 0} (p : List A → Bool) (n m : ℕ) (xs : List A) → m ≤ n → m ≤ length xs → p (take m xs) ≡ true → m ≤ length (longest_front p n xs)
front-most p zero m xs few there passes = omega arith
front-most p (suc n) m xs few there passes =
    let size : length (take (suc n) xs) ≡ min (suc n) (length xs) = length-take (suc n) xs in
    cond_both (p (take (suc n) xs)) (take (suc n) xs) (longest_front p n xs) (λ l. m ≤ length l)
    (λ all. omega arith)
    (λ fails. elim (cases_Bool (m == suc n)) [
      | inl same ↦ absurd (both_ways (p (take (suc n) xs)) fails (ap (λ k. p (take k xs)) (sym (eqb-true m (suc n) same)) ∙ passes))
      | inr other ↦ front-most p n m xs (less m n few other) there passes
    ])
  where
    less : (m n : ℕ) → m ≤ suc n → (m == suc n) ≡ false → m ≤ n
    less m n few other = let differ : m ≡ suc n → ⊥ = eqb-false m (suc n) other in omega arith

-- a test that passes each first part of what it passes
abbrev pub PassesFewer : {A : Type 0} → (List A → Bool) → Type 0
PassesFewer {A = A} p = (xs : List A) (n : ℕ) → p xs ≡ true → p (take n xs) ≡ true

take-less : {A : Type 0} (n m : ℕ) (xs : List A) → n ≤ m → take n (take m xs) ≡ take n xs
take-less zero m xs few = refl
take-less (suc n) zero xs few = absurd (omega arith)
take-less (suc n) (suc m) [] few = refl
take-less (suc n) (suc m) (x ∷ xs) few = λ i. x ∷ take-less n m xs (omega arith) i

-- so many, where they pass and one more would not, or no more are there or asked
front-stops : {A : Type 0} (p : List A → Bool) (most n : ℕ) (xs : List A) → PassesFewer p → n ≤ most → n ≤ length xs → ((n == 0) || p (take n xs)) ≡ true
    → ((n == most) || ((n == length xs) || not (p (take (n + 1) xs)))) ≡ true → longest_front p most xs ≡ take n xs
front-stops p most n xs fewer few there passes stops = front-is p most xs ∙ ap (λ k. take k xs) same
  where
    k : ℕ
    k = length (longest_front p most xs)

    at-least : n ≤ k
    at-least = elim (or_cases (n == 0) (p (take n xs)) passes) [
      | inl none ↦ let is : n ≡ 0 = eqb-true n 0 none in omega arith
      | inr does ↦ front-most p most n xs few there does
    ]

    -- were there more, one more would pass
    more-passes : n < k → p (take (n + 1) xs) ≡ true
    more-passes less =
        let whole : p (longest_front p most xs) ≡ true = front-passes p most xs (omega arith) in
        let front : p (take k xs) ≡ true = ap p (sym (front-is p most xs)) ∙ whole in
        ap p (sym (take-less (n + 1) k xs (omega arith))) ∙ fewer (take k xs) (n + 1) front

    no-more : n < k → ⊥
    no-more less =
        let k_few : k ≤ most = front-few p most xs in
        let k_size : k ≡ min k (length xs) = ap length (front-is p most xs) ∙ length-take k xs in
        elim (or_cases (n == most) ((n == length xs) || not (p (take (n + 1) xs))) stops) [
          | inl all ↦ let is : n ≡ most = eqb-true n most all in omega arith
          | inr rest ↦ elim (or_cases (n == length xs) (not (p (take (n + 1) xs))) rest) [
            | inl all ↦ let is : n ≡ length xs = eqb-true n (length xs) all in omega arith
            | inr fails ↦ absurd (both_ways (p (take (n + 1) xs)) (not-true (p (take (n + 1) xs)) fails) (more-passes less))
          ]
        ]

    same : k ≡ n
    same = elim (cases_Bool (nat_lt n k)) [
      | inl less ↦ absurd (no-more (ltb-true n k less))
      | inr least ↦ let h : k ≤ n = ltb-false n k least in let g : n ≤ k = at-least in omega arith
    ]

-- replies

all-take : {A : Type 0} (p : A → Bool) (xs : List A) (n : ℕ) → list_all p xs ≡ true → list_all p (take n xs) ≡ true
all-take p xs zero h = refl
all-take p [] (suc n) h = refl
all-take p (x ∷ xs) (suc n) h = let e = and_parts (p x) (list_all p xs) h in and_from (p x) (list_all p (take n xs)) e.0 (all-take p xs n e.1)

pub fewer-fit : (rows : List Row) (opens : List Opened) (asked : ListAsked) (nodes : List Row) (n : ℕ) → fits_reply rows opens asked nodes ≡ true → fits_reply rows opens asked (take n nodes) ≡ true
unfolding fits_reply
fewer-fit rows opens asked nodes n h =
    let size : Row → ℕ = entry_size rows opens asked in
    let limit : ℕ = min asked.size payload_limit in
    let short : Row → Bool = λ node. nat_le (size node) (longest_entry asked.wide) in
    let e = and_parts (nat_le (list_head + sum_by size nodes) limit) (list_all short nodes) h in
    let all : list_head + sum_by size nodes ≤ limit = leb-true (list_head + sum_by size nodes) limit e.0 in
    let less : sum_by size (take n nodes) ≤ sum_by size nodes = sum_by-take-le size nodes n in
    and_from (nat_le (list_head + sum_by size (take n nodes)) limit) (list_all short (take n nodes))
    (le-leb (list_head + sum_by size (take n nodes)) limit (within (sum_by size (take n nodes)) (sum_by size nodes) limit all less))
    (all-take short nodes n e.1)
  where
    within : (a b limit : ℕ) → 6 + b ≤ limit → a ≤ b → 6 + a ≤ limit
    within a b limit h less = omega arith

pub entries-are-page : (rows : List Row) (opens : List Opened) (asked : ListAsked) (dir : ℕ) → entries rows opens asked dir ≡ page (counted_children rows asked dir) asked.start (length (entries rows opens asked dir))
unfolding entries
entries-are-page rows opens asked dir = front-is (fits_reply rows opens asked) asked.count (from_start rows asked dir)

pub entries-are-asked : (rows : List Row) (opens : List Opened) (asked : ListAsked) (dir : ℕ) → length (entries rows opens asked dir) ≤ asked.count
unfolding entries
entries-are-asked rows opens asked dir = front-few (fits_reply rows opens asked) asked.count (from_start rows asked dir)

pub entries-go-as-far : (rows : List Row) (opens : List Opened) (asked : ListAsked) (dir n : ℕ) → n ≤ asked.count → n ≤ length (from_start rows asked dir)
    → ((n == 0) || fits_reply rows opens asked (take n (from_start rows asked dir))) ≡ true
    → ((n == asked.count) || ((n == length (from_start rows asked dir)) || not (fits_reply rows opens asked (take (n + 1) (from_start rows asked dir))))) ≡ true
    → entries rows opens asked dir ≡ take n (from_start rows asked dir)
unfolding entries
entries-go-as-far rows opens asked dir n few there passes stops =
    front-stops (fits_reply rows opens asked) asked.count n (from_start rows asked dir) (fewer-fit rows opens asked) few there passes stops

-- where a list is not refused, one entry fits, and there is one
behind-ok : {A : Type 0} (r : Result A Code) (refused : A → Option Code) (a : A) → behind r refused ≡ None → r ≡ Ok a → refused a ≡ None
behind-ok r refused a h is = ap (λ q. behind q refused) (sym is) ∙ h

one-there : (v : VolumeState) (opens : List Opened) (asked : ListAsked) (dir id : ℕ) (path : PathValue) → enumerate_refusal v opens asked dir path ≡ None → found v.rows asked.user dir path ≡ Ok id → 0 < length (entries v.rows opens asked id)
unfolding enumerate_refusal entries
one-there v opens asked dir id path passes is =
    let first = none-first ((is_outside file_mask asked.file_bits, BitmapErr) ∷ (is_outside dir_mask asked.dir_bits, BitmapErr) ∷ ((asked.file_bits == 0) && (asked.dir_bits == 0), BitmapErr) ∷ []) _ passes in
    let none = none-holds (
    (not (has_directory v.rows id), ObjectTypeErr)
    ∷ (lacks v.rows asked.user read_right id, AccessDenied)
    ∷ (asked.count == 0, ParamErr)
    ∷ (asked.start == 0, ParamErr)
    ∷ (nat_lt (length (counted_children v.rows asked id)) asked.start, ObjectNotFound)
    ∷ (not (fits_reply v.rows opens asked (take 1 (from_start v.rows asked id))), ParamErr)
    ∷ []) (behind-ok (found v.rows asked.user dir path) _ id first.1 is) in
    let list : List Row = counted_children v.rows asked id in
    let there : asked.start ≤ length list = ltb-false (length list) asked.start none.1.1.1.1.0 in
    let size : length (from_start v.rows asked id) ≡ length list - (asked.start - 1) = length-drop (asked.start - 1) list in
    front-most (fits_reply v.rows opens asked) asked.count 1 (from_start v.rows asked id)
    (some asked.count (eqb-false asked.count 0 none.1.1.0))
    (subst (λ n. 1 ≤ n) (sym size) (left asked.start (length list) (eqb-false asked.start 0 none.1.1.1.0) there))
    (not-false (fits_reply v.rows opens asked (take 1 (from_start v.rows asked id))) none.1.1.1.1.1.0)
  where
    some : (n : ℕ) → (n ≡ 0 → ⊥) → 1 ≤ n
    some n h = omega arith

    left : (start n : ℕ) → (start ≡ 0 → ⊥) → start ≤ n → 1 ≤ n - (start - 1)
    left start n h there = omega arith

pub entries-fit : (v : VolumeState) (opens : List Opened) (asked : ListAsked) (dir id : ℕ) (path : PathValue) → enumerate_refusal v opens asked dir path ≡ None → found v.rows asked.user dir path ≡ Ok id → fits_reply v.rows opens asked (entries v.rows opens asked id) ≡ true
unfolding entries
entries-fit v opens asked dir id path passes is =
    front-passes (fits_reply v.rows opens asked) asked.count (from_start v.rows asked id) (one-there v opens asked dir id path passes is)

behind-err : {A : Type 0} (r : Result A Code) (refused : A → Option Code) (code : Code) → behind r refused ≡ None → r ≡ Err code → ⊥
behind-err (Ok a) refused code h is = absurd (cc)
behind-err (Err stray) refused code h is = absurd (cc)

finds : (v : VolumeState) (opens : List Opened) (asked : ListAsked) (dir : ℕ) (path : PathValue) (code : Code) → enumerate_refusal v opens asked dir path ≡ None → found v.rows asked.user dir path ≡ Err code → ⊥
unfolding enumerate_refusal
finds v opens asked dir path code passes is =
    let first = none-first ((is_outside file_mask asked.file_bits, BitmapErr) ∷ (is_outside dir_mask asked.dir_bits, BitmapErr) ∷ ((asked.file_bits == 0) && (asked.dir_bits == 0), BitmapErr) ∷ []) _ passes in
    behind-err (found v.rows asked.user dir path) _ code first.1 is

pub never-empty : (v : VolumeState) (opens : List Opened) (asked : ListAsked) (dir : ℕ) (path : PathValue) → enumerate_refusal v opens asked dir path ≡ None
    → (id : ℕ) × (found v.rows asked.user dir path ≡ Ok id) × (0 < length (entries v.rows opens asked id))
never-empty v opens asked dir path passes = by (found v.rows asked.user dir path) refl
  where
    by : (r : Result ℕ Code) → found v.rows asked.user dir path ≡ r → (id : ℕ) × (found v.rows asked.user dir path ≡ Ok id) × (0 < length (entries v.rows opens asked id))
    by (Ok id) is = (id, is, one-there v opens asked dir id path passes is)
    by (Err code) is = absurd (finds v opens asked dir path code passes is)

-- replies in turn
turns-go-on : (rows : List Row) (asked : ListAsked) (dir start : ℕ) (turns : List PageAsked) → 1 ≤ start
    → entries_in_turn rows asked dir start turns ≡ take (length (entries_in_turn rows asked dir start turns)) (drop (start - 1) (counted_children rows asked dir))
unfolding counted_children
turns-go-on rows asked dir start [] h = refl
turns-go-on rows asked dir start (turn ∷ turns) h =
    let list : List Row = counted_children rows asked dir in
    let here : List Row = entries rows turn.opens (asked_from asked start turn) dir in
    let later : List Row = entries_in_turn rows asked dir (start + length here) turns in
    let first : here ≡ take (length here) (drop (start - 1) list) = entries-are-page rows turn.opens (asked_from asked start turn) dir in
    let rest : later ≡ take (length later) (drop (start + length here - 1) list) = turns-go-on rows asked dir (start + length here) turns (omega arith) in
    let place : start + length here - 1 ≡ (start - 1) + length here = omega arith in
    let behind : drop (start + length here - 1) list ≡ drop (length here) (drop (start - 1) list) = ap (λ n. drop n list) place ∙ sym (drop-drop (length here) (start - 1) list) in
    (λ i. first i ++ (rest ∙ ap (λ l. take (length later) l) behind) i)
    ∙ sym (take-add (length here) (length later) (drop (start - 1) list))
    ∙ ap (λ n. take n (drop (start - 1) list)) (sym (length-append here later))

pub turns-give-first : (rows : List Row) (asked : ListAsked) (dir : ℕ) (turns : List PageAsked) → entries_in_turn rows asked dir 1 turns ≡ take (length (entries_in_turn rows asked dir 1 turns)) (counted_children rows asked dir)
turns-give-first rows asked dir turns = turns-go-on rows asked dir 1 turns (omega arith)

take-all : {A : Type 0} (n : ℕ) (xs : List A) → length xs ≤ n → take n xs ≡ xs
take-all n xs few = sym (take_min n xs) ∙ ap (λ k. take k xs) (least n (length xs) few) ∙ take-length xs
  where
    least : (n m : ℕ) → m ≤ n → min n m ≡ m
    least n m few = omega arith

pub turns-give-all : (rows : List Row) (asked : ListAsked) (dir : ℕ) (turns : List PageAsked) → length (counted_children rows asked dir) < 1 + length (entries_in_turn rows asked dir 1 turns) → entries_in_turn rows asked dir 1 turns ≡ counted_children rows asked dir
turns-give-all rows asked dir turns far = turns-give-first rows asked dir turns ∙ take-all (length (entries_in_turn rows asked dir 1 turns)) (counted_children rows asked dir) (omega arith)
