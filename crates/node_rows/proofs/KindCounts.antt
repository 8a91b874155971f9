-- Counts of files up to each place, and the kinds that they tell.
use Rattle.std.proofs.Common.{◌≡◌, ◌∙◌, ap, sym, refl, subst, ℕ, zero, suc, ◌+◌, ◌-◌, ◌==◌, ◌≤◌, ◌<◌, ◌^◌, Bool, true, false, not, List, [], ◌∷◌, ◌++◌, length, map, take, drop, arith}
use Rattle.std.specs.Prelude.{insert, slice_index_or}
use Rattle.std.specs.List.{list_all, remove}
use Rattle.std.proofs.lemmas.Bool.{and_from, and_parts, eq-eqb, ne_eqb, le-leb, lt-ltb}
use Rattle.std.proofs.lemmas.List.Filters.{length-filter_both}
use Rattle.std.proofs.lemmas.List.{get_or_default, length-take}
use Rattle.node_rows.specs.lemma.Kinds.{AreCounts, fits_more, is_at_least, is_kind, kinds_of, lowered, many, one_if, raised, running}

kinds-back : (n : ℕ) (ks : List Bool) → kinds_of n (running n ks) ≡ ks
kinds-back n [] = refl
kinds-back n (true ∷ ks) =
    let rises : (1 + n == n) ≡ false = ne_eqb (1 + n) n (λ same. omega arith) in
    λ i. ap not rises i ∷ kinds-back (1 + n) ks i
kinds-back n (false ∷ ks) =
    let stays : (0 + n == n) ≡ true = eq-eqb (0 + n) n (omega arith) in
    λ i. ap not stays i ∷ kinds-back (0 + n) ks i

pub kinds-are : (counts : List ℕ) (ks : List Bool) → counts ≡ running 0 ks → kinds_of 0 counts ≡ ks
kinds-are counts ks is = ap (kinds_of 0) is ∙ kinds-back 0 ks

pub are-counts : (counts : List ℕ) (ks : List Bool) → counts ≡ running 0 ks → AreCounts counts
are-counts counts ks is = is ∙ ap (running 0) (sym (kinds-are counts ks is))

pub length-kinds : (n : ℕ) (counts : List ℕ) → length (kinds_of n counts) ≡ length counts
length-kinds n [] = refl
length-kinds n (c ∷ cs) = ap suc (length-kinds c cs)

length-running : (n : ℕ) (ks : List Bool) → length (running n ks) ≡ length ks
length-running n [] = refl
length-running n (k ∷ ks) = ap suc (length-running (one_if k + n) ks)

-- a file first is one more
many-cons : (k : Bool) (ks : List Bool) → many true (k ∷ ks) ≡ one_if k + many true ks
many-cons true ks = omega arith
many-cons false ks = omega arith

-- the count at a place
at-place : (n : ℕ) (ks : List Bool) (i d : ℕ) → i < length ks → slice_index_or (running n ks) i d ≡ n + many true (take (suc i) ks)
at-place n [] i d within = absurd (omega arith)
at-place n (k ∷ ks) zero d within = let one : many true (k ∷ []) ≡ one_if k + 0 = many-cons k [] in omega arith
at-place n (k ∷ ks) (suc i) d within =
    let rest : slice_index_or (running (one_if k + n) ks) i d ≡ one_if k + n + many true (take (suc i) ks) = at-place (one_if k + n) ks i d (omega arith) in
    let more : many true (k ∷ take (suc i) ks) ≡ one_if k + many true (take (suc i) ks) = many-cons k (take (suc i) ks) in
    omega arith

module _ (counts : List ℕ) (place d : ℕ) (are : AreCounts counts) (within : place < length counts) where
  one-more : place + 1 ≡ suc place
  one-more = omega arith

  shown : slice_index_or counts place d ≡ many true (take (place + 1) (kinds_of 0 counts))
  shown =
      let inside : place < length (kinds_of 0 counts) = omega (arith, length-kinds 0 counts) in
      let is : slice_index_or (running 0 (kinds_of 0 counts)) place d ≡ 0 + many true (take (suc place) (kinds_of 0 counts)) = at-place 0 (kinds_of 0 counts) place d inside in
      let none : 0 + many true (take (suc place) (kinds_of 0 counts)) ≡ many true (take (suc place) (kinds_of 0 counts)) = omega arith in
      ap (λ l. slice_index_or l place d) are ∙ is ∙ none ∙ ap (λ n. many true (take n (kinds_of 0 counts))) (sym one-more)

  whole : many true (take (place + 1) (kinds_of 0 counts)) + many false (take (place + 1) (kinds_of 0 counts)) ≡ place + 1
  whole =
      let size : length (take (place + 1) (kinds_of 0 counts)) ≡ place + 1 = omega (arith, length-take (place + 1) (kinds_of 0 counts), length-kinds 0 counts) in
      length-filter_both (is_kind true) (is_kind false) (λ k. refl) (take (place + 1) (kinds_of 0 counts)) ∙ size

  pub files-shown : (file : Bool) → file ≡ true → slice_index_or counts place d ≡ many file (take (place + 1) (kinds_of 0 counts))
  files-shown file is = shown ∙ ap (λ k. many k (take (place + 1) (kinds_of 0 counts))) (sym is)

  pub count-within : slice_index_or counts place d ≤ place + 1
  count-within = let s = shown in let w = whole in omega arith

  pub directories-shown : (file : Bool) → file ≡ false → place + 1 - slice_index_or counts place d ≡ many file (take (place + 1) (kinds_of 0 counts))
  directories-shown file is =
      let s = shown in
      let w = whole in
      let left : place + 1 - slice_index_or counts place d ≡ many false (take (place + 1) (kinds_of 0 counts)) = omega arith in
      left ∙ ap (λ k. many k (take (place + 1) (kinds_of 0 counts))) (sym is)

-- no more stand in a part than its length
pub many-within : (file : Bool) (n : ℕ) (ks : List Bool) → many file (take n ks) ≤ n
many-within true n ks =
    let w = length-filter_both (is_kind true) (is_kind false) (λ k. refl) (take n ks) in
    omega (arith, length-take n ks, w)
many-within false n ks =
    let w = length-filter_both (is_kind true) (is_kind false) (λ k. refl) (take n ks) in
    omega (arith, length-take n ks, w)

-- counts that begin higher
shift : (more n : ℕ) (ks : List Bool) → running (more + n) ks ≡ map (raised more) (running n ks)
shift more n [] = refl
shift more n (k ∷ ks) =
    let first : one_if k + (more + n) ≡ one_if k + n + more = omega arith in
    let next : one_if k + (more + n) ≡ more + (one_if k + n) = omega arith in
    λ i. first i ∷ (ap (λ m. running m ks) next ∙ shift more (one_if k + n) ks) i

-- one kind more
put-at-place : (n : ℕ) (ks : List Bool) (place : ℕ) (file : Bool) → place ≤ length ks
    → take place (running n ks) ++ (n + many true (take place ks) + one_if file) ∷ map (raised (one_if file)) (drop place (running n ks)) ≡ running n (insert ks place file)
put-at-place n [] zero file within = let first : n + 0 + one_if file ≡ one_if file + n = omega arith in ap (λ m. m ∷ []) first
put-at-place n (k ∷ ks) zero file within =
    let first : n + 0 + one_if file ≡ one_if file + n = omega arith in
    λ i. first i ∷ sym (shift (one_if file) n (k ∷ ks)) i
put-at-place n [] (suc place) file within = absurd (omega arith)
put-at-place n (k ∷ ks) (suc place) file within =
    let more : many true (k ∷ take place ks) ≡ one_if k + many true (take place ks) = many-cons k (take place ks) in
    let same : n + many true (k ∷ take place ks) + one_if file ≡ one_if k + n + many true (take place ks) + one_if file = omega arith in
    ap (λ m. (one_if k + n) ∷ (take place (running (one_if k + n) ks) ++ m ∷ map (raised (one_if file)) (drop place (running (one_if k + n) ks)))) same
    ∙ ap (λ l. (one_if k + n) ∷ l) (put-at-place (one_if k + n) ks place file (omega arith))

pub put-is : (counts : List ℕ) (place here : ℕ) (file : Bool) → AreCounts counts → place ≤ length counts → here ≡ many true (take place (kinds_of 0 counts)) + one_if file
    → take place counts ++ here ∷ map (raised (one_if file)) (drop place counts) ≡ running 0 (insert (kinds_of 0 counts) place file)
put-is counts place here file are within is =
    let same : here ≡ 0 + many true (take place (kinds_of 0 counts)) + one_if file = omega arith in
    (λ i. take place (are i) ++ same i ∷ map (raised (one_if file)) (drop place (are i)))
    ∙ put-at-place 0 (kinds_of 0 counts) place file (omega (arith, length-kinds 0 counts))

pub at-most-one : (b : Bool) → one_if b ≤ 1
at-most-one true = omega arith
at-most-one false = omega arith

running-fits : (more n : ℕ) (ks : List Bool) → n + length ks + more < 2 ^ 64 → list_all (fits_more more) (running n ks) ≡ true
running-fits more n [] few = refl
running-fits more n (k ∷ ks) few =
    let small : one_if k ≤ 1 = at-most-one k in
    and_from (fits_more more (one_if k + n)) (list_all (fits_more more) (running (one_if k + n) ks)) (lt-ltb (one_if k + n + more) (2 ^ 64) (omega arith)) (running-fits more (one_if k + n) ks (omega arith))

all-drop : (p : ℕ → Bool) (i : ℕ) (xs : List ℕ) → list_all p xs ≡ true → list_all p (drop i xs) ≡ true
all-drop p zero xs h = h
all-drop p (suc i) [] h = refl
all-drop p (suc i) (x ∷ xs) h = all-drop p i xs (and_parts (p x) (list_all p xs) h).1

pub counts-fit : (counts : List ℕ) (place more : ℕ) → AreCounts counts → length counts + more < 2 ^ 64 → list_all (fits_more more) (drop place counts) ≡ true
counts-fit counts place more are few =
    all-drop (fits_more more) place counts
    (ap (list_all (fits_more more)) are ∙ running-fits more 0 (kinds_of 0 counts) (omega (arith, length-kinds 0 counts)))

-- one kind less

climbs : (low n : ℕ) (ks : List Bool) → low ≤ n → list_all (is_at_least low) (running n ks) ≡ true
climbs low n [] le = refl
climbs low n (k ∷ ks) le =
    and_from (is_at_least low (one_if k + n)) (list_all (is_at_least low) (running (one_if k + n) ks)) (le-leb low (one_if k + n) (omega arith)) (climbs low (one_if k + n) ks (omega arith))

back : (less : ℕ) (xs : List ℕ) → map (lowered less) (map (raised less) xs) ≡ xs
back less [] = refl
back less (x ∷ xs) = let same : x + less - less ≡ x = omega arith in λ i. same i ∷ back less xs i

-- the count at a place is above the one before it by what stands there, and so is each behind it
record IsRise (n : ℕ) (ks : List Bool) (place d : ℕ) : Type 0 where
  pub low : n + many true (take place ks) ≤ slice_index_or (running n ks) place d
  pub least : list_all (is_at_least (slice_index_or (running n ks) place d - (n + many true (take place ks)))) (drop (suc place) (running n ks)) ≡ true
  pub taken : take place (running n ks) ++ map (lowered (slice_index_or (running n ks) place d - (n + many true (take place ks)))) (drop (suc place) (running n ks)) ≡ running n (remove ks place)

rise : (n : ℕ) (ks : List Bool) (place d : ℕ) → place < length ks → IsRise n ks place d
rise n [] place d within = absurd (omega arith)
rise n (k ∷ ks) zero d within = record {
  low = omega arith;
  least = climbs (one_if k + n - (n + 0)) (one_if k + n) ks (omega arith);
  taken =
      let is : one_if k + n - (n + 0) ≡ one_if k = omega arith in
      (λ i. map (lowered (is i)) (shift (one_if k) n ks i)) ∙ back (one_if k) (running n ks);
}
rise n (k ∷ ks) (suc place) d within =
    let r : IsRise (one_if k + n) ks place d = rise (one_if k + n) ks place d (omega arith) in
    let more : many true (k ∷ take place ks) ≡ one_if k + many true (take place ks) = many-cons k (take place ks) in
    let same : one_if k + n + many true (take place ks) ≡ n + many true (k ∷ take place ks) = omega arith in
    let here : ℕ = slice_index_or (running (one_if k + n) ks) place d in
    record {
      low = subst (λ m. m ≤ here) same r.low;
      least = subst (λ m. list_all (is_at_least (here - m)) (drop (suc place) (running (one_if k + n) ks)) ≡ true) same r.least;
      taken = ap (λ l. (one_if k + n) ∷ l) (subst (λ m. take place (running (one_if k + n) ks) ++ map (lowered (here - m)) (drop (suc place) (running (one_if k + n) ks)) ≡ running (one_if k + n) (remove ks place)) same r.taken);
    }

pub record IsTaken (counts : List ℕ) (place before here : ℕ) : Type 0 where
  pub low : before ≤ here
  pub least : list_all (is_at_least (here - before)) (drop (suc place) counts) ≡ true
  pub taken : take place counts ++ map (lowered (here - before)) (drop (suc place) counts) ≡ running 0 (remove (kinds_of 0 counts) place)

pub taken-is : (counts : List ℕ) (place before here : ℕ) → AreCounts counts → place < length counts → before ≡ many true (take place (kinds_of 0 counts)) → here ≡ slice_index_or counts place here → IsTaken counts place before here
taken-is counts place before here are within before_is here_is =
    let ks : List Bool = kinds_of 0 counts in
    let r : IsRise 0 ks place here = rise 0 ks place here (omega (arith, length-kinds 0 counts)) in
    let at_here : slice_index_or (running 0 ks) place here ≡ here = sym (here_is ∙ ap (λ l. slice_index_or l place here) are) in
    let at_before : 0 + many true (take place ks) ≡ before = omega arith in
    record {
      low = subst (λ m. m ≤ here) at_before (subst (λ m. 0 + many true (take place ks) ≤ m) at_here r.low);
      least = (λ i. list_all (is_at_least (sym at_here i - sym at_before i)) (drop (suc place) (are i))) ∙ r.least;
      taken = (λ i. take place (are i) ++ map (lowered (sym at_here i - sym at_before i)) (drop (suc place) (are i))) ∙ r.taken;
    }

-- a number that a change in place has not reached yet
pub still-there : (f : ℕ → ℕ) (old now : List ℕ) (i d : ℕ) → i < length old → now ≡ map f (take i old) ++ drop i old → slice_index_or now i d ≡ slice_index_or old i d
still-there f old now i d within is = ap (λ l. slice_index_or l i d) is ∙ by f old i within
  where
    by : (f : ℕ → ℕ) (old : List ℕ) (i : ℕ) → i < length old → slice_index_or (map f (take i old) ++ drop i old) i d ≡ slice_index_or old i d
    by f [] i within = absurd (omega arith)
    by f (x ∷ xs) zero within = refl
    by f (x ∷ xs) (suc i) within = by f xs i (omega arith)

pub still-read : (f : ℕ → ℕ) (old now : List ℕ) (i d : ℕ) → i < length old → now ≡ map f (take i old) ++ drop i old → slice_index_or now i d ≡ slice_index_or now i (slice_index_or now i d)
still-read f old now i d within is =
    let other : ℕ = slice_index_or now i d in
    still-there f old now i d within is ∙ get_or_default old i d other within ∙ sym (still-there f old now i other within is)

-- an element put between two parts
pub put-between : (xs ys : List ℕ) (place y : ℕ) → place ≤ length xs → insert (take place xs ++ ys) place y ≡ take place xs ++ y ∷ ys
put-between xs ys zero y within = refl
put-between [] ys (suc place) y within = absurd (omega arith)
put-between (x ∷ xs) ys (suc place) y within = ap (λ l. x ∷ l) (put-between xs ys place y (omega arith))

-- the parts around one that was taken away
pub take-taken : (xs : List ℕ) (place : ℕ) → place < length xs → take place (remove xs place) ≡ take place xs
take-taken [] place within = absurd (omega arith)
take-taken (x ∷ xs) zero within = refl
take-taken (x ∷ xs) (suc place) within = ap (λ l. x ∷ l) (take-taken xs place (omega arith))

pub drop-taken : (xs : List ℕ) (place : ℕ) → place < length xs → drop place (remove xs place) ≡ drop (suc place) xs
drop-taken [] place within = absurd (omega arith)
drop-taken (x ∷ xs) zero within = refl
drop-taken (x ∷ xs) (suc place) within = drop-taken xs place (omega arith)
