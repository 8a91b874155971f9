-- The laws of reading, for values of any one kind.
use Rattle.std.proofs.Common.{◌≡◌, ℕ, ◌+◌, ◌%◌, ◌<◌, ◌≤◌, Bool, true, false, cond, List, [], ◌++◌, length, take, map, Option, Some, None, is_some, Ok, refl, sym, ap, subst, ◌∙◌, arith}
use Rattle.std.specs.List.{concat, AllByRecursion}
use Rattle.std.proofs.Math.Seq.{take-append-add}
use Rattle.std.proofs.lemmas.Bool.{eq-eqb, eqb-true}
use Rattle.std.proofs.lemmas.List.{take-append-le, take_all, take-map, length-map, append_assoc}
use Rattle.std.proofs.lemmas.List.Folds.{concat-append}
use Rattle.afp_bitmap.specs.declared.params.Values.{Values}
use Rattle.afp_bitmap.specs.declared.table.Shape.{Shape}
use Rattle.afp_bitmap.specs.declared.table.Slot.{Slot}
use Rattle.afp_bitmap.specs.Field.{Field, IsCountable, IsTyped}
use Rattle.afp_bitmap.specs.Params.{asked_of, asked, parts, size_of_fixed_part, RowFits, Fits, IsAnswer}
use Rattle.afp_bitmap.specs.lemma.Reading.{Walk, asked_size, start, leads_to}
use Rattle.afp_bitmap.specs.Table.{rows, kind_of}
use Rattle.afp_bitmap.proofs.Asked.{shape_of, slot_of, asked_size_is}
use Rattle.afp_bitmap.proofs.Asks.{same_shapes, sizes_are, typed_asked, long_countable, utf8_countable}
use Rattle.afp_bitmap.proofs.Claims.{valid_formed, passed_long, claim, passed_utf8, claimed_front}
use Rattle.afp_bitmap.proofs.Filled.{filled, taken_rows, asked_taken, off_formed, taken_fits, taken_typed}
use Rattle.afp_bitmap.proofs.Fixed.{walk, passed, passed_place, Passes, walk_passes}
use Rattle.afp_bitmap.proofs.Formed.{Formed, fields, formed_asked}
use Rattle.afp_bitmap.proofs.NamesAll.{OptFits, NamesFit}
use Rattle.afp_bitmap.proofs.NamesStage.{LongFits}
use Rattle.afp_base.specs.Bytes.{IsBytes}
use Rattle.afp_bitmap.proofs.Parts.{fixed_at, gap, long_in, utf8_in, names_of, parts_formed}
use Rattle.afp_bitmap.proofs.Tables.{fits_countable}

-- what the laws need of a kind
pub record Kind (kind bits : ℕ) : Type 0 where
  pub table : List Slot
  pub small : asked_size bits table < 65000
  pub make : List ℕ → List ℕ → List ℕ → Values
  pub make_kind : (bytes l u : List ℕ) → kind_of (make bytes l u) ≡ kind
  pub slots_of : (w : Values) → kind_of w ≡ kind → map slot_of (rows w) ≡ table
  pub formed_of : (w : Values) → kind_of w ≡ kind → Formed (fields (rows w))
  pub made : (w : Values) (bytes l u : List ℕ) → kind_of w ≡ kind → rows (make bytes l u) ≡ taken_rows bits (rows w) bytes l u
  pub same : (v w : Values) → kind_of v ≡ kind → kind_of w ≡ kind → rows v ≡ rows w → v ≡ w

-- ---- values of that kind

-- what is known of values that the bits ask for
pub record Asks (first : ℕ) (shapes : List Shape) (fs : List Field) : Type 0 where
  pub shapes_are : map shape_of fs ≡ shapes
  pub formed : Formed fs
  pub countable : AllByRecursion IsCountable fs
  pub typed : AllByRecursion IsTyped fs
  pub parts_are : parts fs ≡ map (fixed_at first (first + gap (long_in fs))) fs ++ names_of (long_in fs) (utf8_in fs)

-- the shapes of the asked fields
abbrev pub shapes : {kind bits : ℕ} → Kind kind bits → List Shape
shapes {kind} {bits} k = map shape_of (asked_of bits (rows (k.make [] [] [])))

abbrev pub first : {kind bits : ℕ} → Kind kind bits → ℕ
first {kind} {bits} k = asked_size bits k.table

pub fits_rows : (bits : ℕ) (v : Values) → Fits bits v → AllByRecursion (RowFits bits) (rows v)
unfolding Fits
fits_rows bits v h = h

rows_fit : (bits : ℕ) (v : Values) → AllByRecursion (RowFits bits) (rows v) → Fits bits v
unfolding Fits
rows_fit bits v h = h

pub asks : {kind bits : ℕ} (k : Kind kind bits) (w : Values) → IsAnswer kind bits w → Asks (first k) (shapes k) (asked bits w)
asks {kind} {bits} k w h =
    let slots = k.slots_of w h.kind_is in
    let fs : List Field = asked_of bits (rows w) in
    let size : size_of_fixed_part fs ≡ first k = sym (asked_size_is bits (rows w)) ∙ ap (asked_size bits) slots in
    let formed = formed_asked bits (rows w) (k.formed_of w h.kind_is) in
    record {
      shapes_are = same_shapes bits (rows w) (rows (k.make [] [] [])) (slots ∙ sym (k.slots_of (k.make [] [] []) (k.make_kind [] [] [])));
      formed = formed;
      countable = fits_countable bits (rows w) (fits_rows bits w h.fits);
      typed = typed_asked bits (rows w) h.typed;
      parts_are = parts_formed (first k) fs formed size;
    }

-- ---- values that are made

-- names that can be those of the kind's values
pub record Names {kind bits : ℕ} (k : Kind kind bits) (l u : List ℕ) : Type 0 where
  pub long_short : length l < 256
  pub utf8_short : length u < 65536
  pub long_none : long_in (asked_of bits (rows (k.make [] [] []))) ≡ None → l ≡ []
  pub utf8_none : utf8_in (asked_of bits (rows (k.make [] [] []))) ≡ None → u ≡ []

abbrev pub template : {kind bits : ℕ} → Kind kind bits → List Field
template {kind} {bits} k = asked_of bits (rows (k.make [] [] []))

pub made_answer : {kind bits : ℕ} (k : Kind kind bits) (bytes l u : List ℕ) → IsBytes bytes → Names k l u → IsAnswer kind bits (k.make bytes l u)
made_answer {kind} {bits} k bytes l u b n =
    let v0 : Values = k.make [] [] [] in
    let e = k.made v0 bytes l u (k.make_kind [] [] []) in
    let off = off_formed bits (rows v0) l u (k.formed_of v0 (k.make_kind [] [] [])) n.long_none n.utf8_none in
    record {
      kind_is = k.make_kind bytes l u;
      fits = rows_fit bits (k.make bytes l u) (subst (AllByRecursion (RowFits bits)) (sym e) (taken_fits bits (rows v0) bytes l u n.long_short n.utf8_short off));
      typed = subst (AllByRecursion (λ r. IsTyped r.1)) (sym e) (taken_typed bits (rows v0) bytes l u b);
    }

pub made_asked : {kind bits : ℕ} (k : Kind kind bits) (bytes l u : List ℕ) → asked bits (k.make bytes l u) ≡ filled (template k) bytes l u
made_asked {kind} {bits} k bytes l u =
    ap (asked_of bits) (k.made (k.make [] [] []) bytes l u (k.make_kind [] [] [])) ∙ asked_taken bits (rows (k.make [] [] [])) bytes l u

-- ---- fronts of the parts

pub fixed_take : (count : ℕ) (p : ℕ) (fs : List Field) (ns : List (List ℕ)) (f : Field → List ℕ) → count ≤ length fs → take count (map f fs ++ ns) ≡ map f (take count fs)
fixed_take count p fs ns f le =
    let len : count ≤ length (map f fs) = omega (arith, length-map fs f) in
    take-append-le count (map f fs) ns len ∙ take-map f count fs

pub names_take : (n count : ℕ) (fs : List Field) (ns : List (List ℕ)) (f : Field → List ℕ) → length fs ≡ n → concat (take (n + count) (map f fs ++ ns)) ≡ concat (map f fs) ++ concat (take count ns)
names_take n count fs ns f e =
    let len : n ≡ length (map f fs) = omega (arith, length-map fs f) in
    ap (λ (m : ℕ). concat (take (m + count) (map f fs ++ ns))) len ∙ ap concat (take-append-add (map f fs) ns count) ∙ concat-append (map f fs) (take count ns)

-- ---- what stands so is passed

small_gap : (name : Option (List ℕ)) → OptFits (λ l. length l < 256) name → gap name < 300
small_gap None h = omega arith
small_gap (Some name) h = let lt : length name < 256 = h in omega arith

pub fixed_passes : {kind bits : ℕ} (k : Kind kind bits) (fs : List Field) (bytes r : List ℕ) (count : ℕ) → Asks (first k) (shapes k) fs
    → bytes ≡ concat (take count (map (fixed_at (first k) (first k + gap (long_in fs))) fs)) ++ r → Passes (first k) (take count (shapes k)) (start bytes) r
fixed_passes k fs bytes r count h e =
    let lt = k.small in
    let small = small_gap (long_in fs) (long_countable fs h.countable) in
    let p = walk_passes (first k) (first k + gap (long_in fs)) count fs (start bytes) r (omega arith) (omega arith) h.typed (valid_formed (first k) fs h.formed h.countable) e in
    subst (λ (ss : List Shape). Passes (first k) (take count ss) (start bytes) r) h.shapes_are p

pub length_shapes : {kind bits : ℕ} (k : Kind kind bits) (fs : List Field) → Asks (first k) (shapes k) fs → length fs ≡ length (shapes k)
length_shapes k fs h = sym (length-map fs shape_of) ∙ ap (length {A = Shape}) h.shapes_are

-- the first parts of a block stand in the bytes
pub begins_fixed : {kind bits : ℕ} (k : Kind kind bits) (fs : List Field) (bytes r : List ℕ) (count : ℕ) → Asks (first k) (shapes k) fs → count ≤ length (shapes k)
    → bytes ≡ concat (take count (parts fs)) ++ r → Passes (first k) (take count (shapes k)) (start bytes) r
begins_fixed k fs bytes r count h le e =
    let f : Field → List ℕ = fixed_at (first k) (first k + gap (long_in fs)) in
    let size = length_shapes k fs h in
    let cut : take count (parts fs) ≡ take count (map f fs) =
    ap (take count) h.parts_are ∙ fixed_take count 0 fs (names_of (long_in fs) (utf8_in fs)) f (omega arith) ∙ sym (take-map f count fs) in
    fixed_passes k fs bytes r count h (e ∙ ap (λ (p : List (List ℕ)). concat p ++ r) cut)

-- ---- the walk behind the fixed part

pub record Behind {kind bits : ℕ} (k : Kind kind bits) (fs : List Field) (bytes r : List ℕ) : Type 0 where
  pub walk_is : walk (first k) (shapes k) (start bytes) ≡ Ok (passed (shapes k) (start bytes))
  pub rest_is : (passed (shapes k) (start bytes)).rest ≡ r
  pub fit : NamesFit (passed (shapes k) (start bytes)) (long_in fs) (utf8_in fs)

pub first_place : {kind bits : ℕ} (k : Kind kind bits) (bytes : List ℕ) → (passed (shapes k) (start bytes)).place ≡ first k
first_place {kind} {bits} k bytes =
    let v0 : Values = k.make [] [] [] in
    let a = passed_place (shapes k) (start bytes) in
    let b = sizes_are (asked_of bits (rows v0)) in
    let c = asked_size_is bits (rows v0) ∙ refl in
    let d = ap (asked_size bits) (k.slots_of v0 (k.make_kind [] [] [])) in
    omega arith

pub leads_none : (place count : ℕ) → leads_to place count None ≡ true
unfolding leads_to
leads_none place count = refl

pub leads_some : (place count q : ℕ) → place + (1 + count + (1 + count) % 2) ≡ q → leads_to place count (Some q) ≡ true
unfolding leads_to
leads_some place count q e = eq-eqb (place + (1 + count + (1 + count) % 2)) q e

pub leads_from : (place count q : ℕ) → leads_to place count (Some q) ≡ true → place + (1 + count + (1 + count) % 2) ≡ q
unfolding leads_to
leads_from place count q e = eqb-true (place + (1 + count + (1 + count) % 2)) q e

pub cond_is : (b : Bool) → cond b true false ≡ b
cond_is true = refl
cond_is false = refl

pub claim_is : (q : ℕ) (o : Option (List ℕ)) → is_some (claim q o None) ≡ is_some o
claim_is q None = refl
claim_is q (Some name) = refl

long_leads : (place q : ℕ) (long utf8 : Option (List ℕ)) (next : Option ℕ) → q ≡ place + gap long → next ≡ claim q utf8 None → OptFits (λ l. length l < 256) long
    → OptFits (LongFits next place) long
long_leads place q None utf8 next e n h = tt
long_leads place q (Some name) None next e n h = record { short = h; leads = ap (leads_to place (length name)) n ∙ leads_none place (length name) }
long_leads place q (Some name) (Some other) next e n h = record { short = h; leads = ap (leads_to place (length name)) n ∙ leads_some place (length name) q (sym e) }

pub names_fit : {kind bits : ℕ} (k : Kind kind bits) (fs : List Field) (bytes r : List ℕ) → Asks (first k) (shapes k) fs
    → bytes ≡ concat (map (fixed_at (first k) (first k + gap (long_in fs))) fs) ++ r → NamesFit (passed (shapes k) (start bytes)) (long_in fs) (utf8_in fs)
names_fit k fs bytes r h e =
    let q : ℕ = first k + gap (long_in fs) in
    let y : Walk = passed (shapes k) (start bytes) in
    let z : Walk = passed (map shape_of fs) (start bytes) in
    let same : z ≡ y = ap (λ (ss : List Shape). passed ss (start bytes)) h.shapes_are in
    let lt = k.small in
    let small = small_gap (long_in fs) (long_countable fs h.countable) in
    let claimed = claimed_front (first k) q fs bytes r (omega arith) h.typed e in
    let next : y.utf8_name ≡ claim q (utf8_in fs) None = sym (ap (λ (v : Walk). v.utf8_name) same) ∙ passed_utf8 fs (start bytes) q claimed in
    let long : y.long_name ≡ is_some (long_in fs) = sym (ap (λ (v : Walk). v.long_name) same) ∙ passed_long fs (start bytes) ∙ cond_is (is_some (long_in fs)) in
    let place = first_place k bytes in
    record {
      long_is = sym long;
      utf8_is = sym (ap (λ (o : Option ℕ). is_some o) next ∙ claim_is q (utf8_in fs));
      long_fits = long_leads y.place q (long_in fs) (utf8_in fs) y.utf8_name (ap (λ (n : ℕ). n + gap (long_in fs)) (sym place)) next (long_countable fs h.countable);
      utf8_fits = utf8_countable fs h.countable;
    }

pub begins_names : {kind bits : ℕ} (k : Kind kind bits) (fs : List Field) (bytes r : List ℕ) (count : ℕ) → Asks (first k) (shapes k) fs
    → bytes ≡ concat (take (length (shapes k) + count) (parts fs)) ++ r → Behind k fs bytes (concat (take count (names_of (long_in fs) (utf8_in fs))) ++ r)
begins_names k fs bytes r count h e =
    let f : Field → List ℕ = fixed_at (first k) (first k + gap (long_in fs)) in
    let ns : List (List ℕ) = names_of (long_in fs) (utf8_in fs) in
    let n : ℕ = length (shapes k) in
    let size = length_shapes k fs h in
    let front : bytes ≡ concat (map f fs) ++ (concat (take count ns) ++ r) =
    e ∙ ap (λ (p : List (List ℕ)). concat (take (n + count) p) ++ r) h.parts_are ∙ ap (λ (x : List ℕ). x ++ r) (names_take n count fs ns f size) ∙ append_assoc (concat (map f fs)) (concat (take count ns)) r in
    let whole : take n (map f fs) ≡ map f fs = take_all n (map f fs) (omega (arith, length-map fs f)) in
    let p = fixed_passes k fs bytes (concat (take count ns) ++ r) n h (front ∙ ap (λ (x : List (List ℕ)). concat x ++ (concat (take count ns) ++ r)) (sym whole)) in
    let all : take n (shapes k) ≡ shapes k = take_all n (shapes k) (omega arith) in
    record {
      walk_is = subst (λ (ss : List Shape). walk (first k) ss (start bytes) ≡ Ok (passed ss (start bytes))) all p.passes;
      rest_is = subst (λ (ss : List Shape). (passed ss (start bytes)).rest ≡ concat (take count ns) ++ r) all p.rest_is;
      fit = names_fit k fs bytes (concat (take count ns) ++ r) h front;
    }
