-- The walk over the fixed part: what it passes stands so, and what stands so it passes.
use Rattle.std.proofs.Common.{◌≡◌, ℕ, zero, suc, ◌+◌, ◌^◌, ◌<◌, ◌≤◌, Bool, true, false, cond, leb, eqb, ◌&&◌, List, [], ◌∷◌, ◌++◌, length, take, drop, map, replicate, Some, Result, Ok, Err, refl, sym, ap, subst, ◌∙◌, arith, w32, ◌⊎◌, inl, inr}
use Rattle.std.specs.List.{concat, AllByRecursion}
use Rattle.std.specs.Int.{cast_signed, cast_unsigned}
use Rattle.std.proofs.lemmas.Bool.{cases_Bool, and_parts, and_from, le-leb, leb-true, eq-eqb, eqb-true}
use Rattle.std.proofs.Math.Seq.{take-add}
use Rattle.std.proofs.lemmas.Int.{of_z-to_z}
use Rattle.std.proofs.lemmas.List.{drop_at, take-append-drop, drop-drop, length-take-le, length-append, length-drop, append_assoc}
use Rattle.byteorder.specs.Endian.{big_number, big_bytes}
use Rattle.afp_bitmap.specs.declared.table.Shape.{Shape}
use Rattle.afp_bitmap.specs.declared.table.Shape.TheVariants as shapes
use Rattle.afp_bitmap.specs.Bits.{is_asked}
use Rattle.afp_bitmap.specs.Field.{Field, Number, Date, Finder, LongName, Utf8Name, fixed_size, IsTyped}
use Rattle.afp_bitmap.specs.Params.{asked_of}
use Rattle.afp_bitmap.specs.lemma.Reading.{◌>>=◌, Walk, may_stand, stands, behind_field, step, walked, size_of, finder_of}
use Rattle.afp_bitmap.specs.Table.{FieldRow}
use Rattle.afp_bitmap.proofs.Asked.{shape_of, slot_of, size_of-shape, asked_none, asked_yes, asked_no}
use Rattle.afp_bitmap.proofs.Filled.{cut, past, cut_whole, past_whole, refill, filled, fixed_length, finder_again}
use Rattle.afp_bitmap.proofs.Formed.{by_name}
use Rattle.afp_base.specs.Bytes.{IsBytes}
use Rattle.afp_base.proofs.Numbers.{number_front, IsBytes-take, IsBytes-drop, big_number-lt, bytes_again, number_again, length-big_bytes}
use Rattle.afp_bitmap.proofs.Parts.{fixed_at}
use Rattle.afp_bitmap.proofs.Walks.{walked_none, walked_more}

-- ---- one field

plain_stands : (first n : ℕ) (w : Walk) → n ≤ length w.rest → stands first (shapes.Plain n) w ≡ true
unfolding stands
plain_stands first n w h = le-leb n (length w.rest) h

plain_is : (first n : ℕ) (w : Walk) → stands first (shapes.Plain n) w ≡ true → n ≤ length w.rest
unfolding stands
plain_is first n w h = leb-true n (length w.rest) h

long_stands : (first : ℕ) (w : Walk) → 2 ≤ length w.rest → big_number 2 w.rest ≡ first → stands first shapes.LongName w ≡ true
unfolding stands
long_stands first w len e = and_from (leb 2 (length w.rest)) (eqb (big_number 2 w.rest) first) (le-leb 2 (length w.rest) len) (eq-eqb (big_number 2 w.rest) first e)

record LongStands (first : ℕ) (w : Walk) : Type 0 where
  len : 2 ≤ length w.rest
  place : big_number 2 w.rest ≡ first

long_is : (first : ℕ) (w : Walk) → stands first shapes.LongName w ≡ true → LongStands first w
unfolding stands
long_is first w h =
    let p = and_parts (leb 2 (length w.rest)) (eqb (big_number 2 w.rest) first) h in
    record { len = leb-true 2 (length w.rest) p.0; place = eqb-true (big_number 2 w.rest) first p.1 }

pub record Utf8Stands (first : ℕ) (w : Walk) : Type 0 where
  pub len : 6 ≤ length w.rest
  pub may : may_stand first w.long_name (big_number 2 w.rest) ≡ true
  pub zeros : big_number 4 (drop 2 w.rest) ≡ 0

utf8_stands : (first : ℕ) (w : Walk) → Utf8Stands first w → stands first shapes.Utf8Name w ≡ true
unfolding stands
utf8_stands first w h =
    and_from (leb 6 (length w.rest) && may_stand first w.long_name (big_number 2 w.rest)) (eqb (big_number 4 (drop 2 w.rest)) 0)
    (and_from (leb 6 (length w.rest)) (may_stand first w.long_name (big_number 2 w.rest)) (le-leb 6 (length w.rest) h.len) h.may)
    (eq-eqb (big_number 4 (drop 2 w.rest)) 0 h.zeros)

pub utf8_is : (first : ℕ) (w : Walk) → stands first shapes.Utf8Name w ≡ true → Utf8Stands first w
unfolding stands
utf8_is first w h =
    let p = and_parts (leb 6 (length w.rest) && may_stand first w.long_name (big_number 2 w.rest)) (eqb (big_number 4 (drop 2 w.rest)) 0) h in
    let q = and_parts (leb 6 (length w.rest)) (may_stand first w.long_name (big_number 2 w.rest)) p.0 in
    record { len = leb-true 6 (length w.rest) q.0; may = q.1; zeros = eqb-true (big_number 4 (drop 2 w.rest)) 0 p.1 }

pub behind_rest : (s : Shape) (w : Walk) → (behind_field s w).rest ≡ drop (size_of s) w.rest
unfolding behind_field
behind_rest (shapes.Plain n) w = refl
behind_rest shapes.LongName w = refl
behind_rest shapes.Utf8Name w = refl

pub behind_place : (s : Shape) (w : Walk) → (behind_field s w).place ≡ w.place + size_of s
unfolding behind_field
behind_place (shapes.Plain n) w = refl
behind_place shapes.LongName w = refl
behind_place shapes.Utf8Name w = refl

pub plain_keeps_long : (n : ℕ) (w : Walk) → (behind_field (shapes.Plain n) w).long_name ≡ w.long_name
unfolding behind_field
plain_keeps_long n w = refl

pub plain_keeps_utf8 : (n : ℕ) (w : Walk) → (behind_field (shapes.Plain n) w).utf8_name ≡ w.utf8_name
unfolding behind_field
plain_keeps_utf8 n w = refl

pub long_sets_long : (w : Walk) → (behind_field shapes.LongName w).long_name ≡ true
unfolding behind_field
long_sets_long w = refl

pub long_keeps_utf8 : (w : Walk) → (behind_field shapes.LongName w).utf8_name ≡ w.utf8_name
unfolding behind_field
long_keeps_utf8 w = refl

pub utf8_keeps_long : (w : Walk) → (behind_field shapes.Utf8Name w).long_name ≡ w.long_name
unfolding behind_field
utf8_keeps_long w = refl

pub utf8_sets_utf8 : (w : Walk) → (behind_field shapes.Utf8Name w).utf8_name ≡ Some (big_number 2 w.rest)
unfolding behind_field
utf8_sets_utf8 w = refl

-- ---- the walk without bits

abbrev pub walk : ℕ → List Shape → Walk → Result Walk ℕ
walk first [] w = Ok w
walk first (s ∷ ss) w = cond (stands first s w) (walk first ss (behind_field s w)) (Err w.place)

on_step : (bits first : ℕ) (r : FieldRow) (w : Walk) (f : Walk → Result Walk ℕ) → is_asked bits r.0 ≡ true
    → (step bits first (slot_of r) w >>= f) ≡ cond (stands first (shape_of r.1) w) (f (behind_field (shape_of r.1) w)) (Err w.place)
unfolding step
on_step bits first r w f on =
    rw on (elim (cases_Bool (stands first (shape_of r.1) w)) [ inl yes' ↦ rw yes' refl | inr no' ↦ rw no' refl ])

off_step : (bits first : ℕ) (r : FieldRow) (w : Walk) (f : Walk → Result Walk ℕ) → is_asked bits r.0 ≡ false → (step bits first (slot_of r) w >>= f) ≡ f w
unfolding step
off_step bits first r w f off = rw off refl

same_cond : (b : Bool) (x y z : Result Walk ℕ) → x ≡ y → cond b x z ≡ cond b y z
same_cond b x y z e = ap (λ (r : Result Walk ℕ). cond b r z) e

pub walked_is : (bits first : ℕ) (rs : List FieldRow) (w : Walk) → walked bits first (map slot_of rs) w ≡ walk first (map shape_of (asked_of bits rs)) w
walked_is bits first [] w = walked_none bits first w ∙ rw (asked_none bits) refl
walked_is bits first (r ∷ rs) w =
    walked_more bits first (slot_of r) (map slot_of rs) w
    ∙ elim (cases_Bool (is_asked bits r.0)) [
      | inl on ↦
          on_step bits first r w (λ x. walked bits first (map slot_of rs) x) on
          ∙ rw (asked_yes bits r rs on)
          (same_cond (stands first (shape_of r.1) w) _ _ (Err w.place) (walked_is bits first rs (behind_field (shape_of r.1) w)))
      | inr off ↦
          off_step bits first r w (λ x. walked bits first (map slot_of rs) x) off
          ∙ rw (asked_no bits r rs off) (walked_is bits first rs w)
    ]

-- where the walk is behind these fields
abbrev pub passed : List Shape → Walk → Walk
passed [] w = w
passed (s ∷ ss) w = passed ss (behind_field s w)

chosen : {A : Type 0} (b : Bool) (x y z : A) → cond b x y ≡ z → ((b ≡ true) × (x ≡ z)) ⊎ ((b ≡ false) × (y ≡ z))
chosen true x y z e = inl (refl, e)
chosen false x y z e = inr (refl, e)

pub record Step (first : ℕ) (s : Shape) (ss : List Shape) (w y : Walk) : Type 0 where
  pub stands_so : stands first s w ≡ true
  pub then : walk first ss (behind_field s w) ≡ Ok y

pub walk_step : (first : ℕ) (s : Shape) (ss : List Shape) (w y : Walk) → walk first (s ∷ ss) w ≡ Ok y → Step first s ss w y
walk_step first s ss w y e =
    elim (chosen (stands first s w) (walk first ss (behind_field s w)) (Err w.place) (Ok y) e) [
      | inl h ↦ record { stands_so = h.0; then = h.1 }
      | inr h ↦ absurd cc
    ]

pub walk_passed : (first : ℕ) (ss : List Shape) (w y : Walk) → walk first ss w ≡ Ok y → y ≡ passed ss w
walk_passed first [] w y e = cc
walk_passed first (s ∷ ss) w y e = walk_passed first ss (behind_field s w) y (walk_step first s ss w y e).then

abbrev pub sizes : List Shape → ℕ
sizes [] = 0
sizes (s ∷ ss) = size_of s + sizes ss

pub passed_place : (ss : List Shape) (w : Walk) → (passed ss w).place ≡ w.place + sizes ss
passed_place [] w = omega arith
passed_place (s ∷ ss) w = let a = passed_place ss (behind_field s w) in let b = behind_place s w in omega arith

pub passed_rest : (ss : List Shape) (w : Walk) → (passed ss w).rest ≡ drop (sizes ss) w.rest
passed_rest [] w = refl
passed_rest (s ∷ ss) w = passed_rest ss (behind_field s w) ∙ ap (drop (sizes ss)) (behind_rest s w) ∙ drop-drop (sizes ss) (size_of s) w.rest

-- the first fault
pub record Faults (first : ℕ) (ss : List Shape) (w : Walk) (at : ℕ) : Type 0 where
  pub count : ℕ
  pub less : count < length ss
  pub before : walk first (take count ss) w ≡ Ok (passed (take count ss) w)
  pub here : walk first (take (suc count) ss) w ≡ Err at
  pub at_is : at ≡ (passed (take count ss) w).place

walk_more : (first : ℕ) (s : Shape) (ss : List Shape) (w : Walk) → stands first s w ≡ true → walk first (s ∷ ss) w ≡ walk first ss (behind_field s w)
walk_more first s ss w h = rw h refl

walk_stops : (first : ℕ) (s : Shape) (ss : List Shape) (w : Walk) → stands first s w ≡ false → walk first (s ∷ ss) w ≡ Err w.place
walk_stops first s ss w h = rw h refl

pub walk_faults : (first : ℕ) (ss : List Shape) (w : Walk) (at : ℕ) → walk first ss w ≡ Err at → Faults first ss w at
walk_faults first [] w at e = absurd cc
walk_faults first (s ∷ ss) w at e =
    elim (chosen (stands first s w) (walk first ss (behind_field s w)) (Err w.place) (Err at) e) [
      | inl h ↦
          let f = walk_faults first ss (behind_field s w) at h.1 in
          record {
            count = suc f.count;
            less = (let lt = f.less in omega arith);
            before = walk_more first s (take f.count ss) w h.0 ∙ f.before;
            here = walk_more first s (take (suc f.count) ss) w h.0 ∙ f.here;
            at_is = f.at_is;
          }
      | inr h ↦ record { count = 0; less = omega arith; before = refl; here = walk_stops first s [] w h.0 ∙ h.1; at_is = cc }
    ]

-- ---- what the walk passes stands so

-- the UTF-8 names of these fields are to stand at q
abbrev pub Claimed : List Field → List ℕ → ℕ → Type 0
Claimed [] rest q = Unit {0}
Claimed (f ∷ fs) rest q = by_name f (Unit {0}) (Unit {0}) (big_number 2 rest ≡ q) × Claimed fs (drop (fixed_size f) rest) q

pub front_is : (n : ℕ) (rest : List ℕ) → n ≤ length rest → IsBytes rest → big_bytes n (big_number n rest) ≡ take n rest
front_is n rest len h =
    ap (big_bytes n) (sym (number_front n rest)) ∙ bytes_again n (take n rest) (length-take-le n rest len) (IsBytes-take n rest h)

pub zeros_are : (rest : List ℕ) → 4 ≤ length rest → IsBytes rest → big_number 4 rest ≡ 0 → replicate 4 0 ≡ take 4 rest
zeros_are rest len h e = ap (big_bytes 4) (sym e) ∙ front_is 4 rest len h

-- the bytes of one field
field_front : (first q : ℕ) (f : Field) (w : Walk) (l u : List ℕ) → stands first (shape_of f) w ≡ true → IsBytes w.rest
    → by_name f (Unit {0}) (Unit {0}) (big_number 2 w.rest ≡ q) → (fixed_size f ≤ length w.rest) × (fixed_at first q (refill f (cut (fixed_size f) w.rest) l u) ≡ take (fixed_size f) w.rest)
field_front first q (Number n x) w l u h b c =
    let len = plain_is first n w h in
    (len, ap (λ (p : List ℕ). big_bytes n (big_number n p)) (cut_whole n w.rest len) ∙ bytes_again n (take n w.rest) (length-take-le n w.rest len) (IsBytes-take n w.rest b))
field_front first q (Date z) w l u h b c =
    let len = plain_is first 4 w h in
    let p : List ℕ = take 4 w.rest in
    let small : big_number 4 p < 2 ^ 32 = (let lt : big_number 4 p < 256 ^ 4 = big_number-lt 4 p (IsBytes-take 4 w.rest b) in omega arith) in (
      len,
      ap (λ (p : List ℕ). big_bytes 4 (cast_unsigned w32 (cast_signed w32 (big_number 4 p)))) (cut_whole 4 w.rest len)
          ∙ ap (big_bytes 4) (of_z-to_z w32 (big_number 4 p) small)
          ∙ bytes_again 4 p (length-take-le 4 w.rest len) (IsBytes-take 4 w.rest b),
    )
field_front first q (Finder info) w l u h b c =
    let len = plain_is first 32 w h in
    (len, ap finder_of (cut_whole 32 w.rest len) ∙ finder_again (take 32 w.rest) (length-take-le 32 w.rest len))
field_front first q (LongName name) w l u h b c =
    let s = long_is first w h in
    (s.len, ap (big_bytes 2) (sym s.place) ∙ front_is 2 w.rest s.len b)
field_front first q (Utf8Name name) w l u h b c =
    let s = utf8_is first w h in
    let len = s.len in
    let four : 4 ≤ length (drop 2 w.rest) = omega (arith, length-drop 2 w.rest) in
    let parts : big_bytes 2 q ++ replicate 4 0 ≡ take 2 w.rest ++ take 4 (drop 2 w.rest) =
    ap (λ (n : ℕ). big_bytes 2 n ++ replicate 4 0) (sym c)
    ∙ ap (λ (p : List ℕ). p ++ replicate 4 0) (front_is 2 w.rest (omega arith) b)
    ∙ ap (λ (p : List ℕ). take 2 w.rest ++ p) (zeros_are (drop 2 w.rest) four (IsBytes-drop 2 w.rest b) s.zeros) in
    (len, parts ∙ sym (take-add 2 4 w.rest))

pub walk_front : (first q : ℕ) (fs : List Field) (w y : Walk) (l u : List ℕ) → walk first (map shape_of fs) w ≡ Ok y → IsBytes w.rest → Claimed fs w.rest q
    → w.rest ≡ concat (map (fixed_at first q) (filled fs w.rest l u)) ++ y.rest
walk_front first q [] w y l u e b c = cc
walk_front first q (f ∷ fs) w y l u e b c =
    let s = walk_step first (shape_of f) (map shape_of fs) w y e in
    let here = field_front first q f w l u s.stands_so b c.0 in
    let next : (behind_field (shape_of f) w).rest ≡ drop (fixed_size f) w.rest = behind_rest (shape_of f) w ∙ ap (λ (n : ℕ). drop n w.rest) (size_of-shape f) in
    let p : List ℕ = past (fixed_size f) w.rest in
    let past_is : p ≡ drop (fixed_size f) w.rest = past_whole (fixed_size f) w.rest here.0 in
    let bytes : IsBytes (behind_field (shape_of f) w).rest = rw next (IsBytes-drop (fixed_size f) w.rest b) in
    let claimed : Claimed fs (behind_field (shape_of f) w).rest q = subst (λ (r : List ℕ). Claimed fs r q) (sym next) c.1 in
    let rest = walk_front first q fs (behind_field (shape_of f) w) y l u s.then bytes claimed in
    let there : drop (fixed_size f) w.rest ≡ concat (map (fixed_at first q) (filled fs p l u)) ++ y.rest =
    sym next ∙ rest ∙ ap (λ (r : List ℕ). concat (map (fixed_at first q) (filled fs r l u)) ++ y.rest) (next ∙ sym past_is) in
    sym (take-append-drop (fixed_size f) w.rest)
    ∙ ap (λ (x : List ℕ). take (fixed_size f) w.rest ++ x) there
    ∙ ap (λ (x : List ℕ). x ++ (concat (map (fixed_at first q) (filled fs p l u)) ++ y.rest)) (sym here.1)
    ∙ sym (append_assoc (fixed_at first q (refill f (cut (fixed_size f) w.rest) l u)) (concat (map (fixed_at first q) (filled fs p l u))) y.rest)

-- ---- what stands so the walk passes

-- a UTF-8 name of these fields may stand at q
abbrev pub Valid : ℕ → Bool → List Field → ℕ → Type 0
Valid first long [] q = Unit {0}
Valid first long (f ∷ fs) q = by_name f (Valid first long fs q) (Valid first true fs q) ((may_stand first long q ≡ true) × Valid first long fs q)

pub front_number : (n x : ℕ) (rest y : List ℕ) → rest ≡ big_bytes n x ++ y → x < 256 ^ n → big_number n rest ≡ x
front_number n x rest y e lt = ap (big_number n) e ∙ number_again n x y lt

-- one field
field_stands : (first q : ℕ) (f : Field) (fs : List Field) (w : Walk) (r : List ℕ) → first < 65536 → q < 65536 → IsTyped f → Valid first w.long_name (f ∷ fs) q
    → w.rest ≡ fixed_at first q f ++ r → stands first (shape_of f) w ≡ true
field_stands first q (Number n x) fs w r hf hq t v e =
    plain_stands first n w (omega (arith, ap (length {A = ℕ}) e, length-append (big_bytes n x) r, length-big_bytes n x))
field_stands first q (Date z) fs w r hf hq t v e =
    plain_stands first 4 w (omega (arith, ap (length {A = ℕ}) e, length-append (big_bytes 4 (cast_unsigned w32 z)) r, length-big_bytes 4 (cast_unsigned w32 z)))
field_stands first q (Finder info) fs w r hf hq t v e =
    plain_stands first 32 w (let len : length info ≡ 32 = t in omega (arith, ap (length {A = ℕ}) e, length-append info r))
field_stands first q (LongName name) fs w r hf hq t v e =
    long_stands first w (omega (arith, ap (length {A = ℕ}) e, length-append (big_bytes 2 first) r, length-big_bytes 2 first)) (front_number 2 first w.rest r e (omega arith))
field_stands first q (Utf8Name name) fs w r hf hq t v e =
    let front : w.rest ≡ big_bytes 2 q ++ (replicate 4 0 ++ r) = e ∙ append_assoc (big_bytes 2 q) (replicate 4 0) r in
    let number : big_number 2 w.rest ≡ q = front_number 2 q w.rest (replicate 4 0 ++ r) front (omega arith) in
    let behind_is : drop 2 w.rest ≡ replicate 4 0 ++ r = ap (drop 2) front ∙ drop_at (big_bytes 2 q) (replicate 4 0 ++ r) 2 (length-big_bytes 2 q) in
    utf8_stands first w (record {
      len = omega (arith, ap (length {A = ℕ}) front, length-append (big_bytes 2 q) (replicate 4 0 ++ r), length-big_bytes 2 q);
      may = ap (may_stand first w.long_name) number ∙ v.0;
      zeros = front_number 4 0 (drop 2 w.rest) r behind_is (omega arith);
    })

valid_next : (first q : ℕ) (f : Field) (fs : List Field) (w : Walk) → Valid first w.long_name (f ∷ fs) q → Valid first (behind_field (shape_of f) w).long_name fs q
valid_next first q (Number n x) fs w v = rw (plain_keeps_long n w) v
valid_next first q (Date z) fs w v = rw (plain_keeps_long 4 w) v
valid_next first q (Finder info) fs w v = rw (plain_keeps_long 32 w) v
valid_next first q (LongName name) fs w v = rw (long_sets_long w) v
valid_next first q (Utf8Name name) fs w v = rw (utf8_keeps_long w) v.1

pub record Passes (first : ℕ) (ss : List Shape) (w : Walk) (r : List ℕ) : Type 0 where
  pub passes : walk first ss w ≡ Ok (passed ss w)
  pub rest_is : (passed ss w).rest ≡ r

pub walk_passes : (first q k : ℕ) (fs : List Field) (w : Walk) (r : List ℕ) → first < 65536 → q < 65536 → AllByRecursion IsTyped fs → Valid first w.long_name fs q
    → w.rest ≡ concat (take k (map (fixed_at first q) fs)) ++ r → Passes first (take k (map shape_of fs)) w r
walk_passes first q zero fs w r hf hq t v e = record { passes = refl; rest_is = e }
walk_passes first q (suc k) [] w r hf hq t v e = record { passes = refl; rest_is = e }
walk_passes first q (suc k) (f ∷ fs) w r hf hq t v e =
    let x : List ℕ = concat (take k (map (fixed_at first q) fs)) ++ r in
    let front : w.rest ≡ fixed_at first q f ++ x = e ∙ append_assoc (fixed_at first q f) (concat (take k (map (fixed_at first q) fs))) r in
    let here = field_stands first q f fs w x hf hq t.0 v front in
    let next : (behind_field (shape_of f) w).rest ≡ x =
    behind_rest (shape_of f) w ∙ ap (λ (n : ℕ). drop n w.rest) (size_of-shape f) ∙ ap (drop (fixed_size f)) front
    ∙ drop_at (fixed_at first q f) x (fixed_size f) (fixed_length first q f t.0) in
    let rest = walk_passes first q k fs (behind_field (shape_of f) w) r hf hq t.1 (valid_next first q f fs w v) next in
    record { passes = walk_more first (shape_of f) (take k (map shape_of fs)) w here ∙ rest.passes; rest_is = rest.rest_is }
