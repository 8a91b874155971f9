-- Where the UTF-8 name is to stand: what the fixed part says of it, and what a long name makes of it.
use Rattle.std.proofs.Common.{◌≡◌, ℕ, zero, suc, ◌+◌, ◌-◌, ◌%◌, ◌<◌, ◌≤◌, Bool, true, false, cond, leb, eqb, ◌&&◌, List, [], ◌∷◌, ◌++◌, length, take, drop, map, replicate, Option, Some, None, is_some, Ok, refl, sym, ap, subst, ◌∙◌, arith}
use Rattle.std.specs.Prelude.{MatchOption}
use Rattle.std.specs.List.{concat, AllByRecursion}
use Rattle.std.proofs.lemmas.Bool.{and_parts, and_from, le-leb, leb-true, eq-eqb, eqb-true}
use Rattle.std.proofs.lemmas.List.{drop_at, append_assoc, length-replicate}
use Rattle.byteorder.specs.Endian.{big_number, big_bytes}
use Rattle.afp_bitmap.specs.declared.table.Shape.{Shape}
use Rattle.afp_bitmap.specs.declared.table.Shape.TheVariants as shapes
use Rattle.afp_bitmap.specs.Field.{Field, Number, Date, Finder, LongName, Utf8Name, fixed_size, IsCountable, IsTyped}
use Rattle.afp_bitmap.specs.lemma.Reading.{Walk, may_stand, behind_field}
use Rattle.afp_bitmap.proofs.Asked.{shape_of}
use Rattle.afp_bitmap.proofs.Filled.{fixed_length}
use Rattle.afp_bitmap.proofs.Fixed.{walk, passed, walk_step, walk_passed, Claimed, Valid, behind_rest, plain_keeps_long, plain_keeps_utf8, long_sets_long, long_keeps_utf8, utf8_keeps_long, utf8_sets_utf8, utf8_is, front_number}
use Rattle.afp_bitmap.proofs.Formed.{by_name, by_name_map, NoNames, Late, Formed}
use Rattle.afp_bitmap.proofs.Parts.{fixed_at, gap, long_in, utf8_in, no_names_long}

-- ---- where it may stand

may_long : (first : ℕ) (name : List ℕ) → length name < 256 → may_stand first true (first + gap (Some name)) ≡ true
unfolding may_stand
may_long first name h =
    let q : ℕ = first + gap (Some name) in
    let even : (q - first) % 2 ≡ 0 = omega arith in
    and_from (leb (first + 2) q && leb q (first + 256)) (eqb ((q - first) % 2) 0)
    (and_from (leb (first + 2) q) (leb q (first + 256)) (le-leb (first + 2) q (omega arith)) (le-leb q (first + 256) (omega arith)))
    (eq-eqb ((q - first) % 2) 0 even)

may_first : (first q : ℕ) → q ≡ first → may_stand first false q ≡ true
unfolding may_stand
may_first first q e = eq-eqb q first e

pub first_from_may : (first q : ℕ) → may_stand first false q ≡ true → q ≡ first
unfolding may_stand
first_from_may first q h = eqb-true q first h

record MayLong (first q : ℕ) : Type 0 where
  low : first + 2 ≤ q
  high : q ≤ first + 256
  even : (q - first) % 2 ≡ 0

may_parts : (first q : ℕ) → may_stand first true q ≡ true → MayLong first q
unfolding may_stand
may_parts first q h =
    let p = and_parts (leb (first + 2) q && leb q (first + 256)) (eqb ((q - first) % 2) 0) h in
    let r = and_parts (leb (first + 2) q) (leb q (first + 256)) p.0 in
    record { low = leb-true (first + 2) q r.0; high = leb-true q (first + 256) r.1; even = eqb-true ((q - first) % 2) 0 p.1 }

-- a long name, where there is one
abbrev pub if_long : Bool → List ℕ → Option (List ℕ)
if_long true name = Some name
if_long false name = None

pub record Filler (first : ℕ) (long : Bool) (q : ℕ) : Type 0 where
  pub name : List ℕ
  pub short : length name < 256
  pub leads : first + gap (if_long long name) ≡ q

filled_by : (first q : ℕ) (name : List ℕ) → MayLong first q → length name + first + 1 ≡ q → Filler first true q
filled_by first q name m e =
    let low = m.low in
    let high = m.high in
    let even = m.even in
    record { name = name; short = omega arith; leads = omega arith }

-- some long name leads to each place where the UTF-8 name may stand
pub filler : (first : ℕ) (long : Bool) (q : ℕ) → may_stand first long q ≡ true → Filler first long q
filler first true q h =
    let m = may_parts first q h in
    let low = m.low in
    let n : ℕ = q - first - 1 in
    let name : List ℕ = replicate n 0 in
    let len : length name ≡ n = length-replicate {A = ℕ} n 0 in
    filled_by first q name m (omega arith)
filler first false q h =
    let e = first_from_may first q h in
    record { name = []; short = omega arith; leads = omega arith }

-- ---- what is valid for the fields

valid_no_names : (first q : ℕ) (b : Bool) (fs : List Field) → NoNames fs → Valid first b fs q
valid_no_names first q b [] h = tt
valid_no_names first q b (Number n x ∷ fs) h = valid_no_names first q b fs h
valid_no_names first q b (Date z ∷ fs) h = valid_no_names first q b fs h
valid_no_names first q b (Finder info ∷ fs) h = valid_no_names first q b fs h
valid_no_names first q b (LongName name ∷ fs) h = absurd h
valid_no_names first q b (Utf8Name name ∷ fs) h = absurd h

valid_late : (first q : ℕ) (b : Bool) (fs : List Field) → Late fs → may_stand first b q ≡ true → Valid first b fs q
valid_late first q b [] h m = tt
valid_late first q b (Number n x ∷ fs) h m = valid_late first q b fs h m
valid_late first q b (Date z ∷ fs) h m = valid_late first q b fs h m
valid_late first q b (Finder info ∷ fs) h m = valid_late first q b fs h m
valid_late first q b (LongName name ∷ fs) h m = absurd h
valid_late first q b (Utf8Name name ∷ fs) h m = (m, valid_no_names first q b fs h)

pub valid_formed : (first : ℕ) (fs : List Field) → Formed fs → AllByRecursion IsCountable fs → Valid first false fs (first + gap (long_in fs))
valid_formed first [] h k = tt
valid_formed first (Number n x ∷ fs) h k = valid_formed first fs h k.1
valid_formed first (Date z ∷ fs) h k = valid_formed first fs h k.1
valid_formed first (Finder info ∷ fs) h k = valid_formed first fs h k.1
valid_formed first (LongName name ∷ fs) h k = valid_late first (first + gap (Some name)) true fs h (may_long first name k.0)
valid_formed first (Utf8Name name ∷ fs) h k =
    let none = no_names_long fs h in
    (may_first first (first + gap (long_in fs)) (rw none (omega arith)), valid_no_names first (first + gap (long_in fs)) false fs h)

-- ---- what the walk says of it

-- a place that was read may be that of the UTF-8 name
abbrev pub Fine : ℕ → Bool → Option ℕ → Type 0
Fine first b o = MatchOption o (Unit {0}) (λ q. may_stand first b q ≡ true)

fine_none : (first : ℕ) (b : Bool) (o : Option ℕ) → o ≡ None → Fine first b o
fine_none first b o e = rw e tt

fine_some : (first q : ℕ) (b : Bool) (o : Option ℕ) → o ≡ Some q → may_stand first b q ≡ true → Fine first b o
fine_some first q b o e h = rw e h

passed_no_names : (fs : List Field) (k : ℕ) (w : Walk) → NoNames fs → (passed (take k (map shape_of fs)) w).utf8_name ≡ w.utf8_name
passed_no_names fs zero w h = refl
passed_no_names [] (suc k) w h = refl
passed_no_names (Number n x ∷ fs) (suc k) w h = passed_no_names fs k (behind_field (shapes.Plain n) w) h ∙ plain_keeps_utf8 n w
passed_no_names (Date z ∷ fs) (suc k) w h = passed_no_names fs k (behind_field (shapes.Plain 4) w) h ∙ plain_keeps_utf8 4 w
passed_no_names (Finder info ∷ fs) (suc k) w h = passed_no_names fs k (behind_field (shapes.Plain 32) w) h ∙ plain_keeps_utf8 32 w
passed_no_names (LongName name ∷ fs) (suc k) w h = absurd h
passed_no_names (Utf8Name name ∷ fs) (suc k) w h = absurd h

fine_late : (first : ℕ) (b : Bool) (fs : List Field) (k : ℕ) (w y : Walk) → Late fs → walk first (take k (map shape_of fs)) w ≡ Ok y → w.long_name ≡ b → w.utf8_name ≡ None
    → Fine first b y.utf8_name
fine_late first b fs zero w y h e l u = let same : y ≡ w = cc in fine_none first b y.utf8_name (ap (λ (z : Walk). z.utf8_name) same ∙ u)
fine_late first b [] (suc k) w y h e l u = let same : y ≡ w = cc in fine_none first b y.utf8_name (ap (λ (z : Walk). z.utf8_name) same ∙ u)
fine_late first b (Number n x ∷ fs) (suc k) w y h e l u =
    fine_late first b fs k (behind_field (shapes.Plain n) w) y h (walk_step first (shapes.Plain n) (take k (map shape_of fs)) w y e).then (plain_keeps_long n w ∙ l) (plain_keeps_utf8 n w ∙ u)
fine_late first b (Date z ∷ fs) (suc k) w y h e l u =
    fine_late first b fs k (behind_field (shapes.Plain 4) w) y h (walk_step first (shapes.Plain 4) (take k (map shape_of fs)) w y e).then (plain_keeps_long 4 w ∙ l) (plain_keeps_utf8 4 w ∙ u)
fine_late first b (Finder info ∷ fs) (suc k) w y h e l u =
    fine_late first b fs k (behind_field (shapes.Plain 32) w) y h (walk_step first (shapes.Plain 32) (take k (map shape_of fs)) w y e).then (plain_keeps_long 32 w ∙ l) (plain_keeps_utf8 32 w ∙ u)
fine_late first b (LongName name ∷ fs) (suc k) w y h e l u = absurd h
fine_late first b (Utf8Name name ∷ fs) (suc k) w y h e l u =
    let s = walk_step first shapes.Utf8Name (take k (map shape_of fs)) w y e in
    let may = (utf8_is first w s.stands_so).may in
    let same : y ≡ passed (take k (map shape_of fs)) (behind_field shapes.Utf8Name w) = walk_passed first (take k (map shape_of fs)) (behind_field shapes.Utf8Name w) y s.then in
    fine_some first (big_number 2 w.rest) b y.utf8_name
    (ap (λ (z : Walk). z.utf8_name) same ∙ passed_no_names fs k (behind_field shapes.Utf8Name w) h ∙ utf8_sets_utf8 w)
    (ap (λ (c : Bool). may_stand first c (big_number 2 w.rest)) (sym l) ∙ may)

pub fine_formed : (first : ℕ) (fs : List Field) (k : ℕ) (w y : Walk) → Formed fs → walk first (take k (map shape_of fs)) w ≡ Ok y → w.long_name ≡ false → w.utf8_name ≡ None
    → Fine first (is_some (long_in fs)) y.utf8_name
fine_formed first fs zero w y h e l u = let same : y ≡ w = cc in fine_none first (is_some (long_in fs)) y.utf8_name (ap (λ (z : Walk). z.utf8_name) same ∙ u)
fine_formed first [] (suc k) w y h e l u = let same : y ≡ w = cc in fine_none first false y.utf8_name (ap (λ (z : Walk). z.utf8_name) same ∙ u)
fine_formed first (Number n x ∷ fs) (suc k) w y h e l u =
    fine_formed first fs k (behind_field (shapes.Plain n) w) y h (walk_step first (shapes.Plain n) (take k (map shape_of fs)) w y e).then (plain_keeps_long n w ∙ l) (plain_keeps_utf8 n w ∙ u)
fine_formed first (Date z ∷ fs) (suc k) w y h e l u =
    fine_formed first fs k (behind_field (shapes.Plain 4) w) y h (walk_step first (shapes.Plain 4) (take k (map shape_of fs)) w y e).then (plain_keeps_long 4 w ∙ l) (plain_keeps_utf8 4 w ∙ u)
fine_formed first (Finder info ∷ fs) (suc k) w y h e l u =
    fine_formed first fs k (behind_field (shapes.Plain 32) w) y h (walk_step first (shapes.Plain 32) (take k (map shape_of fs)) w y e).then (plain_keeps_long 32 w ∙ l) (plain_keeps_utf8 32 w ∙ u)
fine_formed first (LongName name ∷ fs) (suc k) w y h e l u =
    fine_late first true fs k (behind_field shapes.LongName w) y h (walk_step first shapes.LongName (take k (map shape_of fs)) w y e).then (long_sets_long w) (long_keeps_utf8 w ∙ u)
fine_formed first (Utf8Name name ∷ fs) (suc k) w y h e l u =
    let s = walk_step first shapes.Utf8Name (take k (map shape_of fs)) w y e in
    let may = (utf8_is first w s.stands_so).may in
    let same : y ≡ passed (take k (map shape_of fs)) (behind_field shapes.Utf8Name w) = walk_passed first (take k (map shape_of fs)) (behind_field shapes.Utf8Name w) y s.then in
    let none : is_some (long_in fs) ≡ false = ap (λ (o : Option (List ℕ)). is_some o) (no_names_long fs h) in
    fine_some first (big_number 2 w.rest) (is_some (long_in fs)) y.utf8_name
    (ap (λ (z : Walk). z.utf8_name) same ∙ passed_no_names fs k (behind_field shapes.Utf8Name w) h ∙ utf8_sets_utf8 w)
    (ap (λ (c : Bool). may_stand first c (big_number 2 w.rest)) (none ∙ sym l) ∙ may)

-- the place that was read, where one was, is q
abbrev pub ClaimIs : Option ℕ → ℕ → Type 0
ClaimIs o q = MatchOption o (Unit {0}) (λ x. x ≡ q)

claim_at : (o : Option ℕ) (x q : ℕ) → o ≡ Some x → ClaimIs o q → x ≡ q
claim_at o x q e h = let k : ClaimIs (Some x) q = subst (λ (p : Option ℕ). ClaimIs p q) e h in k

claimed_no_names : (fs : List Field) (rest : List ℕ) (q : ℕ) → NoNames fs → Claimed fs rest q
claimed_no_names [] rest q h = tt
claimed_no_names (Number n x ∷ fs) rest q h = (tt, claimed_no_names fs (drop n rest) q h)
claimed_no_names (Date z ∷ fs) rest q h = (tt, claimed_no_names fs (drop 4 rest) q h)
claimed_no_names (Finder info ∷ fs) rest q h = (tt, claimed_no_names fs (drop 32 rest) q h)
claimed_no_names (LongName name ∷ fs) rest q h = absurd h
claimed_no_names (Utf8Name name ∷ fs) rest q h = absurd h

moved : (fs : List Field) (s : Shape) (n : ℕ) (w : Walk) (q : ℕ) → (behind_field s w).rest ≡ drop n w.rest → Claimed fs (behind_field s w).rest q → Claimed fs (drop n w.rest) q
moved fs s n w q e h = subst (λ (r : List ℕ). Claimed fs r q) e h

no_names_take : (k : ℕ) (fs : List Field) → NoNames fs → NoNames (take k fs)
no_names_take zero fs h = tt
no_names_take (suc k) [] h = tt
no_names_take (suc k) (f ∷ fs) h = by_name_map f (no_names_take k fs) (λ x. x) (λ x. x) h

pub claimed_late : (fs : List Field) (k : ℕ) (w : Walk) (q : ℕ) → Late fs → ClaimIs (passed (take k (map shape_of fs)) w).utf8_name q → Claimed (take k fs) w.rest q
claimed_late fs zero w q h c = tt
claimed_late [] (suc k) w q h c = tt
claimed_late (Number n x ∷ fs) (suc k) w q h c = (tt, moved (take k fs) (shapes.Plain n) n w q (behind_rest (shapes.Plain n) w) (claimed_late fs k (behind_field (shapes.Plain n) w) q h c))
claimed_late (Date z ∷ fs) (suc k) w q h c = (tt, moved (take k fs) (shapes.Plain 4) 4 w q (behind_rest (shapes.Plain 4) w) (claimed_late fs k (behind_field (shapes.Plain 4) w) q h c))
claimed_late (Finder info ∷ fs) (suc k) w q h c = (tt, moved (take k fs) (shapes.Plain 32) 32 w q (behind_rest (shapes.Plain 32) w) (claimed_late fs k (behind_field (shapes.Plain 32) w) q h c))
claimed_late (LongName name ∷ fs) (suc k) w q h c = absurd h
claimed_late (Utf8Name name ∷ fs) (suc k) w q h c =
    (claim_at _ (big_number 2 w.rest) q (passed_no_names fs k (behind_field shapes.Utf8Name w) h ∙ utf8_sets_utf8 w) c, claimed_no_names (take k fs) (drop 6 w.rest) q (no_names_take k fs h))

pub claimed_formed : (fs : List Field) (k : ℕ) (w : Walk) (q : ℕ) → Formed fs → ClaimIs (passed (take k (map shape_of fs)) w).utf8_name q → Claimed (take k fs) w.rest q
claimed_formed fs zero w q h c = tt
claimed_formed [] (suc k) w q h c = tt
claimed_formed (Number n x ∷ fs) (suc k) w q h c = (tt, moved (take k fs) (shapes.Plain n) n w q (behind_rest (shapes.Plain n) w) (claimed_formed fs k (behind_field (shapes.Plain n) w) q h c))
claimed_formed (Date z ∷ fs) (suc k) w q h c = (tt, moved (take k fs) (shapes.Plain 4) 4 w q (behind_rest (shapes.Plain 4) w) (claimed_formed fs k (behind_field (shapes.Plain 4) w) q h c))
claimed_formed (Finder info ∷ fs) (suc k) w q h c = (tt, moved (take k fs) (shapes.Plain 32) 32 w q (behind_rest (shapes.Plain 32) w) (claimed_formed fs k (behind_field (shapes.Plain 32) w) q h c))
claimed_formed (LongName name ∷ fs) (suc k) w q h c = (tt, moved (take k fs) shapes.LongName 2 w q (behind_rest shapes.LongName w) (claimed_late fs k (behind_field shapes.LongName w) q h c))
claimed_formed (Utf8Name name ∷ fs) (suc k) w q h c =
    (claim_at _ (big_number 2 w.rest) q (passed_no_names fs k (behind_field shapes.Utf8Name w) h ∙ utf8_sets_utf8 w) c, claimed_no_names (take k fs) (drop 6 w.rest) q (no_names_take k fs h))

-- ---- what the walk shows behind all fields

cond_same : (b : Bool) → cond b true true ≡ true
cond_same true = refl
cond_same false = refl

pub passed_long : (fs : List Field) (w : Walk) → (passed (map shape_of fs) w).long_name ≡ cond (is_some (long_in fs)) true w.long_name
passed_long [] w = refl
passed_long (Number n x ∷ fs) w = passed_long fs (behind_field (shapes.Plain n) w) ∙ ap (cond (is_some (long_in fs)) true) (plain_keeps_long n w)
passed_long (Date z ∷ fs) w = passed_long fs (behind_field (shapes.Plain 4) w) ∙ ap (cond (is_some (long_in fs)) true) (plain_keeps_long 4 w)
passed_long (Finder info ∷ fs) w = passed_long fs (behind_field (shapes.Plain 32) w) ∙ ap (cond (is_some (long_in fs)) true) (plain_keeps_long 32 w)
passed_long (LongName name ∷ fs) w = passed_long fs (behind_field shapes.LongName w) ∙ ap (cond (is_some (long_in fs)) true) (long_sets_long w) ∙ cond_same (is_some (long_in fs))
passed_long (Utf8Name name ∷ fs) w = passed_long fs (behind_field shapes.Utf8Name w) ∙ ap (cond (is_some (long_in fs)) true) (utf8_keeps_long w)

-- the place q, where there is a UTF-8 name
abbrev pub claim : ℕ → Option (List ℕ) → Option ℕ → Option ℕ
claim q None o = o
claim q (Some name) o = Some q

claim_twice : (q : ℕ) (o : Option (List ℕ)) → claim q o (Some q) ≡ Some q
claim_twice q None = refl
claim_twice q (Some name) = refl

pub passed_utf8 : (fs : List Field) (w : Walk) (q : ℕ) → Claimed fs w.rest q → (passed (map shape_of fs) w).utf8_name ≡ claim q (utf8_in fs) w.utf8_name
passed_utf8 [] w q c = refl
passed_utf8 (Number n x ∷ fs) w q c =
    passed_utf8 fs (behind_field (shapes.Plain n) w) q (subst (λ (r : List ℕ). Claimed fs r q) (sym (behind_rest (shapes.Plain n) w)) c.1) ∙ ap (claim q (utf8_in fs)) (plain_keeps_utf8 n w)
passed_utf8 (Date z ∷ fs) w q c =
    passed_utf8 fs (behind_field (shapes.Plain 4) w) q (subst (λ (r : List ℕ). Claimed fs r q) (sym (behind_rest (shapes.Plain 4) w)) c.1) ∙ ap (claim q (utf8_in fs)) (plain_keeps_utf8 4 w)
passed_utf8 (Finder info ∷ fs) w q c =
    passed_utf8 fs (behind_field (shapes.Plain 32) w) q (subst (λ (r : List ℕ). Claimed fs r q) (sym (behind_rest (shapes.Plain 32) w)) c.1) ∙ ap (claim q (utf8_in fs)) (plain_keeps_utf8 32 w)
passed_utf8 (LongName name ∷ fs) w q c =
    passed_utf8 fs (behind_field shapes.LongName w) q (subst (λ (r : List ℕ). Claimed fs r q) (sym (behind_rest shapes.LongName w)) c.1) ∙ ap (claim q (utf8_in fs)) (long_keeps_utf8 w)
passed_utf8 (Utf8Name name ∷ fs) w q c =
    passed_utf8 fs (behind_field shapes.Utf8Name w) q (subst (λ (r : List ℕ). Claimed fs r q) (sym (behind_rest shapes.Utf8Name w)) c.1)
    ∙ ap (claim q (utf8_in fs)) (utf8_sets_utf8 w ∙ ap (λ (n : ℕ). Some n) c.0) ∙ claim_twice q (utf8_in fs)

claimed_here : (first q : ℕ) (f : Field) (rest x : List ℕ) → q < 65536 → rest ≡ fixed_at first q f ++ x → by_name f (Unit {0}) (Unit {0}) (big_number 2 rest ≡ q)
claimed_here first q (Number n y) rest x hq e = tt
claimed_here first q (Date z) rest x hq e = tt
claimed_here first q (Finder info) rest x hq e = tt
claimed_here first q (LongName name) rest x hq e = tt
claimed_here first q (Utf8Name name) rest x hq e =
    front_number 2 q rest (replicate 4 0 ++ x) (e ∙ append_assoc (big_bytes 2 q) (replicate 4 0) x) (omega arith)

-- fields that stand in the bytes claim what they say
pub claimed_front : (first q : ℕ) (fs : List Field) (rest r : List ℕ) → q < 65536 → AllByRecursion IsTyped fs → rest ≡ concat (map (fixed_at first q) fs) ++ r → Claimed fs rest q
claimed_front first q [] rest r hq t e = tt
claimed_front first q (f ∷ fs) rest r hq t e =
    let x : List ℕ = concat (map (fixed_at first q) fs) ++ r in
    let front : rest ≡ fixed_at first q f ++ x = e ∙ append_assoc (fixed_at first q f) (concat (map (fixed_at first q) fs)) r in
    let next : drop (fixed_size f) rest ≡ x = ap (drop (fixed_size f)) front ∙ drop_at (fixed_at first q f) x (fixed_size f) (fixed_length first q f t.0) in
    (claimed_here first q f rest x hq front, claimed_front first q fs (drop (fixed_size f) rest) r hq t.1 next)
