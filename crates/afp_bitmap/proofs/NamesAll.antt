-- Both names, where they are asked, up to the end of the bytes.
use Rattle.std.proofs.Common.{◌≡◌, ℕ, suc, ◌+◌, ◌<◌, ◌≤◌, Bool, true, false, cond, eqb, List, [], ◌++◌, length, take, drop, get_or, Option, Some, None, is_some, Result, Ok, Err, refl, sym, ap, subst, ◌∙◌, arith, ◌⊎◌, inl, inr}
use Rattle.std.specs.Prelude.{MatchOption}
use Rattle.std.specs.List.{concat}
use Rattle.std.proofs.Math.Seq.{take-append-add}
use Rattle.std.proofs.lemmas.Bool.{cases_Bool, eqb-true, eqb-false}
use Rattle.std.proofs.lemmas.List.{take-append-le, length-append, append_assoc, append-nil, nil_from_length, take-append-drop, get_or-append-add}
use Rattle.std.proofs.lemmas.List.Folds.{concat-append}
use Rattle.afp_bitmap.specs.Field.{long_name_bytes, utf8_name_bytes}
use Rattle.afp_bitmap.specs.lemma.Reading.{◌>>=◌, Walk, long_name_at, utf8_name_at, long_name_of, utf8_name_of, names_at}
use Rattle.afp_bitmap.specs.lemma.Spot.{Spot}
use Rattle.afp_bitmap.proofs.NamesStage.{same_front, pad, IsFormat, Stops, NameIs, name_cases, LongFits, long_format, long_cases, Utf8Fits, utf8_format, utf8_cases}
use Rattle.afp_base.specs.Bytes.{IsBytes}
use Rattle.afp_bitmap.proofs.Parts.{opt, names_of}

abbrev pub text : Option (List ℕ) → List ℕ
text None = []
text (Some name) = name

-- a name that is there fits
abbrev pub OptFits : (List ℕ → Type 0) → Option (List ℕ) → Type 0
OptFits Fit o = MatchOption o (Unit {0}) Fit

-- ---- one name, where it is asked

pub record Got (format : List ℕ → List ℕ) (Fit : List ℕ → Type 0) (asked : Bool) (place : ℕ) (rest name : List ℕ) (spot : Spot) : Type 0 where
  pub o : Option (List ℕ)
  pub is : is_some o ≡ asked
  pub fits : OptFits Fit o
  pub front : rest ≡ concat (opt format o) ++ spot.1
  pub place_is : spot.0 ≡ place + length (concat (opt format o))
  pub name_is : name ≡ text o

pub record Missed (format : List ℕ → List ℕ) (Fit : List ℕ → Type 0) (asked : Bool) (place : ℕ) (rest : List ℕ) (at : ℕ) : Type 0 where
  pub is : asked ≡ true
  pub stops : Stops format Fit place rest at

abbrev pub OptIs : (List ℕ → List ℕ) → (List ℕ → Type 0) → Bool → ℕ → List ℕ → Result (List ℕ × Spot) ℕ → Type 0
OptIs format Fit asked place rest (Ok x) = Got format Fit asked place rest x.0 x.1
OptIs format Fit asked place rest (Err at) = Missed format Fit asked place rest at

opt_from : (format : List ℕ → List ℕ) (Fit : List ℕ → Type 0) (place : ℕ) (rest : List ℕ) (read : Result (List ℕ × Spot) ℕ) → NameIs format Fit place rest read
    → OptIs format Fit true place rest read
opt_from format Fit place rest (Ok x) h = record { o = Some x.0; is = refl; fits = h.fit; front = h.front; place_is = h.place_is; name_is = refl }
opt_from format Fit place rest (Err at) h = record { is = refl; stops = h }

opt_is : (format : List ℕ → List ℕ) (Fit : List ℕ → Type 0) (asked : Bool) (place : ℕ) (rest : List ℕ) (read : Result (List ℕ × Spot) ℕ)
    → (asked ≡ true → NameIs format Fit place rest read) → OptIs format Fit asked place rest (cond asked read (Ok ([], (place, rest))))
opt_is format Fit true place rest read h = opt_from format Fit place rest read (h refl)
opt_is format Fit false place rest read h = record { o = None; is = refl; fits = tt; front = refl; place_is = omega arith; name_is = refl }

-- two readings of an asked name are one
pub opt_same : (format : List ℕ → List ℕ) (Fit : List ℕ → Type 0) → IsFormat format Fit → (a b : Option (List ℕ)) (x y : List ℕ) → is_some a ≡ is_some b
    → OptFits Fit a → OptFits Fit b → concat (opt format a) ++ x ≡ concat (opt format b) ++ y → (a ≡ b) × (x ≡ y)
opt_same format Fit is None None x y e ha hb h = (refl, h)
opt_same format Fit is None (Some b) x y e ha hb h = absurd cc
opt_same format Fit is (Some a) None x y e ha hb h = absurd cc
opt_same format Fit is (Some a) (Some b) x y e ha hb h =
    let pa : List ℕ = pad (length (format a)) in
    let pb : List ℕ = pad (length (format b)) in
    let left : format a ++ (pa ++ x) ≡ format b ++ (pb ++ y) =
    sym (ap (λ (p : List ℕ). (format a ++ p) ++ x) (append-nil pa) ∙ append_assoc (format a) pa x)
    ∙ h ∙ (ap (λ (p : List ℕ). (format b ++ p) ++ y) (append-nil pb) ∙ append_assoc (format b) pb y) in
    let p = is.same a b (pa ++ x) (pb ++ y) ha hb left in
    let len : length pa ≡ length pb = ap (λ (n : List ℕ). length (pad (length (format n)))) p.0 in
    let q = same_front pa pb x y len p.1 in
    (ap (λ (n : List ℕ). Some n) p.0, q.1)

-- ---- both names

pub record NamesFit (w : Walk) (long utf8 : Option (List ℕ)) : Type 0 where
  pub long_is : is_some long ≡ w.long_name
  pub utf8_is : is_some utf8 ≡ is_some w.utf8_name
  pub long_fits : OptFits (LongFits w.utf8_name w.place) long
  pub utf8_fits : OptFits Utf8Fits utf8

pub record NamesRead (w : Walk) (l u : List ℕ) : Type 0 where
  pub long : Option (List ℕ)
  pub utf8 : Option (List ℕ)
  pub fit : NamesFit w long utf8
  pub front : w.rest ≡ concat (names_of long utf8)
  pub long_text : l ≡ text long
  pub utf8_text : u ≡ text utf8

pub record NamesStop (w : Walk) (at : ℕ) : Type 0 where
  pub count : ℕ
  pub long : Option (List ℕ)
  pub utf8 : Option (List ℕ)
  pub behind : List ℕ
  pub fit : NamesFit w long utf8
  pub front : w.rest ≡ concat (take count (names_of long utf8)) ++ behind
  pub at_is : at ≡ w.place + length (concat (take count (names_of long utf8)))
  pub no_further : (m v : Option (List ℕ)) (more : List ℕ) → NamesFit w m v → w.rest ≡ concat (take (suc count) (names_of m v)) ++ more → ⊥
  pub one : (m v : Option (List ℕ)) (more : List ℕ) → NamesFit w m v → w.rest ≡ concat (take count (names_of m v)) ++ more → more ≡ behind

pub record NamesEnd (w : Walk) (at : ℕ) : Type 0 where
  pub long : Option (List ℕ)
  pub utf8 : Option (List ℕ)
  pub behind : List ℕ
  pub fit : NamesFit w long utf8
  pub front : w.rest ≡ concat (names_of long utf8) ++ behind
  pub at_is : at ≡ w.place + length (concat (names_of long utf8))
  pub remain : 0 < length behind

abbrev pub NamesAre : Walk → Result (List ℕ × List ℕ) ℕ → Type 0
NamesAre w (Ok x) = NamesRead w x.0 x.1
NamesAre w (Err at) = NamesStop w at ⊎ NamesEnd w at

-- a name of no bytes, where one is asked
abbrev empty_if : Bool → Option (List ℕ)
empty_if true = Some []
empty_if false = None

empty_is : (b : Bool) → is_some (empty_if b) ≡ b
empty_is true = refl
empty_is false = refl

empty_fits : (b : Bool) → OptFits Utf8Fits (empty_if b)
empty_fits true = omega arith
empty_fits false = tt

there : (o : Option (List ℕ)) (b : Bool) → is_some o ≡ b → b ≡ true → (x : List ℕ) × (o ≡ Some x)
there None b e h = absurd cc
there (Some x) b e h = (x, refl)

front_of_long : (k : ℕ) (format : List ℕ → List ℕ) (name : List ℕ) (rest : List (List ℕ)) → k ≤ 2 → take k (opt format (Some name) ++ rest) ≡ take k (opt format (Some name))
front_of_long k format name rest h = take-append-le k (opt format (Some name)) rest h

long_missed : (w : Walk) (at : ℕ) → Missed long_name_bytes (LongFits w.utf8_name w.place) w.long_name w.place w.rest at → NamesStop w at
long_missed w at h =
    let s = h.stops in
    let less = s.less in
    let v : Option (List ℕ) = empty_if (is_some w.utf8_name) in
    let same : take s.count (names_of (Some s.name) v) ≡ take s.count (opt long_name_bytes (Some s.name)) = front_of_long s.count long_name_bytes s.name (opt utf8_name_bytes v) (omega arith) in
    record {
      count = s.count;
      long = Some s.name;
      utf8 = v;
      behind = s.behind;
      fit = record { long_is = sym h.is; utf8_is = empty_is (is_some w.utf8_name); long_fits = s.fit; utf8_fits = empty_fits (is_some w.utf8_name) };
      front = s.front ∙ ap (λ (p : List (List ℕ)). concat p ++ s.behind) (sym same);
      at_is = s.at_is ∙ ap (λ (p : List (List ℕ)). w.place + length (concat p)) (sym same);
      no_further = λ m v more fit e.
          let o = there m w.long_name fit.long_is h.is in
          let fits : LongFits w.utf8_name w.place o.0 = (let k : OptFits (LongFits w.utf8_name w.place) (Some o.0) = subst (OptFits (LongFits w.utf8_name w.place)) o.1 fit.long_fits in k) in
          let cut : take (suc s.count) (names_of m v) ≡ take (suc s.count) (opt long_name_bytes (Some o.0)) =
          ap (λ (p : Option (List ℕ)). take (suc s.count) (names_of p v)) o.1 ∙ front_of_long (suc s.count) long_name_bytes o.0 (opt utf8_name_bytes v) (omega arith) in
          s.no_further o.0 more fits (e ∙ ap (λ (p : List (List ℕ)). concat p ++ more) cut);
      one = λ m v more fit e.
          let o = there m w.long_name fit.long_is h.is in
          let fits : LongFits w.utf8_name w.place o.0 = (let k : OptFits (LongFits w.utf8_name w.place) (Some o.0) = subst (OptFits (LongFits w.utf8_name w.place)) o.1 fit.long_fits in k) in
          let cut : take s.count (names_of m v) ≡ take s.count (opt long_name_bytes (Some o.0)) =
          ap (λ (p : Option (List ℕ)). take s.count (names_of p v)) o.1 ∙ front_of_long s.count long_name_bytes o.0 (opt utf8_name_bytes v) (omega arith) in
          s.one o.0 more fits (e ∙ ap (λ (p : List (List ℕ)). concat p ++ more) cut);
    }

opt_length : (format : List ℕ → List ℕ) (a b : Option (List ℕ)) → is_some a ≡ is_some b → length (opt format a) ≡ length (opt format b)
opt_length format None None e = refl
opt_length format None (Some b) e = absurd cc
opt_length format (Some a) None e = absurd cc
opt_length format (Some a) (Some b) e = refl

take_behind : (xs ys : List (List ℕ)) (n k : ℕ) → length xs ≡ n → take (n + k) (xs ++ ys) ≡ xs ++ take k ys
take_behind xs ys n k e = ap (λ (m : ℕ). take (m + k) (xs ++ ys)) (sym e) ∙ take-append-add xs ys k

-- the parts of both names, behind those of the long name
both_front : (m v : Option (List ℕ)) (n k : ℕ) → length (opt long_name_bytes m) ≡ n
    → concat (take (n + k) (names_of m v)) ≡ concat (opt long_name_bytes m) ++ concat (take k (opt utf8_name_bytes v))
both_front m v n k e =
    ap concat (take_behind (opt long_name_bytes m) (opt utf8_name_bytes v) n k e) ∙ concat-append (opt long_name_bytes m) (take k (opt utf8_name_bytes v))

utf8_missed : (w : Walk) (l : List ℕ) (spot : Spot) (at : ℕ) → Got long_name_bytes (LongFits w.utf8_name w.place) w.long_name w.place w.rest l spot
    → Missed utf8_name_bytes Utf8Fits (is_some w.utf8_name) spot.0 spot.1 at → NamesStop w at
utf8_missed w l spot at g h =
    let s = h.stops in
    let less = s.less in
    let n : ℕ = length (opt long_name_bytes g.o) in
    let both = both_front g.o (Some s.name) n s.count refl in
    record {
      count = n + s.count;
      long = g.o;
      utf8 = Some s.name;
      behind = s.behind;
      fit = record { long_is = g.is; utf8_is = sym h.is; long_fits = g.fits; utf8_fits = s.fit };
      front = g.front ∙ ap (λ (x : List ℕ). concat (opt long_name_bytes g.o) ++ x) s.front
          ∙ sym (append_assoc (concat (opt long_name_bytes g.o)) (concat (take s.count (opt utf8_name_bytes (Some s.name)))) s.behind)
          ∙ ap (λ (x : List ℕ). x ++ s.behind) (sym both);
      at_is = s.at_is ∙ sym (ap (λ (x : List ℕ). w.place + length x) both
          ∙ (let len = length-append (concat (opt long_name_bytes g.o)) (concat (take s.count (opt utf8_name_bytes (Some s.name)))) in let place = g.place_is in omega arith));
      no_further = λ m v more fit e.
          let size : length (opt long_name_bytes m) ≡ n = opt_length long_name_bytes m g.o (fit.long_is ∙ sym g.is) in
          let count : suc (n + s.count) ≡ n + suc s.count = omega arith in
          let parts : w.rest ≡ concat (opt long_name_bytes m) ++ (concat (take (suc s.count) (opt utf8_name_bytes v)) ++ more) =
          e ∙ ap (λ (k : ℕ). concat (take k (names_of m v)) ++ more) count ∙ ap (λ (x : List ℕ). x ++ more) (both_front m v n (suc s.count) size)
          ∙ append_assoc (concat (opt long_name_bytes m)) (concat (take (suc s.count) (opt utf8_name_bytes v))) more in
          let same = opt_same long_name_bytes (LongFits w.utf8_name w.place) (long_format w.utf8_name w.place) g.o m spot.1 (concat (take (suc s.count) (opt utf8_name_bytes v)) ++ more)
          (g.is ∙ sym fit.long_is) g.fits fit.long_fits (sym g.front ∙ parts) in
          let o = there v (is_some w.utf8_name) fit.utf8_is h.is in
          let fits : Utf8Fits o.0 = (let k : OptFits Utf8Fits (Some o.0) = subst (OptFits Utf8Fits) o.1 fit.utf8_fits in k) in
          s.no_further o.0 more fits (same.1 ∙ ap (λ (p : Option (List ℕ)). concat (take (suc s.count) (opt utf8_name_bytes p)) ++ more) o.1);
      one = λ m v more fit e.
          let size : length (opt long_name_bytes m) ≡ n = opt_length long_name_bytes m g.o (fit.long_is ∙ sym g.is) in
          let parts : w.rest ≡ concat (opt long_name_bytes m) ++ (concat (take s.count (opt utf8_name_bytes v)) ++ more) =
          e ∙ ap (λ (x : List ℕ). x ++ more) (both_front m v n s.count size) ∙ append_assoc (concat (opt long_name_bytes m)) (concat (take s.count (opt utf8_name_bytes v))) more in
          let same = opt_same long_name_bytes (LongFits w.utf8_name w.place) (long_format w.utf8_name w.place) g.o m spot.1 (concat (take s.count (opt utf8_name_bytes v)) ++ more)
          (g.is ∙ sym fit.long_is) g.fits fit.long_fits (sym g.front ∙ parts) in
          let o = there v (is_some w.utf8_name) fit.utf8_is h.is in
          let fits : Utf8Fits o.0 = (let k : OptFits Utf8Fits (Some o.0) = subst (OptFits Utf8Fits) o.1 fit.utf8_fits in k) in
          s.one o.0 more fits (same.1 ∙ ap (λ (p : Option (List ℕ)). concat (take s.count (opt utf8_name_bytes p)) ++ more) o.1);
    }

both_got : (w : Walk) (l u : List ℕ) (spot end : Spot) → Got long_name_bytes (LongFits w.utf8_name w.place) w.long_name w.place w.rest l spot
    → Got utf8_name_bytes Utf8Fits (is_some w.utf8_name) spot.0 spot.1 u end
    → NamesAre w (cond (eqb (length end.1) 0) (Ok (l, u)) (Err end.0))
both_got w l u spot end g h =
    let fit : NamesFit w g.o h.o = record { long_is = g.is; utf8_is = h.is; long_fits = g.fits; utf8_fits = h.fits } in
    let all : w.rest ≡ concat (names_of g.o h.o) ++ end.1 =
    g.front ∙ ap (λ (x : List ℕ). concat (opt long_name_bytes g.o) ++ x) h.front
    ∙ sym (append_assoc (concat (opt long_name_bytes g.o)) (concat (opt utf8_name_bytes h.o)) end.1)
    ∙ ap (λ (x : List ℕ). x ++ end.1) (sym (concat-append (opt long_name_bytes g.o) (opt utf8_name_bytes h.o))) in
    let P : Bool → Type 0 = λ b. NamesAre w (cond b (Ok (l, u)) (Err end.0)) in
    elim (cases_Bool (eqb (length end.1) 0)) [
      | inl none ↦
          subst P (sym none) (record {
            long = g.o;
            utf8 = h.o;
            fit = fit;
            front = all ∙ ap (λ (x : List ℕ). concat (names_of g.o h.o) ++ x) (nil_from_length end.1 (eqb-true (length end.1) 0 none)) ∙ append-nil (concat (names_of g.o h.o));
            long_text = g.name_is;
            utf8_text = h.name_is;
          })
      | inr some ↦
          subst P (sym some) (inr (record {
            long = g.o;
            utf8 = h.o;
            behind = end.1;
            fit = fit;
            front = all;
            at_is = (let len = length-append (concat (opt long_name_bytes g.o)) (concat (opt utf8_name_bytes h.o)) in
                let whole = ap (length {A = ℕ}) (concat-append (opt long_name_bytes g.o) (opt utf8_name_bytes h.o)) in
                let a = g.place_is in let b = h.place_is in omega arith);
            remain = (let apart = eqb-false (length end.1) 0 some in omega arith);
          }))
    ]

finish : (w : Walk) (l : List ℕ) (spot : Spot) (second : Result (List ℕ × Spot) ℕ) → Got long_name_bytes (LongFits w.utf8_name w.place) w.long_name w.place w.rest l spot
    → OptIs utf8_name_bytes Utf8Fits (is_some w.utf8_name) spot.0 spot.1 second
    → NamesAre w (second >>= λ utf8. cond (eqb (length utf8.1.1) 0) (Ok (l, utf8.0)) (Err utf8.1.0))
finish w l spot (Ok x) g h = both_got w l x.0 spot x.1 g h
finish w l spot (Err at) g h = inl (utf8_missed w l spot at g h)

utf8_step : (w : Walk) (spot : Spot) → IsBytes spot.1 → OptIs utf8_name_bytes Utf8Fits (is_some w.utf8_name) spot.0 spot.1 (utf8_name_of w.utf8_name spot)
utf8_step w spot b =
    opt_is utf8_name_bytes Utf8Fits (is_some w.utf8_name) spot.0 spot.1 (utf8_name_at spot)
    (λ on. name_cases utf8_name_bytes Utf8Fits spot.0 spot.1 (utf8_name_at spot) [] utf8_format (omega arith) (utf8_cases spot.0 spot.1 b))

begin : (w : Walk) (first : Result (List ℕ × Spot) ℕ) → ((spot : Spot) (l : List ℕ) → first ≡ Ok (l, spot) → IsBytes spot.1)
    → OptIs long_name_bytes (LongFits w.utf8_name w.place) w.long_name w.place w.rest first
    → NamesAre w (first >>= λ long. utf8_name_of w.utf8_name long.1 >>= λ utf8. cond (eqb (length utf8.1.1) 0) (Ok (long.0, utf8.0)) (Err utf8.1.0))
begin w (Ok x) b h = finish w x.0 x.1 (utf8_name_of w.utf8_name x.1) h (utf8_step w x.1 (b x.1 x.0 refl))
begin w (Err at) b h = inl (long_missed w at h)

bytes_behind : (xs ys rest : List ℕ) → rest ≡ xs ++ ys → IsBytes rest → IsBytes ys
bytes_behind xs ys rest e b i =
    let at : get_or rest (length xs + i) 0 ≡ get_or ys i 0 = ap (λ (r : List ℕ). get_or r (length xs + i) 0) e ∙ get_or-append-add xs ys i 0 in
    subst (λ (n : ℕ). n < 256) at (b (length xs + i))

opt_bytes : (format : List ℕ → List ℕ) (Fit : List ℕ → Type 0) (asked : Bool) (place : ℕ) (rest : List ℕ) (read : Result (List ℕ × Spot) ℕ) → IsBytes rest
    → OptIs format Fit asked place rest read → (spot : Spot) (l : List ℕ) → read ≡ Ok (l, spot) → IsBytes spot.1
opt_bytes format Fit asked place rest read b h spot l e =
    let g : Got format Fit asked place rest l spot = (let k : OptIs format Fit asked place rest (Ok (l, spot)) = subst (OptIs format Fit asked place rest) e h in k) in
    bytes_behind (concat (opt format g.o)) spot.1 rest g.front b

-- what is read of the names
pub names_are : (w : Walk) (fill : List ℕ) → IsBytes w.rest → (w.long_name ≡ true → LongFits w.utf8_name w.place fill) → NamesAre w (names_at w)
unfolding names_at
names_are w fill b h =
    let first = opt_is long_name_bytes (LongFits w.utf8_name w.place) w.long_name w.place w.rest (long_name_at w.utf8_name w.place w.rest)
    (λ on. name_cases long_name_bytes (LongFits w.utf8_name w.place) w.place w.rest (long_name_at w.utf8_name w.place w.rest) fill (long_format w.utf8_name w.place) (h on) (long_cases w.utf8_name w.place w.rest b)) in
    begin w (long_name_of w) (opt_bytes long_name_bytes (LongFits w.utf8_name w.place) w.long_name w.place w.rest (long_name_of w) b first) first

-- ---- what stands there is read

pub names_same : (w : Walk) (m v n u : Option (List ℕ)) (x y : List ℕ) → NamesFit w m v → NamesFit w n u → concat (names_of m v) ++ x ≡ concat (names_of n u) ++ y
    → (m ≡ n) × ((v ≡ u) × (x ≡ y))
names_same w m v n u x y f g e =
    let split : (a b : Option (List ℕ)) (z : List ℕ) → concat (names_of a b) ++ z ≡ concat (opt long_name_bytes a) ++ (concat (opt utf8_name_bytes b) ++ z) = λ a b z.
    ap (λ (p : List ℕ). p ++ z) (concat-append (opt long_name_bytes a) (opt utf8_name_bytes b)) ∙ append_assoc (concat (opt long_name_bytes a)) (concat (opt utf8_name_bytes b)) z in
    let p = opt_same long_name_bytes (LongFits w.utf8_name w.place) (long_format w.utf8_name w.place) m n (concat (opt utf8_name_bytes v) ++ x) (concat (opt utf8_name_bytes u) ++ y)
    (f.long_is ∙ sym g.long_is) f.long_fits g.long_fits (sym (split m v x) ∙ e ∙ split n u y) in
    let q = opt_same utf8_name_bytes Utf8Fits utf8_format v u x y (f.utf8_is ∙ sym g.utf8_is) f.utf8_fits g.utf8_fits p.1 in
    (p.0, (q.0, q.1))

abbrev two : List ℕ → List ℕ → List ℕ × List ℕ
two a b = (a, b)

pair : (a b c d : List ℕ) → a ≡ b → c ≡ d → two a c ≡ two b d
pair a b c d e f = cc

again : (w : Walk) (m v : Option (List ℕ)) (read : Result (List ℕ × List ℕ) ℕ) → NamesAre w read → NamesFit w m v → w.rest ≡ concat (names_of m v) → read ≡ Ok (text m, text v)
again w m v (Ok x) h f e =
    let same = names_same w h.long h.utf8 m v [] [] h.fit f (append-nil (concat (names_of h.long h.utf8)) ∙ sym h.front ∙ e ∙ sym (append-nil (concat (names_of m v)))) in
    let l : x.0 ≡ text m = h.long_text ∙ ap text same.0 in
    let u : x.1 ≡ text v = h.utf8_text ∙ ap text same.1.0 in
    ap (λ (p : List ℕ × List ℕ). Ok p) (pair x.0 (text m) x.1 (text v) l u)
again w m v (Err at) (inl h) f e =
    absurd (h.no_further m v (concat (drop (suc h.count) (names_of m v))) f
    (e ∙ ap concat (sym (take-append-drop (suc h.count) (names_of m v))) ∙ concat-append (take (suc h.count) (names_of m v)) (drop (suc h.count) (names_of m v))))
again w m v (Err at) (inr h) f e =
    let same = names_same w h.long h.utf8 m v h.behind [] h.fit f (sym h.front ∙ e ∙ sym (append-nil (concat (names_of m v)))) in
    let none : length h.behind ≡ 0 = ap (length {A = ℕ}) same.1.1 in
    let some = h.remain in
    absurd (omega arith)

pub names_again : (w : Walk) (fill : List ℕ) (m v : Option (List ℕ)) → IsBytes w.rest → (w.long_name ≡ true → LongFits w.utf8_name w.place fill) → NamesFit w m v
    → w.rest ≡ concat (names_of m v) → names_at w ≡ Ok (text m, text v)
names_again w fill m v b h f e = again w m v (names_at w) (names_are w fill b h) f e
