-- The names behind the fixed part: where they stop, and what stands where they do not.
use Rattle.std.proofs.Common.{◌≡◌, ℕ, zero, suc, ◌+◌, ◌%◌, ◌^◌, ◌<◌, ◌≤◌, Bool, true, false, leb, eqb, ◌&&◌, List, [], ◌∷◌, ◌++◌, length, take, drop, replicate, Option, Some, Result, Ok, Err, refl, sym, ap, subst, ◌∙◌, arith, ◌⊎◌, inl, inr}
use Rattle.std.specs.List.{concat}
use Rattle.std.proofs.lemmas.Bool.{cases_Bool, cases_lt, and_parts, and_from, le-leb, lt-leb, leb-true, eq-eqb, eqb-true}
use Rattle.std.proofs.lemmas.List.{take_at, drop_at, take-append-drop, length-take-le, length-append, length-drop, length-replicate, append_assoc, append-nil, drop-drop}
use Rattle.byteorder.specs.Endian.{big_number, big_bytes}
use Rattle.afp_bitmap.specs.Field.{long_name_bytes, utf8_name_bytes}
use Rattle.afp_bitmap.specs.lemma.Reading.{◌>>=◌, zero_at, pad_at, leads_to, long_name_at, utf8_text_at, utf8_name_at}
use Rattle.afp_bitmap.specs.lemma.Spot.{Spot}
use Rattle.afp_bitmap.proofs.Fixed.{front_number, front_is, zeros_are}
use Rattle.afp_base.specs.Bytes.{IsBytes}
use Rattle.afp_base.proofs.Numbers.{IsBytes-drop, big_number-lt, length-big_bytes}
use Rattle.afp_bitmap.proofs.Parts.{opt}
use Rattle.afp_bitmap.proofs.Walks.{bind_ok, bind_err}

-- ---- lists

pub same_front : {A : Type 0} (a b x y : List A) → length a ≡ length b → a ++ x ≡ b ++ y → (a ≡ b) × (x ≡ y)
same_front a b x y len e = (
  sym (take_at a x (length a) refl) ∙ ap (take (length a)) e ∙ take_at b y (length a) (sym len),
  sym (drop_at a x (length a) refl) ∙ ap (drop (length a)) e ∙ drop_at b y (length a) (sym len),
)

-- ---- a pad

-- the pad of so many bytes
abbrev pub pad : ℕ → List ℕ
pad size = replicate (size % 2) 0

even_or_odd : (size : ℕ) → (size % 2 ≡ 0) ⊎ (size % 2 ≡ 1)
even_or_odd size =
    elim (cases_lt (size % 2) 1) [
      | inl less ↦ inl (omega arith)
      | inr more ↦ inr (omega arith)
    ]

pub record Padded (size place : ℕ) (rest : List ℕ) : Type 0 where
  pub behind : List ℕ
  pub front : rest ≡ pad size ++ behind
  pub gives : pad_at size (place, rest) ≡ Ok (place + size % 2, behind)

pub record Unpadded (size place : ℕ) (rest : List ℕ) : Type 0 where
  pub apart : (behind : List ℕ) → rest ≡ pad size ++ behind → ⊥
  pub gives : pad_at size (place, rest) ≡ Err place

pad_even : (size place : ℕ) (rest : List ℕ) → size % 2 ≡ 0 → pad_at size (place, rest) ≡ Ok (place, rest)
unfolding pad_at
pad_even size place rest e = rw e refl

pad_odd : (size place : ℕ) (rest : List ℕ) → size % 2 ≡ 1 → pad_at size (place, rest) ≡ zero_at place rest
unfolding pad_at
pad_odd size place rest e = rw e refl

zero_none : (place : ℕ) → zero_at place [] ≡ Err place
unfolding zero_at
zero_none place = refl

zero_zero : (place : ℕ) (rest : List ℕ) → zero_at place (0 ∷ rest) ≡ Ok (place + 1, rest)
unfolding zero_at
zero_zero place rest = refl

zero_other : (place b : ℕ) (rest : List ℕ) → zero_at place (suc b ∷ rest) ≡ Err place
unfolding zero_at
zero_other place b rest = refl

odd_pad : (size : ℕ) → size % 2 ≡ 1 → pad size ≡ 0 ∷ []
odd_pad size e = rw e refl

odd_cases : (size place : ℕ) (rest : List ℕ) → size % 2 ≡ 1 → Padded size place rest ⊎ Unpadded size place rest
odd_cases size place [] e = inr (record {
  apart = λ behind h. (let k : [] ≡ 0 ∷ behind = h ∙ ap (λ (p : List ℕ). p ++ behind) (odd_pad size e) in absurd cc);
  gives = pad_odd size place [] e ∙ zero_none place;
})
odd_cases size place (zero ∷ rest) e = inl (record {
  behind = rest;
  front = sym (ap (λ (p : List ℕ). p ++ rest) (odd_pad size e));
  gives = pad_odd size place (0 ∷ rest) e ∙ zero_zero place rest ∙ ap (λ (n : ℕ). Ok (place + n, rest)) (sym e);
})
odd_cases size place (suc b ∷ rest) e = inr (record {
  apart = λ behind h. (let k : suc b ∷ rest ≡ 0 ∷ behind = h ∙ ap (λ (p : List ℕ). p ++ behind) (odd_pad size e) in let n : suc b ≡ 0 = cc in absurd (omega arith));
  gives = pad_odd size place (suc b ∷ rest) e ∙ zero_other place b rest;
})

pub pad_cases : (size place : ℕ) (rest : List ℕ) → Padded size place rest ⊎ Unpadded size place rest
pad_cases size place rest =
    elim (even_or_odd size) [
      | inl even ↦ inl (record {
        behind = rest;
        front = sym (ap (λ (n : ℕ). replicate n 0 ++ rest) even);
        gives = pad_even size place rest even ∙ ap (λ (n : ℕ). Ok (n, rest)) (rw even (omega arith));
      })
      | inr odd ↦ odd_cases size place rest odd
    ]

-- ---- one name and its pad

-- a format in which no name's bytes begin with another's
pub record IsFormat (format : List ℕ → List ℕ) (Fit : List ℕ → Type 0) : Type 0 where
  pub same : (a b x y : List ℕ) → Fit a → Fit b → format a ++ x ≡ format b ++ y → (a ≡ b) × (x ≡ y)

-- the pad is read behind a name of so many bytes
abbrev pub then_pad : ℕ → ℕ → List ℕ → List ℕ → Result (List ℕ × Spot) ℕ
then_pad size place name behind = pad_at size (place + size, behind) >>= λ spot. Ok (name, spot)

-- a name stands there, and the rest is read behind it
pub record Stands (format : List ℕ → List ℕ) (Fit : List ℕ → Type 0) (place : ℕ) (rest : List ℕ) (read : Result (List ℕ × Spot) ℕ) : Type 0 where
  pub name : List ℕ
  pub behind : List ℕ
  pub fit : Fit name
  pub front : rest ≡ format name ++ behind
  pub gives : read ≡ then_pad (length (format name)) place name behind

pub record Lacks (format : List ℕ → List ℕ) (Fit : List ℕ → Type 0) (place : ℕ) (rest : List ℕ) (read : Result (List ℕ × Spot) ℕ) : Type 0 where
  pub apart : (name behind : List ℕ) → Fit name → rest ≡ format name ++ behind → ⊥
  pub gives : read ≡ Err place

-- a name and its pad were read
pub record Read (format : List ℕ → List ℕ) (Fit : List ℕ → Type 0) (place : ℕ) (rest name : List ℕ) (spot : Spot) : Type 0 where
  pub fit : Fit name
  pub front : rest ≡ concat (opt format (Some name)) ++ spot.1
  pub place_is : spot.0 ≡ place + length (concat (opt format (Some name)))

-- the name or its pad does not stand there
pub record Stops (format : List ℕ → List ℕ) (Fit : List ℕ → Type 0) (place : ℕ) (rest : List ℕ) (at : ℕ) : Type 0 where
  pub count : ℕ
  pub less : count < 2
  pub name : List ℕ
  pub behind : List ℕ
  pub fit : Fit name
  pub front : rest ≡ concat (take count (opt format (Some name))) ++ behind
  pub at_is : at ≡ place + length (concat (take count (opt format (Some name))))
  pub no_further : (other more : List ℕ) → Fit other → rest ≡ concat (take (suc count) (opt format (Some other))) ++ more → ⊥
  pub one : (other more : List ℕ) → Fit other → rest ≡ concat (take count (opt format (Some other))) ++ more → more ≡ behind

abbrev pub NameIs : (List ℕ → List ℕ) → (List ℕ → Type 0) → ℕ → List ℕ → Result (List ℕ × Spot) ℕ → Type 0
NameIs format Fit place rest (Ok x) = Read format Fit place rest x.0 x.1
NameIs format Fit place rest (Err at) = Stops format Fit place rest at

one_part : (xs : List ℕ) → concat (xs ∷ []) ≡ xs
one_part xs = append-nil xs

two_parts : (xs ys : List ℕ) → concat (xs ∷ ys ∷ []) ≡ xs ++ ys
two_parts xs ys = ap (λ (r : List ℕ). xs ++ r) (append-nil ys)

pub name_cases : (format : List ℕ → List ℕ) (Fit : List ℕ → Type 0) (place : ℕ) (rest : List ℕ) (read : Result (List ℕ × Spot) ℕ) (some : List ℕ)
    → IsFormat format Fit → Fit some → (Stands format Fit place rest read ⊎ Lacks format Fit place rest read) → NameIs format Fit place rest read
name_cases format Fit place rest read some is fits (inr lacks) =
    let P : Result (List ℕ × Spot) ℕ → Type 0 = λ r. NameIs format Fit place rest r in
    subst P (sym lacks.gives) (record {
      count = 0;
      less = omega arith;
      name = some;
      behind = rest;
      fit = fits;
      front = refl;
      at_is = omega arith;
      no_further = λ other more h e. lacks.apart other more h (e ∙ ap (λ (x : List ℕ). x ++ more) (one_part (format other)));
      one = λ other more h e. sym e;
    })
name_cases format Fit place rest read some is fits (inl s) =
    let P : Result (List ℕ × Spot) ℕ → Type 0 = λ r. NameIs format Fit place rest r in
    let size : ℕ = length (format s.name) in
    elim (pad_cases size (place + size) s.behind) [
      | inl p ↦
          subst P (sym (s.gives ∙ bind_ok (pad_at size (place + size, s.behind)) (λ spot. Ok (s.name, spot)) (place + size + size % 2, p.behind) p.gives)) (record {
            fit = s.fit;
            front = s.front ∙ ap (λ (x : List ℕ). format s.name ++ x) p.front ∙ sym (append_assoc (format s.name) (pad size) p.behind)
                ∙ sym (ap (λ (x : List ℕ). x ++ p.behind) (two_parts (format s.name) (pad size)));
            place_is = sym (ap (λ (x : List ℕ). place + length x) (two_parts (format s.name) (pad size))
                ∙ (let len = length-append (format s.name) (pad size) in let zeros = length-replicate {A = ℕ} (size % 2) 0 in omega arith));
          })
      | inr u ↦
          subst P (sym (s.gives ∙ bind_err (pad_at size (place + size, s.behind)) (λ spot. Ok (s.name, spot)) (place + size) u.gives)) (record {
            count = 1;
            less = omega arith;
            name = s.name;
            behind = s.behind;
            fit = s.fit;
            front = s.front ∙ sym (ap (λ (x : List ℕ). x ++ s.behind) (one_part (format s.name)));
            at_is = sym (ap (λ (x : List ℕ). place + length x) (one_part (format s.name)));
            no_further = λ other more h e.
                let both : format s.name ++ s.behind ≡ format other ++ (pad (length (format other)) ++ more) =
                sym s.front ∙ e ∙ ap (λ (x : List ℕ). x ++ more) (two_parts (format other) (pad (length (format other)))) ∙ append_assoc (format other) (pad (length (format other))) more in
                let same = is.same s.name other s.behind (pad (length (format other)) ++ more) s.fit h both in
                u.apart more (same.1 ∙ ap (λ (n : List ℕ). pad (length (format n)) ++ more) (sym same.0));
            one = λ other more h e.
                (is.same other s.name more s.behind h s.fit (sym (ap (λ (x : List ℕ). x ++ more) (one_part (format other))) ∙ sym e ∙ s.front)).1;
          })
    ]

-- ---- a long name

pub record LongFits (next : Option ℕ) (place : ℕ) (name : List ℕ) : Type 0 where
  pub short : length name < 256
  pub leads : leads_to place (length name) next ≡ true

pub long_format : (next : Option ℕ) (place : ℕ) → IsFormat long_name_bytes (LongFits next place)
long_format next place = record {
  same = λ a b x y ha hb e.
      let len : length a ≡ length b = cc in
      let rest : a ++ x ≡ b ++ y = cc in
      same_front a b x y len rest;
}

long_none : (next : Option ℕ) (place : ℕ) → long_name_at next place [] ≡ Err place
unfolding long_name_at
long_none next place = refl

long_yes : (next : Option ℕ) (place count : ℕ) (rest : List ℕ) → count ≤ length rest → leads_to place count next ≡ true
    → long_name_at next place (count ∷ rest) ≡ then_pad (1 + count) place (take count rest) (drop count rest)
unfolding long_name_at
long_yes next place count rest len leads = rw (le-leb count (length rest) len, leads) refl

long_no : (next : Option ℕ) (place count : ℕ) (rest : List ℕ) → (leb count (length rest) && leads_to place count next) ≡ false → long_name_at next place (count ∷ rest) ≡ Err place
unfolding long_name_at
long_no next place count rest h = rw h refl

long_apart : (next : Option ℕ) (place count : ℕ) (rest name behind : List ℕ) → (leb count (length rest) && leads_to place count next) ≡ false
    → LongFits next place name → count ∷ rest ≡ long_name_bytes name ++ behind → ⊥
long_apart next place count rest name behind no' h e =
    let same : count ≡ length name = cc in
    let tail : rest ≡ name ++ behind = cc in
    let len : count ≤ length rest = omega (arith, ap (length {A = ℕ}) tail, length-append name behind) in
    let leads : leads_to place count next ≡ true = ap (λ (n : ℕ). leads_to place n next) same ∙ h.leads in
    let both : (leb count (length rest) && leads_to place count next) ≡ true = and_from (leb count (length rest)) (leads_to place count next) (le-leb count (length rest) len) leads in
    absurd cc

-- the same reading, where a count is a length
sized : (count len place : ℕ) (name behind : List ℕ) → count ≡ len → then_pad (1 + count) place name behind ≡ then_pad (suc len) place name behind
sized count len place name behind e =
    let n : 1 + count ≡ suc len = omega arith in
    ap (λ (k : ℕ). then_pad k place name behind) n

pub long_cases : (next : Option ℕ) (place : ℕ) (rest : List ℕ) → IsBytes rest
    → Stands long_name_bytes (LongFits next place) place rest (long_name_at next place rest) ⊎ Lacks long_name_bytes (LongFits next place) place rest (long_name_at next place rest)
long_cases next place [] b = inr (record { apart = λ name behind h e. absurd cc; gives = long_none next place })
long_cases next place (count ∷ rest) b =
    elim (cases_Bool (leb count (length rest) && leads_to place count next)) [
      | inl yes' ↦
          let p = and_parts (leb count (length rest)) (leads_to place count next) yes' in
          let len : count ≤ length rest = leb-true count (length rest) p.0 in
          let name : List ℕ = take count rest in
          let size : length name ≡ count = length-take-le count rest len in
          inl (record {
            name = name;
            behind = drop count rest;
            fit = record { short = (let lt : count < 256 = b 0 in omega arith); leads = ap (λ (n : ℕ). leads_to place n next) size ∙ p.1 };
            front = ap (λ (n : ℕ). n ∷ rest) (sym size) ∙ ap (λ (x : List ℕ). length name ∷ x) (sym (take-append-drop count rest));
            gives = long_yes next place count rest len p.1 ∙ sized count (length name) place name (drop count rest) (sym size);
          })
      | inr no' ↦ inr (record { apart = λ name behind h e. long_apart next place count rest name behind no' h e; gives = long_no next place count rest no' })
    ]

-- ---- a UTF-8 name

abbrev pub Utf8Fits : List ℕ → Type 0
Utf8Fits name = length name < 65536

utf8_front : (name x : List ℕ) → utf8_name_bytes name ++ x ≡ replicate 4 0 ++ (big_bytes 2 (length name) ++ (name ++ x))
utf8_front name x = append_assoc (replicate 4 0 ++ big_bytes 2 (length name)) name x ∙ append_assoc (replicate 4 0) (big_bytes 2 (length name)) (name ++ x)

pub utf8_format : IsFormat utf8_name_bytes Utf8Fits
utf8_format = record {
  same = λ a b x y ha hb e.
      let whole : replicate 4 0 ++ (big_bytes 2 (length a) ++ (a ++ x)) ≡ replicate 4 0 ++ (big_bytes 2 (length b) ++ (b ++ y)) = sym (utf8_front a x) ∙ e ∙ utf8_front b y in
      let counts = same_front (replicate 4 0) (replicate 4 0) (big_bytes 2 (length a) ++ (a ++ x)) (big_bytes 2 (length b) ++ (b ++ y)) refl whole in
      let parts = same_front (big_bytes 2 (length a)) (big_bytes 2 (length b)) (a ++ x) (b ++ y) (length-big_bytes 2 (length a) ∙ sym (length-big_bytes 2 (length b))) counts.1 in
      let na : big_number 2 (big_bytes 2 (length a) ++ (a ++ x)) ≡ length a = front_number 2 (length a) (big_bytes 2 (length a) ++ (a ++ x)) (a ++ x) refl (omega arith) in
      let nb : big_number 2 (big_bytes 2 (length b) ++ (b ++ y)) ≡ length b = front_number 2 (length b) (big_bytes 2 (length b) ++ (b ++ y)) (b ++ y) refl (omega arith) in
      same_front a b x y (sym na ∙ ap (big_number 2) counts.1 ∙ nb) parts.1;
}

abbrev Head : Spot → Bool
Head spot = leb 6 (length spot.1) && eqb (big_number 4 spot.1) 0

utf8_yes : (spot : Spot) → Head spot ≡ true → utf8_name_at spot ≡ utf8_text_at (big_number 2 (drop 4 spot.1)) spot
unfolding utf8_name_at
utf8_yes spot h = rw h refl

utf8_no : (spot : Spot) → Head spot ≡ false → utf8_name_at spot ≡ Err spot.0
unfolding utf8_name_at
utf8_no spot h = rw h refl

text_yes : (count : ℕ) (spot : Spot) → count ≤ length (drop 6 spot.1)
    → utf8_text_at count spot ≡ then_pad (6 + count) spot.0 (take count (drop 6 spot.1)) (drop count (drop 6 spot.1))
unfolding utf8_text_at
text_yes count spot h =
    rw (le-leb count (length (drop 6 spot.1)) h) (ap (λ (rest : List ℕ). then_pad (6 + count) spot.0 (take count (drop 6 spot.1)) rest) (sym (drop-drop count 6 spot.1)))

text_no : (count : ℕ) (spot : Spot) → length (drop 6 spot.1) < count → utf8_text_at count spot ≡ Err spot.0
unfolding utf8_text_at
text_no count spot h = rw (lt-leb count (length (drop 6 spot.1)) h) refl

utf8_length : (name : List ℕ) → length (utf8_name_bytes name) ≡ 6 + length name
utf8_length name = omega (arith, length-append (replicate 4 0 ++ big_bytes 2 (length name)) name, length-append (replicate 4 0) (big_bytes 2 (length name)), length-big_bytes 2 (length name))

-- what a UTF-8 name that stands there shows
record Utf8Shows (rest name behind : List ℕ) : Type 0 where
  head : Head (0, rest) ≡ true
  count : big_number 2 (drop 4 rest) ≡ length name
  text : drop 6 rest ≡ name ++ behind

utf8_shows : (rest name behind : List ℕ) → length name < 65536 → rest ≡ utf8_name_bytes name ++ behind → Utf8Shows rest name behind
utf8_shows rest name behind lt e =
    let x : List ℕ = big_bytes 2 (length name) ++ (name ++ behind) in
    let front : rest ≡ replicate 4 0 ++ x = e ∙ utf8_front name behind in
    let four : drop 4 rest ≡ x = ap (drop 4) front in
    let len : 6 ≤ length rest = omega (arith, ap (length {A = ℕ}) front, length-append (replicate 4 0) x, length-append (big_bytes 2 (length name)) (name ++ behind), length-big_bytes 2 (length name)) in
    let zeros : big_number 4 rest ≡ 0 = front_number 4 0 rest x front (omega arith) in
    record {
      head = and_from (leb 6 (length rest)) (eqb (big_number 4 rest) 0) (le-leb 6 (length rest) len) (eq-eqb (big_number 4 rest) 0 zeros);
      count = front_number 2 (length name) (drop 4 rest) (name ++ behind) four (omega arith);
      text = sym (drop-drop 2 4 rest) ∙ ap (drop 2) four ∙ drop_at (big_bytes 2 (length name)) (name ++ behind) 2 (length-big_bytes 2 (length name));
    }

utf8_parts : (rest : List ℕ) → Head (0, rest) ≡ true → (6 ≤ length rest) × (big_number 4 rest ≡ 0)
utf8_parts rest h =
    let p = and_parts (leb 6 (length rest)) (eqb (big_number 4 rest) 0) h in
    (leb-true 6 (length rest) p.0, eqb-true (big_number 4 rest) 0 p.1)

utf8_stands : (place : ℕ) (rest : List ℕ) → IsBytes rest → Head (0, rest) ≡ true → big_number 2 (drop 4 rest) ≤ length (drop 6 rest)
    → Stands utf8_name_bytes Utf8Fits place rest (utf8_name_at (place, rest))
utf8_stands place rest b head len =
    let h = utf8_parts rest head in
    let long : 6 ≤ length rest = h.0 in
    let count : ℕ = big_number 2 (drop 4 rest) in
    let name : List ℕ = take count (drop 6 rest) in
    let behind : List ℕ = drop count (drop 6 rest) in
    let size : length name ≡ count = length-take-le count (drop 6 rest) len in
    let small : count < 65536 = (let lt : count < 256 ^ 2 = big_number-lt 2 (drop 4 rest) (IsBytes-drop 4 rest b) in omega arith) in
    let four : 2 ≤ length (drop 4 rest) = omega (arith, length-drop 4 rest) in
    let zeros : replicate 4 0 ≡ take 4 rest = zeros_are rest (omega arith) b h.1 in
    let two : big_bytes 2 count ≡ take 2 (drop 4 rest) = front_is 2 (drop 4 rest) four (IsBytes-drop 4 rest b) in
    let tail : drop 2 (drop 4 rest) ≡ drop 6 rest = drop-drop 2 4 rest in
    let split : rest ≡ replicate 4 0 ++ (big_bytes 2 count ++ (name ++ behind)) =
    sym (take-append-drop 4 rest)
    ∙ ap (λ (x : List ℕ). take 4 rest ++ x) (sym (take-append-drop 2 (drop 4 rest)))
    ∙ ap (λ (x : List ℕ). take 4 rest ++ (take 2 (drop 4 rest) ++ x)) (tail ∙ sym (take-append-drop count (drop 6 rest)))
    ∙ ap (λ (x : List ℕ). x ++ (take 2 (drop 4 rest) ++ (name ++ behind))) (sym zeros)
    ∙ ap (λ (x : List ℕ). replicate 4 0 ++ (x ++ (name ++ behind))) (sym two) in
    record {
      name = name;
      behind = behind;
      fit = omega arith;
      front = split ∙ ap (λ (n : ℕ). replicate 4 0 ++ (big_bytes 2 n ++ (name ++ behind))) (sym size) ∙ sym (utf8_front name behind);
      gives = utf8_yes (place, rest) head ∙ text_yes count (place, rest) len
          ∙ ap (λ (k : ℕ). then_pad k place name behind) (ap (λ (n : ℕ). 6 + n) (sym size) ∙ sym (utf8_length name));
    }

utf8_late : (rest name behind : List ℕ) → length (drop 6 rest) < big_number 2 (drop 4 rest) → Utf8Shows rest name behind → ⊥
utf8_late rest name behind less s =
    let len : length (drop 6 rest) ≡ length name + length behind = ap (length {A = ℕ}) s.text ∙ length-append name behind in
    let count = s.count in
    absurd (omega arith)

pub utf8_cases : (place : ℕ) (rest : List ℕ) → IsBytes rest
    → Stands utf8_name_bytes Utf8Fits place rest (utf8_name_at (place, rest)) ⊎ Lacks utf8_name_bytes Utf8Fits place rest (utf8_name_at (place, rest))
utf8_cases place rest b =
    elim (cases_Bool (Head (0, rest))) [
      | inr off ↦ inr (record {
        apart = λ name behind lt e. (let on = (utf8_shows rest name behind lt e).head in absurd cc);
        gives = utf8_no (place, rest) off;
      })
      | inl on ↦
          elim (cases_lt (length (drop 6 rest)) (big_number 2 (drop 4 rest))) [
            | inl less ↦ inr (record {
              apart = λ name behind lt e. utf8_late rest name behind less (utf8_shows rest name behind lt e);
              gives = utf8_yes (place, rest) on ∙ text_no (big_number 2 (drop 4 rest)) (place, rest) less;
            })
            | inr enough ↦ inl (utf8_stands place rest b on enough)
          ]
    ]
