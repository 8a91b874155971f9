-- The parts of a block: the fixed part with the places of the names, then the names.
use Rattle.std.proofs.Common.{◌≡◌, ℕ, ◌+◌, ◌%◌, List, [], ◌∷◌, ◌++◌, length, map, replicate, Option, Some, None, refl, ap, ◌∙◌, arith, add-zero}
use Rattle.std.specs.List.{flat_map}
use Rattle.byteorder.specs.Endian.{big_bytes}
use Rattle.std.specs.Int.{w32, cast_unsigned}
use Rattle.afp_bitmap.specs.Field.{Field, Number, Date, Finder, LongName, Utf8Name, name_parts, long_name_bytes, utf8_name_bytes, pad_of}
use Rattle.afp_bitmap.specs.Params.{name_size, fixed_parts, parts, size_of_fixed_part}
use Rattle.afp_bitmap.proofs.Formed.{NoNames, Late, Formed, long_name_size}

-- the size of a long name and its pad, where there is one
abbrev pub gap : Option (List ℕ) → ℕ
gap None = 0
gap (Some name) = 1 + length name + (1 + length name) % 2

-- the first of two that is there
abbrev pub pick : Option (List ℕ) → Option (List ℕ) → Option (List ℕ)
pick None o = o
pick (Some x) o = Some x

abbrev pub long_of : Field → Option (List ℕ)
long_of (LongName name) = Some name
long_of f = None

abbrev pub utf8_of : Field → Option (List ℕ)
utf8_of (Utf8Name name) = Some name
utf8_of f = None

abbrev pub long_in : List Field → Option (List ℕ)
long_in [] = None
long_in (f ∷ fs) = pick (long_of f) (long_in fs)

abbrev pub utf8_in : List Field → Option (List ℕ)
utf8_in [] = None
utf8_in (f ∷ fs) = pick (utf8_of f) (utf8_in fs)

pub no_names_long : (fs : List Field) → NoNames fs → long_in fs ≡ None
no_names_long [] h = refl
no_names_long (Number n x ∷ fs) h = no_names_long fs h
no_names_long (Date z ∷ fs) h = no_names_long fs h
no_names_long (Finder info ∷ fs) h = no_names_long fs h
no_names_long (LongName name ∷ fs) h = absurd h
no_names_long (Utf8Name name ∷ fs) h = absurd h

pub no_long : (fs : List Field) → Late fs → long_in fs ≡ None
no_long [] h = refl
no_long (Number n x ∷ fs) h = no_long fs h
no_long (Date z ∷ fs) h = no_long fs h
no_long (Finder info ∷ fs) h = no_long fs h
no_long (LongName name ∷ fs) h = absurd h
no_long (Utf8Name name ∷ fs) h = no_names_long fs h

pub no_utf8 : (fs : List Field) → NoNames fs → utf8_in fs ≡ None
no_utf8 [] h = refl
no_utf8 (Number n x ∷ fs) h = no_utf8 fs h
no_utf8 (Date z ∷ fs) h = no_utf8 fs h
no_utf8 (Finder info ∷ fs) h = no_utf8 fs h
no_utf8 (LongName name ∷ fs) h = absurd h
no_utf8 (Utf8Name name ∷ fs) h = absurd h

-- a field of the fixed part, where the long name stands at p and the UTF-8 name at q
abbrev pub fixed_at : ℕ → ℕ → Field → List ℕ
fixed_at p q (Number n x) = big_bytes n x
fixed_at p q (Date z) = big_bytes 4 (cast_unsigned w32 z)
fixed_at p q (Finder info) = info
fixed_at p q (LongName name) = big_bytes 2 p
fixed_at p q (Utf8Name name) = big_bytes 2 q ++ replicate 4 0

push : (x : List ℕ) {xs ys : List (List ℕ)} → xs ≡ ys → x ∷ xs ≡ x ∷ ys
push x e = ap (λ (r : List (List ℕ)). x ∷ r) e

fixed_plain : (place p q : ℕ) (fs : List Field) → NoNames fs → fixed_parts place fs ≡ map (fixed_at p q) fs
fixed_plain place p q [] h = refl
fixed_plain place p q (Number n x ∷ fs) h = push (big_bytes n x) (fixed_plain (place + 0) p q fs h)
fixed_plain place p q (Date z ∷ fs) h = push (big_bytes 4 (cast_unsigned w32 z)) (fixed_plain (place + 0) p q fs h)
fixed_plain place p q (Finder info ∷ fs) h = push info (fixed_plain (place + 0) p q fs h)
fixed_plain place p q (LongName name ∷ fs) h = absurd h
fixed_plain place p q (Utf8Name name ∷ fs) h = absurd h

fixed_late : (p q : ℕ) (fs : List Field) → Late fs → fixed_parts q fs ≡ map (fixed_at p q) fs
fixed_late p q [] h = refl
fixed_late p q (Number n x ∷ fs) h = push (big_bytes n x) (ap (λ (r : ℕ). fixed_parts r fs) (add-zero q) ∙ fixed_late p q fs h)
fixed_late p q (Date z ∷ fs) h = push (big_bytes 4 (cast_unsigned w32 z)) (ap (λ (r : ℕ). fixed_parts r fs) (add-zero q) ∙ fixed_late p q fs h)
fixed_late p q (Finder info ∷ fs) h = push info (ap (λ (r : ℕ). fixed_parts r fs) (add-zero q) ∙ fixed_late p q fs h)
fixed_late p q (LongName name ∷ fs) h = absurd h
fixed_late p q (Utf8Name name ∷ fs) h = push (big_bytes 2 q ++ replicate 4 0) (fixed_plain (q + name_size (Utf8Name name)) p q fs h)

pub fixed_formed : (p : ℕ) (fs : List Field) → Formed fs → fixed_parts p fs ≡ map (fixed_at p (p + gap (long_in fs))) fs
fixed_formed p [] h = refl
fixed_formed p (Number n x ∷ fs) h = push (big_bytes n x) (ap (λ (r : ℕ). fixed_parts r fs) (add-zero p) ∙ fixed_formed p fs h)
fixed_formed p (Date z ∷ fs) h = push (big_bytes 4 (cast_unsigned w32 z)) (ap (λ (r : ℕ). fixed_parts r fs) (add-zero p) ∙ fixed_formed p fs h)
fixed_formed p (Finder info ∷ fs) h = push info (ap (λ (r : ℕ). fixed_parts r fs) (add-zero p) ∙ fixed_formed p fs h)
fixed_formed p (LongName name ∷ fs) h =
    push (big_bytes 2 p) (ap (λ (r : ℕ). fixed_parts (p + r) fs) (long_name_size name) ∙ fixed_late p (p + gap (Some name)) fs h)
fixed_formed p (Utf8Name name ∷ fs) h =
    let q : p ≡ p + gap (long_in fs) = rw (no_names_long fs h) (omega arith) in
    let head : big_bytes 2 p ++ replicate 4 0 ≡ big_bytes 2 (p + gap (long_in fs)) ++ replicate 4 0 = ap (λ (r : ℕ). big_bytes 2 r ++ replicate 4 0) q in
    ap (λ (x : List ℕ). x ∷ fixed_parts (p + name_size (Utf8Name name)) fs) head
    ∙ push (big_bytes 2 (p + gap (long_in fs)) ++ replicate 4 0) (fixed_plain (p + name_size (Utf8Name name)) p (p + gap (long_in fs)) fs h)

-- a name and its pad, where there is one
abbrev pub opt : (List ℕ → List ℕ) → Option (List ℕ) → List (List ℕ)
opt format None = []
opt format (Some name) = format name ∷ pad_of (format name) ∷ []

-- the names
abbrev pub names_of : Option (List ℕ) → Option (List ℕ) → List (List ℕ)
names_of long utf8 = opt long_name_bytes long ++ opt utf8_name_bytes utf8

names_plain : (fs : List Field) → NoNames fs → flat_map name_parts fs ≡ []
names_plain [] h = refl
names_plain (Number n x ∷ fs) h = names_plain fs h
names_plain (Date z ∷ fs) h = names_plain fs h
names_plain (Finder info ∷ fs) h = names_plain fs h
names_plain (LongName name ∷ fs) h = absurd h
names_plain (Utf8Name name ∷ fs) h = absurd h

names_late : (fs : List Field) → Late fs → flat_map name_parts fs ≡ opt utf8_name_bytes (utf8_in fs)
names_late [] h = refl
names_late (Number n x ∷ fs) h = names_late fs h
names_late (Date z ∷ fs) h = names_late fs h
names_late (Finder info ∷ fs) h = names_late fs h
names_late (LongName name ∷ fs) h = absurd h
names_late (Utf8Name name ∷ fs) h = ap (λ (r : List (List ℕ)). name_parts (Utf8Name name) ++ r) (names_plain fs h)

names_formed : (fs : List Field) → Formed fs → flat_map name_parts fs ≡ names_of (long_in fs) (utf8_in fs)
names_formed [] h = refl
names_formed (Number n x ∷ fs) h = names_formed fs h
names_formed (Date z ∷ fs) h = names_formed fs h
names_formed (Finder info ∷ fs) h = names_formed fs h
names_formed (LongName name ∷ fs) h = ap (λ (r : List (List ℕ)). name_parts (LongName name) ++ r) (names_late fs h)
names_formed (Utf8Name name ∷ fs) h = rw (no_names_long fs h) (ap (λ (r : List (List ℕ)). name_parts (Utf8Name name) ++ r) (names_plain fs h))

-- the parts of the fields of a table
pub parts_formed : (p : ℕ) (fs : List Field) → Formed fs → size_of_fixed_part fs ≡ p
    → parts fs ≡ map (fixed_at p (p + gap (long_in fs))) fs ++ names_of (long_in fs) (utf8_in fs)
parts_formed p fs h size =
    ap (λ (r : ℕ). fixed_parts r fs ++ flat_map name_parts fs) size
    ∙ ap (λ (r : List (List ℕ)). r ++ flat_map name_parts fs) (fixed_formed p fs h)
    ∙ ap (λ (r : List (List ℕ)). map (fixed_at p (p + gap (long_in fs))) fs ++ r) (names_formed fs h)
