-- The places of the names, written over zeros when the names are appended, are the sums of sizes.
use Rattle.std.proofs.Common.{◌≡◌, ℕ, ◌+◌, ◌%◌, ◌<◌, List, [], ◌∷◌, ◌++◌, length, drop, map, replicate, Option, Some, None, refl, sym, ap, subst, ◌∙◌, arith, append_assoc, length-append, inl, inr}
use Rattle.std.specs.Prelude.{MatchOption}
use Rattle.std.specs.List.{concat, AllByRecursion}
use Rattle.std.specs.Int.{w32, cast_unsigned}
use Rattle.std.proofs.lemmas.Bool.{cases_Bool}
use Rattle.std.proofs.lemmas.List.{take_at, drop_at, append-nil, length-replicate}
use Rattle.std.proofs.lemmas.List.Folds.{concat-append}
use Rattle.byteorder.specs.Endian.{big_bytes}
use Rattle.afp_bitmap.specs.Bits.{is_asked}
use Rattle.afp_bitmap.specs.Field.{Field, Number, Date, Finder, LongName, Utf8Name, fixed_size, fixed_bytes, long_name_bytes, utf8_name_bytes, pad_of, IsCountable}
use Rattle.afp_bitmap.specs.Params.{asked_of, parts, size_of_fixed_part}
use Rattle.afp_bitmap.specs.Table.{FieldRow}
use Rattle.afp_bitmap.specs.lemma.Writing.{NameSpot, NameSpots, no_spots, noted, all_noted, padded, patched, CanName, with_long_name, with_utf8_name, IsSized}
use Rattle.afp_bitmap.proofs.Asked.{asked_none, asked_yes, asked_no}
use Rattle.afp_bitmap.proofs.Formed.{NoNames, Late, Formed, late_formed}
use Rattle.afp_bitmap.proofs.Loops.{noted_none, noted_more}
use Rattle.afp_base.proofs.Numbers.{length-big_bytes}
use Rattle.afp_bitmap.proofs.Parts.{fixed_at, gap, long_in, utf8_in, opt, names_of, parts_formed}

-- ---- zeros in place of the places

zeros_at : (f : Field) → fixed_bytes 0 f ≡ fixed_at 0 0 f
zeros_at (Number n x) = refl
zeros_at (Date z) = refl
zeros_at (Finder info) = refl
zeros_at (LongName name) = refl
zeros_at (Utf8Name name) = refl

zeros_are : (fs : List Field) → concat (map (fixed_bytes 0) fs) ≡ concat (map (fixed_at 0 0) fs)
zeros_are [] = refl
zeros_are (f ∷ fs) = ap (λ (x : List ℕ). x ++ concat (map (fixed_bytes 0) fs)) (zeros_at f) ∙ ap (λ (x : List ℕ). fixed_at 0 0 f ++ x) (zeros_are fs)

pub sized_asked : (bits : ℕ) (rs : List FieldRow) → AllByRecursion (λ r. IsSized r.1) rs → AllByRecursion IsSized (asked_of bits rs)
sized_asked bits [] h = rw (asked_none bits) tt
sized_asked bits (r ∷ rs) h =
    elim (cases_Bool (is_asked bits r.0)) [
      | inl on ↦ rw (asked_yes bits r rs on) (h.0, sized_asked bits rs h.1)
      | inr off ↦ rw (asked_no bits r rs off) (sized_asked bits rs h.1)
    ]

sized : (p q : ℕ) (f : Field) → IsSized f → length (fixed_at p q f) ≡ fixed_size f
sized p q (Number n x) h = length-big_bytes n x
sized p q (Date z) h = length-big_bytes 4 (cast_unsigned w32 z)
sized p q (Finder info) h = h
sized p q (LongName name) h = length-big_bytes 2 p
sized p q (Utf8Name name) h = omega (arith, length-append (big_bytes 2 q) (replicate 4 0), length-big_bytes 2 q)

total : (p q : ℕ) (fs : List Field) → AllByRecursion IsSized fs → length (concat (map (fixed_at p q) fs)) ≡ size_of_fixed_part fs
total p q [] h = refl
total p q (f ∷ fs) h =
    let a = sized p q f h.0 in
    let b = total p q fs h.1 in
    let c = length-append (fixed_at p q f) (concat (map (fixed_at p q) fs)) in
    omega arith

-- ---- where the places are to be written

abbrev pick_spot : Option NameSpot → Option NameSpot → Option NameSpot
pick_spot None o = o
pick_spot (Some x) o = Some x

abbrev long_here : ℕ → Field → Option NameSpot
long_here at (LongName name) = Some (at, name)
long_here at f = None

abbrev utf8_here : ℕ → Field → Option NameSpot
utf8_here at (Utf8Name name) = Some (at, name)
utf8_here at f = None

abbrev long_spot : ℕ → List Field → Option NameSpot
long_spot at [] = None
long_spot at (f ∷ fs) = pick_spot (long_here at f) (long_spot (at + length (fixed_bytes 0 f)) fs)

abbrev utf8_spot : ℕ → List Field → Option NameSpot
utf8_spot at [] = None
utf8_spot at (f ∷ fs) = pick_spot (utf8_here at f) (utf8_spot (at + length (fixed_bytes 0 f)) fs)

spot_no_names : (at : ℕ) (fs : List Field) → NoNames fs → long_spot at fs ≡ None
spot_no_names at [] h = refl
spot_no_names at (Number n x ∷ fs) h = spot_no_names (at + length (big_bytes n x)) fs h
spot_no_names at (Date z ∷ fs) h = spot_no_names (at + length (big_bytes 4 (cast_unsigned w32 z))) fs h
spot_no_names at (Finder info ∷ fs) h = spot_no_names (at + length info) fs h
spot_no_names at (LongName name ∷ fs) h = absurd h
spot_no_names at (Utf8Name name ∷ fs) h = absurd h

noted_no_names : (at : ℕ) (fs : List Field) (s : NameSpots) → NoNames fs → all_noted at fs s ≡ s
noted_no_names at [] s h = noted_none at s
noted_no_names at (Number n x ∷ fs) s h = noted_more at (Number n x) fs s ∙ noted_no_names (at + length (big_bytes n x)) fs s h
noted_no_names at (Date z ∷ fs) s h = noted_more at (Date z) fs s ∙ noted_no_names (at + length (big_bytes 4 (cast_unsigned w32 z))) fs s h
noted_no_names at (Finder info ∷ fs) s h = noted_more at (Finder info) fs s ∙ noted_no_names (at + length info) fs s h
noted_no_names at (LongName name ∷ fs) s h = absurd h
noted_no_names at (Utf8Name name ∷ fs) s h = absurd h

noted_late : (at : ℕ) (fs : List Field) (s : NameSpots) → Late fs → s.utf8_name ≡ None → all_noted at fs s ≡ record { long_name = s.long_name; utf8_name = utf8_spot at fs }
noted_late at [] s h e =
    let spots : Option NameSpot → NameSpots = λ o. record { long_name = s.long_name; utf8_name = o } in
    noted_none at s ∙ ap spots e
noted_late at (Number n x ∷ fs) s h e = noted_more at (Number n x) fs s ∙ noted_late (at + length (big_bytes n x)) fs s h e
noted_late at (Date z ∷ fs) s h e = noted_more at (Date z) fs s ∙ noted_late (at + length (big_bytes 4 (cast_unsigned w32 z))) fs s h e
noted_late at (Finder info ∷ fs) s h e = noted_more at (Finder info) fs s ∙ noted_late (at + length info) fs s h e
noted_late at (LongName name ∷ fs) s h e = absurd h
noted_late at (Utf8Name name ∷ fs) s h e = noted_more at (Utf8Name name) fs s ∙ noted_no_names (at + length (fixed_bytes 0 (Utf8Name name))) fs (noted at (Utf8Name name) s) h

noted_formed : (at : ℕ) (fs : List Field) → Formed fs → all_noted at fs no_spots ≡ record { long_name = long_spot at fs; utf8_name = utf8_spot at fs }
noted_formed at [] h = noted_none at no_spots
noted_formed at (Number n x ∷ fs) h = noted_more at (Number n x) fs no_spots ∙ noted_formed (at + length (big_bytes n x)) fs h
noted_formed at (Date z ∷ fs) h = noted_more at (Date z) fs no_spots ∙ noted_formed (at + length (big_bytes 4 (cast_unsigned w32 z))) fs h
noted_formed at (Finder info ∷ fs) h = noted_more at (Finder info) fs no_spots ∙ noted_formed (at + length info) fs h
noted_formed at (LongName name ∷ fs) h = noted_more at (LongName name) fs no_spots ∙ noted_late (at + length (big_bytes 2 0)) fs (noted at (LongName name) no_spots) h refl
noted_formed at (Utf8Name name ∷ fs) h =
    let next : ℕ = at + length (fixed_bytes 0 (Utf8Name name)) in
    let none = spot_no_names next fs h in
    let spots : Option NameSpot → NameSpots = λ o. record { long_name = o; utf8_name = Some (at, name) } in
    noted_more at (Utf8Name name) fs no_spots ∙ noted_no_names next fs (noted at (Utf8Name name) no_spots) h ∙ ap spots (sym none)

-- ---- the bytes round a place

plain_same : (a b c d : ℕ) (fs : List Field) → NoNames fs → concat (map (fixed_at a b) fs) ≡ concat (map (fixed_at c d) fs)
plain_same a b c d [] h = refl
plain_same a b c d (Number n x ∷ fs) h = ap (λ (y : List ℕ). big_bytes n x ++ y) (plain_same a b c d fs h)
plain_same a b c d (Date z ∷ fs) h = ap (λ (y : List ℕ). big_bytes 4 (cast_unsigned w32 z) ++ y) (plain_same a b c d fs h)
plain_same a b c d (Finder info ∷ fs) h = ap (λ (y : List ℕ). info ++ y) (plain_same a b c d fs h)
plain_same a b c d (LongName name ∷ fs) h = absurd h
plain_same a b c d (Utf8Name name ∷ fs) h = absurd h

late_same : (a b c : ℕ) (fs : List Field) → Late fs → concat (map (fixed_at a b) fs) ≡ concat (map (fixed_at c b) fs)
late_same a b c [] h = refl
late_same a b c (Number n x ∷ fs) h = ap (λ (y : List ℕ). big_bytes n x ++ y) (late_same a b c fs h)
late_same a b c (Date z ∷ fs) h = ap (λ (y : List ℕ). big_bytes 4 (cast_unsigned w32 z) ++ y) (late_same a b c fs h)
late_same a b c (Finder info ∷ fs) h = ap (λ (y : List ℕ). info ++ y) (late_same a b c fs h)
late_same a b c (LongName name ∷ fs) h = absurd h
late_same a b c (Utf8Name name ∷ fs) h = ap (λ (y : List ℕ). (big_bytes 2 b ++ replicate 4 0) ++ y) (plain_same a b c b fs h)

record LongSplit (at : ℕ) (fs : List Field) (s : NameSpot) : Type 0 where
  pre : List ℕ
  post : ℕ → List ℕ
  place : s.0 ≡ at + length pre
  name : long_in fs ≡ Some s.1
  is : (a b : ℕ) → concat (map (fixed_at a b) fs) ≡ pre ++ (big_bytes 2 a ++ post b)

long_behind : (at : ℕ) (front : List ℕ) (fs : List Field) (s : NameSpot) (f : Field) → long_in (f ∷ fs) ≡ long_in fs → ((a b : ℕ) → fixed_at a b f ≡ front) → LongSplit (at + length front) fs s → LongSplit at (f ∷ fs) s
long_behind at front fs s f same is h = record {
  pre = front ++ h.pre;
  post = h.post;
  place = (let p = h.place in let len = length-append front h.pre in omega arith);
  name = same ∙ h.name;
  is = λ a b. ap (λ (x : List ℕ). x ++ concat (map (fixed_at a b) fs)) (is a b) ∙ ap (λ (x : List ℕ). front ++ x) (h.is a b) ∙ sym (append_assoc front h.pre (big_bytes 2 a ++ h.post b));
}

long_split : (at : ℕ) (fs : List Field) (s : NameSpot) → Formed fs → long_spot at fs ≡ Some s → LongSplit at fs s
long_split at [] s h e = absurd cc
long_split at (Number n x ∷ fs) s h e = long_behind at (big_bytes n x) fs s (Number n x) refl (λ a b. refl) (long_split (at + length (big_bytes n x)) fs s h e)
long_split at (Date z ∷ fs) s h e =
    long_behind at (big_bytes 4 (cast_unsigned w32 z)) fs s (Date z) refl (λ a b. refl) (long_split (at + length (big_bytes 4 (cast_unsigned w32 z))) fs s h e)
long_split at (Finder info ∷ fs) s h e = long_behind at info fs s (Finder info) refl (λ a b. refl) (long_split (at + length info) fs s h e)
long_split at (LongName name ∷ fs) s h e =
    let here : (at, name) ≡ s = cc in
    let P : NameSpot → Type 0 = λ t. LongSplit at (LongName name ∷ fs) t in
    subst P here (record {
      pre = [];
      post = λ b. concat (map (fixed_at 0 b) fs);
      place = omega arith;
      name = refl;
      is = λ a b. ap (λ (x : List ℕ). big_bytes 2 a ++ x) (late_same a b 0 fs h);
    })
long_split at (Utf8Name name ∷ fs) s h e = let none = spot_no_names (at + length (fixed_bytes 0 (Utf8Name name))) fs h in absurd cc

record Utf8Split (at : ℕ) (fs : List Field) (s : NameSpot) : Type 0 where
  pre : ℕ → List ℕ
  post : List ℕ
  place : (a : ℕ) → s.0 ≡ at + length (pre a)
  name : utf8_in fs ≡ Some s.1
  is : (a b : ℕ) → concat (map (fixed_at a b) fs) ≡ pre a ++ (big_bytes 2 b ++ post)

utf8_behind : (at : ℕ) (front : ℕ → List ℕ) (size : ℕ) (fs : List Field) (s : NameSpot) (f : Field) → utf8_in (f ∷ fs) ≡ utf8_in fs → ((a : ℕ) → length (front a) ≡ size) → ((a b : ℕ) → fixed_at a b f ≡ front a)
    → Utf8Split (at + size) fs s → Utf8Split at (f ∷ fs) s
utf8_behind at front size fs s f same len is h = record {
  pre = λ a. front a ++ h.pre a;
  post = h.post;
  place = λ a. (let p = h.place a in let l = len a in let both = length-append (front a) (h.pre a) in omega arith);
  name = same ∙ h.name;
  is = λ a b. ap (λ (x : List ℕ). x ++ concat (map (fixed_at a b) fs)) (is a b) ∙ ap (λ (x : List ℕ). front a ++ x) (h.is a b) ∙ sym (append_assoc (front a) (h.pre a) (big_bytes 2 b ++ h.post));
}

utf8_split : (at : ℕ) (fs : List Field) (s : NameSpot) → Formed fs → utf8_spot at fs ≡ Some s → Utf8Split at fs s
utf8_split at [] s h e = absurd cc
utf8_split at (Number n x ∷ fs) s h e =
    utf8_behind at (λ a. big_bytes n x) (length (big_bytes n x)) fs s (Number n x) refl (λ a. refl) (λ a b. refl) (utf8_split (at + length (big_bytes n x)) fs s h e)
utf8_split at (Date z ∷ fs) s h e =
    utf8_behind at (λ a. big_bytes 4 (cast_unsigned w32 z)) (length (big_bytes 4 (cast_unsigned w32 z))) fs s (Date z) refl (λ a. refl) (λ a b. refl) (utf8_split (at + length (big_bytes 4 (cast_unsigned w32 z))) fs s h e)
utf8_split at (Finder info ∷ fs) s h e = utf8_behind at (λ a. info) (length info) fs s (Finder info) refl (λ a. refl) (λ a b. refl) (utf8_split (at + length info) fs s h e)
utf8_split at (LongName name ∷ fs) s h e =
    utf8_behind at (λ a. big_bytes 2 a) (length (big_bytes 2 0)) fs s (LongName name) refl (λ a. refl) (λ a b. refl) (utf8_split (at + length (big_bytes 2 0)) fs s (late_formed fs h) e)
utf8_split at (Utf8Name name ∷ fs) s h e =
    let here : (at, name) ≡ s = cc in
    let P : NameSpot → Type 0 = λ t. Utf8Split at (Utf8Name name ∷ fs) t in
    subst P here (record {
      pre = λ a. [];
      post = replicate 4 0 ++ concat (map (fixed_at 0 0) fs);
      place = λ a. omega arith;
      name = refl;
      is = λ a b. append_assoc (big_bytes 2 b) (replicate 4 0) (concat (map (fixed_at a b) fs)) ∙ ap (λ (x : List ℕ). big_bytes 2 b ++ (replicate 4 0 ++ x)) (plain_same a b 0 0 fs h);
    })

-- no long name to write is none at all
record LongNone (fs : List Field) : Type 0 where
  name : long_in fs ≡ None
  same : (a b c : ℕ) → concat (map (fixed_at a b) fs) ≡ concat (map (fixed_at c b) fs)

long_front : (fs : List Field) (f : Field) → long_in (f ∷ fs) ≡ long_in fs → ((a b c : ℕ) → fixed_at a b f ≡ fixed_at c b f) → LongNone fs → LongNone (f ∷ fs)
long_front fs f none here h = record {
  name = none ∙ h.name;
  same = λ a b c. ap (λ (x : List ℕ). x ++ concat (map (fixed_at a b) fs)) (here a b c) ∙ ap (λ (x : List ℕ). fixed_at c b f ++ x) (h.same a b c);
}

long_none : (at : ℕ) (fs : List Field) → long_spot at fs ≡ None → LongNone fs
long_none at [] e = record { name = refl; same = λ a b c. refl }
long_none at (Number n x ∷ fs) e = long_front fs (Number n x) refl (λ a b c. refl) (long_none (at + length (big_bytes n x)) fs e)
long_none at (Date z ∷ fs) e = long_front fs (Date z) refl (λ a b c. refl) (long_none (at + length (big_bytes 4 (cast_unsigned w32 z))) fs e)
long_none at (Finder info ∷ fs) e = long_front fs (Finder info) refl (λ a b c. refl) (long_none (at + length info) fs e)
long_none at (LongName name ∷ fs) e = absurd cc
long_none at (Utf8Name name ∷ fs) e = long_front fs (Utf8Name name) refl (λ a b c. refl) (long_none (at + length (fixed_bytes 0 (Utf8Name name))) fs e)

record Utf8None (fs : List Field) : Type 0 where
  name : utf8_in fs ≡ None
  same : (a b c : ℕ) → concat (map (fixed_at a b) fs) ≡ concat (map (fixed_at a c) fs)

utf8_front : (fs : List Field) (f : Field) → utf8_in (f ∷ fs) ≡ utf8_in fs → ((a b c : ℕ) → fixed_at a b f ≡ fixed_at a c f) → Utf8None fs → Utf8None (f ∷ fs)
utf8_front fs f none here h = record {
  name = none ∙ h.name;
  same = λ a b c. ap (λ (x : List ℕ). x ++ concat (map (fixed_at a b) fs)) (here a b c) ∙ ap (λ (x : List ℕ). fixed_at a c f ++ x) (h.same a b c);
}

utf8_none : (at : ℕ) (fs : List Field) → utf8_spot at fs ≡ None → Utf8None fs
utf8_none at [] e = record { name = refl; same = λ a b c. refl }
utf8_none at (Number n x ∷ fs) e = utf8_front fs (Number n x) refl (λ a b c. refl) (utf8_none (at + length (big_bytes n x)) fs e)
utf8_none at (Date z ∷ fs) e = utf8_front fs (Date z) refl (λ a b c. refl) (utf8_none (at + length (big_bytes 4 (cast_unsigned w32 z))) fs e)
utf8_none at (Finder info ∷ fs) e = utf8_front fs (Finder info) refl (λ a b c. refl) (utf8_none (at + length info) fs e)
utf8_none at (LongName name ∷ fs) e = utf8_front fs (LongName name) refl (λ a b c. refl) (utf8_none (at + length (big_bytes 2 0)) fs e)
utf8_none at (Utf8Name name ∷ fs) e = absurd cc

-- ---- the two patches

patched_at : (pre post : List ℕ) (at old new : ℕ) → length pre ≡ at → patched at new (pre ++ (big_bytes 2 old ++ post)) ≡ pre ++ (big_bytes 2 new ++ post)
patched_at pre post at old new len =
    let rest : List ℕ = big_bytes 2 old ++ post in
    let tail : drop at (pre ++ rest) ≡ rest = drop_at pre rest at len in
    ap (λ (x : List ℕ). x ++ (big_bytes 2 new ++ drop 2 (drop at (pre ++ rest)))) (take_at pre rest at len)
    ∙ ap (λ (x : List ℕ). pre ++ (big_bytes 2 new ++ x)) (ap (drop 2) tail ∙ drop_at (big_bytes 2 old) post 2 (length-big_bytes 2 old))

opt_padded : (format : List ℕ → List ℕ) (name : List ℕ) → padded (format name) ≡ concat (opt format (Some name))
opt_padded format name = sym (ap (λ (x : List ℕ). format name ++ x) (append-nil (pad_of (format name))))

-- the fixed part with the first name's place, and the long name
long_written : (fs : List Field) (o : Option NameSpot) → Formed fs → AllByRecursion IsSized fs → long_spot 0 fs ≡ o
    → with_long_name o (concat (map (fixed_at 0 0) fs)) ≡ concat (map (fixed_at (size_of_fixed_part fs) 0) fs) ++ concat (opt long_name_bytes (long_in fs))
long_written fs None h z e =
    let n = long_none 0 fs e in
    n.same 0 0 (size_of_fixed_part fs) ∙ sym (append-nil (concat (map (fixed_at (size_of_fixed_part fs) 0) fs)))
    ∙ ap (λ (o : Option (List ℕ)). concat (map (fixed_at (size_of_fixed_part fs) 0) fs) ++ concat (opt long_name_bytes o)) (sym n.name)
long_written fs (Some s) h z e =
    let p = long_split 0 fs s h e in
    let first : ℕ = size_of_fixed_part fs in
    let zeros : List ℕ = concat (map (fixed_at 0 0) fs) in
    let place = p.place in
    let patch : patched s.0 (length zeros) zeros ≡ concat (map (fixed_at first 0) fs) =
    ap (λ (n : ℕ). patched s.0 n zeros) (total 0 0 fs z) ∙ ap (patched s.0 first) (p.is 0 0) ∙ patched_at p.pre (p.post 0) s.0 0 first (omega arith) ∙ sym (p.is first 0) in
    ap (λ (x : List ℕ). x ++ padded (long_name_bytes s.1)) patch
    ∙ ap (λ (x : List ℕ). concat (map (fixed_at first 0) fs) ++ x) (opt_padded long_name_bytes s.1)
    ∙ ap (λ (o : Option (List ℕ)). concat (map (fixed_at first 0) fs) ++ concat (opt long_name_bytes o)) (sym p.name)

pub opt_gap : (o : Option (List ℕ)) → length (concat (opt long_name_bytes o)) ≡ gap o
opt_gap None = refl
opt_gap (Some name) =
    let pad : List ℕ = pad_of (long_name_bytes name) in
    let a = length-append (long_name_bytes name) (pad ++ []) in
    let b = length-append pad [] in
    let c = length-replicate {A = ℕ} (length (long_name_bytes name) % 2) 0 in
    omega arith

-- and with the second name's place, and the UTF-8 name
utf8_written : (fs : List Field) (o : Option NameSpot) → Formed fs → AllByRecursion IsSized fs → utf8_spot 0 fs ≡ o
    → with_utf8_name o (concat (map (fixed_at (size_of_fixed_part fs) 0) fs) ++ concat (opt long_name_bytes (long_in fs)))
    ≡ concat (map (fixed_at (size_of_fixed_part fs) (size_of_fixed_part fs + gap (long_in fs))) fs) ++ concat (names_of (long_in fs) (utf8_in fs))
utf8_written fs None h z e =
    let n = utf8_none 0 fs e in
    let first : ℕ = size_of_fixed_part fs in
    let q : ℕ = first + gap (long_in fs) in
    let long : List (List ℕ) = opt long_name_bytes (long_in fs) in
    ap (λ (x : List ℕ). x ++ concat long) (n.same first 0 q)
    ∙ ap (λ (x : List ℕ). concat (map (fixed_at first q) fs) ++ x) (sym (append-nil (concat long)) ∙ ap (λ (o : Option (List ℕ)). concat long ++ concat (opt utf8_name_bytes o)) (sym n.name)
    ∙ sym (concat-append long (opt utf8_name_bytes (utf8_in fs))))
utf8_written fs (Some s) h z e =
    let p = utf8_split 0 fs s h e in
    let first : ℕ = size_of_fixed_part fs in
    let q : ℕ = first + gap (long_in fs) in
    let long : List ℕ = concat (opt long_name_bytes (long_in fs)) in
    let old : List ℕ = concat (map (fixed_at first 0) fs) ++ long in
    let size : length old ≡ q = (let a = total first 0 fs z in let b = opt_gap (long_in fs) in let c = length-append (concat (map (fixed_at first 0) fs)) long in omega arith) in
    let place = p.place first in
    let split : (b : ℕ) → concat (map (fixed_at first b) fs) ++ long ≡ p.pre first ++ (big_bytes 2 b ++ (p.post ++ long)) = λ b.
    ap (λ (x : List ℕ). x ++ long) (p.is first b) ∙ append_assoc (p.pre first) (big_bytes 2 b ++ p.post) long ∙ ap (λ (x : List ℕ). p.pre first ++ x) (append_assoc (big_bytes 2 b) p.post long) in
    let patch : patched s.0 (length old) old ≡ concat (map (fixed_at first q) fs) ++ long =
    ap (λ (n : ℕ). patched s.0 n old) size ∙ ap (patched s.0 q) (split 0) ∙ patched_at (p.pre first) (p.post ++ long) s.0 0 q (omega arith) ∙ sym (split q) in
    ap (λ (x : List ℕ). x ++ padded (utf8_name_bytes s.1)) patch
    ∙ append_assoc (concat (map (fixed_at first q) fs)) long (padded (utf8_name_bytes s.1))
    ∙ ap (λ (x : List ℕ). concat (map (fixed_at first q) fs) ++ (long ++ x)) (opt_padded utf8_name_bytes s.1)
    ∙ ap (λ (o : Option (List ℕ)). concat (map (fixed_at first q) fs) ++ (long ++ concat (opt utf8_name_bytes o))) (sym p.name)
    ∙ ap (λ (x : List ℕ). concat (map (fixed_at first q) fs) ++ x) (sym (concat-append (opt long_name_bytes (long_in fs)) (opt utf8_name_bytes (utf8_in fs))))

-- ---- what the writer needs

abbrev Counted : ℕ → Option (List ℕ) → Type 0
Counted limit o = MatchOption o (Unit {0}) (λ name. length name < limit)

long_counted : (fs : List Field) → AllByRecursion IsCountable fs → Counted 256 (long_in fs)
long_counted [] h = tt
long_counted (Number n x ∷ fs) h = long_counted fs h.1
long_counted (Date z ∷ fs) h = long_counted fs h.1
long_counted (Finder info ∷ fs) h = long_counted fs h.1
long_counted (LongName name ∷ fs) h = h.0
long_counted (Utf8Name name ∷ fs) h = long_counted fs h.1

utf8_counted : (fs : List Field) → AllByRecursion IsCountable fs → Counted 65536 (utf8_in fs)
utf8_counted [] h = tt
utf8_counted (Number n x ∷ fs) h = utf8_counted fs h.1
utf8_counted (Date z ∷ fs) h = utf8_counted fs h.1
utf8_counted (Finder info ∷ fs) h = utf8_counted fs h.1
utf8_counted (LongName name ∷ fs) h = utf8_counted fs h.1
utf8_counted (Utf8Name name ∷ fs) h = h.0

counted_at : (limit : ℕ) (o : Option (List ℕ)) (name : List ℕ) → o ≡ Some name → Counted limit o → length name < limit
counted_at limit o name e h = let k : Counted limit (Some name) = subst (Counted limit) e h in k

gap_small : (o : Option (List ℕ)) → Counted 256 o → gap o < 300
gap_small None h = omega arith
gap_small (Some name) h = let lt : length name < 256 = h in omega arith

can_long : (fs : List Field) (o : Option NameSpot) → Formed fs → AllByRecursion IsSized fs → AllByRecursion IsCountable fs → size_of_fixed_part fs < 65000 → long_spot 0 fs ≡ o
    → CanName 256 o (concat (map (fixed_at 0 0) fs))
can_long fs None h z k lt e = tt
can_long fs (Some s) h z k lt e =
    let p = long_split 0 fs s h e in
    let size = total 0 0 fs z in
    let place = p.place in
    let whole = ap (length {A = ℕ}) (p.is 0 0) in
    let a = length-append p.pre (big_bytes 2 0 ++ p.post 0) in
    let b = length-append (big_bytes 2 0) (p.post 0) in
    let c = length-big_bytes 2 0 in
    (counted_at 256 (long_in fs) s.1 p.name (long_counted fs k), omega arith, omega arith)

can_utf8 : (fs : List Field) (o : Option NameSpot) → Formed fs → AllByRecursion IsSized fs → AllByRecursion IsCountable fs → size_of_fixed_part fs < 65000 → utf8_spot 0 fs ≡ o
    → CanName 65536 o (concat (map (fixed_at (size_of_fixed_part fs) 0) fs) ++ concat (opt long_name_bytes (long_in fs)))
can_utf8 fs None h z k lt e = tt
can_utf8 fs (Some s) h z k lt e =
    let first : ℕ = size_of_fixed_part fs in
    let p = utf8_split 0 fs s h e in
    let size = total first 0 fs z in
    let place = p.place first in
    let whole = ap (length {A = ℕ}) (p.is first 0) in
    let a = length-append (p.pre first) (big_bytes 2 0 ++ p.post) in
    let b = length-append (big_bytes 2 0) p.post in
    let c = length-big_bytes 2 0 in
    let d = length-append (concat (map (fixed_at first 0) fs)) (concat (opt long_name_bytes (long_in fs))) in
    let g = opt_gap (long_in fs) in
    let small = gap_small (long_in fs) (long_counted fs k) in
    (counted_at 65536 (utf8_in fs) s.1 p.name (utf8_counted fs k), omega arith, omega arith)

-- ---- the writer's three steps

-- the fixed part with zeros stands, and its names are noted
pub record Begun (fs : List Field) (block : List ℕ) (spots : NameSpots) : Type 0 where
  pub formed : Formed fs
  pub sized_so : AllByRecursion IsSized fs
  pub countable : AllByRecursion IsCountable fs
  pub small : size_of_fixed_part fs < 65000
  pub block_is : block ≡ concat (map (fixed_bytes 0) fs)
  pub spots_are : spots ≡ all_noted 0 fs no_spots

begun_long : (fs : List Field) (block : List ℕ) (spots : NameSpots) → Begun fs block spots → long_spot 0 fs ≡ spots.long_name
begun_long fs block spots b = sym (ap (λ (s : NameSpots). s.long_name) (b.spots_are ∙ noted_formed 0 fs b.formed))

begun_utf8 : (fs : List Field) (block : List ℕ) (spots : NameSpots) → Begun fs block spots → utf8_spot 0 fs ≡ spots.utf8_name
begun_utf8 fs block spots b = sym (ap (λ (s : NameSpots). s.utf8_name) (b.spots_are ∙ noted_formed 0 fs b.formed))

pub can_begin : (fs : List Field) (block : List ℕ) (spots : NameSpots) → Begun fs block spots → CanName 256 spots.long_name block
can_begin fs block spots b =
    subst (CanName 256 spots.long_name) (sym (b.block_is ∙ zeros_are fs)) (can_long fs spots.long_name b.formed b.sized_so b.countable b.small (begun_long fs block spots b))

one_name : (fs : List Field) (block one : List ℕ) (spots : NameSpots) → Begun fs block spots → one ≡ with_long_name spots.long_name block
    → one ≡ concat (map (fixed_at (size_of_fixed_part fs) 0) fs) ++ concat (opt long_name_bytes (long_in fs))
one_name fs block one spots b e =
    e ∙ ap (with_long_name spots.long_name) (b.block_is ∙ zeros_are fs) ∙ long_written fs spots.long_name b.formed b.sized_so (begun_long fs block spots b)

pub can_go_on : (fs : List Field) (block one : List ℕ) (spots : NameSpots) → Begun fs block spots → one ≡ with_long_name spots.long_name block → CanName 65536 spots.utf8_name one
can_go_on fs block one spots b e =
    subst (CanName 65536 spots.utf8_name) (sym (one_name fs block one spots b e)) (can_utf8 fs spots.utf8_name b.formed b.sized_so b.countable b.small (begun_utf8 fs block spots b))

pub block_written : (fs : List Field) (block one two : List ℕ) (spots : NameSpots) → Begun fs block spots → one ≡ with_long_name spots.long_name block → two ≡ with_utf8_name spots.utf8_name one
    → two ≡ concat (parts fs)
block_written fs block one two spots b e g =
    let first : ℕ = size_of_fixed_part fs in
    let q : ℕ = first + gap (long_in fs) in
    g ∙ ap (with_utf8_name spots.utf8_name) (one_name fs block one spots b e) ∙ utf8_written fs spots.utf8_name b.formed b.sized_so (begun_utf8 fs block spots b)
    ∙ sym (concat-append (map (fixed_at first q) fs) (names_of (long_in fs) (utf8_in fs))) ∙ ap concat (sym (parts_formed first fs b.formed refl))
