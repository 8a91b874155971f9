-- A name stands at its offset.
use Rattle.std.proofs.Common.{◌≡◌, ℕ, ◌+◌, ◌^◌, ◌<◌, ◌≤◌, List, [], ◌∷◌, ◌++◌, length, take, drop, map, replicate, Option, Some, None, refl, sym, ap, subst, ◌∙◌, arith, append_assoc, length-append}
use Rattle.std.specs.List.{concat, AllByRecursion}
use Rattle.std.proofs.lemmas.List.{take_at, drop_at}
use Rattle.std.proofs.lemmas.List.Folds.{concat-append}
use Rattle.byteorder.specs.Endian.{big_bytes, big_number}
use Rattle.afp_bitmap.specs.declared.params.Values.{Values}
use Rattle.afp_bitmap.specs.declared.params.Values.TheVariants.{Volume, File, Dir}
use Rattle.afp_bitmap.specs.Field.{Field, Number, Date, Finder, LongName, Utf8Name, IsTyped, long_name_bytes, utf8_name_bytes, pad_of}
use Rattle.afp_bitmap.specs.Offsets.{StandsAtOffset, LongNameStands, Utf8NameStands}
use Rattle.afp_bitmap.specs.Params.{asked_of, asked, parts, size_of_fixed_part, IsAnswer}
use Rattle.afp_bitmap.specs.Table.{FieldRow, volume_rows, file_rows, dir_rows, rows}
use Rattle.afp_bitmap.proofs.Asks.{sizes_are, fixed_total, typed_asked, long_countable}
use Rattle.afp_bitmap.proofs.Blocks.{fits_rows}
use Rattle.afp_bitmap.proofs.Formed.{NoNames, Late, Formed, formed_asked}
use Rattle.afp_bitmap.proofs.NamesAll.{OptFits}
use Rattle.afp_base.proofs.Numbers.{number_again}
use Rattle.afp_bitmap.proofs.Parts.{fixed_at, gap, long_in, utf8_in, opt, names_of, parts_formed}
use Rattle.afp_bitmap.proofs.Tables.{fits_countable, volume_formed, volume_fixed, volume_rows_is, file_formed, file_fixed, file_rows_is, dir_formed, dir_fixed, dir_rows_is}
use Rattle.afp_bitmap.proofs.Patches.{opt_gap}

-- ---- which name is the first of its sort

none_long : (before after : List Field) (name : List ℕ) → NoNames (before ++ (LongName name ∷ after)) → ⊥
none_long [] after name h = h
none_long (Number n x ∷ before) after name h = none_long before after name h
none_long (Date z ∷ before) after name h = none_long before after name h
none_long (Finder info ∷ before) after name h = none_long before after name h
none_long (LongName other ∷ before) after name h = h
none_long (Utf8Name other ∷ before) after name h = h

none_utf8 : (before after : List Field) (name : List ℕ) → NoNames (before ++ (Utf8Name name ∷ after)) → ⊥
none_utf8 [] after name h = h
none_utf8 (Number n x ∷ before) after name h = none_utf8 before after name h
none_utf8 (Date z ∷ before) after name h = none_utf8 before after name h
none_utf8 (Finder info ∷ before) after name h = none_utf8 before after name h
none_utf8 (LongName other ∷ before) after name h = h
none_utf8 (Utf8Name other ∷ before) after name h = h

late_long : (before after : List Field) (name : List ℕ) → Late (before ++ (LongName name ∷ after)) → ⊥
late_long [] after name h = h
late_long (Number n x ∷ before) after name h = late_long before after name h
late_long (Date z ∷ before) after name h = late_long before after name h
late_long (Finder info ∷ before) after name h = late_long before after name h
late_long (LongName other ∷ before) after name h = h
late_long (Utf8Name other ∷ before) after name h = none_long before after name h

long_found : (before after : List Field) (name : List ℕ) → Formed (before ++ (LongName name ∷ after)) → long_in (before ++ (LongName name ∷ after)) ≡ Some name
long_found [] after name h = refl
long_found (Number n x ∷ before) after name h = long_found before after name h
long_found (Date z ∷ before) after name h = long_found before after name h
long_found (Finder info ∷ before) after name h = long_found before after name h
long_found (LongName other ∷ before) after name h = absurd (late_long before after name h)
long_found (Utf8Name other ∷ before) after name h = absurd (none_long before after name h)

late_utf8 : (before after : List Field) (name : List ℕ) → Late (before ++ (Utf8Name name ∷ after)) → utf8_in (before ++ (Utf8Name name ∷ after)) ≡ Some name
late_utf8 [] after name h = refl
late_utf8 (Number n x ∷ before) after name h = late_utf8 before after name h
late_utf8 (Date z ∷ before) after name h = late_utf8 before after name h
late_utf8 (Finder info ∷ before) after name h = late_utf8 before after name h
late_utf8 (LongName other ∷ before) after name h = absurd h
late_utf8 (Utf8Name other ∷ before) after name h = absurd (none_utf8 before after name h)

utf8_found : (before after : List Field) (name : List ℕ) → Formed (before ++ (Utf8Name name ∷ after)) → utf8_in (before ++ (Utf8Name name ∷ after)) ≡ Some name
utf8_found [] after name h = refl
utf8_found (Number n x ∷ before) after name h = utf8_found before after name h
utf8_found (Date z ∷ before) after name h = utf8_found before after name h
utf8_found (Finder info ∷ before) after name h = utf8_found before after name h
utf8_found (LongName other ∷ before) after name h = late_utf8 before after name h
utf8_found (Utf8Name other ∷ before) after name h = absurd (none_utf8 before after name h)

-- ---- the fixed part

fixed_split : (p q : ℕ) (before after : List Field) (f : Field)
    → concat (map (fixed_at p q) (before ++ (f ∷ after))) ≡ concat (map (fixed_at p q) before) ++ (fixed_at p q f ++ concat (map (fixed_at p q) after))
fixed_split p q [] after f = refl
fixed_split p q (g ∷ before) after f =
    ap (λ (x : List ℕ). fixed_at p q g ++ x) (fixed_split p q before after f)
    ∙ sym (append_assoc (fixed_at p q g) (concat (map (fixed_at p q) before)) (fixed_at p q f ++ concat (map (fixed_at p q) after)))

typed_before : (before rest : List Field) → AllByRecursion IsTyped (before ++ rest) → AllByRecursion IsTyped before
typed_before [] rest h = tt
typed_before (f ∷ before) rest h = (h.0, typed_before before rest h.1)

fixed_size_is : (p q : ℕ) (fs : List Field) → AllByRecursion IsTyped fs → length (concat (map (fixed_at p q) fs)) ≡ size_of_fixed_part fs
fixed_size_is p q fs typed = fixed_total p q fs typed ∙ sym (sizes_are fs)

-- what stands in the block from a field on
from_field : (p q : ℕ) (before after : List Field) (f : Field) (names block : List ℕ) → AllByRecursion IsTyped before
    → block ≡ concat (map (fixed_at p q) (before ++ (f ∷ after))) ++ names
    → drop (size_of_fixed_part before) block ≡ fixed_at p q f ++ (concat (map (fixed_at p q) after) ++ names)
from_field p q before after f names block typed is =
    let front : List ℕ = concat (map (fixed_at p q) before) in
    let here : List ℕ = fixed_at p q f in
    let behind : List ℕ = concat (map (fixed_at p q) after) in
    let whole : block ≡ front ++ (here ++ (behind ++ names)) =
    is ∙ ap (λ (x : List ℕ). x ++ names) (fixed_split p q before after f) ∙ append_assoc front (here ++ behind) names ∙ ap (λ (x : List ℕ). front ++ x) (append_assoc here behind names) in
    ap (drop {A = ℕ} (size_of_fixed_part before)) whole ∙ drop_at front (here ++ (behind ++ names)) (size_of_fixed_part before) (fixed_size_is p q before typed)

-- ---- the names

gap_small : (o : Option (List ℕ)) → OptFits (λ l. length l < 256) o → gap o ≤ 257
gap_small None h = omega arith
gap_small (Some name) h = let small : length name < 256 = h in omega arith

-- what is known of the asked fields
record Known (fs : List Field) : Type 0 where
  formed : Formed fs
  typed : AllByRecursion IsTyped fs
  long_fits : OptFits (λ l. length l < 256) (long_in fs)
  small : size_of_fixed_part fs < 65000

record Sound (bits : ℕ) (rs : List FieldRow) : Type 0 where
  formed : Formed (asked_of bits rs)
  small : size_of_fixed_part (asked_of bits rs) < 65000

sound : (bits : ℕ) (v : Values) → Sound bits (rows v)
sound bits (Volume v) = subst (Sound bits) (sym (volume_rows_is v)) (record { formed = formed_asked bits (volume_rows v) (volume_formed v); small = volume_fixed bits v })
sound bits (File v) = subst (Sound bits) (sym (file_rows_is v)) (record { formed = formed_asked bits (file_rows v) (file_formed v); small = file_fixed bits v })
sound bits (Dir v) = subst (Sound bits) (sym (dir_rows_is v)) (record { formed = formed_asked bits (dir_rows v) (dir_formed v); small = dir_fixed bits v })

known : (kind bits : ℕ) (v : Values) → IsAnswer kind bits v → Known (asked bits v)
known kind bits v h = record {
  formed = (sound bits v).formed;
  typed = typed_asked bits (rows v) h.typed;
  long_fits = long_countable (asked bits v) (fits_countable bits (rows v) (fits_rows bits v h.fits));
  small = (sound bits v).small;
}

-- the block of fields
block_is : (fs : List Field) → Formed fs
    → concat (parts fs)
    ≡ concat (map (fixed_at (size_of_fixed_part fs) (size_of_fixed_part fs + gap (long_in fs))) fs) ++ concat (names_of (long_in fs) (utf8_in fs))
block_is fs formed =
    let p : ℕ = size_of_fixed_part fs in
    ap concat (parts_formed p fs formed refl) ∙ concat-append (map (fixed_at p (p + gap (long_in fs))) fs) (names_of (long_in fs) (utf8_in fs))

long_at : (p q : ℕ) (fixed block utf8 : List ℕ) (name : List ℕ) (at : ℕ) → length fixed ≡ p → block ≡ fixed ++ (long_name_bytes name ++ utf8) → big_number 2 (drop at block) ≡ p
    → StandsAtOffset block at (long_name_bytes name)
long_at p q fixed block utf8 name at size is offset =
    let there : drop (big_number 2 (drop at block)) block ≡ long_name_bytes name ++ utf8 =
    ap (λ (n : ℕ). drop n block) offset ∙ ap (drop {A = ℕ} p) is ∙ drop_at fixed (long_name_bytes name ++ utf8) p size in
    ap (take {A = ℕ} (length (long_name_bytes name))) there ∙ take_at (long_name_bytes name) utf8 (length (long_name_bytes name)) refl

utf8_at : (q : ℕ) (front block : List ℕ) (name pads : List ℕ) (at : ℕ) → length front ≡ q → block ≡ front ++ (utf8_name_bytes name ++ pads) → big_number 2 (drop at block) ≡ q
    → StandsAtOffset block at (utf8_name_bytes name)
utf8_at q front block name pads at size is offset =
    let there : drop (big_number 2 (drop at block)) block ≡ utf8_name_bytes name ++ pads =
    ap (λ (n : ℕ). drop n block) offset ∙ ap (drop {A = ℕ} q) is ∙ drop_at front (utf8_name_bytes name ++ pads) q size in
    ap (take {A = ℕ} (length (utf8_name_bytes name))) there ∙ take_at (utf8_name_bytes name) pads (length (utf8_name_bytes name)) refl

long_stands_in : (before after : List Field) (name : List ℕ) → Known (before ++ (LongName name ∷ after))
    → StandsAtOffset (concat (parts (before ++ (LongName name ∷ after)))) (size_of_fixed_part before) (long_name_bytes name)
long_stands_in before after name k =
    let fs : List Field = before ++ (LongName name ∷ after) in
    let p : ℕ = size_of_fixed_part fs in
    let q : ℕ = p + gap (long_in fs) in
    let block : List ℕ = concat (parts fs) in
    let fixed : List ℕ = concat (map (fixed_at p q) fs) in
    let names : List ℕ = concat (names_of (long_in fs) (utf8_in fs)) in
    let rest : List ℕ = pad_of (long_name_bytes name) ++ concat (opt utf8_name_bytes (utf8_in fs)) in
    let is : block ≡ fixed ++ names = block_is fs k.formed in
    let names_are : names ≡ long_name_bytes name ++ rest = ap (λ (o : Option (List ℕ)). concat (names_of o (utf8_in fs))) (long_found before after name k.formed) in
    let small : p < 256 ^ 2 = (let lt : p < 65000 = k.small in omega arith) in
    let offset : big_number 2 (drop (size_of_fixed_part before) block) ≡ p =
    ap (big_number 2) (from_field p q before after (LongName name) names block (typed_before before (LongName name ∷ after) k.typed) is)
    ∙ number_again 2 p (concat (map (fixed_at p q) after) ++ names) small in
    long_at p q fixed block rest name (size_of_fixed_part before) (fixed_size_is p q fs k.typed) (is ∙ ap (λ (x : List ℕ). fixed ++ x) names_are) offset

utf8_stands_in : (before after : List Field) (name : List ℕ) → Known (before ++ (Utf8Name name ∷ after))
    → StandsAtOffset (concat (parts (before ++ (Utf8Name name ∷ after)))) (size_of_fixed_part before) (utf8_name_bytes name)
utf8_stands_in before after name k =
    let fs : List Field = before ++ (Utf8Name name ∷ after) in
    let p : ℕ = size_of_fixed_part fs in
    let q : ℕ = p + gap (long_in fs) in
    let block : List ℕ = concat (parts fs) in
    let fixed : List ℕ = concat (map (fixed_at p q) fs) in
    let long : List ℕ = concat (opt long_name_bytes (long_in fs)) in
    let names : List ℕ = concat (names_of (long_in fs) (utf8_in fs)) in
    let pads : List ℕ = pad_of (utf8_name_bytes name) ++ [] in
    let is : block ≡ fixed ++ names = block_is fs k.formed in
    let names_are : names ≡ long ++ (utf8_name_bytes name ++ pads) =
    concat-append (opt long_name_bytes (long_in fs)) (opt utf8_name_bytes (utf8_in fs))
    ∙ ap (λ (o : Option (List ℕ)). long ++ concat (opt utf8_name_bytes o)) (utf8_found before after name k.formed) in
    let small : q < 256 ^ 2 = (let lt : p < 65000 = k.small in let less : gap (long_in fs) ≤ 257 = gap_small (long_in fs) k.long_fits in omega arith) in
    let behind : List ℕ = concat (map (fixed_at p q) after) ++ names in
    let offset : big_number 2 (drop (size_of_fixed_part before) block) ≡ q =
    ap (big_number 2) (from_field p q before after (Utf8Name name) names block (typed_before before (Utf8Name name ∷ after) k.typed) is
    ∙ append_assoc (big_bytes 2 q) (replicate 4 0) behind)
    ∙ number_again 2 q (replicate 4 0 ++ behind) small in
    let front_size : length (fixed ++ long) ≡ q = length-append fixed long ∙ ap (λ (n : ℕ). n + length long) (fixed_size_is p q fs k.typed) ∙ ap (λ (n : ℕ). p + n) (opt_gap (long_in fs)) in
    let whole : block ≡ (fixed ++ long) ++ (utf8_name_bytes name ++ pads) = is ∙ ap (λ (x : List ℕ). fixed ++ x) names_are ∙ sym (append_assoc fixed long (utf8_name_bytes name ++ pads)) in
    utf8_at q (fixed ++ long) block name pads (size_of_fixed_part before) front_size whole offset

pub long_name_stands : LongNameStands
long_name_stands kind bits v before after name h e =
    subst (λ (fs : List Field). StandsAtOffset (concat (parts fs)) (size_of_fixed_part before) (long_name_bytes name)) (sym e) (long_stands_in before after name (subst Known e (known kind bits v h)))

pub utf8_name_stands : Utf8NameStands
utf8_name_stands kind bits v before after name h e =
    subst (λ (fs : List Field). StandsAtOffset (concat (parts fs)) (size_of_fixed_part before) (utf8_name_bytes name)) (sym e) (utf8_stands_in before after name (subst Known e (known kind bits v h)))
