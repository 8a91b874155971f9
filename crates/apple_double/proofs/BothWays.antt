-- What is written is read again.
use Rattle.std.proofs.Common.{◌≡◌, ◌∙◌, ℕ, ◌+◌, ◌-◌, ◌/◌, ◌*◌, ◌^◌, ◌<◌, ◌≤◌, false, List, [], ◌∷◌, ◌++◌, length, drop, map, refl, sym, ap, subst, arith, w32, FitsSigned, lit<}
use Rattle.std.specs.Prelude.{Option, Some, None, is_none, nat_lt, IfSome}
use Rattle.std.specs.List.{range_with_len}
use Rattle.std.specs.Int.{cast_signed, cast_unsigned}
use Rattle.std.proofs.Math.Seq.{drop-append_seam}
use Rattle.std.proofs.lemmas.List.{length-append, take_all}
use Rattle.std.proofs.lemmas.Bool.{le-ltb}
use Rattle.byteorder.specs.Endian.{big_bytes}
use Rattle.afp_base.proofs.Numbers.{number_again, date_again, date_lt}
use Rattle.afp_base.specs.Choice.{first_holding}
use Rattle.afp_names.specs.Name.{name_fault}
use Rattle.apple_double.specs.declared.descriptor.Descriptor.{Descriptor}
use Rattle.apple_double.specs.declared.parcel.Parcel.{Parcel}
use Rattle.apple_double.specs.declared.parcel.Shape.{Shape}
use Rattle.apple_double.specs.declared.parcel.Shape.TheVariants as shapes
use Rattle.apple_double.specs.Contents.{name_in, name_id, dates_id, finder_id, comment_id, resource_id, data_id, comment_in, finder_in, date_in, data_in, never, longest_comment}
use Rattle.apple_double.specs.Faults.{header_faults, parcel_fault}
use Rattle.apple_double.specs.Format.{number_at, magic_in, magic_of, version_in, version, count_in, header_size, descriptor_at, part, slice_of_any, with_id}
use Rattle.apple_double.specs.Parcel.{Parcels}
use Rattle.apple_double.specs.Written.{Entry, entry, entry_if, data_entry, described, contents, contents_place, header, file_of, dates_bytes, date_bytes, entries, parcel_bytes, IsComment, as_held}
use Rattle.apple_double.proofs.Faults.{fields-whole, entries-good, parcel-good}
use Rattle.apple_double.proofs.Pieces.{described-length, header-length, file-length}
use Rattle.apple_double.proofs.Placed.{placed, Small, all-placed, slices, bytes_of, entry_with, none_bad, each-good, is_bad, Good, all-good}

-- ---- the header

file-magic : (shape : Shape) (es : List Entry) → magic_in (file_of shape es) ≡ magic_of shape
unfolding number_at file_of header
file-magic shapes.Single es = refl
file-magic shapes.Double es = refl

file-version : (shape : Shape) (es : List Entry) → version_in (file_of shape es) ≡ version
unfolding number_at file_of header
file-version shape es = refl

file-count : (shape : Shape) (es : List Entry) → length es < 65536 → count_in (file_of shape es) ≡ length es
unfolding number_at file_of header
file-count shape es few = number_again 2 (length es) (described (contents_place (length es)) es ++ contents es) few

behind-header : (shape : Shape) (es : List Entry) → drop 26 (file_of shape es) ≡ described (contents_place (length es)) es ++ contents es
unfolding file_of header
behind-header shape es = refl

behind-descriptors : (shape : Shape) (es : List Entry) → drop (contents_place (length es)) (file_of shape es) ≡ contents es
unfolding file_of
behind-descriptors shape es =
    let front : List ℕ = header shape (length es) ++ described (contents_place (length es)) es in
    let head = header-length shape (length es) in
    let middle = described-length (contents_place (length es)) es in
    let both = length-append (header shape (length es)) (described (contents_place (length es)) es) in
    let size : contents_place (length es) ≡ length front = omega (arith, head, middle, both) in
    ap (λ (n : ℕ). drop n (front ++ contents es)) size ∙ drop-append_seam front (contents es)

header-good : (bytes : List ℕ) (shape : Shape) → header_size ≤ length bytes → magic_in bytes ≡ magic_of shape → version_in bytes ≡ version → first_holding (header_faults bytes) ≡ None
header-good bytes shapes.Single size magic ver =
    rw (le-ltb (length bytes) 4 (omega arith), magic, le-ltb (length bytes) 8 (omega arith), ver, le-ltb (length bytes) 24 (omega arith), le-ltb (length bytes) 26 (omega arith)) refl
header-good bytes shapes.Double size magic ver =
    rw (le-ltb (length bytes) 4 (omega arith), magic, le-ltb (length bytes) 8 (omega arith), ver, le-ltb (length bytes) 24 (omega arith), le-ltb (length bytes) 26 (omega arith)) refl

-- ---- a file of any entries that are good

file-descriptors : (shape : Shape) (es : List Entry) → length es < 65536 → Small es → length (file_of shape es) < 2 ^ 32
    → map (descriptor_at (file_of shape es)) (range_with_len 0 (length es)) ≡ placed (contents_place (length es)) es
file-descriptors shape es few small fits =
    let whole = file-length shape es in
    let low : contents_place (length es) + length (contents es) < 2 ^ 32 = omega (arith, whole, fits) in
    all-placed (file_of shape es) 0 (contents_place (length es)) es (contents es) (behind-header shape es) small low

pub file-part : (shape : Shape) (es : List Entry) (id : ℕ) → length es < 65536 → Small es → length (file_of shape es) < 2 ^ 32 → part id (file_of shape es) ≡ bytes_of (entry_with id es)
unfolding part
file-part shape es id few small fits =
    let bytes : List ℕ = file_of shape es in
    ap (λ (n : ℕ). slice_of_any bytes (with_id id (map (descriptor_at bytes) (range_with_len 0 n)))) (file-count shape es few)
    ∙ ap (λ (ds : List Descriptor). slice_of_any bytes (with_id id ds)) (file-descriptors shape es few small fits)
    ∙ slices bytes (contents_place (length es)) id es (behind-descriptors shape es)

pub file-good : (shape : Shape) (es : List Entry) → length es < 65536 → Small es → length (file_of shape es) < 2 ^ 32 → Good [] (contents_place (length es)) es → parcel_fault (file_of shape es) ≡ None
file-good shape es few small fits good =
    let bytes : List ℕ = file_of shape es in
    let whole = file-length shape es in
    let count = file-count shape es few in
    let head : header_size ≤ length bytes = omega (arith, whole) in
    let room : 3 * count_in bytes ≤ (length bytes - header_size) / 4 = omega (arith, whole, count) in
    let within : contents_place (length es) + length (contents es) ≤ length bytes = omega (arith, whole) in
    let none : none_bad bytes [] (placed (contents_place (length es)) es) = all-good bytes (contents_place (length es)) es [] (behind-descriptors shape es) within good in
    let P : List Descriptor → Type 0 = λ ds. none_bad bytes [] ds in
    let each = each-good bytes (descriptor_at bytes) 0 (length es) (subst P (sym (file-descriptors shape es few small fits)) none) in
    parcel-good bytes
    (header-good bytes shape head (file-magic shape es) (file-version shape es))
    (fields-whole bytes head room)
    (entries-good bytes (λ k lt. each k (omega arith) (omega (arith, count, lt))))

-- ---- the entries of a file

abbrev or_empty : Option (List ℕ) → List ℕ
or_empty None = []
or_empty (Some bytes) = bytes

abbrev entries_of : Shape → Option (List ℕ) → List ℕ → List ℕ → Option (List ℕ) → List ℕ → List ℕ → List Entry
entries_of shape n d f c r x = entry_if name_id n ++ entry dates_id d ++ entry finder_id f ++ entry_if comment_id c ++ entry resource_id r ++ data_entry shape x

record Finds (shape : Shape) (n : Option (List ℕ)) (d f : List ℕ) (c : Option (List ℕ)) (r x : List ℕ) : Type 0 where
  few : length (entries_of shape n d f c r x) < 65536
  small : Small (entries_of shape n d f c r x)
  name : bytes_of (entry_with name_id (entries_of shape n d f c r x)) ≡ or_empty n
  dates : bytes_of (entry_with dates_id (entries_of shape n d f c r x)) ≡ d
  finder : bytes_of (entry_with finder_id (entries_of shape n d f c r x)) ≡ f
  comment : bytes_of (entry_with comment_id (entries_of shape n d f c r x)) ≡ or_empty c
  resource : bytes_of (entry_with resource_id (entries_of shape n d f c r x)) ≡ r
  fork : bytes_of (entry_with data_id (entries_of shape n d f c r x)) ≡ data_in shape x

finds : (shape : Shape) (n : Option (List ℕ)) (d f : List ℕ) (c : Option (List ℕ)) (r x : List ℕ) → Finds shape n d f c r x
finds shapes.Single None d f None r x = record { few = lit< tt; small = (lit< tt, (lit< tt, (lit< tt, (lit< tt, tt)))); name = refl; dates = refl; finder = refl; comment = refl; resource = refl; fork = refl }
finds shapes.Single None d f (Some c) r x = record { few = lit< tt; small = (lit< tt, (lit< tt, (lit< tt, (lit< tt, (lit< tt, tt))))); name = refl; dates = refl; finder = refl; comment = refl; resource = refl; fork = refl }
finds shapes.Single (Some n) d f None r x = record { few = lit< tt; small = (lit< tt, (lit< tt, (lit< tt, (lit< tt, (lit< tt, tt))))); name = refl; dates = refl; finder = refl; comment = refl; resource = refl; fork = refl }
finds shapes.Single (Some n) d f (Some c) r x = record { few = lit< tt; small = (lit< tt, (lit< tt, (lit< tt, (lit< tt, (lit< tt, (lit< tt, tt)))))); name = refl; dates = refl; finder = refl; comment = refl; resource = refl; fork = refl }
finds shapes.Double None d f None r x = record { few = lit< tt; small = (lit< tt, (lit< tt, (lit< tt, tt))); name = refl; dates = refl; finder = refl; comment = refl; resource = refl; fork = refl }
finds shapes.Double None d f (Some c) r x = record { few = lit< tt; small = (lit< tt, (lit< tt, (lit< tt, (lit< tt, tt)))); name = refl; dates = refl; finder = refl; comment = refl; resource = refl; fork = refl }
finds shapes.Double (Some n) d f None r x = record { few = lit< tt; small = (lit< tt, (lit< tt, (lit< tt, (lit< tt, tt)))); name = refl; dates = refl; finder = refl; comment = refl; resource = refl; fork = refl }
finds shapes.Double (Some n) d f (Some c) r x = record { few = lit< tt; small = (lit< tt, (lit< tt, (lit< tt, (lit< tt, (lit< tt, tt))))); name = refl; dates = refl; finder = refl; comment = refl; resource = refl; fork = refl }

good-all : (shape : Shape) (n : Option (List ℕ)) (d f : List ℕ) (c : Option (List ℕ)) (r x : List ℕ) (o : ℕ) → IfSome n (λ z. is_bad name_id z ≡ false) → is_bad dates_id d ≡ false → is_bad finder_id f ≡ false
    → Good [] o (entries_of shape n d f c r x)
good-all shapes.Single None d f None r x o gn gd gf = (refl, gd, (refl, gf, (refl, refl, (refl, refl, tt))))
good-all shapes.Single None d f (Some c) r x o gn gd gf = (refl, gd, (refl, gf, (refl, refl, (refl, refl, (refl, refl, tt)))))
good-all shapes.Single (Some n) d f None r x o gn gd gf = (refl, gn, (refl, gd, (refl, gf, (refl, refl, (refl, refl, tt)))))
good-all shapes.Single (Some n) d f (Some c) r x o gn gd gf = (refl, gn, (refl, gd, (refl, gf, (refl, refl, (refl, refl, (refl, refl, tt))))))
good-all shapes.Double None d f None r x o gn gd gf = (refl, gd, (refl, gf, (refl, refl, tt)))
good-all shapes.Double None d f (Some c) r x o gn gd gf = (refl, gd, (refl, gf, (refl, refl, (refl, refl, tt))))
good-all shapes.Double (Some n) d f None r x o gn gd gf = (refl, gn, (refl, gd, (refl, gf, (refl, refl, tt))))
good-all shapes.Double (Some n) d f (Some c) r x o gn gd gf = (refl, gn, (refl, gd, (refl, gf, (refl, refl, (refl, refl, tt)))))

-- ---- each part of a file

name-itself : (n : List ℕ) → name_fault n ≡ None → name_in n ≡ Some n
unfolding name_in
name-itself n good = rw good refl

no-name : name_in [] ≡ None
unfolding name_in name_fault
no-name = refl

name-held : (n : Option (List ℕ)) → IfSome n (λ z. name_fault z ≡ None) → n ≡ name_in (or_empty n)
name-held None good = sym no-name
name-held (Some n) good = sym (name-itself n good)

good-name : (n : Option (List ℕ)) → IfSome n (λ z. name_fault z ≡ None) → IfSome n (λ z. is_bad name_id z ≡ false)
good-name None good = tt
good-name (Some n) good = ap is_none (name-itself n good)

comment-held : (c : Option (List ℕ)) → IfSome c IsComment → c ≡ comment_in (or_empty c)
comment-held None good = refl
comment-held (Some []) good = absurd (omega (arith, good.0))
comment-held (Some (byte ∷ bytes)) good = ap Some (sym (take_all longest_comment (byte ∷ bytes) good.1))

finder-held : (f : List ℕ) → length f ≡ 32 → f ≡ finder_in f
finder-held f size = let whole : nat_lt (length f) 32 ≡ false = le-ltb (length f) 32 (omega arith) in rw whole (sym (take_all 32 f (omega arith)))

good-finder : (f : List ℕ) → length f ≡ 32 → is_bad finder_id f ≡ false
good-finder f size = rw (le-ltb (length f) 32 (omega arith)) refl

good-dates : (p : Parcel) → is_bad dates_id (dates_bytes p) ≡ false
unfolding dates_bytes
good-dates p = refl

created-held : (p : Parcel) → FitsSigned w32 p.created → p.created ≡ date_in 0 (dates_bytes p)
unfolding dates_bytes number_at
created-held p fits =
    sym
    (ap (λ (n : ℕ). cast_signed w32 n)
    (number_again 4 (cast_unsigned w32 p.created) (date_bytes p.modified ++ date_bytes p.backup ++ big_bytes 4 never) (date_lt p.created fits))
    ∙ date_again p.created fits)

modified-held : (p : Parcel) → FitsSigned w32 p.modified → p.modified ≡ date_in 4 (dates_bytes p)
unfolding dates_bytes number_at
modified-held p fits =
    sym
    (ap (λ (n : ℕ). cast_signed w32 n) (number_again 4 (cast_unsigned w32 p.modified) (date_bytes p.backup ++ big_bytes 4 never) (date_lt p.modified fits))
    ∙ date_again p.modified fits)

backup-held : (p : Parcel) → FitsSigned w32 p.backup → p.backup ≡ date_in 8 (dates_bytes p)
unfolding dates_bytes number_at
backup-held p fits =
    sym
    (ap (λ (n : ℕ). cast_signed w32 n) (number_again 4 (cast_unsigned w32 p.backup) (big_bytes 4 never) (date_lt p.backup fits))
    ∙ date_again p.backup fits)

data-held : (shape : Shape) (x : List ℕ) → data_in shape x ≡ data_in shape (data_in shape x)
data-held shapes.Single x = refl
data-held shapes.Double x = refl

pub read-again : (shape : Shape) (p : Parcel) → IfSome p.comment IsComment → length (parcel_bytes shape p) < 2 ^ 32 → IfSome p.name (λ z. name_fault z ≡ None) → length p.finder ≡ 32
    → FitsSigned w32 p.created → FitsSigned w32 p.modified → FitsSigned w32 p.backup → Parcels (parcel_bytes shape p) shape (as_held shape p)
read-again shape p comment fits name finder c m b =
    let es : List Entry = entries shape p in
    let bytes : List ℕ = parcel_bytes shape p in
    let found : Finds shape p.name (dates_bytes p) p.finder p.comment p.resource_fork p.data_fork = finds shape p.name (dates_bytes p) p.finder p.comment p.resource_fork p.data_fork in
    let good = good-all shape p.name (dates_bytes p) p.finder p.comment p.resource_fork p.data_fork (contents_place (length es)) (good-name p.name name) (good-dates p) (good-finder p.finder finder) in
    let at : (id : ℕ) → part id bytes ≡ bytes_of (entry_with id es) = λ id. file-part shape es id found.few found.small fits in
    let dates : part dates_id bytes ≡ dates_bytes p = at dates_id ∙ found.dates in
    record {
      faultless = file-good shape es found.few found.small fits good;
      format = file-magic shape es;
      name = name-held p.name name ∙ ap name_in (sym (at name_id ∙ found.name));
      created = created-held p c ∙ ap (λ (z : List ℕ). date_in 0 z) (sym dates);
      modified = modified-held p m ∙ ap (λ (z : List ℕ). date_in 4 z) (sym dates);
      backup = backup-held p b ∙ ap (λ (z : List ℕ). date_in 8 z) (sym dates);
      finder = finder-held p.finder finder ∙ ap (λ (z : List ℕ). finder_in z) (sym (at finder_id ∙ found.finder));
      comment = comment-held p.comment comment ∙ ap (λ (z : List ℕ). comment_in z) (sym (at comment_id ∙ found.comment));
      data_fork = data-held shape p.data_fork ∙ ap (λ (z : List ℕ). data_in shape z) (sym (at data_id ∙ found.fork));
      resource_fork = sym (at resource_id ∙ found.resource);
    }
