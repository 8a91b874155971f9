-- Pieces that are put one behind the other.
use Rattle.std.proofs.Common.{◌≡◌, ◌∙◌, ℕ, ◌+◌, ◌*◌, ◌≤◌, List, [], ◌∷◌, ◌++◌, length, take, refl, sym, ap, arith, append_assoc, append-nil}
use Rattle.std.proofs.lemmas.List.{length-append, take-take, take-append-le}
use Rattle.std.proofs.Math.Seq.{take-length}
use Rattle.std.proofs.lemmas.Result.{on_ok_weaker}
use Rattle.std.specs.Prelude.{Result, Ok, Err, OnOk, OnErr}
use Rattle.afp_base.specs.Appended.{Keeps}
use Rattle.apple_double.specs.declared.parcel.Parcel.{Parcel}
use Rattle.apple_double.specs.declared.parcel.Shape.{Shape}
use Rattle.apple_double.specs.Written.{Entry, entry, described, descriptor_bytes, contents, contents_place, header, file_of, dates_bytes}

-- a piece behind what stands behind o
pub behind : (o m n a b : List ℕ) → m ≡ o ++ a → n ≡ m ++ b → n ≡ o ++ (a ++ b)
behind o m n a b first second = second ∙ ap (λ (x : List ℕ). x ++ b) first ∙ append_assoc o a b

pub contents-append : (xs ys : List Entry) → contents (xs ++ ys) ≡ contents xs ++ contents ys
contents-append [] ys = refl
contents-append (x ∷ xs) ys = ap (λ (z : List ℕ). x.bytes ++ z) (contents-append xs ys) ∙ sym (append_assoc x.bytes (contents xs) (contents ys))

-- how many bytes entries have
pub size-append : (xs ys : List Entry) → length (contents (xs ++ ys)) ≡ length (contents xs) + length (contents ys)
size-append xs ys = ap (length {A = ℕ}) (contents-append xs ys) ∙ length-append (contents xs) (contents ys)

pub described-append : (o : ℕ) (xs ys : List Entry) → described o (xs ++ ys) ≡ described o xs ++ described (o + length (contents xs)) ys
described-append o [] ys = ap (λ (n : ℕ). described n ys) (omega arith)
described-append o (x ∷ xs) ys =
    let next : ℕ = o + length x.bytes in
    let size : length (contents (x ∷ xs)) ≡ length x.bytes + length (contents xs) = length-append x.bytes (contents xs) in
    let place : next + length (contents xs) ≡ o + length (contents (x ∷ xs)) = omega arith in
    let one : List ℕ = descriptor_bytes x.id o (length x.bytes) in
    ap (λ (z : List ℕ). one ++ z) (described-append next xs ys ∙ ap (λ (n : ℕ). described next xs ++ described n ys) place)
    ∙ sym (append_assoc one (described next xs) (described (o + length (contents (x ∷ xs))) ys))

-- The descriptors of entries stand behind o, and next is the offset behind the entries.
pub record AreDescribed (o : List ℕ) (offset : ℕ) (xs : List Entry) (out : List ℕ) (next : ℕ) : Type 0 where
  pub bytes : out ≡ o ++ described offset xs
  pub offset_is : next ≡ offset + length (contents xs)

pub described-more : (o out new : List ℕ) (offset next after : ℕ) (xs ys : List Entry) → AreDescribed o offset xs out next
    → new ≡ out ++ described next ys → after ≡ next + length (contents ys) → AreDescribed o offset (xs ++ ys) new after
described-more o out new offset next after xs ys d put goes =
    let size = size-append xs ys in
    let at : new ≡ out ++ described (offset + length (contents xs)) ys = put ∙ ap (λ (n : ℕ). out ++ described n ys) d.offset_is in
    let off = d.offset_is in
    record {
      bytes = behind o out new (described offset xs) (described (offset + length (contents xs)) ys) d.bytes at
          ∙ ap (λ (z : List ℕ). o ++ z) (sym (described-append offset xs ys));
      offset_is = omega arith;
    }

pub one-size : (id : ℕ) (bytes : List ℕ) → length (contents (entry id bytes)) ≡ length bytes
one-size id bytes = ap (length {A = ℕ}) (append-nil bytes)

pub one-described : (id offset : ℕ) (bytes : List ℕ) → described offset (entry id bytes) ≡ descriptor_bytes id offset (length bytes)
one-described id offset bytes = append-nil (descriptor_bytes id offset (length bytes))

pub described-one : (o out new : List ℕ) (offset next after id size : ℕ) (xs : List Entry) (bytes : List ℕ) → AreDescribed o offset xs out next → size ≡ length bytes
    → new ≡ out ++ descriptor_bytes id next size → after ≡ next + size → AreDescribed o offset (xs ++ entry id bytes) new after
described-one o out new offset next after id size xs bytes d same put goes =
    described-more o out new offset next after xs (entry id bytes) d
    (put ∙ ap (λ (n : ℕ). out ++ descriptor_bytes id next n) same ∙ ap (λ (z : List ℕ). out ++ z) (sym (one-described id next bytes)))
    (let one = one-size id bytes in omega arith)

-- the descriptor of one entry, at the end of a function
pub one-put : {T E : Type 0} (r : Result T E) (o new : List ℕ) (id offset size : ℕ) (bytes : List ℕ) → size ≡ length bytes
    → OnOk r (new ≡ o ++ descriptor_bytes id offset size) → OnOk r (new ≡ o ++ described offset (entry id bytes))
one-put r o new id offset size bytes same h =
    on_ok_weaker r (λ e. e ∙ ap (λ (n : ℕ). o ++ descriptor_bytes id offset n) same ∙ ap (λ (z : List ℕ). o ++ z) (sym (one-described id offset bytes))) h

-- entries' bytes behind those of others
pub contents-more : (o out new : List ℕ) (xs ys : List Entry) → out ≡ o ++ contents xs → new ≡ out ++ contents ys → new ≡ o ++ contents (xs ++ ys)
contents-more o out new xs ys first second = behind o out new (contents xs) (contents ys) first second ∙ ap (λ (z : List ℕ). o ++ z) (sym (contents-append xs ys))

pub contents-one : (o out new : List ℕ) (id : ℕ) (xs : List Entry) (bytes : List ℕ) → out ≡ o ++ contents xs → new ≡ out ++ bytes → new ≡ o ++ contents (xs ++ entry id bytes)
contents-one o out new id xs bytes first second = contents-more o out new xs (entry id bytes) first (second ∙ ap (λ (z : List ℕ). out ++ z) (sym (append-nil bytes)))

-- how long a file is
descriptor-length : (id offset size : ℕ) → length (descriptor_bytes id offset size) ≡ 12
unfolding descriptor_bytes
descriptor-length id offset size = refl

pub header-length : (shape : Shape) (count : ℕ) → length (header shape count) ≡ 26
unfolding header
header-length shape count = refl

pub described-length : (offset : ℕ) (es : List Entry) → length (described offset es) ≡ 12 * length es
described-length offset [] = refl
described-length offset (e ∷ es) =
    let one = descriptor-length e.id offset (length e.bytes) in
    let more = described-length (offset + length e.bytes) es in
    let both = length-append (descriptor_bytes e.id offset (length e.bytes)) (described (offset + length e.bytes) es) in
    omega (arith, one, more, both)

pub file-length : (shape : Shape) (es : List Entry) → length (file_of shape es) ≡ contents_place (length es) + length (contents es)
unfolding file_of
file-length shape es =
    let place : ℕ = contents_place (length es) in
    let head = header-length shape (length es) in
    let middle = described-length place es in
    let front = length-append (header shape (length es)) (described place es) in
    let whole = length-append (header shape (length es) ++ described place es) (contents es) in
    omega (arith, head, middle, front, whole)

pub dates-length : (p : Parcel) → length (dates_bytes p) ≡ 16
unfolding dates_bytes
dates-length p = refl

-- how many bytes the entries of a file have
pub sizes : (e1 e2 e3 e4 e5 e6 : List Entry)
    → length (contents (e1 ++ e2 ++ e3 ++ e4 ++ e5 ++ e6))
    ≡ length (contents e1) + length (contents e2) + length (contents e3) + length (contents e4) + length (contents e5) + length (contents e6)
sizes e1 e2 e3 e4 e5 e6 =
    let s2 = size-append e1 e2 in
    let s3 = size-append (e1 ++ e2) e3 in
    let s4 = size-append (e1 ++ e2 ++ e3) e4 in
    let s5 = size-append (e1 ++ e2 ++ e3 ++ e4) e5 in
    let s6 = size-append (e1 ++ e2 ++ e3 ++ e4 ++ e5) e6 in
    omega (arith, s2, s3, s4, s5, s6)

-- an error late in a row of puts
pub keeps-behind : (o m n a : List ℕ) → m ≡ o ++ a → Keeps m n → Keeps o n
keeps-behind o m n a put kept =
    let len : length m ≡ length o + length a = ap (length {A = ℕ}) put ∙ length-append o a in
    let le : length o ≤ length m = omega (arith, len) in
    let le_ : length o ≤ length o = omega arith in
    sym (take-take (length o) (length m) n le)
    ∙ ap (λ (z : List ℕ). take (length o) z) (kept ∙ put)
    ∙ take-append-le (length o) o a le_
    ∙ take-length o

pub on_err : {T E P : Type 0} (r : Result T E) → P → OnErr r P
on_err (Ok x) h = tt
on_err (Err e) h = h
