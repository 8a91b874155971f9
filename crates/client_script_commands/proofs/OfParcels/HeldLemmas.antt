-- The file that a parcel holds.
use Rattle.std.proofs.Common.{◌≡◌, ℕ, ◌≤◌, ◌<◌, ◌==◌, List, [], ◌∷◌, length, drop, Option, Some, None, is_none, IfSome, refl, ap, sym, subst, ◌∙◌, cond, arith, length-take, length-drop}
use Rattle.apple_double.specs.declared.descriptor.Descriptor.{Descriptor}
use Rattle.apple_double.specs.declared.parcel.Parcel.{Parcel}
use Rattle.apple_double.specs.declared.parcel.ParcelFault.{ParcelFault}
use Rattle.apple_double.specs.declared.parcel.ParcelFault.TheVariants as faults
use Rattle.apple_double.specs.declared.parcel.Shape.{Shape}
use Rattle.apple_double.specs.declared.parcel.Shape.TheVariants as shapes
use Rattle.apple_double.specs.Contents.{comment_id, comment_in, data_id, data_in, longest_comment, resource_id}
use Rattle.apple_double.specs.Faults.{parcel_fault}
use Rattle.apple_double.specs.Format.{descriptors, magic_in, magic_of, part, slice_of_any, with_id}
use Rattle.apple_double.specs.Parcel.{Parcels, Refuses}
use Rattle.client_script_lines.specs.calls.Places.{longest_place}
use Rattle.client_script_commands.specs.parcels.Unpack.{held, parcel_in, shape_in}
use Rattle.client_script_commands.specs.parcels.lemma.Telling.{FitsLine}

-- bytes hold one file
abbrev pub OneFile : Type 0
OneFile = (bytes : List ℕ) (s t : Shape) (p q : Parcel) → Parcels bytes s p → Parcels bytes t q → (s ≡ t) × (p ≡ q)

shape-of : (n : ℕ) (shape : Shape) → n ≡ magic_of shape → n ≡ magic_of (cond (n == magic_of shapes.Single) shapes.Single shapes.Double)
shape-of n shapes.Single e = subst (λ (m : ℕ). m ≡ magic_of (cond (m == magic_of shapes.Single) shapes.Single shapes.Double)) (sym e) refl
shape-of n shapes.Double e = subst (λ (m : ℕ). m ≡ magic_of (cond (m == magic_of shapes.Single) shapes.Single shapes.Double)) (sym e) refl

is-held : (bytes : List ℕ) (shape : Shape) (p : Parcel) → OneFile → Parcels bytes shape p → p ≡ held bytes
unfolding held
is-held bytes shape p law h = (law bytes shape (shape_in bytes) p (held bytes) h (record {
  faultless = h.faultless;
  format = shape-of (magic_in bytes) shape h.format;
  name = refl;
  created = refl;
  modified = refl;
  backup = refl;
  finder = refl;
  comment = refl;
  data_fork = refl;
  resource_fork = refl;
})).1

-- what was read is the file
pub held_in : (bytes : List ℕ) (shape : Shape) (p : Parcel) → OneFile → Parcels bytes shape p → Some p ≡ parcel_in bytes
unfolding parcel_in
held_in bytes shape p law h =
    ap {B = Option Parcel} Some (is-held bytes shape p law h)
    ∙ sym (ap (λ (fault : Option ParcelFault). cond (is_none fault) (Some (held bytes)) None) h.faultless)

faulty : (bytes : List ℕ) (fault : ParcelFault) → parcel_fault bytes ≡ Some fault → None ≡ parcel_in bytes
unfolding parcel_in
faulty bytes fault h = sym (ap (λ (f : Option ParcelFault). cond (is_none f) (Some (held bytes)) None) h)

-- and what was refused is none
pub not_held : (bytes : List ℕ) (fault : ParcelFault) → Refuses bytes fault → (fault ≡ faults.Memory → ⊥) → None ≡ parcel_in bytes
not_held bytes (faults.Short place) h k = faulty bytes (faults.Short place) h
not_held bytes faults.Magic h k = faulty bytes faults.Magic h
not_held bytes faults.Version h k = faulty bytes faults.Version h
not_held bytes (faults.Entry index) h k = faulty bytes (faults.Entry index) h
not_held bytes faults.Memory h k = absurd (k refl)

-- parts are no longer than the bytes
slice-short : (bytes : List ℕ) (d : Option Descriptor) → length (slice_of_any bytes d) ≤ length bytes
slice-short bytes None = omega arith
slice-short bytes (Some d) = omega (arith, length-take d.size (drop d.offset bytes), length-drop d.offset bytes)

part-short : (id : ℕ) (bytes : List ℕ) → length (part id bytes) ≤ length bytes
unfolding part
part-short id bytes = slice-short bytes (with_id id (descriptors bytes))

data-short : (shape : Shape) (bytes : List ℕ) → length (data_in shape bytes) ≤ length bytes
data-short shapes.Single bytes = omega arith
data-short shapes.Double bytes = omega arith

comment-short : (bytes : List ℕ) → IfSome (comment_in bytes) (λ text. length text < 256)
comment-short [] = tt
comment-short (byte ∷ bytes) = omega (arith, length-take longest_comment (byte ∷ bytes))

pub held_fits : (bytes : List ℕ) (shape : Shape) (p : Parcel) → length bytes ≤ longest_place → Parcels bytes shape p → FitsLine p
held_fits bytes shape p short h = record {
  data_fork = omega (arith, short, ap length h.data_fork, data-short shape (part data_id bytes), part-short data_id bytes);
  resource_fork = omega (arith, short, ap length h.resource_fork, part-short resource_id bytes);
  comment = subst (λ (comment : Option (List ℕ)). IfSome comment (λ text. length text < 256)) (sym h.comment) (comment-short (part comment_id bytes));
}
