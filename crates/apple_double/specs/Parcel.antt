-- A parcel: one file that holds a Macintosh file (RFC 1740; this profile).
use Rattle.std.specs.Prelude.{◌≡◌, List, ℕ, None, Some}
use Rattle.apple_double.specs.declared.parcel.Parcel.{Parcel}
use Rattle.apple_double.specs.declared.parcel.ParcelFault.{ParcelFault}
use Rattle.apple_double.specs.declared.parcel.ParcelFault.TheVariants as faults
use Rattle.apple_double.specs.declared.parcel.Shape.{Shape}
use Rattle.apple_double.specs.Format.{magic_of, magic_in, part}
use Rattle.apple_double.specs.Contents.{data_id, resource_id, name_id, comment_id, dates_id, finder_id, name_in, date_in, finder_in, comment_in, data_in}
use Rattle.apple_double.specs.Faults.{parcel_fault}

-- The bytes are a parcel of this format, and it holds this file: each of the file's parts is in the slice that its descriptor names.
pub record Parcels (bytes : List ℕ) (shape : Shape) (p : Parcel) : Type 0 where
  pub faultless : parcel_fault bytes ≡ None
  pub format : magic_in bytes ≡ magic_of shape
  pub name : p.name ≡ name_in (part name_id bytes)
  pub created : p.created ≡ date_in 0 (part dates_id bytes)
  pub modified : p.modified ≡ date_in 4 (part dates_id bytes)
  pub backup : p.backup ≡ date_in 8 (part dates_id bytes)
  pub finder : p.finder ≡ finder_in (part finder_id bytes)
  pub comment : p.comment ≡ comment_in (part comment_id bytes)
  pub data_fork : p.data_fork ≡ data_in shape (part data_id bytes)
  pub resource_fork : p.resource_fork ≡ part resource_id bytes

-- a refusal of bytes: want of memory, or why they are no parcel
abbrev pub Refuses : List ℕ → ParcelFault → Type 0
Refuses bytes faults.Memory = Unit {0}
Refuses bytes fault = parcel_fault bytes ≡ Some fault
