-- What is told of a parcel that is read, and the exit status (this profile).
use Rattle.std.specs.Prelude.{◌≡◌, ℕ, ◌≤◌, ◌<◌, true, List, [], ◌++◌, length, codes, Some, option_map}
use Rattle.std.specs.Fmt.{decimal}
use Rattle.afp_base.specs.Counts.{CountsOn}
use Rattle.afp_outside.specs.ends.Sink.{SinkState}
use Rattle.afp_outside.specs.ends.Source.{SourceState, ReadWithin}
use Rattle.apple_double.specs.Faults.{parcel_fault}
use Rattle.apple_double.specs.Parcel.{Parcels}
use Rattle.apple_double.specs.declared.parcel.Parcel.{Parcel}
use Rattle.apple_double.specs.declared.parcel.ParcelFault.{ParcelFault}
use Rattle.apple_double.specs.declared.parcel.Shape.{Shape}
use Rattle.apple_double.specs.declared.parcel.Shape.TheVariants.{Single, Double}
use Rattle.afpd_lib.specs.server.Telling.{Tells}
use Rattle.afptool_lib.specs.declared.tool.parcels.ParcelEnd.{ParcelEnd}
use Rattle.afptool_lib.specs.declared.tool.parcels.ParcelEnd.TheVariants as ends

-- the word of a format
abbrev pub shape_word : Shape → List ℕ
shape_word Single = codes "single"
shape_word Double = codes "double"

-- a parcel of this format, whose forks have so many bytes
abbrev pub parcel_line : Shape → ℕ → ℕ → List ℕ
parcel_line shape data_size resource_size =
    shape_word shape ++ (codes " data " ++ (decimal data_size ++ (codes " resource " ++ (decimal resource_size ++ codes "\n"))))

-- what is printed
abbrev pub parcel_text : ParcelEnd → List ℕ
parcel_text (ends.Whole shape data_size resource_size) = parcel_line shape data_size resource_size
parcel_text ends.Bad = codes "bad parcel\n"
parcel_text ends.ReadFault = []
parcel_text ends.Spent = []
parcel_text ends.Memory = []

-- the status, where all was printed
abbrev pub parcel_status : ParcelEnd → ℕ
parcel_status (ends.Whole shape data_size resource_size) = 0
parcel_status ends.Bad = 3
parcel_status ends.ReadFault = 4
parcel_status ends.Spent = 8
parcel_status ends.Memory = 6

-- The source was read to its end, and gave these bytes; no read was made where as many as `turns` had been taken.
pub record GivesAll (turns : ℕ) (old : SourceState) (bytes : List ℕ) (new : SourceState) : Type 0 where
  pub given : new.given ≡ option_map (λ given. given ++ bytes) old.given
  pub ended : new.ended ≡ true
  pub fewer : length bytes < turns
  pub faults : new.faults ≡ old.faults

-- A read failed behind fewer bytes than `turns`, and its fault is counted.
pub record GivesUp (turns : ℕ) (old : SourceState) (bytes : List ℕ) (new : SourceState) : Type 0 where
  pub given : new.given ≡ option_map (λ given. given ++ bytes) old.given
  pub fewer : length bytes < turns
  pub fault : CountsOn 1 old.faults new.faults

-- These bytes were read, and no read failed, nor was one made where as many as `turns` had been taken.
pub record GivesPart (turns : ℕ) (old : SourceState) (bytes : List ℕ) (new : SourceState) : Type 0 where
  pub given : new.given ≡ option_map (λ given. given ++ bytes) old.given
  pub within : ReadWithin turns bytes old new
  pub faults : new.faults ≡ old.faults

-- All that the source gives is a parcel, and holds a file whose forks have so many bytes.
pub record HoldsForks (bytes : List ℕ) (shape : Shape) (data_size resource_size : ℕ) : Type 0 where
  pub file : Parcel
  pub holds : Parcels bytes shape file
  pub data_size_is : data_size ≡ length file.data_fork
  pub resource_size_is : resource_size ≡ length file.resource_fork

-- The bytes are no parcel, for this fault.
abbrev pub IsBadParcel : List ℕ → Type 0
IsBadParcel bytes = (fault : ParcelFault) × (parcel_fault bytes ≡ Some fault)

-- what the source gives comes to this
abbrev pub ComesTo : ℕ → SourceState → SourceState → ParcelEnd → Type 0
ComesTo turns old new (ends.Whole shape data_size resource_size) = (bytes : List ℕ) × GivesAll turns old bytes new × HoldsForks bytes shape data_size resource_size
ComesTo turns old new ends.Bad = (bytes : List ℕ) × GivesAll turns old bytes new × IsBadParcel bytes
ComesTo turns old new ends.ReadFault = (bytes : List ℕ) × GivesUp turns old bytes new
ComesTo turns old new ends.Spent = (bytes : List ℕ) × GivesPart turns old bytes new × (turns ≤ length bytes)
ComesTo turns old new ends.Memory = (bytes : List ℕ) × (new.given ≡ option_map (λ given. given ++ bytes) old.given) × (new.faults ≡ old.faults)

-- A parcel is read: what is printed, and the status, are those of what it comes to.
pub record RunsParcel (turns : ℕ) (old new : SourceState) (before after : SinkState) (status : ℕ) : Type 0 where
  pub end : ParcelEnd
  pub comes : ComesTo turns old new end
  pub told : Tells (parcel_text end) (parcel_status end) before after status
