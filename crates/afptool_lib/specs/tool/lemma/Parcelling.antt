-- What the code goes by beside Parcelling; no public contract cites it.
use Rattle.std.specs.Prelude.{◌≡◌, ℕ, ◌≤◌, List, ◌++◌, length, option_map}
use Rattle.afp_outside.specs.ends.Source.{SourceState, ReadWithin}
use Rattle.afptool_lib.specs.tool.Parcelling.{GivesAll, GivesPart, GivesUp, HoldsForks, IsBadParcel}
use Rattle.afptool_lib.specs.declared.tool.parcels.ParcelEnd.{ParcelEnd}
use Rattle.afptool_lib.specs.declared.tool.parcels.ParcelEnd.TheVariants as ends
use Rattle.afptool_lib.specs.declared.tool.parcels.ReadStop.{ReadStop}
use Rattle.afptool_lib.specs.declared.tool.parcels.ReadStop.TheVariants as stops

-- what stopped the reading of a source
abbrev pub ReadsTo : ℕ → SourceState → SourceState → ReadStop → Type 0
ReadsTo turns old new (stops.All bytes) = GivesAll turns old bytes new
ReadsTo turns old new stops.ReadFault = (bytes : List ℕ) × GivesUp turns old bytes new
ReadsTo turns old new stops.Spent = (bytes : List ℕ) × GivesPart turns old bytes new × (turns ≤ length bytes)
ReadsTo turns old new stops.Memory = (bytes : List ℕ) × (new.given ≡ option_map (λ given. given ++ bytes) old.given) × (new.faults ≡ old.faults)

-- what bytes are found to be; where there was no memory they may be anything
abbrev pub JudgesTo : List ℕ → ParcelEnd → Type 0
JudgesTo bytes (ends.Whole shape data_size resource_size) = HoldsForks bytes shape data_size resource_size
JudgesTo bytes ends.Bad = IsBadParcel bytes
JudgesTo bytes ends.ReadFault = ⊥
JudgesTo bytes ends.Spent = ⊥
JudgesTo bytes ends.Memory = Unit {0}

-- So much was read so far.
pub record HasRead (turns : ℕ) (old : SourceState) (bytes : List ℕ) (taken : ℕ) (now : SourceState) : Type 0 where
  pub given : now.given ≡ option_map (λ given. given ++ bytes) old.given
  pub within : ReadWithin turns bytes old now
  pub faults : now.faults ≡ old.faults
  pub many : taken ≡ length bytes
