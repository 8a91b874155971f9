-- What the code and the proofs go by beside Loads; no public contract cites it.
use Rattle.std.specs.Prelude.{◌≡◌, ℕ, Bool, List, Option}
use Rattle.afp_core.specs.declared.keepers.core_fault.CoreFault.{CoreFault}
use Rattle.afp_core.specs.declared.keepers.core_fault.CoreFault.TheVariants.{Count, Load, Memory}
use Rattle.record_keeper.specs.Records.{Records}
use Rattle.afp_core.specs.keepers.Loads.{IsLoadFaultOf}

-- the same of the load at an index
abbrev pub IsFaultAt : ℕ → List ℕ → Option Records → Bool → CoreFault → Type 0
IsFaultAt index name records sure Count = ⊥
IsFaultAt index name records sure (Load at_index fault) = (at_index ≡ index) × IsLoadFaultOf name records sure fault
IsFaultAt index name records sure Memory = Unit {0}
