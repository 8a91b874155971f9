-- How the value of a record changes (this profile).
use Rattle.std.specs.Prelude.{ℕ, nat_eq, if◌then◌else◌, List, Option, Some, None}
use Rattle.std.specs.Cmp.Lexicographic.{pointwise}
use Rattle.volume_changes.specs.declared.records.transition.ValueChange.{ValueChange}
use Rattle.volume_changes.specs.declared.records.transition.ValueChange.TheVariants.{Same, Gone, Is}

-- from the value as it is and as it will be, each where it is there
abbrev pub value_change : Option (List ℕ) → Option (List ℕ) → ValueChange
value_change None None = Same
value_change None (Some new) = Is new
value_change (Some old) None = Gone
value_change (Some old) (Some new) = if pointwise nat_eq old new then Same else Is new
