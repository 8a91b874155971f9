use Rattle.std.proofs.Common.{◌≡◌, ℕ, List, None, subst, sym}
use Rattle.afp_names.specs.Name.{name_fault}
use Rattle.afp_core.proofs.keepers.loading.name_of.Goals as goal

pub unreachable-requires : goal.unreachable-requires
unreachable-requires c = c.in_default.not-Memory (c.in-Err.ensures.memory (subst (λ (l : List ℕ). name_fault l ≡ None) (sym c.as_slice.ensures) c.requires))
