use Rattle.std.proofs.Common.{ℕ, List, ◌∷◌, Some, Option, sym, ap, ◌∙◌}
use Rattle.atomic_table.specs.Table.{rest}
use Rattle.afp_core.specs.turns.ServerState.{ServerState}
use Rattle.afp_desk.proofs.desk.turn.turn_lent.Goals as goal

pub slot_mut-requires : goal.slot_mut-requires
slot_mut-requires g c =
    let t = c.requires.taken in
    (c.requires.table, (Some t.0, t.1 ∙ ap (λ (l : List (ℕ × Option ServerState)). (0, Some t.0) ∷ rest l) (sym t.1)))
