use Rattle.afp_serial.proofs.DrawnOnce.{DrawLaws, ids-are-drawn-once}
use Rattle.afp_serial.proofs.laws.ids_are_drawn_once.Goals as goal

pub returns : goal.returns
returns c =
    let laws : DrawLaws = record { next = c.edits_draw_ids_once.ensures.next; old = c.edits_draw_ids_once.ensures.old; tree = c.effects_are_edits.ensures.tree; forks = c.effects_are_edits.ensures.forks } in
    ids-are-drawn-once laws
