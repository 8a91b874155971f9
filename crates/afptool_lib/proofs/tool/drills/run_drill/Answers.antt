use Rattle.std.proofs.Common.{inl, inr, refl, subst, ℕ, List}
use Rattle.afptool_lib.proofs.tool.drills.run_drill.Goals as goal
use Rattle.afptool_lib.specs.tool.Lines.{drill_line}
use Rattle.afpd_lib.specs.server.Telling.{Tells}
use Rattle.afptool_lib.specs.tool.Tool.{drill_counts}

pub new-requires : goal.new-requires
new-requires g c = c.requires.keepers.new

pub returns-in-Ok : goal.returns-in-Ok
unfolding drill_counts
returns-in-Ok g c =
    let is = c.in-Ok.ensures in
    inl (subst (λ (text : List ℕ). Tells text 0 (g.O.Sink.sink_state c.args.out.now) (g.O.Sink.sink_state c.tell.new.out) c.tell.result) (λ i. drill_line (is.commands i) (is.breaks i) (is.ok i) (is.refused i)) c.tell.ensures)

pub returns-in-Err : goal.returns-in-Err
returns-in-Err g c = inr (refl, refl)
