use Rattle.std.proofs.Common.{ℕ, List, [], refl, sym, ap, ◌∙◌, subst}
use Rattle.afp_outside.specs.ends.Gate.{Passed, none_passed}
use Rattle.afp_server.specs.link.Requests.{Requests, no_requests}
use Rattle.afp_server.specs.link.Progress.{Start, SoFar, point}
use Rattle.afp_server.specs.declared.link.stage.Stage.TheVariants as stages
use Rattle.afp_server.proofs.OfLink.Serving.{so_far-none}
use Rattle.afp_server.proofs.connection.connection.Connection.new.Goals as goal

pub returns-clause-begins : goal.returns-clause-begins
returns-clause-begins g c = λ passed block turns shown none.
    let link = g.L.ReadyLink.link_state c.args.link in
    let start : Start = record { block = block; turns = turns; link = link; shown = shown } in (
      (refl, refl),
      subst (λ (p : Passed). SoFar start (point (record { place = 0; rest = c.new-2.result }) stages.Fresh c.new.result link shown p) 0) (sym none)
          (subst (λ (rest : List ℕ). SoFar start (point (record { place = 0; rest = rest }) stages.Fresh c.new.result link shown none_passed) 0) (sym c.new-2.ensures)
          (subst (λ (r : Requests). SoFar start (point (record { place = 0; rest = [] }) stages.Fresh r link shown none_passed) 0) (sym (c.new.ensures ∙ ap no_requests c.now-now.ensures)) (so_far-none start))),
    )
