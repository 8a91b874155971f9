use Rattle.std.proofs.Common.{◌∙◌, ap, ℕ, List, ◌++◌, sym}
use Rattle.capture_log_server.specs.CaptureState.{begins}
use Rattle.capture_log_lines.specs.made.Lines.{ended_lines, house_lines}
use Rattle.capture_made.proofs.OfMade.AddingLemmas.{ended-append, exchanged-join, on_ok_with}
use Rattle.capture_made.proofs.made.making.begin.Goals as goal

pub add_house-requires : goal.add_house-requires
add_house-requires g c = (begins, c.requires)

pub returns : goal.returns
returns g c =
    on_ok_with c.add_connection-3.result _ _
    (λ x empty number.
    let h = c.in_ok-add_house.ensures.adds begins c.requires in
    let a = c.in_ok-add_connection.ensures.exchanged h.after h.is in
    let b = c.in_ok-add_connection-2.ensures.exchanged a.after a.is in
    let d = x b.after b.is in
    let all = exchanged-join h.after _ _ _ _ _ _ _ a (exchanged-join a.after _ _ _ _ _ _ _ b d) in
    record {
      lines = all.lines;
      runs = record { opened = h.after; now = all.after; house = h.leads; exchanges = all.exchanges; is = all.is };
      text_is =
          all.text_is ∙ ap (λ (t : List ℕ). t ++ ended_lines all.lines) (h.text_is ∙ ap (λ (t : List ℕ). t ++ ended_lines house_lines) empty) ∙ sym (ended-append house_lines all.lines);
    })
    c.add_connection-3.ensures.exchanged
