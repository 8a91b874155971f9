use Rattle.std.proofs.Common.{sym, ap, ◌∙◌}
use Rattle.std.specs.Prelude.{is_some}
use Rattle.capture_log.specs.Taking.{HeldCapture, house_with, refused_by}
use Rattle.capture_log.proofs.TakingLemmas.{part_taken}
use Rattle.capture_log.proofs.capture.Capture.take_part.Goals as goal

pub returns : goal.returns
returns g c = λ s is.
    part_taken c.args.self.now _ s c.args.line.now c.args.part is c.requires.may c.requires.other
    (sym c.if-refuses.false ∙ c.refuses.ensures ∙ ap (λ (x : HeldCapture). refused_by x.house c.args.line.now) c.self.view_is)
    (ap (λ h. record { part = c.args.part; house = h; waiting = is_some c.self.inside.fresh; running = c.self.inside.running; number = c.self.inside.number }) c.in_ok-take.ensures
    ∙ ap (λ (x : HeldCapture). record { part = c.args.part; house = house_with x.house c.args.line.now; waiting = x.waiting; running = x.running; number = x.number }) c.self.view_is)

pub take-requires : goal.take-requires
take-requires g c = sym c.refuses.ensures ∙ c.if-refuses.false
