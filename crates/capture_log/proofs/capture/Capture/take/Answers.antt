use Rattle.std.proofs.Common.{ℕ, ap, subst}
use Rattle.std.specs.Prelude.{is_some}
use Rattle.capture_log.specs.Taking.{HeldCapture, TakesRawLine}
use Rattle.capture_log.proofs.LineLemmas.{linked}
use Rattle.capture_log.proofs.TakingLemmas.{line_taken}
use Rattle.capture_log.proofs.capture.Capture.take.Goals as goal

pub take_line-requires-clause-linked : goal.take_line-requires-clause-linked
take_line-requires-clause-linked g c = linked c.args.raw.now c.in_ok-line.field-0 c.in-Some.line c.in_ok-line.ensures c.in-Some.is

pub returns : goal.returns
returns g c = λ s is.
    let now : HeldCapture = record { part = c.self-2.inside.part; house = c.self-2.inside.setup; waiting = is_some c.self-2.inside.fresh; running = c.self-2.inside.running; number = c.in_ok-number.number } in
    subst (λ (n : ℕ). TakesRawLine s n c.args.raw.now c.in_ok-verdict.verdict now) c.in_ok-number.ensures
    (line_taken s c.in_ok-number.number c.args.raw.now c.in-Some.line c.in_ok-line.field-0 c.in_ok-verdict.verdict c.take_line.new.self now c.in_ok-line.ensures c.in-Some.is (c.in_ok-verdict.ensures s is)
    (ap (λ (x : HeldCapture). record { part = x.part; house = x.house; waiting = x.waiting; running = x.running; number = c.in_ok-number.number }) c.self-2.view_is))
