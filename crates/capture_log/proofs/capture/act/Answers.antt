use Rattle.std.proofs.Common.{◌≡◌, sym, ◌∙◌, suc, ◌-◌, arith, refl}
use Rattle.capture_log_server.specs.CaptureState.{start_at}
use Rattle.capture_log.specs.Taking.{begun}
use Rattle.capture_log.proofs.TakingLemmas.{acted, event_refused, begun-running}
use Rattle.capture_log.proofs.capture.act.Goals as goal

pub returns-then-is_refused_on : goal.returns-then-is_refused_on
returns-then-is_refused_on g c = λ s runs there.
    let index : suc (c.args.link - 1) ≡ c.args.link = omega (arith, c.requires.link.0) in
    (event_refused s (c.args.link - 1) c.args.link c.args.now c.args.what.now index (sym c.if-is_refused_on.true ∙ c.is_refused_on.ensures s (start_at s.start c.args.now) runs), refl)

pub returns : goal.returns
returns g c = λ s runs there.
    let index : suc (c.args.link - 1) ≡ c.args.link = omega (arith, c.requires.link.0) in
    acted s c.args.number (c.args.link - 1) c.args.link c.args.now c.args.what.now c.happen.new.self c.in_ok-found.found c.verdict_on.result there index
    (sym c.if-is_refused_on.false ∙ c.is_refused_on.ensures s (start_at s.start c.args.now) runs)
    (c.in_ok-found.ensures (begun s c.args.now) (start_at s.start c.args.now) (begun-running s c.args.now c.args.running.now runs) refl)
    c.verdict_on.ensures
