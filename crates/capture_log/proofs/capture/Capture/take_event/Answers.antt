use Rattle.std.proofs.Common.{sym, ap, ◌∙◌, refl}
use Rattle.std.specs.Prelude.{is_some}
use Rattle.std.proofs.lemmas.Result.{IfOk-weaker}
use Rattle.capture_log.specs.Taking.{HeldCapture}
use Rattle.capture_log.proofs.TakingLemmas.{event_taken, served}
use Rattle.capture_log.proofs.capture.Capture.take_event.Goals as goal

pub running_from-requires : goal.running_from-requires
running_from-requires g c =
    let is = c.requires.is.1 in
    (c.requires.is.0, served c.args.self.now _ c.requires.is.0 (is_some c.take-fresh.result) c.take-there.result is c.self.view_is c.take-there.ensures.value (ap is_some c.take-fresh.ensures.value), sym is.next ∙ c.requires.may)

pub act-verdict-requires-clause-is : goal.act-verdict-requires-clause-is
act-verdict-requires-clause-is g c =
    let is = c.requires.is.1 in
    let there = served c.args.self.now _ c.requires.is.0 (is_some c.take-fresh.result) c.take-there.result is c.self.view_is c.take-there.ensures.value (ap is_some c.take-fresh.ensures.value) in
    (c.requires.is.0, c.in_ok-running.ensures c.requires.is.0 there)

pub returns : goal.returns
returns g c =
    IfOk-weaker c.act-verdict.result _ _
    (λ verdict acts s is.
    let there = served c.args.self.now _ s (is_some c.take-fresh.result) c.take-there.result is c.self.view_is c.take-there.ensures.value (ap is_some c.take-fresh.ensures.value) in
    event_taken c.args.self.now _ s c.running_from.new.setup _ c.args.number c.self.inside.number c.args.link c.args.now c.args.what.now c.act-verdict.new.running c.self.inside.part verdict is c.requires.may
    (ap (λ (x : HeldCapture). x.part) c.self.view_is) (acts s (c.in_ok-running.ensures s there) (sym is.next ∙ c.requires.may)) refl)
    c.act-verdict.ensures
