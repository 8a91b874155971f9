use Rattle.std.proofs.Common.{sym, ◌∙◌, subst}
use Rattle.std.proofs.lemmas.Result.{IfOk-weaker}
use Rattle.afp_serial.specs.Household.{Household}
use Rattle.capture_log_server.specs.Running.{IsFreshRunning}
use Rattle.capture_log.proofs.SetUpLemmas.{set-up-good}
use Rattle.capture_log.proofs.capture.begin_running.Goals as goal

pub unreachable-requires-in_default-fault : goal.unreachable-requires-in_default-fault
unreachable-requires-in_default-fault g c = cc (sym (set-up-good c.args.setup.now c.requires.set_up) ∙ c.in-Err.ensures.fault c.in_default-fault.not-Memory)

pub returns-in_ok-teller-in-Ok : goal.returns-in_ok-teller-in-Ok
returns-in_ok-teller-in-Ok g c =
    IfOk-weaker c.new.result _ _
    (λ r fresh. subst (λ (h : Household). IsFreshRunning h c.args.now r) c.in-Ok.ensures.house (fresh c.args.now c.in_ok-teller-in-Ok.ensures))
    c.new.ensures
