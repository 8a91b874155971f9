use Rattle.std.proofs.Common.{ap, ◌∙◌}
use Rattle.afp_serial.specs.Household.{Household}
use Rattle.capture_log.proofs.SetUpLemmas.{server-refused}
use Rattle.capture_log.proofs.setup.Setup.house.Goals as goal

pub returns-in_default-clause-fault : goal.returns-in_default-clause-fault
returns-in_default-clause-fault c = λ other.
    server-refused c.args.self.now c.as_slice.result.now (c.as_slice.ensures ∙ ap (λ (h : Household). h.server) c.self.view_is) c.in_default.ensures.cases.0
