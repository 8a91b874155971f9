use Rattle.std.proofs.Common.{sym, ap, ◌∙◌, arith, List, ℕ}
use Rattle.capture_log_server.specs.Connections.{difference}
use Rattle.capture_log_server.specs.States.{ConnectionState}
use Rattle.capture_log_server.proofs.ConnectionLemmas.{compared}
use Rattle.capture_log_server.proofs.connection.Connection.compare.Goals as goal

pub returns : goal.returns
returns c = λ block s is.
    let old = c.args.self.now in
    compared block c.args.wanted.now c.args.self.now c.pass.new.self s c.in-Some.named is
    (ap (λ (l : List ℕ). difference old.named c.args.wanted.now l) (sym c.uncompared.ensures) ∙ ap (λ (x : ConnectionState). difference x.named c.args.wanted.now c.uncompared.result.now) (sym c.self.view_is)
    ∙ sym c.first_difference.ensures ∙ c.in_default-first_difference.is)
    c.pass.ensures.rest c.pass.ensures.inside c.pass.ensures.others (omega (arith, ap (λ (x : ConnectionState). x.named) c.self.view_is))
