use Rattle.std.proofs.Common.{◌≡◌, ℕ, ap, sym, subst, rules}
use Rattle.afp_serial.proofs.Grows.{went-one}
use Rattle.afp_serial.specs.Answer.{link_number}
use Rattle.afp_serial.specs.Answered.{told_of}
use Rattle.afp_serial.specs.Shown.{Asked}
use Rattle.afp_serial.specs.declared.ask.Ask.TheVariants as ask
use Rattle.afp_serial.specs.declared.ask.Told.{Told}
use Rattle.afp_server_table.proofs.at_once.drain.Goals as goal

pub returns-clause-drains : goal.returns-clause-drains
returns-clause-drains g c =
    let first : c.in-Some.first ≡ 0 = search rules in
    let told : Told = told_of c.ask.result c.ask.new.out in
    let asked = subst (λ (n : ℕ). Asked (g.T.Teller.shown c.args.teller.now) n (link_number 0) ask.Drain told (g.T.Teller.shown c.ask.new.self)) first c.ask.ensures.asked in
    (told, went-one _ _ 0 (link_number 0) ask.Drain told asked)
