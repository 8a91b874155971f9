use Rattle.std.proofs.Common.{◌∙◌, ap, sym, refl}
use Rattle.afp_calls_grammar.specs.declared.grammar.call.Call.TheVariants.{Login}
use Rattle.afp_serial.specs.Login.{logs_in_row, tail_place}
use Rattle.afp_core_calls.proofs.OfSession.LoginLemmas.{login-row}
use Rattle.afp_core_calls.proofs.session.login.login.Goals as goal

pub returns : goal.returns
returns g c =
    c.log_in.ensures (Login c.args.version.now c.args.uam.now c.args.tail.now)
    (login-row c.args.version.now c.args.uam.now c.args.tail.now ∙ ap (logs_in_row c.args.version.now c.args.uam.now) (sym (c.credentials_at.ensures (tail_place c.args.version.now c.args.uam.now) (sym c.is_odd_tail-odd.ensures))))
    refl
