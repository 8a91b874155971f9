use Rattle.std.proofs.Common.{◌∙◌, ap, sym, refl}
use Rattle.afp_calls_grammar.specs.declared.grammar.call.Call.TheVariants.{LoginExt}
use Rattle.afp_serial.specs.Login.{logs_in_row}
use Rattle.afp_core_calls.proofs.OfSession.LoginLemmas.{login-ext-row}
use Rattle.afp_core_calls.proofs.session.login.login_ext.Goals as goal

pub returns : goal.returns
returns g c = λ flags path_kind path.
    c.log_in.ensures (LoginExt flags c.args.version.now c.args.uam.now c.args.name.now path_kind path c.args.tail.now)
    (login-ext-row flags c.args.version.now c.args.uam.now c.args.name.now path_kind path c.args.tail.now ∙ ap (logs_in_row c.args.version.now c.args.uam.now) (sym c.named.ensures))
    refl
