use Rattle.std.proofs.Common.{refl}
use Rattle.clap.proofs.OnLiterals.{clap_on_literals}
use Rattle.afptool_lib.specs.client.Command.{client_app}
use Rattle.afptool_lib.proofs.client.laws.worked_words_hold.Goals as goal

pub returns-clause-good : goal.returns-clause-good
unfolding clap_on_literals client_app
returns-clause-good c = record { guest = refl; user = refl; joined = refl; behind = refl }

pub returns-clause-bad : goal.returns-clause-bad
unfolding clap_on_literals client_app
returns-clause-bad c = record {
  none = refl;
  other = refl;
  no_address = refl;
  two_addresses = refl;
  help = refl;
  no_colon = refl;
  no_name = refl;
  long_password = refl;
  two_users = refl;
}
