-- The words behind `client` are read as one simple command (this profile).
use Rattle.std.specs.Prelude.{Some, true, codes}
use Rattle.clap.specs.Walk.{Rule}
use Rattle.clap.specs.Simple.{App, new_app, new_rule, on_top, with_rule}
use Rattle.clap.specs.declared.builder.action.ArgAction.TheVariants.{Set}

-- as whom to log in
abbrev pub user_rule : Rule
user_rule = record (new_rule (codes "user")) { long = Some (codes "user"); action = Some Set; value_names = 1 }

-- where the server is
abbrev pub address_rule : Rule
address_rule = record (new_rule (codes "address")) { required = true; action = Some Set; value_names = 1 }

-- the words stand behind the command's name; no word asks for help
abbrev pub bare : App
bare = on_top (λ s. record s { no_binary_name = true; disable_help_flag = true }) (new_app (codes "client"))

unfoldable pub client_app : App
client_app = with_rule (with_rule bare user_rule) address_rule
