-- The command of the server: the words of its command line are read as one simple command (this profile).
use Rattle.std.specs.Prelude.{ℕ, List, [], ◌∷◌, Some, true, codes}
use Rattle.clap.specs.Walk.{Rule}
use Rattle.clap.specs.Simple.{App, new_app, new_rule, on_top, with_rule}
use Rattle.clap.specs.declared.builder.action.ArgAction.TheVariants.{Set, Append}
use Rattle.clap.specs.declared.builder.value_parser.ValueParser.{ValueParser}
use Rattle.clap.specs.declared.builder.value_parser.ValueParser.TheVariants as parsers

-- a word with a value, and its default
abbrev pub option_rule : List ℕ → List ℕ → ValueParser → Rule
option_rule name default parser = record (new_rule name) { long = Some name; action = Some Set; parser = Some parser; defaults = default ∷ []; value_names = 1 }

abbrev pub users_rule : Rule
users_rule = record (new_rule (codes "users")) { long = Some (codes "users"); action = Some Set; value_names = 1 }

-- one volume at least
abbrev pub volumes_rule : Rule
volumes_rule = record (new_rule (codes "volumes")) { required = true; action = Some Append; value_names = 1 }

-- the words stand behind the program's name; it tells its version
abbrev pub bare : App
bare = on_top (λ s. record s { no_binary_name = true; has_version = true }) (new_app (codes "afpd"))

unfoldable pub server_app : App
server_app = with_rule (with_rule (with_rule (with_rule (with_rule (with_rule (with_rule (with_rule (with_rule bare
    (option_rule (codes "server") (codes "Mac") parsers.String))
    (option_rule (codes "signature") (codes "00000000000000000000000000000000") parsers.String))
    (option_rule (codes "message") [] parsers.String))
    (option_rule (codes "port") (codes "548") (parsers.Unsigned 0 65535)))
    (option_rule (codes "workers") (codes "4") (parsers.Unsigned 1 16)))
    (option_rule (codes "links") (codes "0") (parsers.Unsigned 0 1000000)))
    (option_rule (codes "turns") (codes "9223372036854775807") (parsers.Unsigned 0 9223372036854775807)))
    users_rule)
    volumes_rule
