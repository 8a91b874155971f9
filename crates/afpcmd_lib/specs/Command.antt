-- The command line of the client is read as one simple command (this profile).
use Rattle.std.specs.Prelude.{ℕ, List, [], ◌∷◌, Some, true, codes}
use Rattle.clap.specs.Walk.{Rule}
use Rattle.clap.specs.Simple.{App, new_app, new_rule, on_top, with_rule}
use Rattle.clap.specs.declared.builder.action.ArgAction.TheVariants.{Append, Count, Set}
use Rattle.clap.specs.declared.builder.value_parser.ValueParser.TheVariants as parsers

-- an option with a value
abbrev pub value_rule : List ℕ → Rule
value_rule name = record (new_rule name) { long = Some name; action = Some Set; value_names = 1 }

-- for how many seconds a server that is away is dialled: at most a day
abbrev pub wait_rule : Rule
wait_rule = record (new_rule (codes "wait")) { long = Some (codes "wait"); action = Some Set; parser = Some (parsers.Unsigned 0 86400); value_names = 1 }

-- a letter that may stand several times
abbrev pub flag_rule : List ℕ → ℕ → Rule
flag_rule name letter = record (new_rule name) { short = Some letter; action = Some Count }

-- a server, or the words of a command: one at least
abbrev pub words_rule : Rule
words_rule = record (new_rule (codes "words")) { required = true; action = Some Append; value_names = 1 }

-- the words stand behind the program's name; it tells its version
abbrev pub bare : App
bare = on_top (λ s. record s { no_binary_name = true; has_version = true }) (new_app (codes "afpcmd"))

unfoldable pub client_app : App
client_app = with_rule (with_rule (with_rule (with_rule (with_rule (with_rule (with_rule (with_rule (with_rule (with_rule (with_rule bare
    (value_rule (codes "user")))
    (value_rule (codes "port")))
    (value_rule (codes "password-file")))
    (value_rule (codes "batch")))
    wait_rule)
    (flag_rule (codes "quiet") 113))
    (flag_rule (codes "long") 108))
    (flag_rule (codes "deep") 114))
    (flag_rule (codes "all") 82))
    (flag_rule (codes "go-on") 99))
    words_rule
