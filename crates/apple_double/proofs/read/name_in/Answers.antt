use Rattle.std.proofs.Common.{sym, ◌∙◌, ◌≡◌}
use Rattle.afp_names.specs.MacRoman.{mac_roman_text}
use Rattle.apple_double.specs.Contents.{if_name, name_in}
use Rattle.std.proofs.lemmas.Result.{IfOk-weaker}
use Rattle.apple_double.proofs.Names.{name_in-utf8, name_in-other}
use Rattle.apple_double.proofs.read.name_in.Goals as goal

pub returns-in-Some : goal.returns-in-Some
returns-in-Some c = name_in-utf8 c.args.bytes.now c.in-Some.name (sym c.in-Some.is ∙ c.in_ok-name.ensures)

pub returns-in-None : goal.returns-in-None
returns-in-None c =
    IfOk-weaker c.mac_roman_name.result (λ name. name ≡ if_name (mac_roman_text c.args.bytes.now)) (λ name. name ≡ name_in c.args.bytes.now)
    (λ name e. e ∙ name_in-other c.args.bytes.now (sym c.in-None.is ∙ c.in_ok-name.ensures)) c.mac_roman_name.ensures
