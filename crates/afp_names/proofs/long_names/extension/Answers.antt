use Rattle.std.proofs.Common.{◌∙◌, sym}
use Rattle.afp_names.proofs.LongNameLemmas.{extension_of-none, extension_of-dot}
use Rattle.afp_names.proofs.long_names.extension.Goals as goal

pub returns-in-Some : goal.returns-in-Some
returns-in-Some c =
    c.extension_at.ensures ∙ sym (extension_of-dot c.args.text.now c.in-Some.dot c.in-Some.ensures.some.0 c.in-Some.ensures.dot c.in-Some.ensures.some.1)

pub returns-in-None : goal.returns-in-None
returns-in-None c = sym (extension_of-none c.args.text.now c.in-None.ensures.none)
