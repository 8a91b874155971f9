-- bye (this profile).
use Rattle.std.specs.Prelude.{codes}
use Rattle.afp_calls_grammar.specs.declared.grammar.call.Call.TheVariants.{Logout}
use Rattle.client_script_commands.specs.parts.Parts.{Part, done, must_do}

abbrev pub bye : Part
bye = must_do Logout (done (codes "ok"))
