-- drop REFERENCE (this profile).
use Rattle.std.specs.Prelude.{codes}
use Rattle.afp_base.specs.declared.ids.ForkRef.{ForkRef}
use Rattle.client_script_lines.specs.calls.Requests.{close_fork}
use Rattle.client_script_commands.specs.parts.Parts.{Part, done, must_do}

abbrev pub drop : ForkRef → Part
drop reference = must_do (close_fork reference) (done (codes "ok"))
