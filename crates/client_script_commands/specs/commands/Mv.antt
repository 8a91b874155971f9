-- mv PATH TARGET: the target is a directory and a name in it (this profile).
use Rattle.std.specs.Prelude.{ℕ, List, codes}
use Rattle.afp_base.specs.declared.ids.VolumeId.{VolumeId}
use Rattle.client_script_lines.specs.calls.Requests.{move_to}
use Rattle.client_script_commands.specs.parts.Parts.{Part, done, must_do}

abbrev pub mv : VolumeId → List ℕ → List ℕ → List ℕ → Part
mv volume path target name = must_do (move_to volume path target name) (done (codes "ok"))
