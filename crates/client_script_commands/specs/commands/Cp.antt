-- cp PATH TARGET: the target is a directory and a name in it (this profile).
use Rattle.std.specs.Prelude.{ℕ, List, codes}
use Rattle.afp_base.specs.declared.ids.VolumeId.{VolumeId}
use Rattle.client_script_lines.specs.calls.Requests.{copy_to}
use Rattle.client_script_commands.specs.parts.Parts.{Part, done, must_do}

abbrev pub cp : VolumeId → List ℕ → List ℕ → List ℕ → Part
cp volume path target name = must_do (copy_to volume path target name) (done (codes "ok"))
