-- rm PATH (this profile).
use Rattle.std.specs.Prelude.{ℕ, List, codes}
use Rattle.afp_base.specs.declared.ids.VolumeId.{VolumeId}
use Rattle.client_script_lines.specs.calls.Requests.{delete}
use Rattle.client_script_commands.specs.parts.Parts.{Part, done, must_do}

abbrev pub rm : VolumeId → List ℕ → Part
rm volume path = must_do (delete volume path) (done (codes "ok"))
