-- swap PATH TARGET (this profile).
use Rattle.std.specs.Prelude.{ℕ, List, codes}
use Rattle.afp_base.specs.declared.ids.VolumeId.{VolumeId}
use Rattle.client_script_lines.specs.calls.Requests.{exchange}
use Rattle.client_script_commands.specs.parts.Parts.{Part, done, must_do}

abbrev pub swap : VolumeId → List ℕ → List ℕ → Part
swap volume path target = must_do (exchange volume path target) (done (codes "ok"))
