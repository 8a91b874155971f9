-- mkdir PATH (this profile).
use Rattle.std.specs.Prelude.{ℕ, List, codes}
use Rattle.afp_base.specs.declared.ids.VolumeId.{VolumeId}
use Rattle.client_script_lines.specs.texts.Texts.{numbered}
use Rattle.client_script_lines.specs.calls.Requests.{create_dir}
use Rattle.client_script_commands.specs.parts.Parts.{Part, done, must_tell}
use Rattle.client_script_commands.specs.commands.Replies.{node_in}

abbrev pub mkdir : VolumeId → List ℕ → Part
mkdir volume path = must_tell node_in (create_dir volume path) (λ id. done (numbered (codes "dir ") id))
