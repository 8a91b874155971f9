-- get PATH (this profile).
use Rattle.std.specs.Prelude.{ℕ, List}
use Rattle.afp_base.specs.declared.ids.VolumeId.{VolumeId}
use Rattle.client_script_lines.specs.calls.Requests.{open_fork, to_read}
use Rattle.client_script_lines.specs.texts.Texts.{got_text}
use Rattle.client_script_commands.specs.parts.Parts.{Part, done}
use Rattle.client_script_commands.specs.get.Reads.{read_fork}

abbrev pub get : VolumeId → List ℕ → Part
get volume path = read_fork (open_fork volume to_read path) (λ bytes. done (got_text bytes))
