-- mount VOLUME (this profile).
use Rattle.std.specs.Prelude.{ℕ, List, codes}
use Rattle.client_script_lines.specs.texts.Texts.{numbered}
use Rattle.client_script_lines.specs.calls.Requests.{open_volume}
use Rattle.client_script_commands.specs.parts.Parts.{Part, done, must_tell}
use Rattle.client_script_commands.specs.commands.Replies.{volume_in}
use Rattle.afp_base.specs.declared.ids.VolumeId.{VolumeId}

abbrev pub mount : List ℕ → Part
mount name = must_tell volume_in (open_volume name) (λ volume. done (numbered (codes "mounted ") volume.0))
