-- find ID (this profile).
use Rattle.std.specs.Prelude.{codes}
use Rattle.afp_base.specs.declared.ids.VolumeId.{VolumeId}
use Rattle.afp_base.specs.declared.ids.NodeId.{NodeId}
use Rattle.client_script_lines.specs.texts.Texts.{worded}
use Rattle.client_script_lines.specs.calls.Requests.{resolve}
use Rattle.client_script_commands.specs.parts.Parts.{Part, done, must_tell}
use Rattle.client_script_commands.specs.commands.Replies.{name_in}

abbrev pub find : VolumeId → NodeId → Part
find volume id = must_tell name_in (resolve volume id) (λ name. done (worded (codes "name ") name))
