-- id PATH (this profile).
use Rattle.std.specs.Prelude.{ℕ, List, codes}
use Rattle.afp_base.specs.declared.ids.VolumeId.{VolumeId}
use Rattle.client_script_lines.specs.texts.Texts.{numbered}
use Rattle.client_script_lines.specs.calls.Requests.{get_id}
use Rattle.client_script_commands.specs.parts.Parts.{Part, done, must_tell}
use Rattle.client_script_commands.specs.commands.Replies.{id_in}

abbrev pub id : VolumeId → List ℕ → Part
id volume path = must_tell id_in (get_id volume path) (λ number. done (numbered (codes "id ") number))
