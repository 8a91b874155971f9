-- note PATH TEXT (this profile).
use Rattle.std.specs.Prelude.{ℕ, List, codes}
use Rattle.afp_base.specs.declared.ids.VolumeId.{VolumeId}
use Rattle.client_script_lines.specs.calls.Requests.{add_comment, open_desk}
use Rattle.client_script_commands.specs.parts.Parts.{Part, done, must_do, must_tell}
use Rattle.client_script_commands.specs.commands.Replies.{desk_in}

abbrev pub note : VolumeId → List ℕ → List ℕ → Part
note volume path text = must_tell desk_in (open_desk volume) (λ dt. must_do (add_comment dt path text) (done (codes "ok")))
