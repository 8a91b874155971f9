-- show PATH (this profile).
use Rattle.std.specs.Prelude.{ℕ, List, codes}
use Rattle.afp_base.specs.declared.ids.VolumeId.{VolumeId}
use Rattle.client_script_lines.specs.texts.Texts.{worded}
use Rattle.client_script_lines.specs.calls.Requests.{get_comment, open_desk}
use Rattle.client_script_commands.specs.parts.Parts.{Part, done, must_tell}
use Rattle.client_script_commands.specs.commands.Replies.{comment_in, desk_in}

abbrev pub show : VolumeId → List ℕ → Part
show volume path = must_tell desk_in (open_desk volume) (λ dt. must_tell comment_in (get_comment dt path) (λ comment. done (worded (codes "note ") comment)))
