-- hold PATH: the fork stays open (this profile).
use Rattle.std.specs.Prelude.{ℕ, List, codes}
use Rattle.afp_base.specs.declared.ids.VolumeId.{VolumeId}
use Rattle.client_script_lines.specs.texts.Texts.{numbered}
use Rattle.client_script_lines.specs.calls.Requests.{open_fork, to_hold}
use Rattle.client_script_commands.specs.parts.Parts.{Part, done, must_tell}
use Rattle.client_script_commands.specs.commands.Replies.{fork_in}

abbrev pub hold : VolumeId → List ℕ → Part
hold volume path = must_tell fork_in (open_fork volume to_hold path) (λ reference. done (numbered (codes "ref ") reference.0))
