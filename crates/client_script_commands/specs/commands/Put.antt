-- put PATH BYTES: a fork that was opened is closed, also where the write is refused (this profile).
use Rattle.std.specs.Prelude.{ℕ, List, length, codes}
use Rattle.afp_base.specs.declared.ids.VolumeId.{VolumeId}
use Rattle.client_script_lines.specs.texts.Texts.{numbered}
use Rattle.client_script_lines.specs.calls.Requests.{create_file, open_fork, to_put, write, close_fork}
use Rattle.client_script_commands.specs.parts.Parts.{Part, done, in_fork, must_do, must_tell}
use Rattle.client_script_commands.specs.commands.Replies.{fork_in}

abbrev pub put : VolumeId → List ℕ → List ℕ → Part
put volume path piece =
    must_do (create_file volume path)
    (must_tell fork_in (open_fork volume to_put path) (λ reference.
    in_fork reference (write reference piece)
    (must_do (close_fork reference)
    (done (numbered (codes "put ") (length piece))))))
