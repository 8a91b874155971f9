-- lock REFERENCE FROM LENGTH (this profile).
use Rattle.std.specs.Prelude.{ℕ, codes}
use Rattle.afp_base.specs.declared.ids.ForkRef.{ForkRef}
use Rattle.client_script_lines.specs.texts.Texts.{numbered}
use Rattle.client_script_lines.specs.calls.Requests as requests
use Rattle.client_script_commands.specs.parts.Parts.{Part, done, must_tell}
use Rattle.client_script_commands.specs.commands.Replies.{start_in}

abbrev pub lock : ForkRef → ℕ → ℕ → Part
lock reference from size = must_tell start_in (requests.lock reference from size) (λ start. done (numbered (codes "start ") start))
