-- The comment of a file, where it has one (this profile).
use Rattle.std.specs.Prelude.{ℕ, List, Option, None}
use Rattle.afp_base.specs.declared.code.Code.{Code}
use Rattle.afp_base.specs.declared.code.Code.TheVariants as code
use Rattle.afp_base.specs.declared.ids.VolumeId.{VolumeId}
use Rattle.afp_calls_grammar.specs.declared.grammar.call.Call.{Call}
use Rattle.afp_replies.specs.declared.reply.Reply.{Reply}
use Rattle.apple_double.specs.Contents as contents
use Rattle.client_script_lines.specs.calls.Requests.{get_comment, open_desk}
use Rattle.client_script_commands.specs.parts.Parts.{Part, ask, must_tell, needs, refuses}
use Rattle.client_script_commands.specs.commands.Replies.{comment_in, desk_in}

-- A call for a comment is told this: the comment, as a parcel holds it; that there is none; or a refusal.
abbrev pub comment_told : Code → Reply → (Option (List ℕ) → Part) → Part
comment_told code.Ok reply next = needs (comment_in reply) (λ text. next (contents.comment_in text))
comment_told code.ItemNotFound reply next = next None
comment_told c reply next = refuses c

-- a call for a comment, and what follows the comment
unfoldable pub ask_comment : Call → (Option (List ℕ) → Part) → Part
ask_comment call next = ask call (λ answer. comment_told answer.code answer.reply next)

-- the comment of what is at a path, and what follows it
unfoldable pub comment_at : VolumeId → List ℕ → (Option (List ℕ) → Part) → Part
comment_at volume path next = must_tell desk_in (open_desk volume) (λ dt. ask_comment (get_comment dt path) next)
