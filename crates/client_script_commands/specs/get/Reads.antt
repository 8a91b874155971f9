-- Reads of a fork until its end (this profile).
use Rattle.std.specs.Prelude.{ℕ, ◌^◌, nat_lt, if◌then◌else◌, List, [], ◌∷◌, ◌++◌, length}
use Rattle.afp_base.specs.declared.code.Code.{Code}
use Rattle.afp_base.specs.declared.code.Code.TheVariants as code
use Rattle.afp_base.specs.declared.ids.ForkRef.{ForkRef}
use Rattle.afp_calls_grammar.specs.declared.grammar.call.Call.{Call}
use Rattle.client_script_lines.specs.calls.Requests.{close_fork, read}
use Rattle.client_script_commands.specs.parts.Parts.{Next, asks, bad_reply, Part, closes_refused, must_do, must_tell}
use Rattle.client_script_commands.specs.commands.Replies.{fork_in, piece_in}

-- the fork is closed, and this follows
abbrev pub closes : ForkRef → Part → Part
closes reference next = must_do (close_fork reference) next

-- what the next read leads to, where it may begin behind so many bytes (a signed offset of 4 bytes)
abbrev pub if_within : ℕ → Next → Next
if_within n more = if nat_lt n (2 ^ 31) then more else bad_reply

-- A read is told this, with these bytes read in all: what the next read leads to; at the end what follows; or a refusal.
abbrev pub read_told : Code → ForkRef → List ℕ → Next → Part → Part
read_told code.Ok reference got more next answers = if_within (length got) more
read_told code.EOFErr reference got more next answers = closes reference next answers
read_told c reference got more next answers = closes_refused reference c answers

-- reads until the end, behind these bytes, and what follows all that was read
unfoldable pub reads : ForkRef → (List ℕ → Part) → List ℕ → Part
reads reference next got [] = asks (read reference (length got))
reads reference next got (answer ∷ answers) =
    read_told answer.code reference (got ++ piece_in answer.reply) (reads reference next (got ++ piece_in answer.reply) answers) (next (got ++ piece_in answer.reply)) answers

-- the same, where the next read may begin there
unfoldable pub reads_behind : ForkRef → (List ℕ → Part) → List ℕ → Part
reads_behind reference next got answers = if_within (length got) (reads reference next got answers)

-- A fork that this call opens is read until its end and closed; then this follows its bytes.
unfoldable pub read_fork : Call → (List ℕ → Part) → Part
read_fork opens next = must_tell fork_in opens (λ reference. reads reference next [])
