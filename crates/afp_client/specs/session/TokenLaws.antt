-- The token that a reply's payload shows is what a reply to FPGetSessionToken shows.
use Rattle.std.specs.Prelude.{◌≡◌, ℕ, ◌≤◌, List, length, Some}
use Rattle.afp_base.specs.Bytes.{IsBytes}
use Rattle.afp_base.specs.declared.code.Code.TheVariants as code
use Rattle.afp_calls_grammar.specs.grammar.Commands.{get_session_token_command}
use Rattle.afp_replies.specs.Replies.{Shows}
use Rattle.afp_replies.specs.declared.reply.Reply.{Reply}
use Rattle.afp_replies.specs.declared.reply.Reply.TheVariants as replies
use Rattle.afp_replies.specs.declared.reply.ReplyKind.{ReplyKind}
use Rattle.afp_client.specs.session.Takes.{most_token, token_in}

-- the reply to a request for a token
abbrev pub token_kind : ReplyKind
token_kind = record { command = get_session_token_command; bits = 0; dir_bits = 0 }

-- the token that is shown is found, where it is not too long
abbrev pub ShownIsFound : Type 0
ShownIsFound = (payload : List ℕ) (r : Reply) → Shows r token_kind code.Ok payload
    → (token : List ℕ) × (r ≡ replies.Token token) × (length token ≤ most_token → token_in payload ≡ Some token)

-- and what is found is shown
abbrev pub FoundIsShown : Type 0
FoundIsShown = (payload token : List ℕ) → IsBytes payload → token_in payload ≡ Some token
    → (length token ≤ most_token) × Shows (replies.Token token) token_kind code.Ok payload
