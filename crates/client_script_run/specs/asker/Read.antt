-- The exchanges of a script, by the results of its calls over links (this profile).
use Rattle.std.specs.Prelude.{◌≡◌, List, [], ◌∷◌}
use Rattle.afp_calls_grammar.specs.declared.grammar.call.Call.{Call}
use Rattle.afp_client.specs.session.Run.{Result as CallResult}
use Rattle.afp_replies.specs.Replies.{Shows}
use Rattle.client_script_commands.specs.declared.parts.asker.Answer.{Answer}
use Rattle.client_script_commands.specs.parts.Parts.{Exchange}
use Rattle.afp_serial.specs.ReplyKinds.{reply_kind}

-- calls, each with its answer
abbrev pub zipped : List Call → List Answer → List Exchange
zipped [] answers = []
zipped (call ∷ calls) [] = []
zipped (call ∷ calls) (answer ∷ answers) = record { call = call; answer = answer } ∷ zipped calls answers

-- The call was told this result, and the reply is what its block shows.
pub record IsRead (x : Exchange) (told : CallResult) : Type 0 where
  pub call : x.call ≡ told.call
  pub code : x.answer.code ≡ told.code
  pub shows : Shows x.answer.reply (reply_kind told.call) told.code told.block

-- These were told, in order.
abbrev pub AreRead : List Exchange → List CallResult → Type 0
AreRead [] [] = Unit {0}
AreRead [] (told ∷ results) = ⊥
AreRead (x ∷ exchanges) [] = ⊥
AreRead (x ∷ exchanges) (told ∷ results) = IsRead x told × AreRead exchanges results
