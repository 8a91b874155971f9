-- What asking does, told over every part that follows (this profile).
use Rattle.std.specs.Prelude.{◌≡◌, ℕ, List, [], ◌∷◌, Option, Result, Ok, Err}
use Rattle.afp_base.specs.declared.code.Code.{Code}
use Rattle.afp_base.specs.declared.ids.ForkRef.{ForkRef}
use Rattle.afp_calls_grammar.specs.declared.grammar.call.Call.{Call}
use Rattle.afp_replies.specs.declared.reply.Reply.{Reply}
use Rattle.client_script_commands.specs.declared.parts.asker.Answer.{Answer}
use Rattle.client_script_commands.specs.declared.parts.asker.Stop.{Stop}
use Rattle.client_script_commands.specs.parts.Parts.{Asked, Comes, Part, ask, asks, closes_refused, in_fork, must, must_do, must_tell}

-- A part that begins with these comes to whatever comes of the rest behind them.
abbrev pub Carries : (E : Type 0) {F : Type 0} → Asked F → Part → Asked F → Part → Type 0
Carries E {F} before part after rest = (result : Result (List ℕ) (Stop E)) (final : Asked F) → Comes after rest result final → Comes before part result final

abbrev pub AskTells : {E F : Type 0} → Call → Asked F → Result Answer (Stop E) → Asked F → Type 0
AskTells {E} call before (Ok answer) after = (next : Answer → Part) → Carries E before (ask call next) after (next answer)
AskTells call before (Err stop) after = (next : Answer → Part) → Comes before (ask call next) (Err stop) after

-- the same, over every part that asks the call
abbrev pub AnyTells : {E F : Type 0} → Call → Asked F → Result Answer (Stop E) → Asked F → Type 0
AnyTells {E} call before (Ok answer) after = (part : Part) → part [] ≡ asks call → Carries E before part after (λ answers. part (answer ∷ answers))
AnyTells call before (Err stop) after = (part : Part) → part [] ≡ asks call → Comes before part (Err stop) after

abbrev pub MustTells : {E F : Type 0} → Call → Asked F → Result Reply (Stop E) → Asked F → Type 0
MustTells {E} call before (Ok reply) after = (next : Reply → Part) → Carries E before (must call next) after (next reply)
MustTells call before (Err stop) after = (next : Reply → Part) → Comes before (must call next) (Err stop) after

abbrev pub MustTell : {E A F : Type 0} → (Reply → Option A) → Call → Asked F → Result A (Stop E) → Asked F → Type 0
MustTell {E} {A} told call before (Ok value) after = (next : A → Part) → Carries E before (must_tell told call next) after (next value)
MustTell {E} {A} told call before (Err stop) after = (next : A → Part) → Comes before (must_tell told call next) (Err stop) after

abbrev pub MustDo : {E F : Type 0} → Call → Asked F → Result (Unit {0}) (Stop E) → Asked F → Type 0
MustDo {E} call before (Ok done) after = (next : Part) → Carries E before (must_do call next) after next
MustDo call before (Err stop) after = (next : Part) → Comes before (must_do call next) (Err stop) after

abbrev pub InForkTells : {E F : Type 0} → ForkRef → Call → Asked F → Result (Unit {0}) (Stop E) → Asked F → Type 0
InForkTells {E} reference call before (Ok done) after = (next : Part) → Carries E before (in_fork reference call next) after next
InForkTells reference call before (Err stop) after = (next : Part) → Comes before (in_fork reference call next) (Err stop) after

abbrev pub ClosesRefused : {E F : Type 0} → ForkRef → Code → Asked F → Stop E → Asked F → Type 0
ClosesRefused {E} reference c before stop after = Comes {E = E} before (closes_refused reference c) (Err stop) after
