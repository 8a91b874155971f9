-- What the commands of a script ask and print (this profile).
use Rattle.std.specs.Prelude.{◌≡◌, List, [], ◌∷◌, ◌++◌, ℕ, Option, Some, None, Result, Ok, Err}
use Rattle.afp_base.specs.declared.code.Code.{Code}
use Rattle.afp_base.specs.declared.code.Code.TheVariants as code
use Rattle.afp_base.specs.declared.ids.ForkRef.{ForkRef}
use Rattle.afp_calls_grammar.specs.declared.grammar.call.Call.{Call}
use Rattle.afp_replies.specs.declared.reply.Reply.{Reply}
use Rattle.client_script_lines.specs.calls.Requests.{close_fork}
use Rattle.client_script_commands.specs.declared.parts.asker.Answer.{Answer}
use Rattle.client_script_commands.specs.declared.parts.asker.Stop.{Stop}
use Rattle.client_script_commands.specs.declared.parts.asker.Stop.TheVariants as stops

-- What comes next behind the answers so far: this call is asked; the line is refused with this code; it is done, and prints this; or the last
-- reply is none that may come. Behind a line that is done, these answers are those of the lines that follow.
pub data Next : Type 0 where
  asks : Call → Next
  refused : Code → List Answer → Next
  prints : List ℕ → List Answer → Next
  bad_reply : Next

-- A part of a script: what comes next, by the answers that its calls were told.
abbrev pub Part : Type 0
Part = List Answer → Next

-- a call, and what follows its answer
unfoldable pub ask : Call → (Answer → Part) → Part
ask call next [] = asks call
ask call next (answer ∷ answers) = next answer answers

-- the line is refused
unfoldable pub refuses : Code → Part
refuses c answers = refused c answers

-- a line is done, and prints this
unfoldable pub done : List ℕ → Part
done text answers = prints text answers

-- the last reply is none that may come
unfoldable pub bad : Part
bad answers = bad_reply

-- a reply must tell a value, and this follows it
abbrev pub needs : {A : Type 0} → Option A → (A → Part) → Part
needs (Some value) next = next value
needs None next = bad

-- what follows an answer: by its reply where it is Ok, and else by its code
abbrev pub by_code : Code → Reply → (Reply → Part) → (Code → Part) → Part
by_code code.Ok reply next otherwise = next reply
by_code c reply next otherwise = otherwise c

abbrev pub if_ok : Answer → (Reply → Part) → (Code → Part) → Part
if_ok answer next otherwise = by_code answer.code answer.reply next otherwise

-- a call that must be told Ok, and what follows its reply
unfoldable pub must : Call → (Reply → Part) → Part
must call next = ask call (λ answer. if_ok answer next refuses)

-- the same, whose reply must tell a value
unfoldable pub must_tell : {A : Type 0} → (Reply → Option A) → Call → (A → Part) → Part
must_tell told call next = must call (λ reply. needs (told reply) next)

-- the same, whatever its reply
unfoldable pub must_do : Call → Part → Part
must_do call next = must call (λ reply. next)

-- a fork is closed, whatever that is told, since a call was refused
unfoldable pub closes_refused : ForkRef → Code → Part
closes_refused reference c = ask (close_fork reference) (λ answer. refuses c)

-- a call in an open fork, which must be told Ok, and what follows
unfoldable pub in_fork : ForkRef → Call → Part → Part
in_fork reference call next = ask call (λ answer. if_ok answer (λ reply. next) (closes_refused reference))

-- a call, and its answer
pub record Exchange : Type 0 where
  pub call : Call
  pub answer : Answer

-- The exchanges so far of whoever asks, what stays the same of it, and the calls that were asked and got no answer.
pub record Asked (F : Type 0) : Type 0 where
  pub fixed : F
  pub exchanges : List Exchange
  pub unanswered : List Call

-- with more exchanges
abbrev pub with_more : {F : Type 0} → Asked F → List Exchange → Asked F
with_more before more = record before { exchanges = before.exchanges ++ more }

-- with one more call that got no answer
abbrev pub with_unanswered : {F : Type 0} → Asked F → Call → Asked F
with_unanswered before call = record before { unanswered = before.unanswered ++ call ∷ [] }

-- The part asks the calls of these exchanges, one after the other, and what is left of it behind their answers is this.
abbrev pub Leads : Part → List Exchange → Part → Type 0
Leads part [] left = (answers : List Answer) → part answers ≡ left answers
Leads part (x ∷ exchanges) left = (part [] ≡ asks x.call) × Leads (λ answers. part (x.answer ∷ answers)) exchanges left

-- Of two logs of exchanges the second has, behind the first, those of the part.
pub record Runs {F : Type 0} (before : Asked F) (part left : Part) (after : Asked F) : Type 0 where
  pub exchanges : List Exchange
  pub log : after ≡ with_more before exchanges
  pub leads : Leads part exchanges left

-- A call of the part got no answer, behind these exchanges.
pub record Waits {F : Type 0} (before : Asked F) (part : Part) (after : Asked F) : Type 0 where
  pub call : Call
  pub left : Part
  pub next : left [] ≡ asks call
  pub mid : Asked F
  pub runs : Runs before part left mid
  pub waits : after ≡ with_unanswered mid call

-- The exchanges of the part, where there was no memory behind them; whether a call got no answer then is not told.
pub record Lacks {F : Type 0} (before : Asked F) (part : Part) (after : Asked F) : Type 0 where
  pub left : Part
  pub mid : Asked F
  pub runs : Runs before part left mid
  pub fixed : after.fixed ≡ mid.fixed
  pub exchanges : after.exchanges ≡ mid.exchanges

-- what asking a call does to the log
abbrev pub AsksCall : {E F : Type 0} → Call → Asked F → Result Answer E → Asked F → Type 0
AsksCall call before (Ok answer) after = after ≡ with_more before ((record { call = call; answer = answer }) ∷ [])
AsksCall call before (Err end) after = after ≡ with_unanswered before call

-- A part comes to this: it prints a line; it is refused; a call got no answer; the last reply may not come; or there was no memory.
unfoldable pub Comes : {E F : Type 0} → Asked F → Part → Result (List ℕ) (Stop E) → Asked F → Type 0
Comes before part (Ok text) after = Runs before part (done text) after
Comes before part (Err (stops.Refused c)) after = Runs before part (refuses c) after
Comes before part (Err (stops.Ended end)) after = Waits before part after
Comes before part (Err stops.BadReply) after = Runs before part bad after
Comes before part (Err stops.Memory) after = Lacks before part after
