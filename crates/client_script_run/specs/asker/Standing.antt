-- Where a script's client stands over its links (this profile).
use Rattle.std.specs.Prelude.{◌≡◌, ℕ, ◌+◌, ◌<◌, ◌≤◌, ◌^◌, List, [], ◌∷◌, ◌++◌, length, Option, Some, None, IsSome, Result, Ok, Err}
use Rattle.afp_base.specs.declared.code.Code.{Code}
use Rattle.afp_calls_grammar.specs.declared.grammar.call.Call.{Call}
use Rattle.afp_client.specs.declared.session.event.Event.TheVariants as events
use Rattle.afp_client.specs.session.Run.{Result as CallResult}
use Rattle.afp_client.specs.session.State.{Client, ClientState, IsReady}
use Rattle.afp_outside.specs.ends.Dialer.{DialerState}
use Rattle.afp_outside.specs.ends.Link.{LinkState}
use Rattle.afp_replies.specs.Replies.{Shows}
use Rattle.afp_replies.specs.declared.reply.Reply.{Reply}
use Rattle.afp_client.specs.links.History.{Happening, allowed, asks, cost_in, limited}
use Rattle.afp_client.specs.links.Links.{Part, all_limits, all_results}
use Rattle.afp_client.specs.links.OnLink.{Start}
use Rattle.afp_client.specs.links.Talk.{AsksTalk, ClosesLink, EndsTalk, IsBehind, LeavesOpen, TalkAt, TellsEnd}
use Rattle.afp_client.specs.links.Coming.{StandsAt}
use Rattle.afp_client.specs.declared.links.noted.Noted.{Noted}
use Rattle.afp_client.specs.declared.links.talk.Limit.{Limit}
use Rattle.afp_client.specs.declared.links.talk.Told.{Told}
use Rattle.client_script_commands.specs.declared.parts.asker.Answer.{Answer}
use Rattle.client_script_commands.specs.parts.Parts.{Asked, Exchange}
use Rattle.afp_serial.specs.ReplyKinds.{reply_kind}
use Rattle.client_script_run.specs.asker.Read.{AreRead}
use Rattle.client_script_run.specs.declared.asker.asker.AskEnd.{AskEnd}
use Rattle.client_script_run.specs.declared.asker.asker.AskEnd.TheVariants as ends

-- what a script's client is seen as: its exchanges, with what stays the same of it, how many calls it answered, why it ended, where it did, what
-- was spent, and the place on its link of the last reply
pub record AskerValue (F : Type 0) : Type 0 where
  pub asked : Asked F
  pub answered : ℕ
  pub ended : Option AskEnd
  pub cost : ℕ
  pub place : ℕ

-- the client before its first link, which may spend so much
abbrev pub first_of : Client → ℕ → Start
first_of client turns = record { state = client.state; spent = 0; idle = 0; limits = record { turns = turns; spent = 0 } ∷ [] }

-- what was spent on the links so far: the bytes that came, the quiets, and 1 for each that was dialled
abbrev pub spent_behind : {L : Type 0} → Start → List (Part L) → ℕ
spent_behind first [] = first.spent
spent_behind first (p ∷ past) = p.cost

-- and on the newest
abbrev pub spent_on : {L : Type 0} → Start → List (Part L) → List Happening → ℕ
spent_on first past all = spent_behind first past + 1 + cost_in all

-- what happened before the limits that were set last
abbrev pub before_limits : List Happening → List Happening
before_limits (limited l ∷ all) = before_limits all
before_limits all = all

-- The frame that told the last answer, where there is one, was the last that was taken, and begins at this place of its link.
abbrev pub ToldAt : List Exchange → List Happening → ℕ → Type 0
ToldAt [] all place = Unit {0}
ToldAt (x ∷ exchanges) all place = (c : Code) × (block : List ℕ) × (before : List Happening) × IsBehind (events.Told c block) before (before_limits all) × StandsAt before place

-- It has a link and can be asked; its exchanges are the results so far, and its limits those that were set, the last of which holds.
pub record IsOpen {L : Type 0} (state : L → LinkState) (first : Start) (old : DialerState L) (limits : List Limit) (turns : ℕ) (exchanges : List Exchange) (link : Option L) (core : Client) (out : List ℕ) (size : ℕ)
    (noted : Noted) (idle cost place : ℕ) (dialer : DialerState L) : Type 0 where
  pub past : List (Part L)
  pub all : List Happening
  pub at : TalkAt state first old past all link core noted idle cost dialer
  pub read : AreRead exchanges (all_results None past all)
  pub told : ToldAt exchanges all place
  pub limits_are : limits ≡ all_limits first.limits past all
  pub limit : turns ≡ allowed (all_limits first.limits past all)
  pub linked : IsSome link
  pub empty : out ≡ []
  pub ready : IsReady core.state
  pub some : 0 < size
  pub small : size < 2 ^ 20
  pub below : idle < 8
  pub fits : core.held.place + length core.held.rest ≤ cost
  pub within : turns < 2 ^ 63

-- The call was told a block that shows none of its replies, by a frame from this place on; the link is handed back with all others.
pub record TellsBad {L : Type 0} (state : L → LinkState) (first : Start) (old : DialerState L) (past : List (Part L)) (all : List Happening) (call : Call) (at : ℕ) (dialer : DialerState L) : Type 0 where
  pub later : List (Part L)
  pub now : List Happening
  pub told : CallResult
  pub call_is : told.call ≡ call
  pub results : all_results None later now ≡ all_results None past all ++ told ∷ []
  pub limits : all_limits first.limits later now ≡ all_limits first.limits past all
  pub bad : (reply : Reply) → Shows reply (reply_kind told.call) told.code told.block → ⊥
  pub before : List Happening
  pub behind : IsBehind (events.Told told.code told.block) before now
  pub stands : StandsAt before at
  pub leaves : LeavesOpen state first old later now dialer

-- all links that were dialled are handed back, where no memory was left
pub record LacksMemory {L : Type 0} (state : L → LinkState) (first : Start) (old : DialerState L) (limits : List Limit) (dialer : DialerState L) : Type 0 where
  pub later : List (Part L)
  pub now : List Happening
  pub limits_are : limits ≡ all_limits first.limits later now
  pub leaves : LeavesOpen state first old later now dialer

-- by the end, at this call; the last of these limits holds
abbrev pub Ends : {L : Type 0} → (L → LinkState) → List Limit → Start → DialerState L → List (Part L) → List Happening → Call → AskEnd → ℕ → DialerState L → Type 0
Ends state limits first old past all call (ends.Links end) cost dialer =
    (s : ClientState) × TellsEnd state (allowed limits) first old past all (asks s call) end cost dialer
Ends state limits first old past all call (ends.BadReply at) cost dialer = TellsBad state first old past all call at dialer
Ends state limits first old past all call ends.Memory cost dialer = LacksMemory state first old limits dialer

-- It has ended so, behind its exchanges and its limits, at the first call that got no answer.
pub record HasEnded {L : Type 0} (state : L → LinkState) (first : Start) (old : DialerState L) (limits : List Limit) (exchanges : List Exchange) (unanswered : List Call) (end : AskEnd) (cost : ℕ) (dialer : DialerState L) : Type 0 where
  pub past : List (Part L)
  pub all : List Happening
  pub read : AreRead exchanges (all_results None past all)
  pub limits_are : limits ≡ all_limits first.limits past all
  pub call : Call
  pub later : List Call
  pub at_call : unanswered ≡ call ∷ later
  pub ends : Ends state limits first old past all call end cost dialer

-- While it has a link, each call was answered.
abbrev pub Stands : {L : Type 0} → (L → LinkState) → Start → DialerState L → List Limit → ℕ → List Exchange → List Call → Option AskEnd → Option L → Client → List ℕ → ℕ → Noted → ℕ → ℕ → ℕ → DialerState L → Type 0
Stands state first old limits turns exchanges unanswered None link core out size noted idle cost place dialer = (unanswered ≡ []) × IsOpen state first old limits turns exchanges link core out size noted idle cost place dialer
Stands state first old limits turns exchanges unanswered (Some end) link core out size noted idle cost place dialer = HasEnded state first old limits exchanges unanswered end cost dialer

-- what a block that was told to a call shows
abbrev pub AnswersBy : Call → Told → Result Answer AskEnd → Type 0
AnswersBy call told (Ok answer) = (answer.code ≡ told.code) × Shows answer.reply (reply_kind call) told.code told.block
AnswersBy call told (Err (ends.BadReply at)) = (at ≡ told.at) × ((reply : Reply) → Shows reply (reply_kind call) told.code told.block → ⊥)
AnswersBy call told (Err ends.Memory) = Unit {0}
AnswersBy call told (Err (ends.Links end)) = ⊥

-- an answer is logged
abbrev pub LogsAnswer : Call → List Exchange → Result Answer AskEnd → List Exchange → Type 0
LogsAnswer call before (Ok answer) after = after ≡ before ++ (record { call = call; answer = answer }) ∷ []
LogsAnswer call before (Err end) after = after ≡ before

-- or that there is none
abbrev pub LogsUnanswered : Call → List Call → Result Answer AskEnd → List Call → Type 0
LogsUnanswered call before (Ok answer) after = after ≡ before
LogsUnanswered call before (Err end) after = after ≡ before ++ call ∷ []

-- The call was told this, behind the exchanges before it, and the client can be asked again.
pub record TellsOn {L : Type 0} (state : L → LinkState) (first : Start) (old : DialerState L) (limits : List Limit) (turns : ℕ) (exchanges : List Exchange) (call : Call) (told : Told) (link : Option L) (core : Client) (out : List ℕ) (size : ℕ)
    (noted : Noted) (idle cost : ℕ) (dialer : DialerState L) : Type 0 where
  pub past : List (Part L)
  pub all : List Happening
  pub read : AreRead exchanges (all_results None past all)
  pub limits_are : limits ≡ all_limits first.limits past all
  pub limit : turns ≡ allowed (all_limits first.limits past all)
  pub s : ClientState
  pub asks : AsksTalk state turns first old past all s call (Ok told) link core noted idle cost dialer
  pub linked : IsSome link
  pub empty : out ≡ []
  pub ready : IsReady core.state
  pub some : 0 < size
  pub small : size < 2 ^ 20
  pub below : idle < 8
  pub fits : core.held.place + length core.held.rest ≤ cost
  pub within : turns < 2 ^ 63

-- The script's client left its link in silence, behind these exchanges; so much was spent, and the last reply stood at this place.
pub record HasLeft {L : Type 0} (state : L → LinkState) (first : Start) (old : DialerState L) (limits : List Limit) (exchanges : List Exchange) (cost place : ℕ) (dialer : DialerState L) : Type 0 where
  pub past : List (Part L)
  pub all : List Happening
  pub read : AreRead exchanges (all_results None past all)
  pub told : ToldAt exchanges all place
  pub spent : cost ≡ spent_on first past all
  pub limits_are : limits ≡ all_limits first.limits past all
  pub leaves : LeavesOpen state first old past all dialer

-- It left its link with CloseSession, whatever became of that write.
pub record HasClosed {L : Type 0} (state : L → LinkState) (first : Start) (old : DialerState L) (limits : List Limit) (exchanges : List Exchange) (cost : ℕ) (dialer : DialerState L) : Type 0 where
  pub past : List (Part L)
  pub all : List Happening
  pub read : AreRead exchanges (all_results None past all)
  pub spent : cost ≡ spent_on first past all
  pub limits_are : limits ≡ all_limits first.limits past all
  pub closes : ClosesLink state first old past all dialer

-- it had ended before, or left its link now
abbrev pub Finishes : {L : Type 0} → (L → LinkState) → Start → DialerState L → List Limit → List Exchange → List Call → Option AskEnd → ℕ → ℕ → DialerState L → Type 0
Finishes state first old limits exchanges unanswered None cost place dialer = HasLeft state first old limits exchanges cost place dialer
Finishes state first old limits exchanges unanswered (Some end) cost place dialer = HasEnded state first old limits exchanges unanswered end cost dialer

-- By why it had ended before, and how it ends now: CloseSession was written, or there was no memory for it.
abbrev pub Closes : {L : Type 0} → (L → LinkState) → Start → DialerState L → List Limit → List Exchange → List Call → Option AskEnd → Option AskEnd → ℕ → ℕ → DialerState L → Type 0
Closes state first old limits exchanges unanswered None None cost place dialer = HasClosed state first old limits exchanges cost dialer
Closes state first old limits exchanges unanswered None (Some ends.Memory) cost place dialer = HasLeft state first old limits exchanges cost place dialer
Closes state first old limits exchanges unanswered None (Some (ends.Links end)) cost place dialer = ⊥
Closes state first old limits exchanges unanswered None (Some (ends.BadReply at)) cost place dialer = ⊥
Closes state first old limits exchanges unanswered (Some end) told cost place dialer = (told ≡ Some end) × HasEnded state first old limits exchanges unanswered end cost dialer

-- no link was opened
abbrev pub OpensNone : {L : Type 0} → (L → LinkState) → ℕ → Start → DialerState L → AskEnd → DialerState L → Type 0
OpensNone state turns first old (ends.Links end) dialer = (cost : ℕ) × EndsTalk state turns first old [] [] end cost dialer
OpensNone state turns first old (ends.BadReply at) dialer = ⊥
OpensNone state turns first old ends.Memory dialer = dialer ≡ old

-- It has a link, and was asked nothing yet: what stays the same of it is what it began with.
pub record IsNew {D : Type 0} (core : Client) (dialer : D) (turns : ℕ) (core_now : Client) (dialer_now : D) (turns_now : ℕ) (limits : List Limit) (exchanges : List Exchange) (unanswered : List Call) (ended : Option AskEnd) : Type 0 where
  pub core_is : core_now ≡ core
  pub dialer_is : dialer_now ≡ dialer
  pub turns_is : turns_now ≡ turns
  pub limits_are : limits ≡ record { turns = turns; spent = 0 } ∷ []
  pub none : exchanges ≡ []
  pub answered : unanswered ≡ []
  pub open_yet : ended ≡ None
