-- The law of runs: whatever a client does, step by step, the law's client does.
use Rattle.std.specs.Prelude.{◌≡◌, ℕ, Bool, true, false, not, List, [], ◌∷◌, ◌++◌, filter, Option, Some, None}
use Rattle.std.specs.List.{AllByRecursion}
use Rattle.afp_base.specs.Bytes.{IsBytes}
use Rattle.afp_base.specs.declared.code.Code.{Code}
use Rattle.dsi_frame.specs.Frame.{Frame}
use Rattle.dsi_frame.specs.Replies.{code_word}
use Rattle.volume_spec.specs.TypedVolume.{are_bytes}
use Rattle.afp_client.specs.session.Run.{Action, Follows, GoesOnLink, Result, asked_in, results_by, taken_in}
use Rattle.afp_client.specs.session.Run as real
use Rattle.afp_client.specs.session.State as states
use Rattle.afp_client.specs.session.State.{ClientState}
use Rattle.afp_client.specs.session.Takes.{begun}
use Rattle.afp_client.specs.declared.session.login.Login as logins
use Rattle.afp_calls_grammar.specs.declared.grammar.call.Call as grammar
use Rattle.once_across_breaks.specs.once.Messages.{Call, Done}
use Rattle.once_across_breaks.specs.once.Run.{Client, fresh_client}
use Rattle.once_across_breaks.specs.once.Frames.{Taken}
use Rattle.once_across_breaks.specs.once.Serial.{Setup, answer_by}
use Rattle.once_across_breaks_code.specs.client.Requests.{IsAskable, IsCall, LogsIn, tag_in}
use Rattle.once_across_breaks_code.specs.client.Related.{IsClient, made_client}
use Rattle.once_across_breaks_code.specs.client.Moves.{Breaks, Commands, Move, Takes, frames_of, moved}
use Rattle.once_across_breaks_code.specs.client.Steps.{call_of}

-- What is given to a client: calls that can be asked, and frames of bytes.
abbrev pub IsOfBytes : Frame → Type 0
IsOfBytes f = are_bytes f.payload ≡ true

pub record AreGiven (actions : List Action) : Type 0 where
  pub calls : AllByRecursion IsAskable (asked_in actions)
  pub frames : AllByRecursion IsOfBytes (taken_in actions)

-- the moves of the law's client, one after the other, and the frames that they write
abbrev pub Moves : Setup → Client → List Move → Client → List Frame → Type 0
Moves u c [] last frames = (last ≡ c) × (frames ≡ [])
Moves u c (move ∷ moves) last frames =
    (t : Taken) × (more : List Frame) × (moved c move ≡ Some t) × (frames ≡ frames_of u t ++ more) × Moves u t.client moves last more

-- Each action is a move of the law's client, or none: a break is none, and the beginning of a link is one; a call is the command that carries it; a reply tells what its
-- code and payload say; a request of the server is none.
abbrev pub IsReplyMove : Bool → Frame → List Move → List Move → Type 0
IsReplyMove true f moves rest = (c : Code) × (code_word c ≡ f.word) × (moves ≡ Takes (tag_in f) (answer_by c f.payload) ∷ rest)
IsReplyMove false f moves rest = moves ≡ rest

abbrev pub IsMove : Setup → Action → List Move → List Move → Type 0
IsMove u real.breaks moves rest = moves ≡ rest
IsMove u real.begins moves rest = moves ≡ Breaks ∷ rest
IsMove u (real.asks call) moves rest = (command : Call) × IsCall u command call × (moves ≡ Commands command ∷ rest)
IsMove u (real.takes_frame f st) moves rest = IsReplyMove f.reply f moves rest

abbrev pub AreMoves : Setup → List Action → List Move → Type 0
AreMoves u [] moves = moves ≡ []
AreMoves u (a ∷ actions) moves = (rest : List Move) × IsMove u a moves rest × AreMoves u actions rest

-- a result of the law's client, and one of the client
pub record IsResult (u : Setup) (d : Done) (r : Result) : Type 0 where
  pub call : IsCall u d.call r.call
  pub answer : d.answer ≡ answer_by r.code r.block

abbrev pub AreResults : Setup → List Done → List Result → Type 0
AreResults u [] [] = Unit {0}
AreResults u (d ∷ done) (r ∷ results) = IsResult u d r × AreResults u done results
AreResults u [] (r ∷ results) = ⊥
AreResults u (d ∷ done) [] = ⊥

-- the frames that are requests
abbrev pub requests_in : List Frame → List Frame
requests_in frames = filter (λ f. not f.reply) frames

-- What a client does is done by the law's client: it moves so, writes the same requests, is the same client in the end, and has the same results.
pub record IsDone (u : Setup) (c : Client) (actions : List Action) (t : ClientState) (frames : List Frame) (results : List Result) : Type 0 where
  pub moves : List Move
  pub last : Client
  pub done : List Done
  pub are : AreMoves u actions moves
  pub runs : Moves u c moves last (requests_in frames)
  pub client : IsClient u last t
  pub grown : last.results ≡ c.results ++ done
  pub told : AreResults u done results

-- the call that waits in both, if one does
abbrev pub Waits : Setup → Option Call → Option grammar.Call → Type 0
Waits u None None = Unit {0}
Waits u (Some command) (Some call) = IsCall u command call
Waits u None (Some call) = ⊥
Waits u (Some command) None = ⊥

abbrev pub RunsAreMoves : Type 0
RunsAreMoves =
    (u : Setup) (c : Client) (s t : ClientState) (call : Option grammar.Call) (actions : List Action) (frames : List Frame)
    → IsClient u c s
    → Waits u (call_of c.wait) call
    → AreGiven actions
    → Follows s actions t frames
    → IsDone u c actions t frames (results_by call actions)

-- from a client that has begun its first link
abbrev pub FirstRunsAreMoves : Type 0
FirstRunsAreMoves =
    (u : Setup) (login : logins.Login) (t : ClientState) (actions : List Action) (frames : List Frame)
    → LogsIn u login
    → AreGiven actions
    → Follows (begun (made_client login)) actions t frames
    → IsDone u fresh_client actions t frames (results_by None actions)

-- and on one link, whatever bytes come on it
abbrev pub LinksAreMoves : Type 0
LinksAreMoves =
    (u : Setup) (c : Client) (start : ClientState) (now : states.Client) (call : Option grammar.Call) (bytes : List ℕ) (actions : List Action) (frames : List Frame)
    → IsClient u c start
    → Waits u (call_of c.wait) call
    → IsBytes bytes
    → AllByRecursion IsAskable (asked_in actions)
    → GoesOnLink start bytes actions frames now
    → IsDone u c actions now.state frames (results_by call actions)
