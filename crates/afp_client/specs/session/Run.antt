-- What a client does over its links, one step after the other (this profile).
use Rattle.std.specs.Prelude.{◌≡◌, ℕ, Bool, true, false, List, [], ◌∷◌, ◌++◌, Option, Some, None}
use Rattle.std.specs.List.{list_all}
use Rattle.afp_base.specs.declared.code.Code.{Code}
use Rattle.dsi_frame.specs.Deframe.{GivenOut}
use Rattle.dsi_frame.specs.Frame.{Frame}
use Rattle.dsi_frame.specs.Replies.{listed}
use Rattle.dsi_session.specs.RequestIds.{first_request_id}
use Rattle.afp_calls_grammar.specs.declared.grammar.call.Call.{Call}
use Rattle.afp_client.specs.session.Opening.{open_session_frame}
use Rattle.afp_client.specs.session.State.{Client, ClientState, IsReady, call_frame, is_lost}
use Rattle.afp_client.specs.session.Takes.{IsCodeIn, asked, begun, broken, takes}
use Rattle.afp_client.specs.session.Takes as S
use Rattle.afp_client.specs.declared.session.event.Event.{Event}
use Rattle.afp_client.specs.declared.session.event.Event.TheVariants as events

-- its link breaks; it begins a link; it asks a call; a whole frame comes, and makes this step
pub data Action : Type 0 where
  breaks : Action
  begins : Action
  asks : Call → Action
  takes_frame : Frame → S.Step → Action

-- what an action does to the state; a client that is lost takes no frame
abbrev pub Does : ClientState → Action → ClientState → Type 0
Does s breaks t = t ≡ broken s
Does s begins t = t ≡ begun s
Does s (asks call) t = IsReady s × (t ≡ asked s call)
Does s (takes_frame f st) t = (is_lost s.stage ≡ false) × (found : Option Code) × IsCodeIn f.word found × (takes s found f ≡ Some st) × (t ≡ st.state)

-- what it writes
abbrev pub writes_of : ClientState → Action → List Frame
writes_of s breaks = []
writes_of s begins = open_session_frame first_request_id ∷ []
writes_of s (asks call) = call_frame s.next_id call ∷ []
writes_of s (takes_frame f st) = listed st.writes

-- The actions lead from one state to another, and write these frames.
abbrev pub Follows : ClientState → List Action → ClientState → List Frame → Type 0
Follows s [] t frames = (t ≡ s) × (frames ≡ [])
Follows s (a ∷ actions) t frames =
    (mid : ClientState) × (more : List Frame) × Does s a mid × (frames ≡ writes_of s a ++ more) × Follows mid actions t more

-- the frames that came
abbrev pub taken_in : List Action → List Frame
taken_in [] = []
taken_in (breaks ∷ actions) = taken_in actions
taken_in (begins ∷ actions) = taken_in actions
taken_in (asks call ∷ actions) = taken_in actions
taken_in (takes_frame f st ∷ actions) = f ∷ taken_in actions

-- the calls that were asked
abbrev pub asked_in : List Action → List Call
asked_in [] = []
asked_in (breaks ∷ actions) = asked_in actions
asked_in (begins ∷ actions) = asked_in actions
asked_in (asks call ∷ actions) = call ∷ asked_in actions
asked_in (takes_frame f st ∷ actions) = asked_in actions

-- a call, and what it was told
pub record Result : Type 0 where
  pub call : Call
  pub code : Code
  pub block : List ℕ

abbrev pub result_by : Option Call → Event → List Result → List Result → List Result
result_by (Some call) (events.Told c block) told untold = record { call = call; code = c; block = block } ∷ told
result_by call event told untold = untold

-- the results of the calls that were asked, in order; the first call may be asked before
abbrev pub results_by : Option Call → List Action → List Result
results_by call [] = []
results_by call (breaks ∷ actions) = results_by call actions
results_by call (begins ∷ actions) = results_by call actions
results_by call (asks next ∷ actions) = results_by (Some next) actions
results_by call (takes_frame f st ∷ actions) = result_by call st.event (results_by None actions) (results_by call actions)

-- an action on a link that is there
abbrev pub is_on_link : Action → Bool
is_on_link breaks = false
is_on_link begins = false
is_on_link (asks call) = true
is_on_link (takes_frame f st) = true

-- A client goes on one link, by these actions: from the state `start`, which it had once OpenSession was written, to its state now, and it
-- wrote these frames behind that one. Of the bytes that came it took the frames of its actions, and it holds the rest. Into which pieces the
-- bytes were cut does not occur.
pub record GoesOnLink (start : ClientState) (bytes : List ℕ) (actions : List Action) (frames : List Frame) (c : Client) : Type 0 where
  pub one_link : list_all is_on_link actions ≡ true
  pub given : GivenOut bytes (taken_in actions) c.held
  pub follows : Follows start actions c.state frames
