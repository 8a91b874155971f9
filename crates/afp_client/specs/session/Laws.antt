-- The laws of a client.
use Rattle.std.specs.Prelude.{◌≡◌, ◌⊎◌, ℕ, true, false, List, [], ◌∷◌, ◌++◌, map, Option, Some, None, IfSome, option_map}
use Rattle.afp_base.specs.declared.code.Code.{Code}
use Rattle.dsi_frame.specs.Frame.{Frame, IsBadHeader}
use Rattle.dsi_frame.specs.Replies.{listed}
use Rattle.dsi_frame.specs.Stream.{Begins, IsUnfinished}
use Rattle.dsi_frame.specs.declared.frame.Reason.{Reason}
use Rattle.afp_calls_grammar.specs.declared.grammar.call.Call.{Call}
use Rattle.dsi_session.specs.RequestIds.{first_request_id}
use Rattle.afp_client.specs.session.Opening.{open_session_frame}
use Rattle.afp_client.specs.session.State.{Client, ClientState, IsReady, Waiting, call_frame, is_lost}
use Rattle.afp_client.specs.session.Takes.{IsCodeIn, asked, begun, broken, step, takes, written}
use Rattle.afp_client.specs.session.Takes as S
use Rattle.afp_client.specs.session.Happens.{Happens, TakesNext}
use Rattle.afp_client.specs.session.Run.{Action, Follows, GoesOnLink, Result, asks, begins, breaks, takes_frame, asked_in, results_by}
use Rattle.afp_client.specs.declared.session.event.Event.{Event}
use Rattle.afp_client.specs.declared.session.event.Event.TheVariants.{Ready, NotYet, Bad, Memory}
use Rattle.afp_client.specs.declared.session.stage.OpeningStep.{OpeningStep}
use Rattle.afp_client.specs.declared.session.stage.Stage.TheVariants as stages

-- a step is made: its event comes, its state is the client's, and what it writes is written
pub record IsMade (s : S.Step) (out : List ℕ) (event : Event) (new : Client) (out_after : List ℕ) : Type 0 where
  pub comes : event ≡ s.event
  pub state : new.state ≡ s.state
  pub sent : out_after ≡ out ++ written s.writes

-- The frame at the front decides what the next event is: its step is made, or it is bad; but memory may run out.
abbrev pub IsDecided : Option S.Step → Client → List ℕ → Event → Client → List ℕ → Type 0
IsDecided None old out event new out_after = (event ≡ Bad old.held.place) ⊎ (event ≡ Memory)
IsDecided (Some s) old out event new out_after = IsMade s out event new out_after ⊎ (event ≡ Memory)

abbrev pub FrameDecides : Type 0
FrameDecides = (old new : Client) (out out_after : List ℕ) (event : Event) (f : Frame) (found : Option Code)
    → is_lost old.state.stage ≡ false → Begins old.held.rest f → IsCodeIn f.word found → Happens old out event new out_after
    → IsDecided (takes old.state found f) old out event new out_after

-- where none is there, none comes
abbrev pub NoneDecides : Type 0
NoneDecides = (old new : Client) (out out_after : List ℕ) (event : Event)
    → (is_lost old.state.stage ≡ true) ⊎ IsUnfinished old.held.rest → Happens old out event new out_after → (event ≡ NotYet) ⊎ (event ≡ Memory)

-- a bad header is told at its place
abbrev pub BadHeaderDecides : Type 0
BadHeaderDecides = (old new : Client) (out out_after : List ℕ) (event : Event) (reason : Reason)
    → is_lost old.state.stage ≡ false → IsBadHeader old.held.rest reason → Happens old out event new out_after → (event ≡ Bad old.held.place) ⊎ (event ≡ Memory)

-- Actions follow one another: first these, then those.
abbrev pub FollowsJoin : Type 0
FollowsJoin = (s mid t : ClientState) (first last : List Action) (frames more : List Frame) → Follows s first mid frames → Follows mid last t more → Follows s (first ++ last) t (frames ++ more)

-- A step of an opening keeps the request that waits, and a token with the next id of the commands; when the opening is done, the request is
-- written again as it was.
pub record Keeps (s : ClientState) (st : S.Step) : Type 0 where
  pub waits : st.state.waiting ≡ s.waiting
  pub token : IfSome s.token (λ token. st.state.token ≡ Some token)
  pub next_id : IfSome s.token (λ token. st.state.next_id ≡ s.next_id)
  pub again : st.event ≡ Ready → st.writes ≡ option_map (λ (w : Waiting). w.request) s.waiting

abbrev pub OpeningKeeps : Type 0
OpeningKeeps = (s : ClientState) (f : Frame) (found : Option Code) (at : OpeningStep) (id retries : ℕ) → s.stage ≡ stages.Opening at id retries → IfSome (takes s found f) (Keeps s)

-- a break keeps them, and so does the beginning of the next link
abbrev pub BreakKeeps : Type 0
BreakKeeps = (s : ClientState) → ((begun (broken s)).waiting ≡ s.waiting) × ((begun (broken s)).token ≡ s.token) × ((begun (broken s)).next_id ≡ s.next_id)

-- On one link, call by call: it begins with no byte; bytes that are fed come behind those that came, and no frame is taken; a call that is
-- asked is one action more; and so is the frame that an event takes. A break and the beginning of the next link come behind what was done
-- on this one, and on those before it.
abbrev pub LinkBegins : Type 0
LinkBegins = (s : ClientState) → GoesOnLink (begun s) [] [] [] (record { state = begun s; held = record { place = 0; rest = [] } })

abbrev pub LinkIsFed : Type 0
LinkIsFed = (start : ClientState) (bytes piece : List ℕ) (actions : List Action) (frames : List Frame) (old new : Client)
    → GoesOnLink start bytes actions frames old → new.state ≡ old.state → new.held.place ≡ old.held.place → new.held.rest ≡ old.held.rest ++ piece
    → GoesOnLink start (bytes ++ piece) actions frames new

abbrev pub LinkAsks : Type 0
LinkAsks = (start : ClientState) (bytes : List ℕ) (actions : List Action) (frames : List Frame) (old : Client) (call : Call)
    → GoesOnLink start bytes actions frames old → IsReady old.state
    → GoesOnLink start bytes (actions ++ asks call ∷ []) (frames ++ call_frame old.state.next_id call ∷ []) (record old { state = asked old.state call })

abbrev pub LinkTakes : Type 0
LinkTakes = (start : ClientState) (bytes : List ℕ) (actions : List Action) (frames : List Frame) (old new : Client) (out out_after : List ℕ) (event : Event)
    → GoesOnLink start bytes actions frames old → (next : TakesNext old out event new out_after)
    → GoesOnLink start bytes (actions ++ takes_frame next.frame (step new.state next.writes event) ∷ []) (frames ++ listed next.writes) new

abbrev pub LinkBreaks : Type 0
LinkBreaks = (s start : ClientState) (earlier actions : List Action) (bytes : List ℕ) (first frames : List Frame) (old : Client)
    → Follows s earlier start first → GoesOnLink start bytes actions frames old
    → Follows s (earlier ++ actions ++ breaks ∷ begins ∷ []) (begun (broken old.state)) (first ++ frames ++ open_session_frame first_request_id ∷ [])

-- Each call that was asked has one result, in order, but for the last while it waits: it waits with its own bytes, under some id.
abbrev pub HaveResults : List Call → List Result → Option Waiting → Type 0
HaveResults calls results None = calls ≡ map (λ (r : Result). r.call) results
HaveResults calls results (Some w) = (last : Call) × (id : ℕ) × (w.request ≡ call_frame id last) × (calls ≡ map (λ (r : Result). r.call) results ++ last ∷ [])

abbrev pub EachHasItsResult : Type 0
EachHasItsResult = (s t : ClientState) (actions : List Action) (frames : List Frame) → s.waiting ≡ None → Follows s actions t frames
    → HaveResults (asked_in actions) (results_by None actions) t.waiting
