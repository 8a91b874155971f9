-- What a client is told over its links, and why they end (this profile).
use Rattle.std.specs.Prelude.{◌≡◌, ◌⊎◌, ℕ, ◌+◌, Bool, List, [], ◌∷◌, ◌++◌, length, Option, Some, None, Result, Ok, Err}
use Rattle.afp_base.specs.declared.bytes.OutOfMemory.{OutOfMemory}
use Rattle.afp_base.specs.declared.code.Code.{Code}
use Rattle.afp_outside.specs.ends.Link.{LinkState}
use Rattle.afp_calls_grammar.specs.declared.grammar.call.Call.{Call}
use Rattle.afp_outside.specs.ends.Whole.{SendsAll}
use Rattle.dsi_frame.specs.Frame.{Frame, canonical_frame}
use Rattle.afp_client.specs.session.Takes as S
use Rattle.afp_client.specs.session.State.{Client, ClientState}
use Rattle.afp_client.specs.declared.session.event.Event.{Event}
use Rattle.afp_client.specs.declared.session.event.Event.TheVariants as events
use Rattle.afp_outside.specs.ends.Dialer.{DialerState, TakesBack}
use Rattle.afp_client.specs.links.History.{Happening, asks, close_session_frame, took}
use Rattle.afp_client.specs.links.OnLink.{Start, Spot, spot, LiveOn}
use Rattle.afp_client.specs.links.Links.{Part, Past, Hands, Between, Over, SameOver, dialled, links_of, all_limits, all_results}
use Rattle.afp_client.specs.declared.links.noted.Noted.{Noted}
use Rattle.afp_client.specs.declared.links.talk.Limit.{Limit}
use Rattle.afp_client.specs.links.Coming.{CameOn, StandsAt}
use Rattle.afp_client.specs.links.Ends.{LeavesNone}
use Rattle.afp_client.specs.declared.links.came.Came.{Came}
use Rattle.afp_client.specs.declared.links.came.Came.TheVariants as comes
use Rattle.afp_client.specs.declared.links.links.Answered.{Answered}
use Rattle.afp_client.specs.declared.links.links.TalkEnd.{TalkEnd}
use Rattle.afp_client.specs.declared.links.talk.Told.{Told}
use Rattle.afp_client.specs.declared.links.links.TalkEnd.TheVariants as ends

-- Why a client's links end, by what their last is left for.
abbrev pub end_of : Came → Option TalkEnd
end_of (comes.Told at c block) = None
end_of comes.Opened = None
end_of (comes.Refused c) = Some (ends.Refused c)
end_of (comes.Lost c) = Some (ends.Lost c)
end_of (comes.Bad at) = Some (ends.Bad at)
end_of comes.Broke = None
end_of comes.Spent = Some ends.Spent
end_of comes.Memory = Some ends.Memory

-- The last link, which did not break, was left for the end, and is handed back with all others.
pub record EndsOnLink {L : Type 0} (state : L → LinkState) (turns : ℕ) (first : Start) (old : DialerState L) (past : List (Part L)) (all : List Happening) (end : TalkEnd) (new : DialerState L) : Type 0 where
  pub later : List (Part L)
  pub now : List Happening
  pub same : SameOver past all later now
  pub from : Start
  pub past_is : Past state first later from
  pub came : Came
  pub client : Client
  pub link : L
  pub noted : Noted
  pub cost : ℕ
  pub comes_so : CameOn (dialled from) turns now came client (state link) noted cost
  pub why : end_of came ≡ Some end
  pub hands : Hands old (length later + 1) (links_of later ++ link ∷ []) new

-- The client's links end: it has none, or leaves its last.
abbrev pub EndsTalk : {L : Type 0} → (L → LinkState) → ℕ → Start → DialerState L → List (Part L) → List Happening → TalkEnd → ℕ → DialerState L → Type 0
EndsTalk state turns first old past all end cost new = LeavesNone state turns first old past all end cost new ⊎ EndsOnLink state turns first old past all end new

-- one frame more was taken, which was this event
abbrev pub IsBehind : Event → List Happening → List Happening → Type 0
IsBehind event before now = (mid : ClientState) × (frame : Frame) × (st : S.Step) × (now ≡ took mid frame st ∷ before) × (st.event ≡ event)

-- The call was told this, over the links that are now, by the frame that was taken last: it begins at this place of the newest.
pub record TellsCall {L : Type 0} (state : L → LinkState) (first : Start) (old : DialerState L) (past : List (Part L)) (all : List Happening) (call : Call)
    (at : ℕ) (c : Code) (block : List ℕ) (here : Spot) (idle : ℕ) (new : DialerState L) : Type 0 where
  pub later : List (Part L)
  pub now : List Happening
  pub over : Over state first old later now here idle new
  pub results : (was : Option Call) → all_results was later now ≡ all_results was past all ++ record { call = call; code = c; block = block } ∷ []
  pub limits : (was : List Limit) → all_limits was later now ≡ all_limits was past all
  pub before : List Happening
  pub behind : IsBehind (events.Told c block) before now
  pub stands : StandsAt before at

-- It got no result: the links ended behind the call's request; or there was no memory for it, and it was not written.
abbrev pub TellsEnd : {L : Type 0} → (L → LinkState) → ℕ → Start → DialerState L → List (Part L) → List Happening → Happening → TalkEnd → ℕ → DialerState L → Type 0
TellsEnd state turns first old past all asked end cost new =
    ((end ≡ ends.Memory) × EndsTalk state turns first old past all end cost new) ⊎ EndsTalk state turns first old past (asked ∷ all) end cost new

abbrev pub Answers : {L : Type 0} → (L → LinkState) → ℕ → Start → DialerState L → List (Part L) → List Happening → ClientState → Call → Result (Answered L) TalkEnd → Client → Noted → ℕ → ℕ → DialerState L → Type 0
Answers state turns first old past all s call (Ok told) c noted idle cost new = TellsCall state first old past all call told.at told.code told.block (spot c [] (state told.link) noted cost) idle new
Answers state turns first old past all s call (Err end) c noted idle cost new = TellsEnd state turns first old past all (asks s call) end cost new

-- what a link that is left comes to
abbrev pub TellsLeft : {L : Type 0} → DialerState L → L → Came → Result (Answered L) TalkEnd → DialerState L → Type 0
TellsLeft old link came (Ok told) new = (told.link ≡ link) × (came ≡ comes.Told told.at told.code told.block) × (new ≡ old)
TellsLeft old link came (Err end) new = (end_of came ≡ Some end) × TakesBack old link new

-- what a link that is left is for whoever waits for an opening
abbrev pub OpensLeft : {L : Type 0} → DialerState L → L → Came → Result L TalkEnd → DialerState L → Type 0
OpensLeft old link came (Ok same) new = (same ≡ link) × (came ≡ comes.Opened) × (new ≡ old)
OpensLeft old link came (Err end) new = (end_of came ≡ Some end) × TakesBack old link new

-- The opening is done on a link: no result came.
pub record Opens {L : Type 0} (state : L → LinkState) (first : Start) (old : DialerState L) (past : List (Part L)) (here : Spot) (idle : ℕ) (new : DialerState L) : Type 0 where
  pub later : List (Part L)
  pub now : List Happening
  pub same : SameOver past [] later now
  pub over : Over state first old later now here idle new

abbrev pub Connects : {L : Type 0} → (L → LinkState) → ℕ → Start → DialerState L → List (Part L) → Result L TalkEnd → Client → Noted → ℕ → ℕ → DialerState L → Type 0
Connects state turns first old past (Ok link) c noted idle cost new = Opens state first old past (spot c [] (state link) noted cost) idle new
Connects state turns first old past (Err end) c noted idle cost new = EndsTalk state turns first old past [] end cost new

-- where a client stands: on a link, or between two
abbrev pub TalkAt : {L : Type 0} → (L → LinkState) → Start → DialerState L → List (Part L) → List Happening → Option L → Client → Noted → ℕ → ℕ → DialerState L → Type 0
TalkAt state first old past all (Some link) c noted idle cost dialer = Over state first old past all (spot c [] (state link) noted cost) idle dialer
TalkAt state first old past all None c noted idle cost dialer = (all ≡ []) × Between state first old past c idle cost dialer

-- The call was told, and the link is there; or there is none any more.
abbrev pub AsksTalk : {L : Type 0} → (L → LinkState) → ℕ → Start → DialerState L → List (Part L) → List Happening → ClientState → Call → Result Told TalkEnd → Option L → Client → Noted → ℕ → ℕ → DialerState L → Type 0
AsksTalk state turns first old past all s call (Ok told) (Some link) c noted idle cost new = TellsCall state first old past all call told.at told.code told.block (spot c [] (state link) noted cost) idle new
AsksTalk state turns first old past all s call (Ok told) None c noted idle cost new = ⊥
AsksTalk state turns first old past all s call (Err end) (Some link) c noted idle cost new = ⊥
AsksTalk state turns first old past all s call (Err end) None c noted idle cost new = TellsEnd state turns first old past all (asks s call) end cost new

-- A link was opened, or there is none.
abbrev pub OpensTalk : {L : Type 0} → (L → LinkState) → ℕ → Start → DialerState L → List (Part L) → Result (Unit {0}) TalkEnd → Option L → Client → Noted → ℕ → ℕ → DialerState L → Type 0
OpensTalk state turns first old past (Ok done) (Some link) c noted idle cost new = Opens state first old past (spot c [] (state link) noted cost) idle new
OpensTalk state turns first old past (Ok done) None c noted idle cost new = ⊥
OpensTalk state turns first old past (Err end) (Some link) c noted idle cost new = ⊥
OpensTalk state turns first old past (Err end) None c noted idle cost new = EndsTalk state turns first old past [] end cost new

-- CloseSession was written last, or a first part of it where a write failed; and the link is handed back with all others.
pub record ClosesLink {L : Type 0} (state : L → LinkState) (first : Start) (old : DialerState L) (past : List (Part L)) (all : List Happening) (new : DialerState L) : Type 0 where
  pub from : Start
  pub past_is : Past state first past from
  pub here : Spot
  pub on : LiveOn (dialled from) all here
  pub all_written : here.out ≡ []
  pub sent : Bool
  pub link : L
  pub closes : SendsAll here.link (canonical_frame close_session_frame) sent (state link)
  pub hands : Hands old (length past + 1) (links_of past ++ link ∷ []) new

-- And where there was no memory, the link was left as it was.
pub record LeavesOpen {L : Type 0} (state : L → LinkState) (first : Start) (old : DialerState L) (past : List (Part L)) (all : List Happening) (new : DialerState L) : Type 0 where
  pub from : Start
  pub past_is : Past state first past from
  pub here : Spot
  pub link : L
  pub at_link : here.link ≡ state link
  pub on : LiveOn (dialled from) all here
  pub hands : Hands old (length past + 1) (links_of past ++ link ∷ []) new

abbrev pub ClosesTalk : {L : Type 0} → (L → LinkState) → Start → DialerState L → List (Part L) → List Happening → Result (Unit {0}) OutOfMemory → DialerState L → Type 0
ClosesTalk state first old past all (Ok done) new = ClosesLink state first old past all new
ClosesTalk state first old past all (Err e) new = LeavesOpen state first old past all new
