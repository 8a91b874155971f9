-- What is done with them, step by step, as the contracts of the client, of a wire and of a teller say it (this profile).
use Rattle.std.specs.Prelude.{◌≡◌, ◌≢◌, ◌≤◌, ℕ, suc, Bool, true, false, List, [], ◌∷◌, ◌++◌, Option, Some, is_some}
use Rattle.afp_base.specs.Cached.{Answer}
use Rattle.afp_base.specs.declared.ids.LinkNumber.{LinkNumber}
use Rattle.afp_calls_grammar.specs.declared.grammar.call.Call as grammar
use Rattle.afp_client.specs.session.Happens.{Happens}
use Rattle.afp_client.specs.session.State.{IsReady, call_frame}
use Rattle.afp_client.specs.session.Takes.{asked, begun, broken}
use Rattle.afp_client.specs.declared.session.event.Event.{Event}
use Rattle.afp_client.specs.declared.session.event.Event.TheVariants as events
use Rattle.afp_serial.specs.declared.ask.Ask as serial
use Rattle.afp_serial.specs.declared.ask.Ask.TheVariants as ask
use Rattle.afp_serial.specs.declared.ask.Told as tolds
use Rattle.afp_serial.specs.declared.ask.Told.TheVariants as told
use Rattle.afp_serial.specs.Shown.{Asked, IsSoundShown, Shown}
use Rattle.afp_server.specs.link.Wire as wires
use Rattle.afp_server.specs.link.Wire.{Feeds, PartsBy, WireState, feed_point}
use Rattle.afp_server.specs.declared.link.stage.Stage.TheVariants as stages
use Rattle.afp_server.specs.declared.link.wire.WireEnd.{WireEnd}
use Rattle.afp_server.specs.declared.link.wire.WireEnd.TheVariants as wire_ends
use Rattle.dsi_frame.specs.Deframe.{GivenOut}
use Rattle.dsi_frame.specs.Frame.{Frame, canonical_frame}
use Rattle.volume_spec.specs.TypedVolume.{are_bytes}
use Rattle.once_across_breaks_code.specs.client.Requests.{IsAskable}
use Rattle.once_across_breaks_code.specs.server.Among.{is_carried_ask}
use Rattle.once_across_breaks_code.specs.server.Asked.{AsksAlone}
use Rattle.once_across_breaks_code.specs.server.Fed.{CarriedSince}
use Rattle.once_across_breaks_code.specs.run.Things.{Lane, Things, begun_lane}

-- The client asks a call; the first n bytes under way to a server end reach it; bytes reach the client; the client takes what its next event is; a server end is quiet,
-- or lost; the client's link breaks, and it begins the next one; others ask. Each with its moment, where it has one.
pub data Doing : Type 0 where
  Asks : (call : grammar.Call) → Doing
  Reaches : (link now : ℕ) → Doing
  Brings : Doing
  Takes : (event : Event) → Doing
  Quiets : (link now : ℕ) → Doing
  Loses : (link now : ℕ) → Doing
  Breaks : Doing
  Others : (now : ℕ) (link : LinkNumber) (ask : serial.Ask) → Doing

-- what stays at all links but one
pub record OnlyAt (i : ℕ) (old new : Things) : Type 0 where
  pub top : new.top ≡ old.top
  pub others : (j : ℕ) → j ≢ i → new.lanes j ≡ old.lanes j

-- and with the client
pub record ClientStays (old new : Things) : Type 0 where
  pub client : new.client ≡ old.client
  pub calls : new.calls ≡ old.calls
  pub results : new.results ≡ old.results

-- ---- at a server end

-- where a piece is fed
abbrev pub fed_at : Lane → ℕ → Shown → List ℕ → List Frame → wires.FeedStart
fed_at lane now shown bytes past = record { block = lane.wire.block; now = now; bytes = bytes; past = past; stage = lane.wire.stage; out = lane.down; shown = shown }

-- Wire::feed, with a first part of the bytes that are under way, and its replies come behind those under way. Its memory sufficed.
pub record IsFed (i now : ℕ) (old new : Things) : Type 0 where
  pub link : i ≤ old.top
  pub live : (old.lanes i).ended ≡ false
  pub piece : List ℕ
  pub some : piece ≢ []
  pub result : Option WireEnd
  pub moved : (old.lanes i).up ≡ piece ++ (new.lanes i).up
  pub feeds : (bytes : List ℕ) (past : List Frame) → GivenOut bytes past (old.lanes i).wire.held
      → Feeds (fed_at (old.lanes i) now old.shown bytes past) (bytes ++ piece) result (new.lanes i).wire.held
      (feed_point (new.lanes i).wire.stage (new.lanes i).wire.tally (new.lanes i).down new.shown)
  pub memory : result ≢ Some wire_ends.Memory
  pub ended : (new.lanes i).ended ≡ is_some result
  pub typed : are_bytes (new.lanes i).down ≡ true
  pub stays : ClientStays old new
  pub only : OnlyAt i old new

-- the end takes no more
abbrev pub is_displaced : tolds.Told → Bool
is_displaced (told.Opened link) = false
is_displaced (told.Reply code block ends) = false
is_displaced (told.Live drain) = false
is_displaced told.Done = false
is_displaced told.Displaced = true
is_displaced told.Memory = false

-- Where a session is open, its teller is asked Pulse at that link; the end takes no more where it is told Displaced.
pub record IsQuiet (i now : ℕ) (old new : Things) : Type 0 where
  pub within : i ≤ old.top
  pub live : (old.lanes i).ended ≡ false
  pub link : LinkNumber
  pub in_session : (old.lanes i).wire.stage ≡ stages.Open link
  pub told : tolds.Told
  pub asked : Asked old.shown now link ask.Pulse told new.shown
  pub lane : new.lanes i ≡ record { wire = (old.lanes i).wire; ended = is_displaced told; up = (old.lanes i).up; down = (old.lanes i).down }
  pub stays : ClientStays old new
  pub only : OnlyAt i old new

-- Wire::lost: the end takes no more.
pub record IsLost (i now : ℕ) (old new : Things) : Type 0 where
  pub link : i ≤ old.top
  pub live : (old.lanes i).ended ≡ false
  pub parts : PartsBy (old.lanes i).wire.stage now old.shown new.shown
  pub ended : (new.lanes i).ended ≡ true
  pub down : (new.lanes i).down ≡ (old.lanes i).down
  pub stays : ClientStays old new
  pub only : OnlyAt i old new

-- others ask, whatever they are told
pub record OthersAsk (now : ℕ) (link : LinkNumber) (asks : serial.Ask) (old new : Things) : Type 0 where
  pub told : tolds.Told
  pub asked : Asked old.shown now link asks told new.shown
  pub lanes : (j : ℕ) → new.lanes j ≡ old.lanes j
  pub top : new.top ≡ old.top
  pub stays : ClientStays old new

-- ---- at the client

-- what the server end is, and what is under way on its link
pub record UpGrows (i : ℕ) (more : List ℕ) (old new : Things) : Type 0 where
  pub up : new.lanes i ≡ record { wire = (old.lanes i).wire; ended = (old.lanes i).ended; up = (old.lanes i).up ++ more; down = (old.lanes i).down }
  pub only : OnlyAt i old new
  pub shown : new.shown ≡ old.shown

-- ClientCore::ask
pub record IsAsked (call : grammar.Call) (old new : Things) : Type 0 where
  pub ready : IsReady old.client.state
  pub askable : IsAskable call
  pub client : new.client ≡ record { state = asked old.client.state call; held = old.client.held }
  pub grows : UpGrows old.top (canonical_frame (call_frame old.client.state.next_id call)) old new
  pub calls : new.calls ≡ old.calls ++ call ∷ []
  pub results : new.results ≡ old.results

-- ClientCore::feed, with a first part of the bytes under way to it
pub record IsBrought (old new : Things) : Type 0 where
  pub piece : List ℕ
  pub moved : (old.lanes old.top).down ≡ piece ++ (new.lanes old.top).down
  pub lane : new.lanes old.top ≡ record { wire = (old.lanes old.top).wire; ended = (old.lanes old.top).ended; up = (old.lanes old.top).up; down = (new.lanes old.top).down }
  pub held : new.client.held.rest ≡ old.client.held.rest ++ piece
  pub state : new.client.state ≡ old.client.state
  pub calls : new.calls ≡ old.calls
  pub results : new.results ≡ old.results
  pub shown : new.shown ≡ old.shown
  pub only : OnlyAt old.top old new

-- what an event tells
abbrev pub told_in : Event → List Answer
told_in (events.Told c block) = record { code = c; block = block } ∷ []
told_in event = []

-- ClientCore::event; what it writes comes behind what is under way on the newest link
pub record IsTaken (event : Event) (old new : Things) : Type 0 where
  pub more : List ℕ
  pub happens : Happens old.client (old.lanes old.top).up event new.client ((old.lanes old.top).up ++ more)
  pub grows : UpGrows old.top more old new
  pub calls : new.calls ≡ old.calls
  pub results : new.results ≡ old.results ++ told_in event

-- ClientCore::broke, and ClientCore::start on the next link
pub record IsBroken (old new : Things) : Type 0 where
  pub client : new.client ≡ record { state = begun (broken old.client.state); held = record { place = 0; rest = [] } }
  pub block : List ℕ
  pub top : new.top ≡ suc old.top
  pub lane : new.lanes (suc old.top) ≡ begun_lane block
  pub others : (j : ℕ) → j ≢ suc old.top → new.lanes j ≡ old.lanes j
  pub calls : new.calls ≡ old.calls
  pub results : new.results ≡ old.results
  pub shown : new.shown ≡ old.shown

-- ---- one after the other

abbrev pub Does : Doing → Things → Things → Type 0
Does (Asks call) old new = IsAsked call old new
Does (Reaches link now) old new = IsFed link now old new
Does Brings old new = IsBrought old new
Does (Takes event) old new = IsTaken event old new
Does (Quiets link now) old new = IsQuiet link now old new
Does (Loses link now) old new = IsLost link now old new
Does Breaks old new = IsBroken old new
Does (Others now link asks) old new = OthersAsk now link asks old new

-- what the teller shows is sound, and frames can carry all that was asked since
pub record IsCarriedOn (old new : Shown) : Type 0 where
  pub sound : IsSoundShown new
  pub carried : CarriedSince old new

abbrev pub Runs : Things → List Doing → Things → Type 0
Runs first [] last = last ≡ first
Runs first (d ∷ ds) last = (mid : Things) × Does d first mid × IsCarriedOn first.shown mid.shown × Runs mid ds last

-- ---- where nobody else asks the teller

-- all entries are its own asks, and a frame can carry what others ask of it
pub record IsAlone (new : Shown) : Type 0 where
  pub sound : IsSoundShown new
  pub alone : AsksAlone new

abbrev pub CanCarry : Doing → Type 0
CanCarry (Others now link asks) = is_carried_ask asks ≡ true
CanCarry (Asks call) = Unit {0}
CanCarry (Reaches link now) = Unit {0}
CanCarry Brings = Unit {0}
CanCarry (Takes event) = Unit {0}
CanCarry (Quiets link now) = Unit {0}
CanCarry (Loses link now) = Unit {0}
CanCarry Breaks = Unit {0}

abbrev pub RunsAlone : Things → List Doing → Things → Type 0
RunsAlone first [] last = last ≡ first
RunsAlone first (d ∷ ds) last = (mid : Things) × Does d first mid × CanCarry d × IsAlone mid.shown × RunsAlone mid ds last
