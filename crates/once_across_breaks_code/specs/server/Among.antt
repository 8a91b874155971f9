-- The server end of a link among the entries of others, as events of a schedule of the law (this profile).
use Rattle.std.specs.Prelude.{◌≡◌, ◌≢◌, ℕ, Bool, true, false, nat_eq, ◌&&◌, ◌||◌, List, [], ◌∷◌, ◌++◌, map, Option, None}
use Rattle.afp_serial.specs.declared.ask.Ask as asks
use Rattle.afp_serial.specs.declared.ask.Ask.TheVariants as ask
use Rattle.afp_serial.specs.declared.ask.Entry as entries
use Rattle.afp_serial.specs.Answer.{is_legal}
use Rattle.afp_serial.specs.Shown.{IsSoundShown}
use Rattle.afp_serial.specs.Sound.{IsSound}
use Rattle.afp_serial.specs.Went.{Step}
use Rattle.afp_serial.specs.World.{World}
use Rattle.afp_server.specs.link.Did.{Did}
use Rattle.afp_server.specs.link.LinkRun.{Parts}
use Rattle.afp_server.specs.link.Requests.{Requests}
use Rattle.afp_server.specs.link.Script.{Does, Script}
use Rattle.afp_server.specs.link.Trace.{Cause, Idled, Idles}
use Rattle.afp_server.specs.link.Wire as wires
use Rattle.afp_server.specs.declared.link.stage.FrameEnd.{FrameEnd}
use Rattle.afp_server.specs.declared.link.stage.Stage.{Stage}
use Rattle.afp_server.specs.declared.link.stage.Stage.TheVariants as stages
use Rattle.dsi_frame.specs.Frame.{Frame}
use Rattle.dsi_frame.specs.Replies.{listed}
use Rattle.once_across_breaks.specs.once.Bytes.{seen_request}
use Rattle.once_across_breaks.specs.once.Frames.{Heard, Net, heard, net_run, net_step}
use Rattle.once_across_breaks.specs.once.Messages.{Answer, is_carried}
use Rattle.once_across_breaks.specs.once.Run.{Breaks, Commands, Drains, Ends, Event, Loses, Others, Quiet, Request, ToClient, ToServer}
use Rattle.once_across_breaks.specs.once.Serial.{Setup, entry_of, machine}
use Rattle.once_across_breaks.specs.once.Server.{Entry}
use Rattle.once_across_breaks_code.specs.server.Asked.{AskedAmong, OthersPassSince, world_of}
use Rattle.once_across_breaks_code.specs.server.Handling.{is_memory, last_unasked}
use Rattle.once_across_breaks_code.specs.server.Ties.{AllCarry, AreEntries, Carries, IsEnd, IsEndBehind, plain, reply_frames}

-- ---- entries that frames can carry

abbrev pub is_carried_ask : asks.Ask → Bool
is_carried_ask (ask.Open attention) = true
is_carried_ask (ask.Call id write offset payload) = is_carried write offset payload
is_carried_ask ask.Pulse = true
is_carried_ask ask.Bye = true
is_carried_ask ask.Lost = true
is_carried_ask ask.Drain = true

abbrev pub AllCarried : List entries.Entry → Type 0
AllCarried [] = Unit {0}
AllCarried (e ∷ es) = (is_carried_ask e.ask ≡ true) × AllCarried es

-- ---- events at one link

-- the sweep of an OpenSession: a Pulse at link 0, which is no link of a session
abbrev pub is_pulse : asks.Ask → Bool
is_pulse (ask.Open attention) = false
is_pulse (ask.Call id write offset payload) = false
is_pulse ask.Pulse = true
is_pulse ask.Bye = false
is_pulse ask.Lost = false
is_pulse ask.Drain = false

abbrev pub is_sweep : entries.Entry → Bool
is_sweep e = nat_eq e.link.0 0 && is_pulse e.ask

-- where the sweep of the link's own OpenSession counts as an entry of others
abbrev pub or_sweep : (entries.Entry → Bool) → entries.Entry → Bool
or_sweep p e = p e || is_sweep e

-- the law's entry is one that passes
pub record IsPassed (u : Setup) (p : entries.Entry → Bool) (e : Entry) : Type 0 where
  pub entry : entries.Entry
  pub is : entry_of u e ≡ plain entry
  pub passes : p entry ≡ true

-- An event at the link i: a request arrives there, it is quiet, lost or drained; or others ask what is legal, and passes this test.
abbrev pub IsAtLink : Setup → (entries.Entry → Bool) → ℕ → Net World → Event → Type 0
IsAtLink u p i net (ToServer j moment wish) = j ≡ i
IsAtLink u p i net (Quiet j moment wish) = j ≡ i
IsAtLink u p i net (Loses j moment wish) = j ≡ i
IsAtLink u p i net (Drains j moment wish) = j ≡ i
IsAtLink u p i net (Others e) = (is_legal net.world (entry_of u e) ≡ true) × IsPassed u p e
IsAtLink u p i net (Commands call) = ⊥
IsAtLink u p i net ToClient = ⊥
IsAtLink u p i net (Ends j) = ⊥
IsAtLink u p i net Breaks = ⊥

abbrev pub AreAtLink : Setup → (entries.Entry → Bool) → ℕ → Net World → List Event → Type 0
AreAtLink u p i net [] = Unit {0}
AreAtLink u p i net (e ∷ es) = IsAtLink u p i net e × AreAtLink u p i (net_step (machine u) net e) es

-- whether a request is told want of memory
abbrev pub wants_memory : Event → Bool
wants_memory (ToServer i moment wish) = wish.memory
wants_memory (Quiet i moment wish) = false
wants_memory (Loses i moment wish) = false
wants_memory (Drains i moment wish) = false
wants_memory (Others e) = false
wants_memory (Commands call) = false
wants_memory ToClient = false
wants_memory (Ends i) = false
wants_memory Breaks = false

abbrev pub any_wants_memory : List Event → Bool
any_wants_memory [] = false
any_wants_memory (e ∷ es) = wants_memory e || any_wants_memory es

-- ---- where they lead

abbrev pub heard_reply : Request × Answer → Heard × Answer
heard_reply x = (heard x.0, x.1)

abbrev pub unnumbered : (ℕ × Heard) × Answer → Heard × Answer
unnumbered x = (x.0.1, x.1)

abbrev pub request_only : ℕ × Request → Request
request_only x = x.1

-- The law's net comes to another world by these entries, and its link i to where the link comes: these requests are left to it, and the
-- replies are under way on it. The client stays, and each other link.
pub record Passes (u : Setup) (i : ℕ) (stage : Stage) (end : Option FrameEnd) (left : List Request) (replies : List Frame) (es : List entries.Entry) (behind : World) (old new : Net World) : Type 0 where
  pub world : new.world ≡ behind
  pub comes : IsEndBehind stage end (new.links i).end
  pub more : List Entry
  pub history : new.history ≡ old.history ++ more
  pub asked : AreEntries u more es
  pub client : new.client ≡ old.client
  pub top : new.top ≡ old.top
  pub elsewhere : (j : ℕ) → j ≢ i → new.links j ≡ old.links j
  pub up : (new.links i).up ≡ left
  pub told : List (Request × Answer)
  pub down : (new.links i).down ≡ (old.links i).down ++ told
  pub read : List ((ℕ × Heard) × Answer)
  pub same : map unnumbered read ≡ map heard_reply told
  pub says : replies ≡ reply_frames u read

-- There are events at the link i that lead there, and what others ask in them passes this test.
pub record Course (u : Setup) (p : entries.Entry → Bool) (i : ℕ) (net : Net World) (memory : Bool) (stage : Stage) (end : Option FrameEnd) (left : List Request) (replies : List Frame) (es : List entries.Entry) (behind : World) : Type 0 where
  pub events : List Event
  pub here : AreAtLink u p i net events
  pub wants : any_wants_memory events ≡ memory
  pub passes : Passes u i stage end left replies es behind net (net_run (machine u) net events)

-- ---- the laws

-- A frame of a request does what such events do, where what others ask in between passes a test; of an OpenSession the sweep counts as theirs. A request is told want of memory where the last of its steps was.
abbrev pub FramesArrive : Type 0
FramesArrive =
    (u : Setup) (p : entries.Entry → Bool) (block : List ℕ) (now : ℕ) (stage : Stage) (f : Frame) (did : Did) (x : ℕ × Request) (left : List Request) (es : List entries.Entry) (behind : World) (net : Net World) (i : ℕ)
    → IsSound net.world
    → Does block now stage f did
    → Carries u (seen_request x) f
    → AskedAmong p net.world did.steps es behind
    → AllCarried es
    → IsEnd stage (net.links i).end
    → (net.links i).up ≡ x.1 ∷ left
    → Course u (or_sweep p) i net (last_unasked did.steps) did.stage did.end left (listed did.reply) es behind

-- So do frames in order; a request is told want of memory only where a step was.
abbrev pub any_unasked : List Step → Bool
any_unasked [] = false
any_unasked (s ∷ ss) = is_memory s.told || any_unasked ss

abbrev pub ScriptsArrive : Type 0
ScriptsArrive =
    (u : Setup) (p : entries.Entry → Bool) (block : List ℕ) (stage after : Stage) (frames : List Frame) (steps : List Step) (replies : List Frame) (end : Option FrameEnd)
    (requests : List (ℕ × Request)) (left : List Request) (es : List entries.Entry) (behind : World) (net : Net World) (i : ℕ)
    → IsSound net.world
    → Script block stage frames steps replies after end
    → AllCarry u (map seen_request requests) frames
    → AskedAmong p net.world steps es behind
    → AllCarried es
    → IsEnd stage (net.links i).end
    → (net.links i).up ≡ map request_only requests ++ left
    → (memory : Bool) × (memory ≡ true → any_unasked steps ≡ true) × Course u (or_sweep p) i net memory after end left replies es behind

-- so do the frames of a piece that is fed to a wire
abbrev pub PiecesArrive : Type 0
PiecesArrive =
    (u : Setup) (p : entries.Entry → Bool) (start : wires.FeedStart) (frames : List Frame) (end : Option FrameEnd) (point : wires.FeedPoint) (handled : wires.Handled start frames end point)
    (requests : List (ℕ × Request)) (left : List Request) (net : Net World) (i : ℕ)
    → IsSoundShown start.shown
    → IsSoundShown point.shown
    → OthersPassSince p start.shown point.shown
    → AllCarry u (map seen_request requests) frames
    → AllCarried handled.went.between
    → net.world ≡ world_of start.shown
    → IsEnd start.stage (net.links i).end
    → (net.links i).up ≡ map request_only requests ++ left
    → (memory : Bool) × (memory ≡ true → any_unasked handled.steps ≡ true) × Course u (or_sweep p) i net memory point.stage end left handled.replies handled.went.between (world_of point.shown)

-- so does a quiet
abbrev pub QuietsArrive : Type 0
QuietsArrive =
    (u : Setup) (p : entries.Entry → Bool) (last_read now : ℕ) (stage : Stage) (requests : Requests) (idled : Idled) (cause : Option Cause) (es : List entries.Entry) (behind : World) (net : Net World) (i : ℕ)
    → Idles last_read now stage requests idled cause
    → AskedAmong p net.world idled.steps es behind
    → AllCarried es
    → IsEnd stage (net.links i).end
    → Course u p i net false idled.stage None (net.links i).up [] es behind

-- and so does the end of a link
abbrev pub PartingsArrive : Type 0
PartingsArrive =
    (u : Setup) (p : entries.Entry → Bool) (now : ℕ) (stage : Stage) (steps : List Step) (es : List entries.Entry) (behind : World) (net : Net World) (i : ℕ)
    → Parts stage now steps
    → AskedAmong p net.world steps es behind
    → AllCarried es
    → IsEnd stage (net.links i).end
    → Course u p i net false stages.Closing None (net.links i).up [] es behind
