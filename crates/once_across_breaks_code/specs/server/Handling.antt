-- What the server end of a link does with frames of the client is what the law says (this profile).
use Rattle.std.specs.Prelude.{◌≡◌, ℕ, Bool, true, false, ◌||◌, List, [], ◌∷◌, ◌++◌, map, Option}
use Rattle.afp_serial.specs.declared.ask.Entry as entries
use Rattle.afp_serial.specs.declared.ask.Outcome as outcomes
use Rattle.afp_serial.specs.declared.ask.Outcome.TheVariants as outcome
use Rattle.afp_serial.specs.declared.ask.Told as tolds
use Rattle.afp_serial.specs.declared.ask.Told.TheVariants as told
use Rattle.afp_serial.specs.Sound.{IsSound}
use Rattle.afp_serial.specs.Went.{Step}
use Rattle.afp_serial.specs.World.{World}
use Rattle.afp_server.specs.link.Did.{Did, is_bad}
use Rattle.afp_server.specs.link.Script.{Does, Script}
use Rattle.afp_server.specs.declared.link.stage.FrameEnd.{FrameEnd}
use Rattle.afp_server.specs.declared.link.stage.Stage.{Stage}
use Rattle.afp_server.specs.declared.link.stage.Stage.TheVariants as stages
use Rattle.dsi_frame.specs.Frame.{Frame}
use Rattle.dsi_frame.specs.Replies.{listed}
use Rattle.dsi_frame.specs.declared.frame.Reason.TheVariants as reasons
use Rattle.once_across_breaks.specs.once.Frames.{End, Handled, Heard, HeardCall, HeardOpen, dropped, handles}
use Rattle.once_across_breaks.specs.once.Messages.{Answer}
use Rattle.once_across_breaks.specs.once.Run.{Wish}
use Rattle.once_across_breaks.specs.once.Serial.{Setup, machine}
use Rattle.once_across_breaks.specs.once.Server.{Entry, Machine}
use Rattle.once_across_breaks_code.specs.server.Asked.{AskedAlone}
use Rattle.once_across_breaks_code.specs.server.Ties.{AllCarry, AreEntries, Carries, IsEnd, IsEndBehind, answered, reply_frames}

-- ---- what was otherwise, by what was told

abbrev pub is_memory : tolds.Told → Bool
is_memory (told.Opened link) = false
is_memory (told.Reply code block ends) = false
is_memory (told.Live drain) = false
is_memory told.Done = false
is_memory told.Displaced = false
is_memory told.Memory = true

abbrev pub is_fault : outcomes.Outcome → Bool
is_fault outcome.Done = false
is_fault outcome.Fault = true

-- whether the first, and whether the last of the steps was told Memory
abbrev pub first_unasked : List Step → Bool
first_unasked [] = false
first_unasked (s ∷ ss) = is_memory s.told

abbrev pub last_unasked : List Step → Bool
last_unasked [] = false
last_unasked (s ∷ []) = is_memory s.told
last_unasked (s ∷ t ∷ ss) = last_unasked (t ∷ ss)

-- whether one of the entries met a fault
abbrev pub any_fault : List entries.Entry → Bool
any_fault [] = false
any_fault (e ∷ es) = is_fault e.outcome || any_fault es

abbrev pub wish_by : List Step → List entries.Entry → Wish
wish_by steps es = record { no_sweep = first_unasked steps; memory = last_unasked steps; fault = any_fault es }

-- ---- one frame

-- The law's end does with a request what the link did with its frame: the world behind it, the entries, how far the link has come, and
-- the reply.
pub record IsHandled (u : Setup) (r : ℕ × Heard) (did : Did) (es : List entries.Entry) (behind : World) (h : Handled World) : Type 0 where
  pub world : h.world ≡ behind
  pub asked : AreEntries u h.entries es
  pub comes : IsEndBehind did.stage did.end h.end
  pub says : listed did.reply ≡ reply_frames u (answered r h.reply)

-- The law: so it is with each frame of a request of the client, at each moment, in each sound world, wherever the link and the law's end stand.
abbrev pub FramesAreHandled : Type 0
FramesAreHandled =
    (u : Setup) (block : List ℕ) (now : ℕ) (stage : Stage) (f : Frame) (did : Did) (r : ℕ × Heard) (w behind : World) (es : List entries.Entry) (e : End)
    → IsSound w
    → Does block now stage f did
    → Carries u r f
    → AskedAlone w did.steps es behind
    → IsEnd stage e
    → IsHandled u r did es behind (handles (machine u) w now (wish_by did.steps es) e e.number r.1)

-- a request that may not come where the link is
abbrev pub ComesTooEarlyOrLate : Stage → Heard → Type 0
ComesTooEarlyOrLate stages.Fresh HeardOpen = ⊥
ComesTooEarlyOrLate stages.Fresh (HeardCall id body) = Unit {0}
ComesTooEarlyOrLate (stages.Open link) HeardOpen = Unit {0}
ComesTooEarlyOrLate (stages.Open link) (HeardCall id body) = ⊥
ComesTooEarlyOrLate stages.Closing r = ⊥

-- Such a request ends the link as a bad one, and the law drops it: nothing is asked, and nothing is replied.
abbrev pub OthersAreDropped : Type 0
OthersAreDropped =
    (u : Setup) (block : List ℕ) (now : ℕ) (stage : Stage) (f : Frame) (did : Did) (r : ℕ × Heard) (w : World) (e : End) (wish : Wish)
    → Does block now stage f did
    → Carries u r f
    → ComesTooEarlyOrLate stage r.1
    → IsEnd stage e
    → (did ≡ is_bad reasons.Phase stage) × (handles (machine u) w now wish e e.number r.1 ≡ dropped w [] e)

-- ---- frames in order

-- a request with its id, its moment, and what is otherwise at it
pub record Turn : Type 0 where
  pub moment : ℕ
  pub wish : Wish
  pub request : ℕ × Heard

abbrev pub request_in : Turn → ℕ × Heard
request_in t = t.request

pub record Served (W : Type 0) : Type 0 where
  pub world : W
  pub entries : List Entry
  pub end : End
  pub replies : List ((ℕ × Heard) × Answer)

-- what was handled first, and what then
abbrev pub then_served : {W : Type 0} → ℕ × Heard → Handled W → Served W → Served W
then_served r h x = record { world = x.world; entries = h.entries ++ x.entries; end = x.end; replies = answered r h.reply ++ x.replies }

-- The law's end handles requests one after the other.
abbrev pub serves : {W : Type 0} → Machine W → W → End → List Turn → Served W
serves s w e [] = record { world = w; entries = []; end = e; replies = [] }
serves s w e (t ∷ ts) =
    then_served t.request (handles s w t.moment t.wish e e.number t.request.1)
    (serves s (handles s w t.moment t.wish e e.number t.request.1).world (handles s w t.moment t.wish e e.number t.request.1).end ts)

pub record IsServed (u : Setup) (replies : List Frame) (after : Stage) (end : Option FrameEnd) (es : List entries.Entry) (behind : World) (x : Served World) : Type 0 where
  pub world : x.world ≡ behind
  pub asked : AreEntries u x.entries es
  pub comes : IsEndBehind after end x.end
  pub says : replies ≡ reply_frames u x.replies

-- The law: so the law's end does with requests what the link did with their frames.
abbrev pub ScriptsAreServed : Type 0
ScriptsAreServed =
    (u : Setup) (block : List ℕ) (stage after : Stage) (frames : List Frame) (steps : List Step) (replies : List Frame) (end : Option FrameEnd)
    (requests : List (ℕ × Heard)) (w behind : World) (es : List entries.Entry) (e : End)
    → IsSound w
    → Script block stage frames steps replies after end
    → AllCarry u requests frames
    → AskedAlone w steps es behind
    → IsEnd stage e
    → (turns : List Turn) × (map request_in turns ≡ requests) × IsServed u replies after end es behind (serves (machine u) w e turns)
