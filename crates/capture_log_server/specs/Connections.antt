-- What a connection of a capture reads, and what is answered (this profile).
use Rattle.std.specs.Prelude.{◌≡◌, ◌⊎◌, ℕ, ◌+◌, ◌==◌, Bool, true, false, List, [], ◌∷◌, ◌++◌, map, All, Option, Some, None, if◌then◌else◌}
use Rattle.afp_serial.specs.History.{answers, entry, stand}
use Rattle.afp_serial.specs.Shown.{Shown}
use Rattle.afp_serial.specs.Went.{Step}
use Rattle.afp_serial.specs.World.{World}
use Rattle.afp_serial.specs.declared.ask.Entry.{Entry}
use Rattle.afp_serial.specs.declared.ask.Outcome.TheVariants.{Done}
use Rattle.afp_serial.specs.declared.ask.Told.{Told}
use Rattle.dsi_frame.specs.Frame.{Frame}
use Rattle.dsi_frame.specs.Stream.{Framed, Stopped}
use Rattle.dsi_frame.specs.declared.frame.Reason.{Reason}
use Rattle.afp_server.specs.link.LinkRun.{Fills}
use Rattle.dsi_frame.specs.Replies.{spelling_of}
use Rattle.afp_server.specs.link.Script.{Script}
use Rattle.afp_server.specs.declared.link.stage.FrameEnd.{FrameEnd}
use Rattle.afp_server.specs.declared.link.stage.Stage.{Stage}
use Rattle.afp_server.specs.declared.link.stage.Stage.TheVariants.{Fresh}
use Rattle.capture_log_server.specs.declared.difference.Difference.{Difference}

-- A connection: the bytes fed to it, the frames of them that were handled, how far its link has come, whether bytes were fed to it at
-- all, whether it takes no more of them, whether it was lost, its replies, and how many bytes of its output were compared.
pub record Connection : Type 0 where
  pub fed : List ℕ
  pub past : List Frame
  pub stage : Stage
  pub used : Bool
  pub over : Bool
  pub lost : Bool
  pub replies : List Frame
  pub named : ℕ

-- one that no line has named
abbrev pub unused : Connection
unused = record { fed = []; past = []; stage = Fresh; used = false; over = false; lost = false; replies = []; named = 0 }

-- the bytes that were answered on it
abbrev pub output : Connection → List ℕ
output c = spelling_of c.replies

-- Whether the frames end the link: one of them does, whatever stands behind it; or none does, and behind them there is less than a
-- frame, or a bad header, which ends it too.
abbrev pub FramesEnd : List ℕ → List Frame → Option FrameEnd → Bool → Type 0
FramesEnd bytes frames (Some end) over = (left : List ℕ) × Fills bytes frames left × (over ≡ true)
FramesEnd bytes frames None over =
    ((rest : List ℕ) × Framed bytes frames rest × (over ≡ false)) ⊎ ((at : ℕ) × (reason : Reason) × Stopped bytes frames at reason × (over ≡ true))

-- Bytes come on a connection of a server with this status block, at a moment: these frames of all its bytes are handled with them, by
-- these steps and replies, and so far the link has come then.
pub record TakesBytes (block : List ℕ) (now : ℕ) (c : Connection) (bytes : List ℕ) (frames : List Frame) (steps : List Step) (replies : List Frame) (after : Stage) (over : Bool) : Type 0 where
  pub end : Option FrameEnd
  pub script : Script block c.stage frames steps replies after end
  pub moments : All (λ s. s.at ≡ now) steps
  pub framed : FramesEnd (c.fed ++ bytes) (c.past ++ frames) end over

-- the connection then
abbrev pub fed_with : Connection → List ℕ → List Frame → List Frame → Stage → Bool → Connection
fed_with c bytes frames replies after over = record {
  fed = c.fed ++ bytes;
  past = c.past ++ frames;
  stage = after;
  used = true;
  over = over;
  lost = c.lost;
  replies = c.replies ++ replies;
  named = c.named;
}

-- the entry of an ask, with the outcome Done
abbrev pub entry_of : Step → Entry
entry_of s = entry s.at s.link s.ask Done

abbrev pub entries_of : List Step → List Entry
entries_of steps = map entry_of steps

abbrev pub told_of : Step → Told
told_of s = s.told

-- each step is told the serial server's answer, one after the other from this world
abbrev pub AreServed : World → List Step → Type 0
AreServed w steps = map told_of steps ≡ answers w (entries_of steps)

-- the first byte that differs, of the bytes wanted from a place on and those that stand there
abbrev pub difference : ℕ → List ℕ → List ℕ → Option Difference
difference at [] rest = None
difference at (want ∷ wanted) [] = Some (record { at = at; want = want; got = None })
difference at (want ∷ wanted) (got ∷ rest) = if want == got then difference (at + 1) wanted rest else Some (record { at = at; want = want; got = Some got })

-- The teller answered these steps, and nobody else asked.
pub record Extends (t : Shown) (steps : List Step) (u : Shown) : Type 0 where
  pub start : u.start ≡ t.start
  pub history : u.history ≡ t.history ++ entries_of steps
  pub served : AreServed (stand t.start (t.history)) steps
