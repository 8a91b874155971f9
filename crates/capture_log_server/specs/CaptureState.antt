-- Where a capture stands after some of its lines, and where one line more leads (docs/CAPTURES.md; this profile).
use Rattle.std.specs.Prelude.{◌≡◌, ℕ, zero, suc, ◌+◌, ◌==◌, nat_lt, not, ◌||◌, Bool, true, false, List, [], ◌∷◌, ◌++◌, length, drop, Option, Some, None, is_none, if◌then◌else◌}
use Rattle.afp_base.specs.Limits.{signature_size, token_key_size}
use Rattle.afp_base.specs.Counts.{counted}
use Rattle.afp_base.specs.declared.ids.LinkNumber.{LinkNumber}
use Rattle.afp_serial.specs.History.{stand}
use Rattle.afp_serial.specs.Household.{Household, household}
use Rattle.afp_serial.specs.HouseFault.{is_name, is_bad_user, is_bad_volume}
use Rattle.afp_serial.specs.Limits.{most_volumes}
use Rattle.afp_serial.specs.Limits.{longest_server, most_users, first_user_id}
use Rattle.afp_serial.specs.StatusBlock.{status_block}
use Rattle.afp_serial.specs.Went.{Step, step}
use Rattle.afp_serial.specs.World.{World, fresh_world}
use Rattle.afp_serial.specs.declared.ask.Ask.TheVariants as asks
use Rattle.afp_serial.specs.declared.ask.Entry.{Entry}
use Rattle.afp_serial.specs.declared.ask.Told.{Told}
use Rattle.afp_serial.specs.declared.ask.Told.TheVariants as told
use Rattle.afp_serial.specs.declared.user.User.{User}
use Rattle.afp_server.specs.link.Wire.{open_link}
use Rattle.afp_server.specs.declared.link.stage.Stage.{Stage}
use Rattle.afp_server.specs.declared.link.stage.Stage.TheVariants.{Closing}
use Rattle.dsi_frame.specs.Frame.{Frame}
use Rattle.capture_log_lines.specs.log.Lines.{line_in}
use Rattle.capture_log_lines.specs.declared.log.line.Line.{Line}
use Rattle.capture_log_lines.specs.declared.log.line.Line.TheVariants.{Title, Server, Signature, User as UserLine, Volume, Key, At, End}
use Rattle.capture_log_lines.specs.declared.log.line.What.{What}
use Rattle.capture_log_lines.specs.declared.log.line.What.TheVariants.{In, Quiet, Lost, Out}
use Rattle.capture_log_server.specs.Connections.{Connection, TakesBytes, unused, fed_with, output, entries_of, AreServed, difference}
use Rattle.capture_log_server.specs.declared.part.Part.{Part}
use Rattle.capture_log_server.specs.declared.part.Part.TheVariants as parts

-- so many zeros
abbrev pub zeros : ℕ → List ℕ
zeros zero = []
zeros (suc n) = 0 ∷ zeros n

-- What may come next; the house that the lines make; the moment of the first `at` line, if there was one; the connections by their
-- numbers, and how many of them were fed; the history, and all replies.
pub record CaptureState : Type 0 where
  pub part : Part
  pub house : Household
  pub start : Option ℕ
  pub connections : ℕ → Connection
  pub links : ℕ
  pub history : List Entry
  pub replies : List Frame

-- a house of which no part is named: its signature and its key are zeros
abbrev pub no_house : Household
no_house = household [] (zeros signature_size) [] [] [] (zeros token_key_size)

-- before the first line
abbrev pub begins : CaptureState
begins = record { part = parts.Title; house = no_house; start = None; connections = λ k. unused; links = 0; history = []; replies = [] }

-- which line may come in each part, and the part that follows it
abbrev pub part_after : Part → Line → Option Part
part_after parts.Title Title = Some parts.Server
part_after parts.Server (Server name) = Some parts.Signature
part_after parts.Signature (Signature bytes) = Some parts.Users
part_after parts.Users (UserLine name password) = Some parts.Users
part_after parts.Users (Volume name) = Some parts.Volumes
part_after parts.Volumes (Volume name) = Some parts.Volumes
part_after parts.Volumes (Key bytes) = Some parts.Events
part_after parts.Events (At link now what) = Some parts.Events
part_after parts.Events End = Some parts.Nothing
part_after _ _ = None

-- a user behind those that stand before it
abbrev pub user_behind : List User → List ℕ → List ℕ → User
user_behind users name password = record { id = first_user_id + length users; name = name; password = password }

-- no more bytes may come on a connection that was lost
abbrev pub is_refused_on : Connection → What → Bool
is_refused_on c (In bytes) = c.lost
is_refused_on c Quiet = false
is_refused_on c Lost = false
is_refused_on c (Out bytes) = false

-- a line of a good form that is refused: a name that a house refuses, one user or volume too many, bytes behind the loss of a connection
abbrev pub is_refused : CaptureState → Line → Bool
is_refused s Title = false
is_refused s (Server name) = not (is_name longest_server name)
is_refused s (Signature bytes) = false
is_refused s (UserLine name password) = not (nat_lt (length s.house.users) most_users) || is_bad_user s.house.users (user_behind s.house.users name password)
is_refused s (Volume name) = not (nat_lt (length s.house.volumes) most_volumes) || is_bad_volume s.house.volumes name
is_refused s (Key bytes) = false
is_refused s (At link now what) = is_refused_on (s.connections link) what
is_refused s End = false

-- a bad line: it has none of the forms, may not come here, or is refused
abbrev pub is_bad : CaptureState → Option Line → Bool
is_bad s None = true
is_bad s (Some line) = is_none (part_after s.part line) || is_refused s line

-- the world is that of a house that nobody has used, from the moment of the first `at` line on, behind the history
abbrev pub start_at : Option ℕ → ℕ → ℕ
start_at None now = now
start_at (Some first) now = first

abbrev pub world_at : CaptureState → ℕ → World
world_at s now = stand (fresh_world s.house (start_at s.start now)) s.history

-- with another connection in place of the one of this number
abbrev pub put : ℕ → Connection → (ℕ → Connection) → ℕ → Connection
put link c connections k = if k == link then c else connections k

-- Bytes are read: those of a connection that takes no more are passed over.
pub record FeedsConnection (s : CaptureState) (link now : ℕ) (bytes : List ℕ) (t : CaptureState) : Type 0 where
  pub frames : List Frame
  pub steps : List Step
  pub replies : List Frame
  pub after : Stage
  pub over : Bool
  pub takes : TakesBytes (status_block s.house) now (s.connections link) bytes frames steps replies after over
  pub served : AreServed (world_at s now) steps
  pub next : t ≡ record s {
    connections = put link (fed_with (s.connections link) bytes frames replies after over) s.connections;
    links = if (s.connections link).used then s.links else counted 1 s.links;
    history = s.history ++ entries_of steps;
    replies = s.replies ++ replies;
  }

abbrev pub FeedsUnless : Bool → CaptureState → ℕ → ℕ → List ℕ → CaptureState → Type 0
FeedsUnless true s link now bytes t = t ≡ s
FeedsUnless false s link now bytes t = FeedsConnection s link now bytes t

-- A quiet: Pulse is asked at the link of the session that is open; one that is told Displaced ends the connection's link.
abbrev pub after_quiet : Told → Connection → Connection
after_quiet told.Displaced c = record c { stage = Closing; over = true }
after_quiet (told.Opened link) c = c
after_quiet (told.Reply code block ends) c = c
after_quiet (told.Live drain) c = c
after_quiet told.Done c = c
after_quiet told.Memory c = c

pub record Pulses (s : CaptureState) (link now : ℕ) (open_at : LinkNumber) (t : CaptureState) : Type 0 where
  pub answer : Told
  pub served : AreServed (world_at s now) (step now open_at asks.Pulse answer ∷ [])
  pub next : t ≡ record s {
    connections = put link (after_quiet answer (s.connections link)) s.connections;
    history = s.history ++ entries_of (step now open_at asks.Pulse answer ∷ []);
  }

abbrev pub PulsesIf : Option LinkNumber → CaptureState → ℕ → ℕ → CaptureState → Type 0
PulsesIf None s link now t = t ≡ s
PulsesIf (Some open_at) s link now t = Pulses s link now open_at t

-- A loss: Lost is asked at the link of the session that is open; the connection is ended.
abbrev pub after_loss : Connection → Connection
after_loss c = record c { stage = Closing; lost = true }

pub record Loses (s : CaptureState) (link now : ℕ) (open_at : LinkNumber) (t : CaptureState) : Type 0 where
  pub answer : Told
  pub served : AreServed (world_at s now) (step now open_at asks.Lost answer ∷ [])
  pub next : t ≡ record s {
    connections = put link (after_loss (s.connections link)) s.connections;
    history = s.history ++ entries_of (step now open_at asks.Lost answer ∷ []);
  }

abbrev pub LosesIf : Option LinkNumber → CaptureState → ℕ → ℕ → CaptureState → Type 0
LosesIf None s link now t = t ≡ record s { connections = put link (after_loss (s.connections link)) s.connections }
LosesIf (Some open_at) s link now t = Loses s link now open_at t

-- Bytes were answered: those of the output that were not compared yet begin with them.
pub record ShowsBytes (s : CaptureState) (link : ℕ) (bytes : List ℕ) (t : CaptureState) : Type 0 where
  pub same : difference (s.connections link).named bytes (drop (s.connections link).named (output (s.connections link))) ≡ None
  pub next : t ≡ record s { connections = put link (record (s.connections link) { named = (s.connections link).named + length bytes }) s.connections }

-- what happens on a connection at a moment
abbrev pub Happens : CaptureState → ℕ → ℕ → What → CaptureState → Type 0
Happens s link now (In bytes) t = FeedsUnless (s.connections link).over s link now bytes t
Happens s link now Quiet t = PulsesIf (open_link (s.connections link).stage) s link now t
Happens s link now Lost t = LosesIf (open_link (s.connections link).stage) s link now t
Happens s link now (Out bytes) t = ShowsBytes s link bytes t

-- where a line that is not bad leads, with the part that follows it
abbrev pub Says : CaptureState → Part → Line → CaptureState → Type 0
Says s part Title t = t ≡ record s { part = part }
Says s part (Server name) t = t ≡ record s { part = part; house = record s.house { server = name } }
Says s part (Signature bytes) t = t ≡ record s { part = part; house = record s.house { signature = bytes } }
Says s part (UserLine name password) t = t ≡ record s { part = part; house = record s.house { users = s.house.users ++ user_behind s.house.users name password ∷ [] } }
Says s part (Volume name) t = t ≡ record s { part = part; house = record s.house { volumes = s.house.volumes ++ name ∷ [] } }
Says s part (Key bytes) t = t ≡ record s { part = part; house = record s.house { token_key = bytes } }
Says s part (At link now what) t = Happens (record s { part = part; start = Some (start_at s.start now) }) link now what t
Says s part End t = t ≡ record s { part = part }

-- A good line leads from one standing to the next.
pub record TakesGoodLine (s : CaptureState) (raw : List ℕ) (t : CaptureState) : Type 0 where
  pub line : Line
  pub part : Part
  pub is : line_in raw ≡ Some line
  pub may : part_after s.part line ≡ Some part
  pub taken : is_refused s line ≡ false
  pub says : Says s part line t

-- good lines lead from one standing to another
abbrev pub Leads : CaptureState → List (List ℕ) → CaptureState → Type 0
Leads s [] t = t ≡ s
Leads s (raw ∷ lines) t = (m : CaptureState) × TakesGoodLine s raw m × Leads m lines t
