-- What taking the lines of a capture does, one after the other (this profile).
use Rattle.std.specs.Prelude.{◌≡◌, ◌≢◌, ℕ, ◌≤◌, nat_lt, not, ◌||◌, Bool, true, false, List, [], ◌∷◌, ◌++◌, length, drop, Option, Some, None}
use Rattle.afp_serial.specs.Household.{Household}
use Rattle.afp_serial.specs.HouseFault.{is_name, is_bad_user, is_bad_volume}
use Rattle.afp_serial.specs.Limits.{longest_server, most_users}
use Rattle.capture_log_lines.specs.log.Lines.{last_link}
use Rattle.capture_log_lines.specs.declared.log.line.Line.{Line}
use Rattle.capture_log_lines.specs.declared.log.line.Line.TheVariants.{Title, Server, Signature, User as UserLine, Volume, Key, At, End}
use Rattle.capture_log_lines.specs.declared.log.line.What.{What}
use Rattle.capture_log_lines.specs.declared.log.line.What.TheVariants.{Out}
use Rattle.capture_log_server.specs.Connections.{difference, output, unused}
use Rattle.capture_log.specs.Judged.{Decides}
use Rattle.capture_log.specs.SetUp.{IsSetUp}
use Rattle.afp_serial.specs.Limits.{most_volumes}
use Rattle.capture_log_server.specs.Running.{Happened}
use Rattle.capture_log_server.specs.CaptureState.{is_refused_on, CaptureState, Says, TakesGoodLine, part_after, is_refused, is_bad, user_behind, start_at}
use Rattle.capture_log_server.specs.States.{RunningState, IsRunning}
use Rattle.capture_log_server.specs.declared.difference.Difference.{Difference}
use Rattle.capture_log_server.specs.declared.part.Part.{Part}
use Rattle.capture_log_server.specs.declared.part.Part.TheVariants as parts
use Rattle.capture_log.specs.declared.replay_end.ReplayEnd.{ReplayEnd}
use Rattle.capture_log.specs.declared.replay_end.ReplayEnd.TheVariants.{Same, Differs, BadCapture, ReadFault, Spent, Memory}

-- A capture, as far as its lines were taken: what may come next, the house that they make, whether the keepers wait for their server, the
-- server, once something happened, and how many lines there were.
pub record HeldCapture : Type 0 where
  pub part : Part
  pub house : Household
  pub waiting : Bool
  pub running : Option RunningState
  pub number : ℕ

-- the house that a line makes of another
abbrev pub house_with : Household → Line → Household
house_with h Title = h
house_with h (Server name) = record h { server = name }
house_with h (Signature bytes) = record h { signature = bytes }
house_with h (UserLine name password) = record h { users = h.users ++ user_behind h.users name password ∷ [] }
house_with h (Volume name) = record h { volumes = h.volumes ++ name ∷ [] }
house_with h (Key bytes) = record h { token_key = bytes }
house_with h (At link now what) = h
house_with h End = h

-- a line that a house refuses
abbrev pub refused_by : Household → Line → Bool
refused_by h Title = false
refused_by h (Server name) = not (is_name longest_server name)
refused_by h (Signature bytes) = false
refused_by h (UserLine name password) = not (nat_lt (length h.users) most_users) || is_bad_user h.users (user_behind h.users name password)
refused_by h (Volume name) = not (nat_lt (length h.volumes) most_volumes) || is_bad_volume h.volumes name
refused_by h (Key bytes) = false
refused_by h (At link now what) = false
refused_by h End = false

-- a line of what happened
abbrev pub is_event : Line → Bool
is_event Title = false
is_event (Server name) = false
is_event (Signature bytes) = false
is_event (UserLine name password) = false
is_event (Volume name) = false
is_event (Key bytes) = false
is_event (At link now what) = true
is_event End = false

-- Nothing happened yet: the house is made, and no more, and the keepers wait.
pub record IsIdle (house : Household) (waiting : Bool) (s : CaptureState) : Type 0 where
  pub serves : house ≡ s.house
  pub set_up : IsSetUp s.part house
  pub keepers : waiting ≡ true
  pub start : s.start ≡ None
  pub connections : s.connections ≡ (λ k. unused)
  pub links : s.links ≡ 0
  pub history : s.history ≡ []
  pub replies : s.replies ≡ []

-- whether only what happened, or the end, may still come
abbrev pub is_past_house : Part → Bool
is_past_house parts.Title = false
is_past_house parts.Server = false
is_past_house parts.Signature = false
is_past_house parts.Users = false
is_past_house parts.Volumes = false
is_past_house parts.Events = true
is_past_house parts.Nothing = true

-- Something happened.
pub record IsBegun (r : RunningState) (s : CaptureState) : Type 0 where
  pub first : ℕ
  pub start : s.start ≡ Some first
  pub is : IsRunning r s first
  pub past : is_past_house s.part ≡ true

abbrev pub IsServer : Option RunningState → Household → Bool → CaptureState → Type 0
IsServer None house waiting s = IsIdle house waiting s
IsServer (Some r) house waiting s = IsBegun r s

-- what is held is where the capture stands
pub record IsCapture (c : HeldCapture) (s : CaptureState) : Type 0 where
  pub next : c.part ≡ s.part
  pub server : IsServer c.running c.house c.waiting s

-- the server that is there, or that begins now
abbrev pub RunsFrom : CaptureState → ℕ → RunningState → Type 0
RunsFrom s now r = IsRunning r s (start_at s.start now)

-- a number that a connection may have
abbrev pub IsLink : ℕ → Type 0
IsLink link = (1 ≤ link) × (link ≤ last_link)

-- a line names a connection that there may be
abbrev pub IsLinked : Line → Type 0
IsLinked Title = Unit {0}
IsLinked (Server name) = Unit {0}
IsLinked (Signature bytes) = Unit {0}
IsLinked (UserLine name password) = Unit {0}
IsLinked (Volume name) = Unit {0}
IsLinked (Key bytes) = Unit {0}
IsLinked (At link now what) = IsLink link
IsLinked End = Unit {0}

-- A good line leads to where the capture stands then.
pub record LeadsLine (s : CaptureState) (line : Line) (c : HeldCapture) : Type 0 where
  pub part : Part
  pub after : CaptureState
  pub may : part_after s.part line ≡ Some part
  pub taken : is_refused s line ≡ false
  pub says : Says s part line after
  pub is : IsCapture c after

-- A good line whose bytes differ from the output.
pub record FindsIn (s : CaptureState) (line : Line) (link : ℕ) (d : Difference) : Type 0 where
  pub now : ℕ
  pub bytes : List ℕ
  pub shows : line ≡ At link now (Out bytes)
  pub good : is_bad s (Some line) ≢ true
  pub found : difference (s.connections link).named bytes (drop (s.connections link).named (output (s.connections link))) ≡ Some d

-- what a line of a good form decides
abbrev pub DecidesLine : CaptureState → ℕ → Line → ReplayEnd → Type 0
DecidesLine s number line (BadCapture n) = (is_bad s (Some line) ≡ true) × (n ≡ number)
DecidesLine s number line (Differs link at want got) = FindsIn s line link (record { at = at; want = want; got = got })
DecidesLine s number line (Same links entries replies refused) = ⊥
DecidesLine s number line ReadFault = ⊥
DecidesLine s number line Spent = ⊥
DecidesLine s number line Memory = ⊥

abbrev pub TakesLine : CaptureState → ℕ → Line → Option ReplayEnd → HeldCapture → Type 0
TakesLine s number line None c = LeadsLine s line c
TakesLine s number line (Some verdict) c = DecidesLine s number line verdict

-- from here on the capture stands at its events, and has begun
abbrev pub begun : CaptureState → ℕ → CaptureState
begun s now = record s { part = parts.Events; start = Some (start_at s.start now) }

-- Something happened on the server, and it decides nothing; or it decides.
abbrev pub Acts : CaptureState → ℕ → ℕ → ℕ → What → Option ReplayEnd → RunningState → Type 0
Acts s number link now what None r = (is_refused_on (s.connections link) what ≡ false) × Happened (begun s now) link now what (start_at s.start now) r
Acts s number link now what (Some verdict) r = DecidesLine s number (At link now what) verdict

-- A line leads to where the capture stands then, and is counted; or it decides.
abbrev pub TakesRawLine : CaptureState → ℕ → List ℕ → Option ReplayEnd → HeldCapture → Type 0
TakesRawLine s number raw None c = (t : CaptureState) × TakesGoodLine s raw t × IsCapture c t × (c.number ≡ number)
TakesRawLine s number raw (Some verdict) c = Decides s number raw verdict
