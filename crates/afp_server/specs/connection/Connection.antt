-- A link that is served bit by bit, as it is seen between its turns, and its whole run (this profile).
use Rattle.std.specs.Prelude.{◌≡◌, ◌⊎◌, ℕ, ◌<◌, List, [], ◌++◌, length, Option, None}
use Rattle.afp_outside.specs.ends.Gate.{Passed}
use Rattle.afp_outside.specs.ends.Link.{LinkState}
use Rattle.afp_serial.specs.Shown.{Shown}
use Rattle.afp_serial.specs.Went.{Step, Went}
use Rattle.dsi_frame.specs.Buffered.{Buffered}
use Rattle.dsi_frame.specs.Replies.{spelling_of}
use Rattle.afp_server.specs.link.LinkRun.{EachMayRead, Fills, IsServed, Moves, Parts, bytes_read}
use Rattle.afp_server.specs.link.Passing.{Passes}
use Rattle.afp_server.specs.link.Requests.{Requests}
use Rattle.afp_server.specs.link.Trace.{Follows, Happening, Standing as Stood, begun, events_in, frames_in, sent_in, steps_in}
use Rattle.afp_server.specs.link.Progress.{Start, point}
use Rattle.afp_server.specs.connection.Standing.{IsOf, StandsBy}
use Rattle.afp_server.specs.declared.connection.connection.Rest.{Rest}
use Rattle.afp_server.specs.declared.connection.connection.Rest.TheVariants as rests
use Rattle.afp_server.specs.declared.connection.standing.Standing.{Standing}
use Rattle.afp_server.specs.declared.connection.standing.Standing.TheVariants as stands
use Rattle.afp_server.specs.declared.link.serve.LinkEnd.{LinkEnd}
use Rattle.afp_server.specs.declared.link.serve.LinkEnd.TheVariants as links
use Rattle.afp_server.specs.declared.link.stage.Stage.{Stage}

-- the link, the log of its gate, how far it has come, what decides its requests, what is kept of its bytes, where it stands, and
-- the bytes taken and the quiets
pub record ConnectionState (L A : Type 0) : Type 0 where
  pub link : L
  pub log : A
  pub stage : Stage
  pub requests : Requests
  pub held : Buffered
  pub standing : Standing
  pub cost : ℕ

-- Where a link stands, on a server with this status block and limit, by what is shown to it. `state` is what the link is seen as, and
-- `passed` what its log tells.
abbrev pub Stands : {L A : Type 0} → (L → LinkState) → (A → Passed) → List ℕ → ℕ → ConnectionState L A → Start → Shown → Type 0
Stands state passed block turns c start shown = IsOf block turns start × StandsBy start c.cost c.standing (point c.held c.stage c.requests (state c.link) shown (passed c.log))

abbrev pub rest_of : Standing → Rest
rest_of stands.Waits = rests.Waits
rest_of stands.More = rests.More
rest_of (stands.Sends unsent then called) = rests.Stuck
rest_of (stands.Over end) = rests.Over end

-- A link was served in turns up to where all that was handled is replied to, some bytes are left, and there was no memory for them
-- between two turns.
pub record IsServedUnheld (block : List ℕ) (turns : ℕ) (old : LinkState) (answer : LinkEnd) (new : LinkState) (steps : List Step) : Type 0 where
  pub memory : answer ≡ links.Memory
  pub trace : List Happening
  pub last : Stood
  pub follows : Follows block (begun old) trace last None
  pub now : last.now ≡ new.now
  pub last_read : last.last_read ≡ new.last_read
  pub moves : Moves old (events_in trace) (spelling_of (sent_in trace)) 0 new
  pub ended : new.ended ≡ old.ended
  pub reads : EachMayRead turns old.written [] trace
  pub left : List ℕ
  pub fills : Fills (bytes_read trace) (frames_in trace) left
  pub some : 0 < length left
  pub parting : List Step
  pub parts : Parts last.stage new.now parting
  pub all : steps ≡ steps_in trace ++ parting

-- A whole run of a link in turns: it was served as one that is served alone, word for word, or there was no memory between two turns.
pub record WasServed {A : Type 0} (passed : A → Passed) (start : Start) (answer : LinkEnd) (link : LinkState) (log : A) (shown : Shown) : Type 0 where
  pub steps : List Step
  pub went : Went start.shown steps shown
  pub served : IsServed start.block start.turns start.link answer link steps ⊎ IsServedUnheld start.block start.turns start.link answer link steps
  pub passes : Passes passed answer steps

abbrev pub IsParted : {A : Type 0} → (A → Passed) → Start → Standing → LinkState → A → Shown → Type 0
IsParted passed start (stands.Over end) link log shown = WasServed passed start end link log shown
IsParted passed start stands.Waits link log shown = ⊥
IsParted passed start stands.More link log shown = ⊥
IsParted passed start (stands.Sends unsent then called) link log shown = ⊥
