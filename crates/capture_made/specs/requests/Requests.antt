-- The requests of a made capture (AFP Reference, "AFP Calls"; AFP over TCP; which requests are made is this profile's).
use Rattle.std.specs.Prelude.{ℕ, ℤ, pos, zero, suc, ◌+◌, ◌*◌, ◌%◌, ◌^◌, ◌==◌, false, List, [], ◌∷◌, ◌++◌, slice_index, slice_set, codes, if◌then◌else◌}
use Rattle.afp_base.specs.declared.ids.ForkRef.{ForkRef}
use Rattle.afp_base.specs.declared.ids.NodeId.{NodeId}
use Rattle.afp_base.specs.declared.ids.VolumeId.{VolumeId}
use Rattle.afp_names.specs.Path.{PathValue, utf8_names, path_steps}
use Rattle.afp_calls_grammar.specs.declared.grammar.call.Call.{Call}
use Rattle.afp_calls_grammar.specs.declared.grammar.call.Call.TheVariants as calls
use Rattle.afp_client.specs.session.State.{call_frame}
use Rattle.dsi_frame.specs.Frame.{Frame, canonical_frame}
use Rattle.dsi_frame.specs.declared.frame.DsiCommand.TheVariants as commands
use Rattle.capture_made.specs.requests.Drawing.{Draws, drawn, state_after}
use Rattle.capture_made.specs.declared.requests.request.Request.{Request}

-- the volume, and its root
abbrev pub volume : VolumeId
volume = record { 0 = 1 }

abbrev pub root : NodeId
root = record { 0 = 2 }

-- a path from the root, in UTF-8
abbrev pub path : List ℕ → PathValue
path text = record { kind = utf8_names; steps = path_steps utf8_names text }

-- the names n0 to n7
abbrev pub name : ℕ → List ℕ
name number = 110 ∷ (48 + number % 8) ∷ []

-- the references 1 to 8
abbrev pub reference : ℕ → ForkRef
reference number = record { 0 = 1 + number % 8 }

-- the calls of a step, by what was drawn for them
abbrev pub create_file : ℕ → Call
create_file a = calls.CreateFile 0 volume root (path (name a))

abbrev pub delete : ℕ → Call
delete a = calls.Delete volume root (path (name a))

abbrev pub rename : ℕ → ℕ → Call
rename a b = calls.Rename volume root (path (name a)) (path (name b))

-- the data fork, in one of 16 modes
abbrev pub open_fork : ℕ → ℕ → Call
open_fork a b = calls.OpenFork 0 volume root 0 (a % 4 + 16 * (b % 4)) (path (name a))

abbrev pub close_fork : ℕ → Call
close_fork a = calls.CloseFork (reference a)

-- four bytes from one of the first eight on
abbrev pub lock : ℕ → ℕ → Call
lock a b = calls.ByteRangeLock 0 (reference a) (pos (b % 8)) (pos 4)

-- one of the bytes a to h, behind the end
abbrev pub write : ℕ → ℕ → Call
write a b = calls.Write 0x80 (reference a) (pos 0) 1 ((0x61 + b % 8) ∷ [])

-- the first 16 entries of the root, with ids and long names
abbrev pub enumerate : Call
enumerate = calls.EnumerateExt2 volume root 0x0140 0x0140 16 1 4096 (path [])

-- which of them it is
abbrev pub call_of : ℕ → ℕ → ℕ → Call
call_of o a b =
    if o == 0 then create_file a
    else if o == 1 then delete a
    else if o == 2 then rename a b
    else if o == 3 then open_fork a b
    else if o == 4 then close_fork a
    else if o == 5 then lock a b
    else if o == 6 then write a b
    else enumerate

-- DSIOpenSession, with an attention quantum of 1024
abbrev pub open_session : Frame
open_session = record { reply = false; command = commands.OpenSession; id = 0; word = 0; payload = 1 ∷ 4 ∷ 0 ∷ 0 ∷ 4 ∷ 0 ∷ [] }

abbrev pub login : Call
login = calls.Login (codes "AFP3.3") (codes "No User Authent") []

abbrev pub open_volume : Call
open_volume = calls.OpenVol 0x20 (codes "Share")

-- A request: the connection on which it comes, the moment, and its bytes.
abbrev pub request : ℕ → ℕ → Frame → Request
request link at frame = record { link = link; at = at; frame = canonical_frame frame }

-- the moment at which the connections are opened
abbrev pub first_moment : ℕ
first_moment = 100

-- a connection is opened
abbrev pub opening : ℕ → List Request
opening link =
    request link first_moment open_session
    ∷ request link first_moment (call_frame 1 login)
    ∷ request link first_moment (call_frame 2 open_volume)
    ∷ []

-- Where the steps have come: the state of the generator, the next id of each connection, and how many steps there were.
pub record StepState : Type 0 where
  pub state : ℕ
  pub ids : List ℕ
  pub steps : ℕ

-- before the first step: each connection has used three ids
abbrev pub first_state : ℕ → StepState
first_state number = record { state = number; ids = 3 ∷ 3 ∷ 3 ∷ []; steps = 0 }

-- the place of the connection among the three
abbrev pub place_of : StepState → ℕ
place_of s = (drawn s.state).c % 3

abbrev pub id_of : StepState → ℕ
id_of s = slice_index s.ids (place_of s)

-- the next step's request
abbrev pub request_of : StepState → Request
request_of s = request (1 + place_of s) (first_moment + (s.steps + 1)) (call_frame (id_of s) (call_of ((drawn s.state).o % 8) (drawn s.state).a (drawn s.state).b))

-- behind it
abbrev pub after : StepState → StepState
after s = record { state = state_after s.state; ids = slice_set s.ids (place_of s) ((id_of s + 1) % 2 ^ 16); steps = s.steps + 1 }

-- so many steps
abbrev pub step_requests : StepState → ℕ → List Request
step_requests s zero = []
step_requests s (suc count) = request_of s ∷ step_requests (after s) count

-- the most steps
abbrev pub most_steps : ℕ
most_steps = 100000

-- all requests of a made capture: its three connections are opened, one after the other, and its steps are made
abbrev pub requests : ℕ → ℕ → List Request
requests number steps = opening 1 ++ (opening 2 ++ (opening 3 ++ step_requests (first_state number) steps))
