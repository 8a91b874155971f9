-- One client, its links, and the server, event by event.
use Rattle.std.specs.Prelude.{ℕ, suc, ◌+◌, ◌%◌, nat_lt, nat_eq, Bool, true, false, ◌&&◌, ◌||◌, if◌then◌else◌, List, [], ◌∷◌, ◌++◌, Option, Some, None}
use Rattle.once_across_breaks.specs.once.Messages.{Call, Body, Login, Token, Rejoin, Does, Answer, Fine, MiscErr, NoMemory, Refuses, is_miss, is_fine, Done}
use Rattle.once_across_breaks.specs.once.Messages.{token_in}
use Rattle.once_across_breaks.specs.once.Server.{Ask, Open, Calls, Pulse, Bye, Lost, Told, Opened, Reply, Live, Parted, Displaced, Ran, Fault, Entry, entry, set, Machine}

-- A request that is written on a link: OpenSession, or a request in phase Open with its id; again: a command that was
-- written before a link broke.
pub data Request : Type 0 where
  Opens : Request
  Asks : (id : ℕ) (body : Body) (again : Bool) → Request

-- What is under way on a link. At most one frame is, in both directions together.
pub data Slot : Type 0 where
  Idle : Slot
  Coming : (r : Request) → Slot
  Going : (r : Request) (a : Answer) → Slot

-- A link: the number that its server end drew, or none in phase Fresh; whether the server end has ended; what is under way;
-- and whether the session whose token the client holds has come to it.
pub record Link : Type 0 where
  pub number : Option ℕ
  pub ended : Bool
  pub slot : Slot
  pub got : Bool

abbrev pub blank : Link
blank = record { number = None; ended = false; slot = Idle; got = false }

-- where the client is: it waits for the reply to OpenSession, to Login, to the last request of the opening, is ready, or lost
pub data Stage : Type 0 where
  Opening : Stage
  Entering : Stage
  Joining : Stage
  Ready : Stage
  Gone : Stage

-- the command without a result: its id, the count of ids drawn before it, its call, how often it was sent again for want of memory
pub record Wait : Type 0 where
  pub id : ℕ
  pub seq : ℕ
  pub call : Call
  pub tries : ℕ

-- The client. Its commands' ids go on from the first one; drawn counts them. row counts the requests in a row, up to now, that
-- were answered MiscErr or -108.
pub record Client : Type 0 where
  pub stage : Stage
  pub tries : ℕ
  pub opening_id : ℕ
  pub token : Option (List ℕ)
  pub first : ℕ
  pub drawn : ℕ
  pub wait : Option Wait
  pub results : List Done
  pub row : ℕ

abbrev pub id_of : ℕ → ℕ → ℕ
id_of first seq = (first + seq) % 65536

-- The links are numbered from 0; the newest has the number top.
pub record Run (W : Type 0) : Type 0 where
  pub client : Client
  pub top : ℕ
  pub links : ℕ → Link
  pub world : W
  pub history : List Entry

-- what may be otherwise at each ask of an event: want of memory, and a fault where it is legal
pub record Wish : Type 0 where
  pub no_sweep : Bool
  pub memory : Bool
  pub fault : Bool

pub data Event : Type 0 where
  Commands : (call : Call) → Event
  ToServer : (link moment : ℕ) (wish : Wish) → Event
  ToClient : Event
  Quiet : (link moment : ℕ) (wish : Wish) → Event
  Loses : (link moment : ℕ) (wish : Wish) → Event
  Drains : (link moment : ℕ) (wish : Wish) → Event
  Ends : (link : ℕ) → Event
  Breaks : Event
  Others : (e : Entry) → Event

-- ---- the client

abbrev pub with_link : {W : Type 0} → Run W → ℕ → Link → Run W
with_link run i link = record { client = run.client; top = run.top; links = set run.links i link; world = run.world; history = run.history }

abbrev pub with_slot : Link → Slot → Link
with_slot link slot = record { number = link.number; ended = link.ended; slot = slot; got = link.got }

-- the client writes on its newest link, or has taken what was there
abbrev pub with_client : {W : Type 0} → Run W → Client → Slot → Run W
with_client run c slot = record { client = c; top = run.top; links = set run.links run.top (with_slot (run.links run.top) slot); world = run.world; history = run.history }

-- a command draws the next id
abbrev pub draws : Client → Call → ℕ → ℕ → List Done → Client
draws c call tries row results =
    record {
      stage = c.stage;
      tries = c.tries;
      opening_id = c.opening_id;
      token = c.token;
      first = c.first;
      drawn = suc c.drawn;
      wait = Some (record { id = id_of c.first c.drawn; seq = c.drawn; call = call; tries = tries });
      results = results;
      row = row;
    }

abbrev pub commands : {W : Type 0} → Run W → Stage → Option Wait → Call → Run W
commands run Ready None call = with_client run (draws run.client call 0 run.client.row run.client.results) (Coming (Asks (id_of run.client.first run.client.drawn) (Does call) false))
commands run Ready (Some w) call = run
commands run Opening w call = run
commands run Entering w call = run
commands run Joining w call = run
commands run Gone w call = run

-- the next request of the opening
abbrev pub opens_with : Client → Stage → ℕ → Client
opens_with c stage tries = record { stage = stage; tries = tries; opening_id = suc c.opening_id; token = c.token; first = c.first; drawn = c.drawn; wait = c.wait; results = c.results; row = c.row }

abbrev pub in_stage : Client → Stage → Client
in_stage c stage = record { stage = stage; tries = 0; opening_id = c.opening_id; token = c.token; first = c.first; drawn = c.drawn; wait = c.wait; results = c.results; row = c.row }

-- it holds the token of its first opening; its commands' ids go on from there
abbrev pub holding : Client → List ℕ → Client
holding c token = record { stage = Ready; tries = 0; opening_id = c.opening_id; token = Some token; first = suc c.opening_id; drawn = c.drawn; wait = c.wait; results = c.results; row = c.row }

abbrev pub last_body : Option (List ℕ) → Body
last_body None = Token
last_body (Some token) = Rejoin token

-- the waiting request again, with its id and bytes
abbrev pub again : Option Wait → Slot
again None = Idle
again (Some w) = Coming (Asks w.id (Does w.call) true)

abbrev pub same_request : Client → Stage → Request
same_request c Opening = Opens
same_request c Entering = Asks (suc c.opening_id) Login false
same_request c Joining = Asks (suc c.opening_id) (last_body c.token) false
same_request c Ready = Opens
same_request c Gone = Opens

-- It is told a token; a block that shows none is no reply that it takes.
abbrev pub token_told : {W : Type 0} → Run W → Option (List ℕ) → Run W
token_told run None = run
token_told run (Some token) =
    record {
      client = holding run.client token;
      top = run.top;
      world = run.world;
      history = run.history;
      links = set run.links run.top (record { number = (run.links run.top).number; ended = (run.links run.top).ended; slot = again run.client.wait; got = true });
    }

-- an Ok reply of the opening
abbrev pub steps_on : {W : Type 0} → Run W → Stage → Option (List ℕ) → List ℕ → Run W
steps_on run Opening token block = with_client run (opens_with run.client Entering 0) (Coming (Asks (suc run.client.opening_id) Login false))
steps_on run Entering token block = with_client run (opens_with run.client Joining 0) (Coming (Asks (suc run.client.opening_id) (last_body token) false))
steps_on run Joining None block = token_told run (token_in block)
steps_on run Joining (Some token) block = with_client run (in_stage run.client Ready) (again run.client.wait)
steps_on run Ready token block = run
steps_on run Gone token block = run

-- a reply of the opening
abbrev pub takes_step : {W : Type 0} → Run W → Answer → Run W
takes_step run (Fine block) = steps_on run run.client.stage run.client.token block
takes_step run NoMemory =
    if nat_lt run.client.tries 3
    then with_client run (opens_with run.client run.client.stage (suc run.client.tries)) (Coming (same_request run.client run.client.stage))
    else with_client run (in_stage run.client Gone) Idle
takes_step run MiscErr = with_client run (in_stage run.client Gone) Idle
takes_step run (Refuses code block) = with_client run (in_stage run.client Gone) Idle

-- a result
abbrev pub with_result : Client → Wait → Answer → Client
with_result c w a =
    record {
      stage = c.stage;
      tries = c.tries;
      opening_id = c.opening_id;
      token = c.token;
      first = c.first;
      drawn = c.drawn;
      wait = None;
      results = c.results ++ record { id = w.id; call = w.call; answer = a } ∷ [];
      row = if is_miss a then suc c.row else 0;
    }

abbrev pub sent_again : Client → Wait → Client
sent_again c w = draws c w.call (suc w.tries) (suc c.row) c.results

abbrev pub takes_reply : {W : Type 0} → Run W → Wait → Answer → Run W
takes_reply run w NoMemory =
    if nat_lt w.tries 3
    then with_client run (sent_again run.client w) (Coming (Asks (id_of run.client.first run.client.drawn) (Does w.call) false))
    else with_client run (with_result run.client w NoMemory) Idle
takes_reply run w (Fine block) = with_client run (with_result run.client w (Fine block)) Idle
takes_reply run w MiscErr = with_client run (with_result run.client w MiscErr) Idle
takes_reply run w (Refuses code block) = with_client run (with_result run.client w (Refuses code block)) Idle

-- a reply with another id is none that the client takes
abbrev pub takes_for : {W : Type 0} → Run W → Option Wait → Request → Answer → Run W
takes_for run None r a = run
takes_for run (Some w) Opens a = run
takes_for run (Some w) (Asks id body again) a = if nat_eq id w.id then takes_reply run w a else run

abbrev pub takes : {W : Type 0} → Run W → Stage → Request → Answer → Run W
takes run Opening r a = takes_step run a
takes run Entering r a = takes_step run a
takes run Joining r a = takes_step run a
takes run Ready r a = takes_for run run.client.wait r a
takes run Gone r a = run

abbrev pub to_client : {W : Type 0} → Run W → Slot → Run W
to_client run Idle = run
to_client run (Coming r) = run
to_client run (Going r a) = takes run run.client.stage r a

-- the link breaks, and the client begins the next one; a lost client stays lost
abbrev pub stage_anew : Stage → Stage
stage_anew Opening = Opening
stage_anew Entering = Opening
stage_anew Joining = Opening
stage_anew Ready = Opening
stage_anew Gone = Gone

abbrev pub begins : Client → Client
begins c = record { stage = stage_anew c.stage; tries = 0; opening_id = 0; token = c.token; first = c.first; drawn = c.drawn; wait = c.wait; results = c.results; row = c.row }

abbrev pub breaks : {W : Type 0} → Run W → Run W
breaks run = record { client = begins run.client; top = suc run.top; links = set run.links (suc run.top) (with_slot blank (Coming Opens)); world = run.world; history = run.history }

-- ---- the server's ends

-- the entry is asked
abbrev pub tells : {W : Type 0} → Machine W → Run W → Entry → Run W
tells s run e = record { client = run.client; top = run.top; links = run.links; world = s.after run.world e; history = run.history ++ e ∷ [] }

abbrev pub ends_link : {W : Type 0} → Run W → ℕ → Run W
ends_link run i = with_link run i (record { number = (run.links i).number; ended = true; slot = (run.links i).slot; got = (run.links i).got })

-- it ends, and what it had taken is dropped
abbrev pub drops : {W : Type 0} → Run W → ℕ → Run W
drops run i = with_link run i (record { number = (run.links i).number; ended = true; slot = Idle; got = (run.links i).got })

-- the session has come to the link where DisconnectOldSession is told Ok
abbrev pub comes : Body → Answer → Bool
comes Login a = false
comes Token a = false
comes (Rejoin token) a = is_fine a
comes (Does call) a = false

abbrev pub replies : {W : Type 0} → Run W → ℕ → ℕ → Body → Bool → Told → Run W
replies run i id body again (Reply a ends) = with_link run i (record { number = (run.links i).number; ended = ends; slot = Going (Asks id body again) a; got = (run.links i).got || comes body a })
replies run i id body again (Opened link) = drops run i
replies run i id body again Live = drops run i
replies run i id body again Parted = drops run i
replies run i id body again Displaced = drops run i

-- a fault where it is wished and legal
abbrev pub chosen : {W : Type 0} → Machine W → Run W → ℕ → ℕ → Ask → Bool → Entry
chosen s run link moment ask fault = if fault && s.is_legal run.world (entry link moment ask Fault) then entry link moment ask Fault else entry link moment ask Ran

abbrev pub calls_by : {W : Type 0} → Machine W → Run W → ℕ → ℕ → Body → Bool → Entry → Run W
calls_by s run i id body again e = replies (tells s run e) i id body again (s.told run.world e)

abbrev pub calls : {W : Type 0} → Machine W → Run W → ℕ → ℕ → ℕ → Wish → ℕ → Body → Bool → Run W
calls s run i link moment wish id body again =
    if wish.memory
    then with_link run i (with_slot (run.links i) (Going (Asks id body again) NoMemory))
    else calls_by s run i id body again (chosen s run link moment (Calls id body) wish.fault)

abbrev pub sweeps : {W : Type 0} → Machine W → Run W → ℕ → ℕ → Bool → Run W
sweeps s run link moment no_sweep = if no_sweep then run else tells s run (entry link moment Pulse Ran)

abbrev pub opens_by : {W : Type 0} → Run W → ℕ → Told → Run W
opens_by run i (Opened link) = with_link run i (record { number = Some link; ended = (run.links i).ended; slot = Going Opens (Fine []); got = (run.links i).got })
opens_by run i (Reply a ends) = with_link run i (with_slot (run.links i) (Going Opens a))
opens_by run i Live = drops run i
opens_by run i Parted = drops run i
opens_by run i Displaced = drops run i

abbrev pub opens_told : {W : Type 0} → Machine W → Run W → ℕ → Entry → Run W
opens_told s run i e = opens_by (tells s run e) i (s.told run.world e)

abbrev pub opens : {W : Type 0} → Machine W → Run W → ℕ → ℕ → Bool → Run W
opens s run i moment memory =
    if memory
    then with_link run i (with_slot (run.links i) (Going Opens NoMemory))
    else opens_told s run i (entry 0 moment Open Ran)

-- a request reaches the server end: in phase Fresh only OpenSession may, in phase Open any other
abbrev pub arrives : {W : Type 0} → Machine W → Run W → ℕ → ℕ → Wish → Option ℕ → Slot → Run W
arrives s run i moment wish number Idle = run
arrives s run i moment wish number (Going r a) = run
arrives s run i moment wish None (Coming Opens) = opens s (sweeps s run 0 moment wish.no_sweep) i moment wish.memory
arrives s run i moment wish (Some link) (Coming Opens) = drops run i
arrives s run i moment wish None (Coming (Asks id body again)) = drops run i
arrives s run i moment wish (Some link) (Coming (Asks id body again)) = calls s run i link moment wish id body again

abbrev pub to_server : {W : Type 0} → Machine W → Run W → ℕ → ℕ → Wish → Bool → Run W
to_server s run i moment wish true = run
to_server s run i moment wish false = arrives s run i moment wish (run.links i).number (run.links i).slot

-- a quiet asks Pulse; where it is told Displaced the link ends
abbrev pub quiet_by : {W : Type 0} → Run W → ℕ → Told → Run W
quiet_by run i Displaced = ends_link run i
quiet_by run i (Opened link) = run
quiet_by run i (Reply a ends) = run
quiet_by run i Live = run
quiet_by run i Parted = run

abbrev pub quiet_told : {W : Type 0} → Machine W → Run W → ℕ → Entry → Run W
quiet_told s run i e = quiet_by (tells s run e) i (s.told run.world e)

abbrev pub quiet : {W : Type 0} → Machine W → Run W → ℕ → ℕ → Wish → Bool → Option ℕ → Run W
quiet s run i moment wish true number = run
quiet s run i moment wish false None = run
quiet s run i moment wish false (Some link) = if wish.memory then run else quiet_told s run i (entry link moment Pulse Ran)

-- the server end is lost, or has drained: it asks Lost or Bye in phase Open, and ends
abbrev pub parts : {W : Type 0} → Machine W → Run W → ℕ → ℕ → Wish → Ask → Bool → Option ℕ → Run W
parts s run i moment wish ask true number = run
parts s run i moment wish ask false None = ends_link run i
parts s run i moment wish ask false (Some link) = ends_link (if wish.memory then run else tells s run (entry link moment ask Ran)) i

-- ---- a schedule

abbrev pub step : {W : Type 0} → Machine W → Run W → Event → Run W
step s run (Commands call) = commands run run.client.stage run.client.wait call
step s run (ToServer i moment wish) = to_server s run i moment wish (run.links i).ended
step s run ToClient = to_client run (run.links run.top).slot
step s run (Quiet i moment wish) = quiet s run i moment wish (run.links i).ended (run.links i).number
step s run (Loses i moment wish) = parts s run i moment wish Lost (run.links i).ended (run.links i).number
step s run (Drains i moment wish) = parts s run i moment wish Bye (run.links i).ended (run.links i).number
step s run (Ends i) = ends_link run i
step s run Breaks = breaks run
step s run (Others e) = tells s run e

abbrev pub run_of : {W : Type 0} → Machine W → Run W → List Event → Run W
run_of s run [] = run
run_of s run (e ∷ es) = run_of s (step s run e) es

-- the client begins its first link
abbrev pub fresh_client : Client
fresh_client = record { stage = Opening; tries = 0; opening_id = 0; token = None; first = 0; drawn = 0; wait = None; results = []; row = 0 }

abbrev pub start : {W : Type 0} → W → Run W
start w = record { client = fresh_client; top = 0; links = set (λ j. blank) 0 (with_slot blank (Coming Opens)); world = w; history = [] }
