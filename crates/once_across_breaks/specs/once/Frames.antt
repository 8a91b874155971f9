-- The same schedule over links that carry any number of frames each way, in order.
use Rattle.std.specs.Prelude.{◌≡◌, ◌≢◌, ◌≤◌, ◌<◌, ◌+◌, length, ℕ, suc, nat_lt, nat_eq, Bool, true, false, ◌&&◌, ◌||◌, if◌then◌else◌, List, [], ◌∷◌, ◌++◌, Option, Some, None}
use Rattle.once_across_breaks.specs.once.Messages.{Call, Body, Login, Does, Answer, Fine, MiscErr, NoMemory, Refuses}
use Rattle.once_across_breaks.specs.once.Messages.{token_in}
use Rattle.once_across_breaks.specs.once.Server.{numbers_end, Ask, Open, Calls, Pulse, Bye, Lost, Told, Opened, Reply, Live, Parted, Displaced, Ran, Fault, Entry, entry, set, Machine}
use Rattle.once_across_breaks.specs.once.Run.{Request, Opens, Asks, Stage, Opening, Entering, Joining, Ready, Gone, Wait, Client, Wish, Event, Commands, ToServer, ToClient, Quiet, Loses, Drains, Ends, Breaks, Others, comes, draws, fresh_client, begins, holding, id_of, in_stage, last_body, opens_with, same_request, sent_again, with_result}
use Rattle.once_across_breaks.specs.once.Messages.{Done, kept}
use Rattle.once_across_breaks.specs.once.Once.{IsOutstanding, carries, effective}

-- ---- what is read of messages

-- what a server end reads of a request: all but the mark
pub data Heard : Type 0 where
  HeardOpen : Heard
  HeardCall : (id : ℕ) (body : Body) → Heard

abbrev pub heard : Request → Heard
heard Opens = HeardOpen
heard (Asks id body again) = HeardCall id body

-- what the client reads of the request that a reply answers: that it was OpenSession, or another one's id
pub data Tag : Type 0 where
  OfOpening : Tag
  OfCall : (id : ℕ) → Tag

abbrev pub tag_of : Heard → Tag
tag_of HeardOpen = OfOpening
tag_of (HeardCall id body) = OfCall id

-- ---- a server end: what one request does there

pub record End : Type 0 where
  pub number : Option ℕ
  pub ended : Bool
  pub got : Bool

-- the world behind it, its entries, the end, and what it replies
pub record Handled (W : Type 0) : Type 0 where
  pub world : W
  pub entries : List Entry
  pub end : End
  pub reply : Option Answer

abbrev pub ended_end : End → End
ended_end e = record { number = e.number; ended = true; got = e.got }

abbrev pub dropped : {W : Type 0} → W → List Entry → End → Handled W
dropped w entries e = record { world = w; entries = entries; end = ended_end e; reply = None }

abbrev pub replied : {W : Type 0} → W → List Entry → End → Answer → Handled W
replied w entries e a = record { world = w; entries = entries; end = e; reply = Some a }

abbrev pub call_told : {W : Type 0} → W → List Entry → End → Body → Told → Handled W
call_told w entries e body (Reply a ends) = replied w entries (record { number = e.number; ended = ends; got = e.got || comes body a }) a
call_told w entries e body (Opened link) = dropped w entries e
call_told w entries e body Live = dropped w entries e
call_told w entries e body Parted = dropped w entries e
call_told w entries e body Displaced = dropped w entries e

abbrev pub call_entry : {W : Type 0} → Machine W → W → ℕ → ℕ → Ask → Bool → Entry
call_entry s w link moment ask fault = if fault && s.is_legal w (entry link moment ask Fault) then entry link moment ask Fault else entry link moment ask Ran

abbrev pub call_by : {W : Type 0} → Machine W → W → End → Body → Entry → Handled W
call_by s w e body x = call_told (s.after w x) (x ∷ []) e body (s.told w x)

abbrev pub handles_call : {W : Type 0} → Machine W → W → ℕ → Wish → End → ℕ → ℕ → Body → Handled W
handles_call s w moment wish e link id body = if wish.memory then replied w [] e NoMemory else call_by s w e body (call_entry s w link moment (Calls id body) wish.fault)

abbrev pub open_told : {W : Type 0} → W → List Entry → End → Told → Handled W
open_told w entries e (Opened link) = replied w entries (record { number = Some link; ended = e.ended; got = e.got }) (Fine [])
open_told w entries e (Reply a ends) = replied w entries e a
open_told w entries e Live = dropped w entries e
open_told w entries e Parted = dropped w entries e
open_told w entries e Displaced = dropped w entries e

-- behind the sweep, whose entry is there or not
abbrev pub handles_open : {W : Type 0} → Machine W → W → List Entry → ℕ → Wish → End → Handled W
handles_open s w swept moment wish e = if wish.memory then replied w swept e NoMemory else open_told (s.after w (entry 0 moment Open Ran)) (swept ++ entry 0 moment Open Ran ∷ []) e (s.told w (entry 0 moment Open Ran))

abbrev pub handles : {W : Type 0} → Machine W → W → ℕ → Wish → End → Option ℕ → Heard → Handled W
handles s w moment wish e None HeardOpen =
    if wish.no_sweep then handles_open s w [] moment wish e else handles_open s (s.after w (entry 0 moment Pulse Ran)) (entry 0 moment Pulse Ran ∷ []) moment wish e
handles s w moment wish e (Some link) HeardOpen = dropped w [] e
handles s w moment wish e None (HeardCall id body) = dropped w [] e
handles s w moment wish e (Some link) (HeardCall id body) = handles_call s w moment wish e link id body

-- ---- the client: what it takes of a reply, and writes

pub record Taken : Type 0 where
  pub client : Client
  pub writes : List Request
  pub got : Bool

abbrev pub wrote : Client → List Request → Option Taken
wrote c rs = Some (record { client = c; writes = rs; got = false })

abbrev pub again_writes : Option Wait → List Request
again_writes None = []
again_writes (Some w) = Asks w.id (Does w.call) true ∷ []

-- it is told a token
abbrev pub token_taken : Client → Option (List ℕ) → Option Taken
token_taken c None = None
token_taken c (Some token) = Some (record { client = holding c token; writes = again_writes c.wait; got = true })

abbrev pub step_taken : Client → Stage → Option (List ℕ) → List ℕ → Option Taken
step_taken c Opening token block = wrote (opens_with c Entering 0) (Asks (suc c.opening_id) Login false ∷ [])
step_taken c Entering token block = wrote (opens_with c Joining 0) (Asks (suc c.opening_id) (last_body token) false ∷ [])
step_taken c Joining None block = token_taken c (token_in block)
step_taken c Joining (Some token) block = wrote (in_stage c Ready) (again_writes c.wait)
step_taken c Ready token block = None
step_taken c Gone token block = None

abbrev pub opening_taken : Client → Answer → Option Taken
opening_taken c (Fine block) = step_taken c c.stage c.token block
opening_taken c NoMemory = if nat_lt c.tries 3 then wrote (opens_with c c.stage (suc c.tries)) (same_request c c.stage ∷ []) else wrote (in_stage c Gone) []
opening_taken c MiscErr = wrote (in_stage c Gone) []
opening_taken c (Refuses code block) = wrote (in_stage c Gone) []

abbrev pub reply_taken : Client → Wait → Answer → Option Taken
reply_taken c w NoMemory = if nat_lt w.tries 3 then wrote (sent_again c w) (Asks (id_of c.first c.drawn) (Does w.call) false ∷ []) else wrote (with_result c w NoMemory) []
reply_taken c w (Fine block) = wrote (with_result c w (Fine block)) []
reply_taken c w MiscErr = wrote (with_result c w MiscErr) []
reply_taken c w (Refuses code block) = wrote (with_result c w (Refuses code block)) []

abbrev pub waiting_taken : Client → Option Wait → Tag → Answer → Option Taken
waiting_taken c None tag a = None
waiting_taken c (Some w) OfOpening a = None
waiting_taken c (Some w) (OfCall id) a = if nat_eq id w.id then reply_taken c w a else None

abbrev pub client_takes : Client → Stage → Tag → Answer → Option Taken
client_takes c Opening tag a = opening_taken c a
client_takes c Entering tag a = opening_taken c a
client_takes c Joining tag a = opening_taken c a
client_takes c Ready tag a = waiting_taken c c.wait tag a
client_takes c Gone tag a = None

-- ---- links with lists of frames

-- what the client wrote and the server end has not handled; what the server end wrote and the client has not taken; the oldest stands first
pub record Carrier : Type 0 where
  pub end : End
  pub up : List Request
  pub down : List (Request × Answer)

pub record Net (W : Type 0) : Type 0 where
  pub client : Client
  pub top : ℕ
  pub links : ℕ → Carrier
  pub world : W
  pub history : List Entry

abbrev pub fresh_end : End
fresh_end = record { number = None; ended = false; got = false }

abbrev pub net_link : {W : Type 0} → Net W → ℕ → Carrier → Net W
net_link net i c = record { client = net.client; top = net.top; links = set net.links i c; world = net.world; history = net.history }

abbrev pub net_tells : {W : Type 0} → Machine W → Net W → Entry → Net W
net_tells s net e = record { client = net.client; top = net.top; links = net.links; world = s.after net.world e; history = net.history ++ e ∷ [] }

abbrev pub net_ends : {W : Type 0} → Net W → ℕ → Net W
net_ends net i = net_link net i (record { end = ended_end (net.links i).end; up = (net.links i).up; down = (net.links i).down })

-- it asks its next command
abbrev pub net_commands : {W : Type 0} → Net W → Stage → Option Wait → Call → Net W
net_commands net Ready None call =
    record {
      client = draws net.client call 0 net.client.row net.client.results;
      top = net.top;
      world = net.world;
      history = net.history;
      links = set net.links net.top (record { end = (net.links net.top).end; up = (net.links net.top).up ++ Asks (id_of net.client.first net.client.drawn) (Does call) false ∷ []; down = (net.links net.top).down });
    }
net_commands net Ready (Some w) call = net
net_commands net Opening w call = net
net_commands net Entering w call = net
net_commands net Joining w call = net
net_commands net Gone w call = net

-- a request reaches its end
abbrev pub replies_of : Request → Option Answer → List (Request × Answer)
replies_of r None = []
replies_of r (Some a) = (r, a) ∷ []

abbrev pub net_handled : {W : Type 0} → Net W → ℕ → Request → List Request → Handled W → Net W
net_handled net i r rest h =
    record {
      client = net.client;
      top = net.top;
      world = h.world;
      history = net.history ++ h.entries;
      links = set net.links i (record { end = h.end; up = rest; down = (net.links i).down ++ replies_of r h.reply });
    }

abbrev pub net_arrives : {W : Type 0} → Machine W → Net W → ℕ → ℕ → Wish → List Request → Net W
net_arrives s net i moment wish [] = net
net_arrives s net i moment wish (r ∷ rest) = net_handled net i r rest (handles s net.world moment wish (net.links i).end (net.links i).end.number (heard r))

abbrev pub net_to_server : {W : Type 0} → Machine W → Net W → ℕ → ℕ → Wish → Bool → Net W
net_to_server s net i moment wish true = net
net_to_server s net i moment wish false = net_arrives s net i moment wish (net.links i).up

-- a reply reaches the client
abbrev pub net_taken : {W : Type 0} → Net W → List (Request × Answer) → Option Taken → Net W
net_taken net rest None = net
net_taken net rest (Some t) =
    record {
      client = t.client;
      top = net.top;
      world = net.world;
      history = net.history;
      links = set net.links net.top (record {
        end = record { number = (net.links net.top).end.number; ended = (net.links net.top).end.ended; got = (net.links net.top).end.got || t.got };
        up = (net.links net.top).up ++ t.writes;
        down = rest;
      });
    }

abbrev pub net_to_client : {W : Type 0} → Net W → List (Request × Answer) → Net W
net_to_client net [] = net
net_to_client net (x ∷ rest) = net_taken net rest (client_takes net.client net.client.stage (tag_of (heard x.0)) x.1)

abbrev pub net_breaks : {W : Type 0} → Net W → Net W
net_breaks net = record { client = begins net.client; top = suc net.top; world = net.world; history = net.history; links = set net.links (suc net.top) (record { end = fresh_end; up = Opens ∷ []; down = [] }) }

abbrev pub net_quiet_by : {W : Type 0} → Net W → ℕ → Told → Net W
net_quiet_by net i Displaced = net_ends net i
net_quiet_by net i (Opened link) = net
net_quiet_by net i (Reply a ends) = net
net_quiet_by net i Live = net
net_quiet_by net i Parted = net

abbrev pub net_quiet : {W : Type 0} → Machine W → Net W → ℕ → ℕ → Wish → Bool → Option ℕ → Net W
net_quiet s net i moment wish true number = net
net_quiet s net i moment wish false None = net
net_quiet s net i moment wish false (Some link) = if wish.memory then net else net_quiet_by (net_tells s net (entry link moment Pulse Ran)) i (s.told net.world (entry link moment Pulse Ran))

abbrev pub net_parts : {W : Type 0} → Machine W → Net W → ℕ → ℕ → Wish → Ask → Bool → Option ℕ → Net W
net_parts s net i moment wish ask true number = net
net_parts s net i moment wish ask false None = net_ends net i
net_parts s net i moment wish ask false (Some link) = net_ends (if wish.memory then net else net_tells s net (entry link moment ask Ran)) i

abbrev pub net_step : {W : Type 0} → Machine W → Net W → Event → Net W
net_step s net (Commands call) = net_commands net net.client.stage net.client.wait call
net_step s net (ToServer i moment wish) = net_to_server s net i moment wish (net.links i).end.ended
net_step s net ToClient = net_to_client net (net.links net.top).down
net_step s net (Quiet i moment wish) = net_quiet s net i moment wish (net.links i).end.ended (net.links i).end.number
net_step s net (Loses i moment wish) = net_parts s net i moment wish Lost (net.links i).end.ended (net.links i).end.number
net_step s net (Drains i moment wish) = net_parts s net i moment wish Bye (net.links i).end.ended (net.links i).end.number
net_step s net (Ends i) = net_ends net i
net_step s net Breaks = net_breaks net
net_step s net (Others e) = net_tells s net e

abbrev pub net_run : {W : Type 0} → Machine W → Net W → List Event → Net W
net_run s net [] = net
net_run s net (e ∷ es) = net_run s (net_step s net e) es

abbrev pub net_start : {W : Type 0} → W → Net W
net_start w = record { client = fresh_client; top = 0; world = w; history = []; links = set (λ j. record { end = fresh_end; up = []; down = [] }) 0 (record { end = fresh_end; up = Opens ∷ []; down = [] }) }

-- ---- the premises and the theorem over it

abbrev pub is_again_first : List Request → Bool
is_again_first [] = false
is_again_first (Opens ∷ rest) = false
is_again_first (Asks id body again ∷ rest) = again

pub record OthersKeepOutOfNet {W : Type 0} (s : Machine W) (n : ℕ) (net : Net W) (e : Entry) : Type 0 where
  pub legal : s.is_legal net.world e ≡ true
  pub apart : (i : ℕ) → (net.links i).end.number ≢ Some e.link
  pub no_token : carries (s.token n) e.ask → ⊥

abbrev pub NetAllowed : {W : Type 0} → Machine W → ℕ → Net W → Event → Type 0
NetAllowed s n net (Others e) = OthersKeepOutOfNet s n net e
NetAllowed s n net (ToServer i moment wish) = wish.memory ≡ true → (net.links i).end.ended ≡ false → is_again_first (net.links i).up ≡ false
NetAllowed s n net (Commands call) = Unit {0}
NetAllowed s n net ToClient = Unit {0}
NetAllowed s n net (Quiet i moment wish) = Unit {0}
NetAllowed s n net (Loses i moment wish) = Unit {0}
NetAllowed s n net (Drains i moment wish) = Unit {0}
NetAllowed s n net (Ends i) = Unit {0}
NetAllowed s n net Breaks = Unit {0}

abbrev pub AllNetAllowed : {W : Type 0} → Machine W → ℕ → Net W → List Event → Type 0
AllNetAllowed s n net [] = Unit {0}
AllNetAllowed s n net (e ∷ es) = NetAllowed s n net e × ((net_step s net e).client.row < 1900) × AllNetAllowed s n (net_step s net e) es

pub record NetOnce {W : Type 0} (s : Machine W) (n : ℕ) (w : W) (net : Net W) : Type 0 where
  pub more : List Done
  pub effects : effective s n w net.history ≡ kept net.client.results ++ more
  pub at_most : IsOutstanding more net.client.wait

abbrev pub CommandsOnceCarried : {W : Type 0} → (W → Type 0) → Machine W → Type 0
CommandsOnceCarried {W} Sound s =
    (w : W) (n : ℕ) (events : List Event)
    → Sound w
    → n < numbers_end
    → AllNetAllowed s n (net_start w) events
    → (net_run s (net_start w) events).client.token ≡ Some (s.token n)
    → NetOnce s n w (net_run s (net_start w) events)

-- on each link at most one frame is under way, both directions together, whatever the schedule and the server
abbrev pub OneFrame : {W : Type 0} → Machine W → Type 0
OneFrame {W} s = (w : W) (events : List Event) (i : ℕ) → length ((net_run s (net_start w) events).links i).up + length ((net_run s (net_start w) events).links i).down ≤ 1

-- ---- what is under way on the newest link

abbrev pub waiting_request : Option Wait → Option Heard
waiting_request None = None
waiting_request (Some w) = Some (HeardCall w.id (Does w.call))

-- the request whose reply the client waits for, if it waits for one
abbrev pub request_that_waits : Client → Stage → Option Heard
request_that_waits c Opening = Some HeardOpen
request_that_waits c Entering = Some (HeardCall c.opening_id Login)
request_that_waits c Joining = Some (HeardCall c.opening_id (last_body c.token))
request_that_waits c Ready = waiting_request c.wait
request_that_waits c Gone = None

-- all these are that request; and all these are replies to it
abbrev pub AreThat : Option Heard → List Request → Type 0
AreThat o [] = Unit {0}
AreThat o (r ∷ rs) = (o ≡ Some (heard r)) × AreThat o rs

abbrev pub AreToThat : Option Heard → List (Request × Answer) → Type 0
AreToThat o [] = Unit {0}
AreToThat o (x ∷ xs) = (o ≡ Some (heard x.0)) × AreToThat o xs

-- Whatever the schedule and the server: all that is under way on the newest link of a client that is not lost is its request that waits, or the reply to it.
abbrev pub OnlyTheWaiting : {W : Type 0} → Machine W → Type 0
OnlyTheWaiting {W} s =
    (w : W) (events : List Event)
    → ((net_run s (net_start w) events).client.stage ≡ Gone → ⊥)
    → AreThat (request_that_waits (net_run s (net_start w) events).client (net_run s (net_start w) events).client.stage) ((net_run s (net_start w) events).links (net_run s (net_start w) events).top).up
    × AreToThat (request_that_waits (net_run s (net_start w) events).client (net_run s (net_start w) events).client.stage) ((net_run s (net_start w) events).links (net_run s (net_start w) events).top).down
