-- The same schedule over bytes: events move so many of them, and a frame is handled once it is whole. Of a request the bytes need not tell whether it was written
-- before a break, and of a reply only what the client reads of it.
use Rattle.std.specs.Prelude.{◌≡◌, ◌≢◌, ℕ, suc, ◌<◌, Bool, true, false, ◌||◌, if◌then◌else◌, List, [], ◌∷◌, ◌++◌, take, drop, Option, Some, None}
use Rattle.once_across_breaks.specs.once.Messages.{Call, Does, Answer, Done, kept}
use Rattle.once_across_breaks.specs.once.Server.{numbers_end, Ask, Pulse, Bye, Lost, Told, Opened, Reply, Live, Parted, Displaced, Ran, Entry, entry, set, Machine}
use Rattle.once_across_breaks.specs.once.Run.{Request, Opens, Asks, Stage, Opening, Entering, Joining, Ready, Gone, Wait, Client, Wish, begins, draws, id_of, fresh_client}
use Rattle.once_across_breaks.specs.once.Once.{IsOutstanding, carries, effective}
use Rattle.once_across_breaks.specs.once.Fits.{FitsAnswer, FitsBody, FitsOpening, IsId}
use Rattle.once_across_breaks.specs.once.Frames.{End, Handled, Heard, HeardCall, HeardOpen, Tag, Taken, client_takes, ended_end, fresh_end, handles, heard, is_again_first, tag_of}

-- how a message is spelt, and what is read of the first whole one of bytes, with what follows it
pub record Codec (F G : Type 0) : Type 0 where
  pub spell : F → List ℕ
  pub front : List ℕ → Option (G × List ℕ)

-- the spelling of a message that fits is read again, as far as it is seen, and no proper first part of it is whole
pub record IsCodec {F G : Type 0} (Fits : F → Type 0) (seen : F → G) (c : Codec F G) : Type 0 where
  pub nothing : c.front [] ≡ None
  pub whole : (f : F) → Fits f → c.front (c.spell f) ≡ Some (seen f, [])
  pub part : (f : F) (a b : List ℕ) → Fits f → a ++ b ≡ c.spell f → (b ≡ [] → ⊥) → c.front a ≡ None

-- requests, each with the last id of its opening, and replies with what was read of their requests and its id
pub record Codecs : Type 0 where
  pub up : Codec (ℕ × Request) (ℕ × Heard)
  pub down : Codec ((ℕ × Heard) × Answer) (Tag × Answer)

-- the id of a request: an OpenSession has the last one of its opening
abbrev pub own_id : ℕ → Request → ℕ
own_id last Opens = last
own_id last (Asks id body again) = id

abbrev pub seen_request : ℕ × Request → ℕ × Heard
seen_request x = (own_id x.0 x.1, heard x.1)

abbrev pub FitsRequest : Request → Type 0
FitsRequest Opens = Unit {0}
FitsRequest (Asks id body again) = IsId id × FitsBody body

abbrev pub FitsNumbered : ℕ × Request → Type 0
FitsNumbered x = IsId (own_id x.0 x.1) × FitsRequest x.1

abbrev pub FitsReplyTo : Heard → Answer → Type 0
FitsReplyTo HeardOpen a = FitsAnswer a × FitsOpening a
FitsReplyTo (HeardCall id body) a = IsId id × FitsAnswer a

abbrev pub FitsReply : (ℕ × Heard) × Answer → Type 0
FitsReply x = IsId x.0.0 × FitsReplyTo x.0.1 x.1

abbrev pub seen_reply : (ℕ × Heard) × Answer → Tag × Answer
seen_reply x = (tag_of x.0.1, x.1)

pub record AreCodecs (c : Codecs) : Type 0 where
  pub up : IsCodec FitsNumbered seen_request c.up
  pub down : IsCodec FitsReply seen_reply c.down

-- Each link: its server end; the bytes under way to it, those that it holds, and those under way to the client; and, which no byte tells, whether the request under
-- way on it was written before a break. And the bytes of the newest link that the client holds.
pub record Line (W : Type 0) : Type 0 where
  pub client : Client
  pub top : ℕ
  pub ends : ℕ → End
  pub world : W
  pub history : List Entry
  pub up : ℕ → List ℕ
  pub held : ℕ → List ℕ
  pub down : ℕ → List ℕ
  pub again : ℕ → Bool
  pub taken : List ℕ

pub data ByteEvent : Type 0 where
  Commands : (call : Call) → ByteEvent
  ToServer : (link bytes moment : ℕ) (wish : Wish) → ByteEvent
  ToClient : (bytes : ℕ) → ByteEvent
  Quiet : (link moment : ℕ) (wish : Wish) → ByteEvent
  Loses : (link moment : ℕ) (wish : Wish) → ByteEvent
  Drains : (link moment : ℕ) (wish : Wish) → ByteEvent
  Ends : (link : ℕ) → ByteEvent
  Breaks : ByteEvent
  Others : (e : Entry) → ByteEvent

abbrev pub spelt : Codec (ℕ × Request) (ℕ × Heard) → ℕ → List Request → List ℕ
spelt c last [] = []
spelt c last (r ∷ rs) = c.spell (last, r) ++ spelt c last rs

abbrev pub spelt_reply : Codec ((ℕ × Heard) × Answer) (Tag × Answer) → ℕ × Heard → Option Answer → List ℕ
spelt_reply c read None = []
spelt_reply c read (Some a) = c.spell (read, a)

-- it asks its next command
abbrev pub line_commands : {W : Type 0} → Codecs → Line W → Stage → Option Wait → Call → Line W
line_commands c x Ready None call =
    record x { client = draws x.client call 0 x.client.row x.client.results; up = set x.up x.top (x.up x.top ++ c.up.spell (x.client.opening_id, Asks (id_of x.client.first x.client.drawn) (Does call) false)); again = set x.again x.top false }
line_commands c x Ready (Some w) call = x
line_commands c x Opening w call = x
line_commands c x Entering w call = x
line_commands c x Joining w call = x
line_commands c x Gone w call = x

-- bytes reach a server end: those that it holds then, and those still under way
abbrev pub line_handled : {W : Type 0} → Codecs → Line W → ℕ → ℕ × Heard → List ℕ → List ℕ → Handled W → Line W
line_handled c x i read rest under h =
    record {
      client = x.client;
      top = x.top;
      world = h.world;
      history = x.history ++ h.entries;
      taken = x.taken;
      ends = set x.ends i h.end;
      up = set x.up i under;
      held = set x.held i rest;
      down = set x.down i (x.down i ++ spelt_reply c.down read h.reply);
      again = x.again;
    }

abbrev pub line_front : {W : Type 0} → Codecs → Machine W → Line W → ℕ → ℕ → Wish → List ℕ → List ℕ → Option ((ℕ × Heard) × List ℕ) → Line W
line_front c s x i moment wish holds under None = record x { up = set x.up i under; held = set x.held i holds }
line_front c s x i moment wish holds under (Some f) = line_handled c x i f.0 f.1 under (handles s x.world moment wish (x.ends i) (x.ends i).number f.0.1)

abbrev pub line_fed : {W : Type 0} → Codecs → Machine W → Line W → ℕ → ℕ → Wish → List ℕ → List ℕ → Line W
line_fed c s x i moment wish holds under = line_front c s x i moment wish holds under (c.up.front holds)

abbrev pub line_to_server : {W : Type 0} → Codecs → Machine W → Line W → ℕ → ℕ → ℕ → Wish → Bool → Line W
line_to_server c s x i n moment wish true = x
line_to_server c s x i n moment wish false = line_fed c s x i moment wish (x.held i ++ take n (x.up i)) (drop n (x.up i))

-- bytes reach the client
abbrev pub line_taken : {W : Type 0} → Codecs → Line W → List ℕ → List ℕ → List ℕ → Option Taken → Line W
line_taken c x holds rest under None = record x { down = set x.down x.top under; taken = holds }
line_taken c x holds rest under (Some t) =
    record {
      client = t.client;
      top = x.top;
      world = x.world;
      history = x.history;
      taken = rest;
      held = x.held;
      ends = set x.ends x.top (record { number = (x.ends x.top).number; ended = (x.ends x.top).ended; got = (x.ends x.top).got || t.got });
      up = set x.up x.top (x.up x.top ++ spelt c.up t.client.opening_id t.writes);
      down = set x.down x.top under;
      again = set x.again x.top (is_again_first t.writes);
    }

abbrev pub line_reply : {W : Type 0} → Codecs → Line W → List ℕ → List ℕ → Option ((Tag × Answer) × List ℕ) → Line W
line_reply c x holds under None = record x { down = set x.down x.top under; taken = holds }
line_reply c x holds under (Some f) = line_taken c x holds f.1 under (client_takes x.client x.client.stage f.0.0 f.0.1)

abbrev pub line_to_client : {W : Type 0} → Codecs → Line W → List ℕ → List ℕ → Line W
line_to_client c x holds under = line_reply c x holds under (c.down.front holds)

abbrev pub line_breaks : {W : Type 0} → Codecs → Line W → Line W
line_breaks c x =
    record {
      client = begins x.client;
      top = suc x.top;
      world = x.world;
      history = x.history;
      taken = [];
      ends = set x.ends (suc x.top) fresh_end;
      up = set x.up (suc x.top) (c.up.spell (0, Opens));
      held = set x.held (suc x.top) [];
      down = set x.down (suc x.top) [];
      again = set x.again (suc x.top) false;
    }

abbrev pub line_tells : {W : Type 0} → Machine W → Line W → Entry → Line W
line_tells s x e = record { client = x.client; top = x.top; ends = x.ends; world = s.after x.world e; history = x.history ++ e ∷ []; up = x.up; held = x.held; down = x.down; again = x.again; taken = x.taken }

abbrev pub line_ends : {W : Type 0} → Line W → ℕ → Line W
line_ends x i = record x { ends = set x.ends i (ended_end (x.ends i)) }

abbrev pub line_quiet_by : {W : Type 0} → Line W → ℕ → Told → Line W
line_quiet_by x i Displaced = line_ends x i
line_quiet_by x i (Opened link) = x
line_quiet_by x i (Reply a ends) = x
line_quiet_by x i Live = x
line_quiet_by x i Parted = x

abbrev pub line_quiet : {W : Type 0} → Machine W → Line W → ℕ → ℕ → Wish → Bool → Option ℕ → Line W
line_quiet s x i moment wish true number = x
line_quiet s x i moment wish false None = x
line_quiet s x i moment wish false (Some link) = if wish.memory then x else line_quiet_by (line_tells s x (entry link moment Pulse Ran)) i (s.told x.world (entry link moment Pulse Ran))

abbrev pub line_parts : {W : Type 0} → Machine W → Line W → ℕ → ℕ → Wish → Ask → Bool → Option ℕ → Line W
line_parts s x i moment wish ask true number = x
line_parts s x i moment wish ask false None = line_ends x i
line_parts s x i moment wish ask false (Some link) = line_ends (if wish.memory then x else line_tells s x (entry link moment ask Ran)) i

abbrev pub line_step : {W : Type 0} → Codecs → Machine W → Line W → ByteEvent → Line W
line_step c s x (Commands call) = line_commands c x x.client.stage x.client.wait call
line_step c s x (ToServer i n moment wish) = line_to_server c s x i n moment wish (x.ends i).ended
line_step c s x (ToClient n) = line_to_client c x (x.taken ++ take n (x.down x.top)) (drop n (x.down x.top))
line_step c s x (Quiet i moment wish) = line_quiet s x i moment wish (x.ends i).ended (x.ends i).number
line_step c s x (Loses i moment wish) = line_parts s x i moment wish Lost (x.ends i).ended (x.ends i).number
line_step c s x (Drains i moment wish) = line_parts s x i moment wish Bye (x.ends i).ended (x.ends i).number
line_step c s x (Ends i) = line_ends x i
line_step c s x Breaks = line_breaks c x
line_step c s x (Others e) = line_tells s x e

abbrev pub line_run : {W : Type 0} → Codecs → Machine W → Line W → List ByteEvent → Line W
line_run c s x [] = x
line_run c s x (e ∷ es) = line_run c s (line_step c s x e) es

abbrev pub line_start : {W : Type 0} → Codecs → W → Line W
line_start c w = record { client = fresh_client; top = 0; ends = set (λ j. fresh_end) 0 fresh_end; world = w; history = []; up = set (λ j. []) 0 (c.up.spell (0, Opens)); held = λ j. []; down = λ j. []; again = λ j. false; taken = [] }

-- ---- the premises and the theorem

-- a request is whole, and was written before a break
abbrev pub is_again_at : Option ((ℕ × Heard) × List ℕ) → Bool → Bool
is_again_at None again = false
is_again_at (Some f) again = again

pub record OthersKeepOutOfLine {W : Type 0} (s : Machine W) (n : ℕ) (x : Line W) (e : Entry) : Type 0 where
  pub legal : s.is_legal x.world e ≡ true
  pub apart : (i : ℕ) → (x.ends i).number ≢ Some e.link
  pub no_token : carries (s.token n) e.ask → ⊥

abbrev pub LineAllowed : {W : Type 0} → Codecs → Machine W → ℕ → Line W → ByteEvent → Type 0
LineAllowed c s n x (Others e) = OthersKeepOutOfLine s n x e
LineAllowed c s n x (ToServer i k moment wish) = wish.memory ≡ true → (x.ends i).ended ≡ false → is_again_at (c.up.front (x.held i ++ take k (x.up i))) (x.again i) ≡ false
LineAllowed c s n x (Commands call) = Unit {0}
LineAllowed c s n x (ToClient k) = Unit {0}
LineAllowed c s n x (Quiet i moment wish) = Unit {0}
LineAllowed c s n x (Loses i moment wish) = Unit {0}
LineAllowed c s n x (Drains i moment wish) = Unit {0}
LineAllowed c s n x (Ends i) = Unit {0}
LineAllowed c s n x Breaks = Unit {0}

abbrev pub AllLineAllowed : {W : Type 0} → Codecs → Machine W → ℕ → Line W → List ByteEvent → Type 0
AllLineAllowed c s n x [] = Unit {0}
AllLineAllowed c s n x (e ∷ es) = LineAllowed c s n x e × ((line_step c s x e).client.row < 1900) × AllLineAllowed c s n (line_step c s x e) es

pub record LineOnce {W : Type 0} (s : Machine W) (n : ℕ) (w : W) (x : Line W) : Type 0 where
  pub more : List Done
  pub effects : effective s n w x.history ≡ kept x.client.results ++ more
  pub at_most : IsOutstanding more x.client.wait

-- over these codecs
abbrev pub CommandsOnceOver : {W : Type 0} → (W → Type 0) → Machine W → Codecs → Type 0
CommandsOnceOver {W} Sound s c =
    (w : W) (n : ℕ) (events : List ByteEvent)
    → Sound w
    → n < numbers_end
    → AllLineAllowed c s n (line_start c w) events
    → (line_run c s (line_start c w) events).client.token ≡ Some (s.token n)
    → LineOnce s n w (line_run c s (line_start c w) events)

abbrev pub CommandsOnceInBytes : {W : Type 0} → (W → Type 0) → Machine W → Type 0
CommandsOnceInBytes Sound s = (c : Codecs) → AreCodecs c → CommandsOnceOver Sound s c
