-- The steps of a client whose links break: what is asked of the server in each, and what its calls are told (this profile).
use Rattle.std.specs.Prelude.{ℕ, suc, ◌+◌, Bool, true, false, ◌&&◌, if◌then◌else◌, List, [], ◌∷◌, ◌++◌, length, Option, Some, None}
use Rattle.afp_base.specs.declared.code.Code.TheVariants as code
use Rattle.afp_calls_grammar.specs.grammar.Call.{canonical_call, canonical_data}
use Rattle.afp_calls_grammar.specs.grammar.LoginNames.{no_user, version_3_3}
use Rattle.afp_calls_grammar.specs.declared.grammar.call.Call.{Call}
use Rattle.afp_calls_grammar.specs.declared.grammar.call.Call.TheVariants as calls
use Rattle.afp_serial.specs.Answer.{after, answer, link_number, request}
use Rattle.afp_serial.specs.History.{entry, stand}
use Rattle.afp_serial.specs.SessionViews.{AsksKept, AsksToken, AsksUnkept, ComesBack, LogsOut, SessionWish, wish_of}
use Rattle.afp_serial.specs.World.{World}
use Rattle.afp_serial.specs.declared.ask.Ask.{Ask}
use Rattle.afp_serial.specs.declared.ask.Ask.TheVariants as ask
use Rattle.afp_serial.specs.declared.ask.Entry.{Entry}
use Rattle.afp_serial.specs.declared.ask.Outcome.TheVariants.{Done}
use Rattle.afp_serial.specs.declared.ask.Told.{Told}
use Rattle.afp_serial.specs.declared.ask.Told.TheVariants as told
use Rattle.once_across_breaks.specs.declared.same.breaks.Break.{Break}
use Rattle.once_across_breaks.specs.declared.same.breaks.Break.TheVariants.{Before, Behind, Never}

-- A step: its moment, the id of its request, its call, and where its link breaks.
pub record Step : Type 0 where
  pub moment : ℕ
  pub id : ℕ
  pub call : Call
  pub breaks : Break

-- the step on a link that stays
abbrev pub unbroken : Step → Step
unbroken s = record { moment = s.moment; id = s.id; call = s.call; breaks = Never }

-- the ask of a call: one with data comes in a Write, and its word is the place of the data (AFP over TCP, "DSIWrite")
abbrev pub ask_with : ℕ → Call → Option (List ℕ) → Ask
ask_with id call None = ask.Call id false 0 (canonical_call call)
ask_with id call (Some bytes) = ask.Call id true (length (canonical_call call)) (canonical_call call ++ bytes)

abbrev pub call_ask : ℕ → Call → Ask
call_ask id call = ask_with id call (canonical_data call)

-- the entry of a call on a link
abbrev pub calls_on : ℕ → ℕ → ℕ → Call → Entry
calls_on link moment id call = entry moment (link_number link) (call_ask id call) Done

-- without a name
abbrev pub login : Call
login = calls.Login version_3_3 no_user []

-- the attention quantum that the client tells (AFP over TCP, "DSIOpenSession")
abbrev pub quantum : ℕ
quantum = 1024

-- The server end of a link is lost. On the next link, whose number is the next, the client opens a session, logs in, and takes up its session again by
-- that token. The ids of these calls are 1 and 2.
abbrev pub rejoins : List ℕ → ℕ → ℕ → List Entry
rejoins token link moment =
    entry moment (link_number link) ask.Lost Done
    ∷ entry moment (link_number 0) ask.Pulse Done
    ∷ entry moment (link_number 0) (ask.Open quantum) Done
    ∷ calls_on (suc link) moment 1 login
    ∷ calls_on (suc link) moment 2 (calls.DisconnectOldSession 0 token)
    ∷ []

-- the call of a step on a link
abbrev pub step_call : ℕ → Step → Entry
step_call link s = calls_on link s.moment s.id s.call

-- the client's link behind a step
abbrev pub link_behind : ℕ → Break → ℕ
link_behind link Never = link
link_behind link Before = suc link
link_behind link Behind = suc link

-- what is asked in a step before its call is asked on the link that it leaves the client with
abbrev pub first_asks : List ℕ → ℕ → Step → Break → List Entry
first_asks token link s Never = []
first_asks token link s Before = rejoins token link s.moment
first_asks token link s Behind = step_call link s ∷ rejoins token link s.moment

-- the call of a step where its reply comes to the client
abbrev pub last_ask : ℕ → Step → Entry
last_ask link s = step_call (link_behind link s.breaks) s

-- all that is asked in a step, and in steps one after the other
abbrev pub step_asks : List ℕ → ℕ → Step → List Entry
step_asks token link s = first_asks token link s s.breaks ++ last_ask link s ∷ []

abbrev pub all_asks : List ℕ → ℕ → List Step → List Entry
all_asks token link [] = []
all_asks token link (s ∷ steps) = step_asks token link s ++ all_asks token (link_behind link s.breaks) steps

-- what the client is told of the steps' calls, one after the other
abbrev pub results : World → List ℕ → ℕ → List Step → List Told
results w token link [] = []
results w token link (s ∷ steps) =
    answer (stand w (first_asks token link s s.breaks)) (last_ask link s)
    ∷ results (stand w (step_asks token link s)) token (link_behind link s.breaks) steps

-- FPDisconnectOldSession, told Ok
abbrev pub asks_back : SessionWish → Bool
asks_back (ComesBack token) = true
asks_back LogsOut = false
asks_back AsksToken = false
asks_back AsksUnkept = false
asks_back AsksKept = false

abbrev pub is_ok : Told → Bool
is_ok (told.Reply code.Ok block ends) = true
is_ok other = false

abbrev pub is_back : Ask → Told → Bool
is_back (ask.Open attention) t = false
is_back (ask.Call id write offset payload) t = asks_back (wish_of (request id write offset payload)) && is_ok t
is_back ask.Pulse t = false
is_back ask.Bye t = false
is_back ask.Lost t = false
is_back ask.Drain t = false

-- how often a session is taken up again
abbrev pub back_in : World → List Entry → ℕ
back_in w [] = 0
back_in w (e ∷ es) = (if is_back e.ask (answer w e) then 1 else 0) + back_in (after w e) es

-- how often a link breaks
abbrev pub is_broken : Break → ℕ
is_broken Never = 0
is_broken Before = 1
is_broken Behind = 1

abbrev pub breaks_in : List Step → ℕ
breaks_in [] = 0
breaks_in (s ∷ steps) = is_broken s.breaks + breaks_in steps

-- A client opens the first link of a server that nobody has asked, and logs in.
abbrev pub begins : ℕ → List Entry
begins moment =
    entry moment (link_number 0) ask.Pulse Done
    ∷ entry moment (link_number 0) (ask.Open quantum) Done
    ∷ calls_on 1 moment 1 login
    ∷ []

-- It asks for its session's token.
abbrev pub asks_token : Call
asks_token = calls.GetSessionToken 0 None []

-- All of an opening: behind these it asks to open a volume. The ids of its calls are 1 to 3.
abbrev pub opens : ℕ → ℕ → List ℕ → List Entry
opens moment bits name =
    entry moment (link_number 0) ask.Pulse Done
    ∷ entry moment (link_number 0) (ask.Open quantum) Done
    ∷ calls_on 1 moment 1 login
    ∷ calls_on 1 moment 2 asks_token
    ∷ calls_on 1 moment 3 (calls.OpenVol bits name)
    ∷ []
