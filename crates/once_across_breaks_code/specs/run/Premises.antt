-- What a run keeps that the law asks: of what others ask, of want of memory behind a break, and of rows without effect (this profile).
use Rattle.std.specs.Prelude.{◌≡◌, ℕ, suc, ◌<◌, nat_eq, bytes_eq, Bool, true, false, ◌&&◌, not, if◌then◌else◌, List, [], ◌∷◌, ◌++◌, is_some}
use Rattle.std.specs.List.{list_all, list_any}
use Rattle.afp_client.specs.session.State.{ClientState}
use Rattle.afp_client.specs.declared.session.event.Event.{Event}
use Rattle.afp_client.specs.declared.session.event.Event.TheVariants as events
use Rattle.afp_client.specs.declared.session.stage.Stage as client_stage
use Rattle.afp_client.specs.declared.session.stage.Stage.TheVariants as client_stages
use Rattle.afp_serial.specs.Answer.{request}
use Rattle.afp_serial.specs.SessionViews.{AsksKept, AsksToken, AsksUnkept, ComesBack, LogsOut, SessionWish, wish_of}
use Rattle.afp_serial.specs.Token.{session_token}
use Rattle.afp_serial.specs.declared.ask.Ask as serial
use Rattle.afp_serial.specs.declared.ask.Ask.TheVariants as ask
use Rattle.afp_serial.specs.declared.ask.Entry as entries
use Rattle.afp_server.specs.declared.link.stage.Stage as server_stage
use Rattle.afp_server.specs.declared.link.stage.Stage.TheVariants as stages
use Rattle.once_across_breaks.specs.once.Messages.{is_miss}
use Rattle.once_across_breaks.specs.once.Serial.{answer_by}
use Rattle.once_across_breaks.specs.once.Server.{set}
use Rattle.once_across_breaks_code.specs.server.Asked.{OthersPassSince}
use Rattle.once_across_breaks_code.specs.run.Doings.{Asks, Breaks, Brings, CanCarry, Doing, Does, IsAlone, IsCarriedOn, Loses, Others, Quiets, Reaches, Runs, RunsAlone, Takes}
use Rattle.once_across_breaks_code.specs.run.Things.{Things}

-- ---- what is noted along a run

-- The numbers of the client's links so far; on which of its links the request that waits was written again, behind a break; and how many requests of commands in a
-- row, up to now, were answered MiscErr or want of memory.
pub record Notes : Type 0 where
  pub numbers : List ℕ
  pub again : ℕ → Bool
  pub row : ℕ

abbrev pub no_notes : Notes
no_notes = record { numbers = []; again = λ i. false; row = 0 }

-- the number of the link, where its session is open
abbrev pub number_at : server_stage.Stage → List ℕ
number_at stages.Fresh = []
number_at (stages.Open link) = link.0 ∷ []
number_at stages.Closing = []

-- A Step of a client that is ready is want of memory, behind which the request is sent under the next id.
abbrev pub row_at_step : client_stage.Stage → ℕ → ℕ
row_at_step client_stages.Unlinked row = row
row_at_step (client_stages.Opening at_step id retries) row = row
row_at_step client_stages.Ready row = suc row
row_at_step client_stages.Lost row = row

-- By what the client takes on its newest link: a result; a step; or that it is ready, where the request that waits is written again.
abbrev pub noted_event : Event → ClientState → ℕ → Notes → Notes
noted_event (events.Told c block) s top x = record { numbers = x.numbers; again = set x.again top false; row = if is_miss (answer_by c block) then suc x.row else 0 }
noted_event events.Step s top x = record { numbers = x.numbers; again = set x.again top false; row = row_at_step s.stage x.row }
noted_event events.Ready s top x = record { numbers = x.numbers; again = set x.again top (is_some s.waiting); row = x.row }
noted_event event s top x = x

abbrev pub noted : Doing → Things → Things → Notes → Notes
noted (Asks call) old new x = x
noted (Reaches i now) old new x = record { numbers = number_at (new.lanes i).wire.stage ++ x.numbers; again = x.again; row = x.row }
noted Brings old new x = x
noted (Takes event) old new x = noted_event event old.client.state old.top x
noted (Quiets i now) old new x = x
noted (Loses i now) old new x = x
noted Breaks old new x = x
noted (Others now link asks) old new x = x

-- ---- the premises

-- whether a request is a DisconnectOldSession that carries this token
abbrev pub wishes_back : List ℕ → SessionWish → Bool
wishes_back token (ComesBack x) = bytes_eq x token
wishes_back token LogsOut = false
wishes_back token AsksToken = false
wishes_back token AsksUnkept = false
wishes_back token AsksKept = false

abbrev pub asks_back : List ℕ → serial.Ask → Bool
asks_back token (ask.Open attention) = false
asks_back token (ask.Call id write offset payload) = wishes_back token (wish_of (request id write offset payload))
asks_back token ask.Pulse = false
asks_back token ask.Bye = false
asks_back token ask.Lost = false
asks_back token ask.Drain = false

-- an entry that names none of these links, and does not carry this token
abbrev pub keeps_out : List ℕ → List ℕ → entries.Entry → Bool
keeps_out numbers token e = not (list_any (λ number. nat_eq number e.link.0) numbers) && not (asks_back token e.ask)

-- Entries of others pass this test: those between the client's own, and all where others ask.
abbrev pub OthersPass : (entries.Entry → Bool) → Doing → Things → Things → Type 0
OthersPass p (Others now link asks) old new = (more : List entries.Entry) → new.shown.history ≡ old.shown.history ++ more → list_all p more ≡ true
OthersPass p d old new = OthersPassSince p old.shown new.shown

-- A request that was written again behind a break was answered, and not told want of memory.
abbrev pub IsAnswered : Notes → Doing → Things → Type 0
IsAnswered x (Reaches i now) new = x.again i ≡ true → (new.lanes i).wire.tally.answered ≡ true
IsAnswered x d new = Unit {0}

pub record Keeps (key : List ℕ) (n : ℕ) (x : Notes) (d : Doing) (old new : Things) : Type 0 where
  pub others : OthersPass (keeps_out x.numbers (session_token key n)) d old new
  pub answered : IsAnswered x d new
  pub row : x.row < 1900

-- each step of a run keeps them, with what is noted then
abbrev pub RunKeeps : List ℕ → ℕ → Notes → (first : Things) → (ds : List Doing) → (last : Things) → Runs first ds last → Type 0
RunKeeps key n x first [] last is = Unit {0}
RunKeeps key n x first (d ∷ ds) last (mid, does, on, rest) = Keeps key n (noted d first mid x) d first mid × RunKeeps key n (noted d first mid x) mid ds last rest

-- ---- where nobody else asks the teller: what others ask of it is asked by a step

abbrev pub OthersKeepOut : List ℕ → List ℕ → Doing → Type 0
OthersKeepOut numbers token (Others now link asks) = (list_any (λ number. nat_eq number link.0) numbers ≡ false) × (asks_back token asks ≡ false)
OthersKeepOut numbers token d = Unit {0}

pub record KeepsAlone (key : List ℕ) (n : ℕ) (x : Notes) (d : Doing) (new : Things) : Type 0 where
  pub others : OthersKeepOut x.numbers (session_token key n) d
  pub answered : IsAnswered x d new
  pub row : x.row < 1900

abbrev pub RunKeepsAlone : List ℕ → ℕ → Notes → (first : Things) → (ds : List Doing) → (last : Things) → RunsAlone first ds last → Type 0
RunKeepsAlone key n x first [] last is = Unit {0}
RunKeepsAlone key n x first (d ∷ ds) last (mid, does, can, on, rest) = KeepsAlone key n (noted d first mid x) d mid × RunKeepsAlone key n (noted d first mid x) mid ds last rest
