-- What a client, the server ends of its links and the teller come to (this profile).
use Rattle.std.specs.Prelude.{◌≡◌, ◌⊎◌, ℕ, ◌<◌, Bool, true, List, [], Some}
use Rattle.std.specs.List.{AllByRecursion}
use Rattle.afp_base.specs.Cached.{Answer}
use Rattle.afp_client.specs.session.State.{Client}
use Rattle.afp_client.specs.declared.session.login.Login as logins
use Rattle.afp_serial.specs.History.{stand}
use Rattle.afp_serial.specs.Shown.{IsSoundShown, Shown}
use Rattle.afp_serial.specs.StatusBlock.{status_block}
use Rattle.afp_serial.specs.Token.{session_token}
use Rattle.once_across_breaks.specs.once.Run.{Event}
use Rattle.once_across_breaks.specs.once.Serial.{IsSoundUnder, Setup}
use Rattle.once_across_breaks.specs.once.Server.{numbers_end}
use Rattle.once_across_breaks_code.specs.client.Requests.{LogsIn}
use Rattle.once_across_breaks_code.specs.server.Among.{is_carried_ask}
use Rattle.once_across_breaks_code.specs.server.Asked.{AsksAlone}
use Rattle.once_across_breaks_code.specs.server.Fed.{CarriedSince}
use Rattle.once_across_breaks_code.specs.run.Doings.{Doing, Runs, RunsAlone}
use Rattle.once_across_breaks_code.specs.run.Laws.{HoldsToken, IsSchedule, TakesEffectOnce}
use Rattle.once_across_breaks_code.specs.run.Premises.{RunKeeps, RunKeepsAlone, no_notes}
use Rattle.once_across_breaks_code.specs.run.Things.{Things, begun_things}
use Rattle.once_across_breaks_live.specs.declared.happening.Happening.{Happening}
use Rattle.once_across_breaks_live.specs.declared.happening.Happening.TheVariants as happenings
use Rattle.once_across_breaks_live.specs.Happens.{AllHappen}
use Rattle.once_across_breaks_live.specs.Steps.{Server}

-- a frame can carry what others ask
abbrev pub CanCarry : Happening → Type 0
CanCarry (happenings.Others now link ask) = is_carried_ask ask ≡ true
CanCarry h = Unit {0}

-- A frame can carry all that was asked since. So it is where nobody else asked the teller, and a frame can carry what others ask.
abbrev pub IsCarried : List Happening → Shown → Shown → Type 0
IsCarried hs a b = CarriedSince a b ⊎ (AsksAlone b × AllByRecursion CanCarry hs)

-- There is a schedule of the law that leads to these things.
abbrev pub IsScheduled : logins.Login → Shown → List Happening → Things → Type 0
IsScheduled login first hs last =
    (u : Setup) → LogsIn u login → IsSoundShown first → first.history ≡ [] → IsSoundUnder u.key first.start → IsCarried hs first last.shown
    → (events : List Event) × IsSchedule u first.start last events

-- The doings are a run. Where one keeps the premises for the session whose token the client holds, each command takes effect once, in order.
pub record IsOnceAmong (u : Setup) (start : Things) (ds : List Doing) (last : Things) : Type 0 where
  pub runs : Runs start ds last
  pub once : (n : ℕ) (run : Runs start ds last) → RunKeeps u.key n no_notes start ds last run → n < numbers_end → last.client.state.token ≡ Some (session_token u.key n)
      → TakesEffectOnce u n last

-- so it is where nobody else asked the teller: the premises on others are on what others ask in a step
pub record IsOnceAlone (u : Setup) (start : Things) (ds : List Doing) (last : Things) : Type 0 where
  pub runs : RunsAlone start ds last
  pub once : (n : ℕ) (run : RunsAlone start ds last) → RunKeepsAlone u.key n no_notes start ds last run → n < numbers_end → last.client.state.token ≡ Some (session_token u.key n)
      → TakesEffectOnce u n last

pub record IsOnce (u : Setup) (hs : List Happening) (start : Things) (ds : List Doing) (last : Things) : Type 0 where
  pub among : CarriedSince start.shown last.shown → IsOnceAmong u start ds last
  pub alone : AsksAlone last.shown → AllByRecursion CanCarry hs → IsOnceAlone u start ds last
  pub token : IsCarried hs start.shown last.shown → HoldsToken u last

-- So these doings are for each Setup of the login, from a teller with an empty history.
abbrev pub TakeEffectOnce : List ℕ → logins.Login → Shown → List Happening → List Doing → Things → Type 0
TakeEffectOnce block login first hs ds last =
    (u : Setup) → LogsIn u login → IsSoundShown first → first.history ≡ [] → IsSoundUnder u.key first.start → IsOnce u hs (begun_things block login first) ds last

-- the status block of the house that a teller serves
abbrev pub block_of : Shown → List ℕ
block_of a = status_block (stand a.start a.history).house

-- The happenings lead to these things, from a client that has begun its first link: its own state, what the teller shows, and the results are theirs.
-- Where it is told so, all that reached a server end was answered, and each loss of one.
pub record ComesTo (block : List ℕ) (login : logins.Login) (first : Shown) (hs : List Happening) (answered : Bool) (client : Client) (shown : Shown) (results : List Answer) : Type 0 where
  pub doings : List Doing
  pub last : Things
  pub happened : AllHappen (record { block = block; answered = answered }) hs (begun_things block login first) doings last
  pub client_is : last.client ≡ client
  pub shown_is : last.shown ≡ shown
  pub results_are : last.results ≡ results
  pub schedule : IsScheduled login first hs last
  pub once : TakeEffectOnce block login first hs doings last

-- The laws: whatever happens is a schedule,
abbrev pub HappeningsAreSchedules : Type 0
HappeningsAreSchedules =
    (server : Server) (login : logins.Login) (first : Shown) (hs : List Happening) (doings : List Doing) (last : Things)
    → AllHappen server hs (begun_things server.block login first) doings last → IsScheduled login first hs last

-- and is a run by which each command takes effect once, in order, where it keeps the premises.
abbrev pub HappeningsTakeEffectOnce : Type 0
HappeningsTakeEffectOnce =
    (server : Server) (login : logins.Login) (first : Shown) (hs : List Happening) (doings : List Doing) (last : Things)
    → AllHappen server hs (begun_things server.block login first) doings last → TakeEffectOnce server.block login first hs doings last
