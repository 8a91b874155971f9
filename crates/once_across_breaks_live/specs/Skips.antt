-- Which happenings do something, and which are skipped (this profile).
use Rattle.std.specs.Prelude.{◌≡◌, ◌≢◌, ℕ, ◌<◌, ◌≤◌, ◌-◌, suc, false, []}
use Rattle.afp_base.specs.declared.ids.LinkNumber.{LinkNumber}
use Rattle.afp_calls_grammar.specs.grammar.Call.{IsSpellable}
use Rattle.afp_calls_grammar.specs.declared.grammar.call.Call as grammar
use Rattle.afp_client.specs.session.State.{IsReady}
use Rattle.afp_server.specs.declared.link.stage.Stage.TheVariants as stages
use Rattle.once_across_breaks_code.specs.client.Requests.{IsAskable}
use Rattle.once_across_breaks_code.specs.run.Things.{Lane, Things}
use Rattle.once_across_breaks_live.specs.declared.happening.Happening.{Happening}
use Rattle.once_across_breaks_live.specs.declared.happening.Happening.TheVariants as happenings

-- Links are numbered from 1; among the things the first has the number 0.
abbrev pub place_of : ℕ → ℕ
place_of link = link - 1

abbrev pub at_link : Things → ℕ → Lane
at_link t link = t.lanes (place_of link)

-- some bytes spell the call, and a client that is ready takes it
pub record CanBeAsked (call : grammar.Call) : Type 0 where
  pub spelt : IsSpellable call
  pub askable : IsAskable call

-- the client has begun that link
pub record IsBegun (t : Things) (link : ℕ) : Type 0 where
  pub first : 0 < link
  pub last : link ≤ suc t.top

-- and its server end goes on
pub record IsOpen (t : Things) (link : ℕ) : Type 0 where
  pub begun : IsBegun t link
  pub live : (at_link t link).ended ≡ false

-- some of so many bytes are under way there
pub record CanReach (t : Things) (link n : ℕ) : Type 0 where
  pub end : IsOpen t link
  pub asked : 0 < n
  pub some : (at_link t link).up ≢ []

-- a session is open there
pub record CanBeQuiet (t : Things) (link : ℕ) : Type 0 where
  pub end : IsOpen t link
  pub number : LinkNumber
  pub in_session : (at_link t link).wire.stage ≡ stages.Open number

pub record CanAsk (t : Things) (call : grammar.Call) : Type 0 where
  pub ready : IsReady t.client.state
  pub takes_call : CanBeAsked call

-- A happening that cannot be is skipped.
abbrev pub CanBe : Happening → Things → Type 0
CanBe (happenings.Asks call) t = CanAsk t call
CanBe (happenings.ToServer link n now) t = CanReach t link n
CanBe (happenings.ToClient link n) t = link ≡ suc t.top
CanBe (happenings.Quiet link now) t = CanBeQuiet t link
CanBe (happenings.Lost link now) t = IsOpen t link
CanBe happenings.Breaks t = Unit {0}
CanBe (happenings.Others now link ask) t = Unit {0}
