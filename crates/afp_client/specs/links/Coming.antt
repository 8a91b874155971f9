-- What a link is left for (this profile).
use Rattle.std.specs.Prelude.{◌≡◌, ℕ, ◌≤◌, List, [], ◌∷◌, length, Option}
use Rattle.afp_outside.specs.ends.Link.{LinkState}
use Rattle.dsi_frame.specs.Frame.{Frame}
use Rattle.dsi_frame.specs.Stream.{IsUnfinished, Spelled}
use Rattle.afp_calls_grammar.specs.declared.grammar.call.Call.{Call}
use Rattle.afp_client.specs.session.State.{Client, ClientState}
use Rattle.afp_client.specs.session.Takes as S
use Rattle.afp_client.specs.session.Happens.{IsBadNext}
use Rattle.afp_client.specs.declared.session.event.Event.{Event}
use Rattle.afp_client.specs.declared.session.event.Event.TheVariants as events
use Rattle.afp_client.specs.links.History.{Happening, took, asked_in, limits_in, results_in, taken_in}
use Rattle.afp_client.specs.links.OnLink.{Start, spot, OnLink, LiveOn, Broke}
use Rattle.afp_client.specs.declared.links.came.Came.{Came}
use Rattle.afp_client.specs.declared.links.came.Came.TheVariants as comes
use Rattle.afp_client.specs.declared.links.noted.Noted.{Noted}
use Rattle.afp_client.specs.declared.links.talk.Limit.{Limit}

-- no result came, the same call waits, and no limit was set
pub record Same (all now : List Happening) : Type 0 where
  pub results : (was : Option Call) → results_in was now ≡ results_in was all
  pub asked : (was : Option Call) → asked_in was now ≡ asked_in was all
  pub limits : (was : List Limit) → limits_in was now ≡ limits_in was all

-- The link goes on: without a result, and with all written.
pub record GoesOn (start : Start) (all : List Happening) (c : Client) (link : LinkState) (noted : Noted) (cost : ℕ) : Type 0 where
  pub now : List Happening
  pub on : LiveOn start now (spot c [] link noted cost)
  pub same : Same all now

-- It is left where it stood, as there was no memory: without a result, and with all written but a Tickle that was due.
pub record StaysOn (start : Start) (all : List Happening) (c : Client) (link : LinkState) (noted : Noted) (cost : ℕ) : Type 0 where
  pub now : List Happening
  pub on : OnLink start now (spot c [] link noted cost)
  pub same : Same all now

-- The last that happened is a frame that was this event.
pub record ComesBy (start : Start) (all : List Happening) (event : Event) (c : Client) (link : LinkState) (noted : Noted) (cost : ℕ) : Type 0 where
  pub before : List Happening
  pub mid : ClientState
  pub frame : Frame
  pub step : S.Step
  pub on : OnLink start (took mid frame step ∷ before) (spot c [] link noted cost)
  pub is : step.event ≡ event
  pub same : Same all before

-- The frame of the reply begins at this place: the frames that were taken before it fill what comes before.
pub record StandsAt (before : List Happening) (at : ℕ) : Type 0 where
  pub filled : List ℕ
  pub spelled : Spelled filled (taken_in before)
  pub place : at ≡ length filled

-- The last that happened is the reply to the request that waited; its frame begins at this place.
pub record ComesTold (start : Start) (all : List Happening) (at : ℕ) (event : Event) (c : Client) (link : LinkState) (noted : Noted) (cost : ℕ) : Type 0 where
  pub by : ComesBy start all event c link noted cost
  pub stands : StandsAt by.before at

-- The link broke; the end of what was to be written may be lost, where a write failed.
pub record BreaksLink (start : Start) (all : List Happening) (c : Client) (link : LinkState) (noted : Noted) (cost : ℕ) : Type 0 where
  pub now : List Happening
  pub lost : List ℕ
  pub on : OnLink start now (spot c lost link noted cost)
  pub same : Same all now
  pub broke : Broke on.began now lost link

-- A frame that is none that may come is next, and begins at this place.
pub record MeetsBad (start : Start) (all : List Happening) (at : ℕ) (c : Client) (link : LinkState) (noted : Noted) (cost : ℕ) : Type 0 where
  pub goes_on : GoesOn start all c link noted cost
  pub place : at ≡ c.held.place
  pub bad : IsBadNext c

-- As much was spent as may be, once all whole frames that came were taken.
pub record Spends (start : Start) (turns : ℕ) (all : List Happening) (c : Client) (link : LinkState) (noted : Noted) (cost : ℕ) : Type 0 where
  pub goes_on : GoesOn start all c link noted cost
  pub unfinished : IsUnfinished c.held.rest
  pub reached : turns ≤ cost

-- by what it is left for
abbrev pub CameOn : Start → ℕ → List Happening → Came → Client → LinkState → Noted → ℕ → Type 0
CameOn start turns all (comes.Told at c block) client link noted cost = ComesTold start all at (events.Told c block) client link noted cost
CameOn start turns all comes.Opened client link noted cost = ComesBy start all events.Ready client link noted cost
CameOn start turns all (comes.Refused c) client link noted cost = ComesBy start all (events.Refused c) client link noted cost
CameOn start turns all (comes.Lost c) client link noted cost = ComesBy start all (events.Lost c) client link noted cost
CameOn start turns all (comes.Bad at) client link noted cost = MeetsBad start all at client link noted cost
CameOn start turns all comes.Broke client link noted cost = BreaksLink start all client link noted cost
CameOn start turns all comes.Spent client link noted cost = Spends start turns all client link noted cost
CameOn start turns all comes.Memory client link noted cost = StaysOn start all client link noted cost
