-- How far a client has come on one link (this profile).
use Rattle.std.specs.Prelude.{◌≡◌, ℕ, ◌+◌, ◌≤◌, ◌<◌, true, List, [], ◌∷◌, ◌++◌, length, Option, IfSome}
use Rattle.afp_outside.specs.ends.Link.{LinkState}
use Rattle.dsi_frame.specs.Stream.{Framed, Spelled}
use Rattle.dsi_session.specs.Pulse.{IsDue, Moments}
use Rattle.dsi_session.specs.declared.pulse.Due.TheVariants as dues
use Rattle.afp_client.specs.declared.session.event.Event.{Event}
use Rattle.afp_client.specs.declared.session.event.Event.TheVariants as events
use Rattle.afp_client.specs.session.State.{Client, ClientState}
use Rattle.afp_client.specs.links.History.{Happening, received, was_quiet, read_last, tickled, limited, asks, took, allowed, events_in, came_in, taken_in, to_write, cost_in, limits_in, now_in, read_in, replied_in, wrote_in, Leads}
use Rattle.afp_client.specs.declared.links.noted.Noted.{Noted}
use Rattle.afp_client.specs.declared.links.talk.Limit.{Limit}

-- where a link begins: the client's state before, what was spent before, how many links in a row had no reply to a command, and the limits that
-- were set before, the oldest first
pub record Start : Type 0 where
  pub state : ClientState
  pub spent : ℕ
  pub idle : ℕ
  pub limits : List Limit

-- where it stands: the client, what it is to write yet, the link, what is noted of it, and what was spent
pub record Spot : Type 0 where
  pub client : Client
  pub out : List ℕ
  pub link : LinkState
  pub noted : Noted
  pub cost : ℕ

abbrev pub spot : Client → List ℕ → LinkState → Noted → ℕ → Spot
spot client out link noted cost = record { client = client; out = out; link = link; noted = noted; cost = cost }

-- Less was spent by then than may be.
abbrev pub Affords : Start → List Happening → Type 0
Affords start all = start.spent + cost_in all < allowed (limits_in start.limits all)

-- The link was dialled, which costs 1, each of its reads was made, and each quiet came, where less was spent than might be; and each limit was set
-- where so much was spent as it says.
abbrev pub Within : Start → List Happening → Type 0
Within start [] = start.spent ≤ allowed start.limits
Within start (received before now bytes ∷ all) = Within start all × Affords start all
Within start (was_quiet before now ∷ all) = Within start all × Affords start all
Within start (read_last before now ∷ all) = Within start all × Affords start all
Within start (tickled ∷ all) = Within start all
Within start (limited l ∷ all) = Within start all × (l.spent ≡ start.spent + cost_in all)
Within start (asks s call ∷ all) = Within start all
Within start (took s f st ∷ all) = Within start all

-- A read is made only where all whole frames that came were taken, and all that stood before it was written, where the link tells that.
pub record MayRead (before : Option (List ℕ)) (all : List Happening) : Type 0 where
  pub left : List ℕ
  pub framed : Framed (came_in all) (taken_in all) left
  pub sent : IfSome before (λ written. written ≡ to_write all)

-- Each read was: one that gave bytes, a quiet, and one that found the end or failed.
abbrev pub EachMayRead : List Happening → Type 0
EachMayRead [] = Unit {0}
EachMayRead (received before now bytes ∷ all) = EachMayRead all × MayRead before all
EachMayRead (was_quiet before now ∷ all) = EachMayRead all × MayRead before all
EachMayRead (read_last before now ∷ all) = EachMayRead all × MayRead before all
EachMayRead (tickled ∷ all) = EachMayRead all
EachMayRead (limited l ∷ all) = EachMayRead all
EachMayRead (asks s call ∷ all) = EachMayRead all
EachMayRead (took s f st ∷ all) = EachMayRead all

-- when the peer was last read from and last written to, on a link that was dialled at this moment
abbrev pub moments_in : ℕ → List Happening → Moments
moments_in began all = record { last_read = read_in began all; last_write = wrote_in began all }

-- A link goes on behind such an event: the server closed no session, refused no opening, and lost none.
abbrev pub KeepsLink : Event → Type 0
KeepsLink events.Closed = ⊥
KeepsLink (events.Refused c) = ⊥
KeepsLink (events.Lost c) = ⊥
KeepsLink event = Unit {0}

-- The link goes on behind this: where a quiet happened last, nothing was due at it; no read was the last; and where a frame was taken last, a link
-- goes on behind it.
abbrev pub Rests : ℕ → List Happening → Type 0
Rests began [] = Unit {0}
Rests began (received before now bytes ∷ all) = Unit {0}
Rests began (was_quiet before now ∷ all) = IsDue (moments_in began all) now dues.Nothing
Rests began (read_last before now ∷ all) = ⊥
Rests began (tickled ∷ all) = Unit {0}
Rests began (limited l ∷ all) = Unit {0}
Rests began (asks s call ∷ all) = Unit {0}
Rests began (took s f st ∷ all) = KeepsLink st.event

-- A quiet happened last, and a Tickle was due at it.
abbrev pub IsTickleDue : ℕ → List Happening → Type 0
IsTickleDue began (was_quiet before now ∷ all) = IsDue (moments_in began all) now dues.Tickle
IsTickleDue began all = ⊥

-- A quiet happened last, and the link was silent at it.
abbrev pub IsSilent : ℕ → List Happening → Type 0
IsSilent began (was_quiet before now ∷ all) = IsDue (moments_in began all) now dues.Silent
IsSilent began all = ⊥

-- A Tickle was written right behind each quiet at which one was due, and nowhere else; and nothing happened behind silence, behind the last read, and
-- behind a frame that ends its link.
abbrev pub Idles : ℕ → List Happening → Type 0
Idles began [] = Unit {0}
Idles began (received before now bytes ∷ all) = Idles began all × Rests began all
Idles began (was_quiet before now ∷ all) = Idles began all × Rests began all
Idles began (read_last before now ∷ all) = Idles began all × Rests began all
Idles began (tickled ∷ all) = Idles began all × IsTickleDue began all
Idles began (limited l ∷ all) = Idles began all × Rests began all
Idles began (asks s call ∷ all) = Idles began all × Rests began all
Idles began (took s f st ∷ all) = Idles began all × Rests began all

-- the moment of the last write, with these bytes, where there are any, written at this one
abbrev pub wrote_with : List ℕ → ℕ → ℕ → ℕ
wrote_with [] now last = last
wrote_with (b ∷ bytes) now last = now

-- This happened on the link, from its first byte on: the frames that were taken begin the bytes that came, and what is behind them is held;
-- and what was written, with what is to be written yet, is what the client's steps write, and its Tickles. It was dialled behind fewer than eight
-- links in a row without a reply to a command, at this moment; nothing was spent from the limit on; each read was made where it may be; and each
-- quiet came to what was due at it.
pub record OnLink (start : Start) (all : List Happening) (at : Spot) : Type 0 where
  pub leads : Leads start.state all at.client.state
  pub told : IfSome at.link.events (λ events. events ≡ events_in all)
  pub filled : List ℕ
  pub spelled : Spelled filled (taken_in all)
  pub came : came_in all ≡ filled ++ at.client.held.rest
  pub place : at.client.held.place ≡ length filled
  pub sent : IfSome at.link.written (λ written. written ++ at.out ≡ to_write all)
  pub replied : at.noted.replied ≡ replied_in all
  pub cost : at.cost ≡ start.spent + cost_in all
  pub below : start.idle < 8
  pub within : Within start all
  pub began : ℕ
  pub moment : at.link.now ≡ now_in began all
  pub last_read : at.link.last_read ≡ read_in began all
  pub last_write : wrote_with at.out at.link.now at.noted.pulse.last_write ≡ wrote_in began all
  pub reads : EachMayRead all
  pub idles : Idles began all

-- The same, where the link goes on.
pub record LiveOn (start : Start) (all : List Happening) (at : Spot) : Type 0 where
  pub on : OnLink start all at
  pub rests : Rests on.began all

-- the last that happened: a read found the end, or failed
abbrev pub IsReadLast : List Happening → Type 0
IsReadLast (read_last before now ∷ all) = Unit {0}
IsReadLast all = ⊥

-- the last that happened: the server's CloseSession was taken
abbrev pub IsClosed : List Happening → Type 0
IsClosed (took s f st ∷ all) = st.event ≡ events.Closed
IsClosed all = ⊥

-- A link that broke, dialled at this moment: it ended, the server closed the session, a read failed, or it was silent at a quiet, and all was
-- written; or a write failed, and the end of what was to be written is lost.
pub data Broke (began : ℕ) (all : List Happening) (lost : List ℕ) (link : LinkState) : Type 0 where
  ended : IsReadLast all → link.ended ≡ true → lost ≡ [] → Broke began all lost link
  closed_by_server : IsClosed all → lost ≡ [] → Broke began all lost link
  failed_read : IsReadLast all → 0 < link.read_faults → lost ≡ [] → Broke began all lost link
  failed_write : 0 < link.write_faults → 0 < length lost → Broke began all lost link
  silent : IsSilent began all → lost ≡ [] → Broke began all lost link
