-- That all that is under way fits its link, over links that carry lists of frames (this profile).
use Rattle.std.specs.Prelude.{◌≡◌, ℕ, ◌+◌, ◌<◌, ◌≤◌, true, List, [], ◌∷◌, Option, Some, None}
use Rattle.afp_serial.specs.World.{World}
use Rattle.dsi_frame.specs.Frame.{IsGood}
use Rattle.once_across_breaks.specs.once.Messages.{Answer}
use Rattle.once_across_breaks.specs.once.Fits.{IsId, fits_token}
use Rattle.once_across_breaks.specs.once.Server.{Machine, numbers_end}
use Rattle.once_across_breaks.specs.once.Run.{Breaks, Client, Commands, Drains, Ends, Entering, Event, Gone, Joining, Loses, Opening, Others, Quiet, Ready, Request, Stage, ToClient, ToServer, Wait}
use Rattle.once_across_breaks.specs.once.Frames.{Carrier, Heard, Net, heard, net_start, net_step}
use Rattle.once_across_breaks.specs.once.Bytes.{FitsReplyTo, FitsRequest, own_id}
use Rattle.once_across_breaks.specs.once.Dsi.{reply_frame}
use Rattle.once_across_breaks.specs.once.Serial.{IsSoundUnder, Setup, machine}

-- an opening takes few ids: three requests, each of them four times at most
abbrev pub FewAt : Stage → ℕ → ℕ → Type 0
FewAt Opening tries id = (tries ≤ 3) × (id ≤ tries)
FewAt Entering tries id = (tries ≤ 3) × (id ≤ 4 + tries)
FewAt Joining tries id = (tries ≤ 3) × (id ≤ 8 + tries)
FewAt Ready tries id = Unit {0}
FewAt Gone tries id = Unit {0}

abbrev pub WaitFits : Option Wait → Type 0
WaitFits None = Unit {0}
WaitFits (Some w) = IsId w.id

-- a token that a request can carry
abbrev pub TokenFits : Option (List ℕ) → Type 0
TokenFits None = Unit {0}
TokenFits (Some token) = fits_token token ≡ true

pub record ClientFits (c : Client) : Type 0 where
  pub few : FewAt c.stage c.tries c.opening_id
  pub wait : WaitFits c.wait

abbrev pub AllFit : List Request → Type 0
AllFit [] = Unit {0}
AllFit (r ∷ rs) = FitsRequest r × AllFit rs

-- their ids, in an opening with that last id
abbrev pub AllIds : ℕ → List Request → Type 0
AllIds last [] = Unit {0}
AllIds last (r ∷ rs) = IsId (own_id last r) × AllIds last rs

abbrev pub AllDown : List (Request × Answer) → Type 0
AllDown [] = Unit {0}
AllDown (x ∷ xs) = FitsReplyTo (heard x.0) x.1 × AllDown xs

-- a number that is drawn is in its range, and is not 0
abbrev pub NumberFits : Option ℕ → Type 0
NumberFits None = Unit {0}
NumberFits (Some link) = (1 ≤ link) × (link < numbers_end)

pub record LinkFits (c : Carrier) : Type 0 where
  pub number : NumberFits c.end.number
  pub up : AllFit c.up
  pub down : AllDown c.down

-- the client, and all that is under way, fits; and the world is sound
pub record NetFits {W : Type 0} (Sound : W → Type 0) (net : Net W) : Type 0 where
  pub sound : Sound net.world
  pub client : ClientFits net.client
  pub each : (i : ℕ) → LinkFits (net.links i)

-- what others ask is legal
abbrev pub IsLegal : {W : Type 0} → Machine W → W → Event → Type 0
IsLegal s w (Others e) = s.is_legal w e ≡ true
IsLegal s w (Commands call) = Unit {0}
IsLegal s w (ToServer i moment wish) = Unit {0}
IsLegal s w ToClient = Unit {0}
IsLegal s w (Quiet i moment wish) = Unit {0}
IsLegal s w (Loses i moment wish) = Unit {0}
IsLegal s w (Drains i moment wish) = Unit {0}
IsLegal s w (Ends i) = Unit {0}
IsLegal s w Breaks = Unit {0}

-- The laws: so it is where the client begins its first link, and each event keeps it so, where the token fits that the client holds.
abbrev pub StartsFitting : Type 0
StartsFitting = (u : Setup) (w : World) → IsSoundUnder u.key w → NetFits (IsSoundUnder u.key) (net_start w)

abbrev pub EventsKeepFitting : Type 0
EventsKeepFitting =
    (u : Setup) (net : Net World) (e : Event)
    → TokenFits net.client.token
    → IsLegal (machine u) net.world e
    → NetFits (IsSoundUnder u.key) net
    → NetFits (IsSoundUnder u.key) (net_step (machine u) net e)

-- and the frames of replies that fit are good
abbrev pub RepliesAreGood : Type 0
RepliesAreGood = (u : Setup) (last : ℕ) (h : Heard) (a : Answer) → IsId last → FitsReplyTo h a → IsGood (reply_frame u (last, h) a)
