-- The token that the client holds, over links that carry lists of frames: whatever others do, and whatever want of memory there is.
use Rattle.std.specs.Prelude.{◌≡◌, ◌<◌, ℕ, List, [], ◌∷◌, Some, None}
use Rattle.afp_serial.specs.Token.{session_token}
use Rattle.afp_serial.specs.World.{World}
use Rattle.once_across_breaks.specs.once.Run.{Event}
use Rattle.once_across_breaks.specs.once.Frames.{Net, net_run, net_start, net_step}
use Rattle.once_across_breaks.specs.once.Serial.{IsSoundUnder, Setup, machine}
use Rattle.once_across_breaks.specs.once.UnderWay.{IsLegal}

-- what others ask is legal where it comes
abbrev pub AllLegal : Setup → Net World → List Event → Type 0
AllLegal u net [] = Unit {0}
AllLegal u net (e ∷ es) = IsLegal (machine u) net.world e × AllLegal u (net_step (machine u) net e) es

-- the token of a session whose number was drawn
pub record IsDrawn (u : Setup) (w : World) (token : List ℕ) : Type 0 where
  pub number : ℕ
  pub below : number < w.next_link
  pub is : token ≡ session_token u.key number

-- A client without a token has no results, and a token that it holds was drawn.
pub record HoldsDrawn (u : Setup) (net : Net World) : Type 0 where
  pub none : net.client.token ≡ None → net.client.results ≡ []
  pub drawn : (token : List ℕ) → net.client.token ≡ Some token → IsDrawn u net.world token

abbrev pub TokensAreDrawn : Type 0
TokensAreDrawn = (u : Setup) (w : World) (events : List Event) → IsSoundUnder u.key w → AllLegal u (net_start w) events → HoldsDrawn u (net_run (machine u) (net_start w) events)
