-- DSICloseSession (AFP over TCP).
use Rattle.std.specs.Prelude.{◌≡◌, ℕ, List, [], ◌∷◌, Some, None}
use Rattle.afp_base.specs.declared.ids.LinkNumber.{LinkNumber}
use Rattle.afp_serial.specs.declared.ask.Ask.TheVariants as ask
use Rattle.afp_serial.specs.declared.ask.Told.{Told}
use Rattle.afp_serial.specs.Went.{Step, step}
use Rattle.afp_server.specs.link.Did.{Did}
use Rattle.afp_server.specs.declared.link.stage.Stage.TheVariants as stages
use Rattle.afp_server.specs.declared.link.stage.FrameEnd.TheVariants as ends

-- the link ends with no reply
abbrev pub closes : List Step → Did
closes steps = record { steps = steps; reply = None; stage = stages.Closing; end = Some ends.Closed }

-- An open session is closed by a Bye, whatever that is told.
pub record ClosesSession (now : ℕ) (link : LinkNumber) (did : Did) : Type 0 where
  pub answer : Told
  pub is : did ≡ closes (step now link ask.Bye answer ∷ [])
