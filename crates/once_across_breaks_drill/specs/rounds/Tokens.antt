-- The token that a client finds in what its first opening is told (this profile).
use Rattle.std.specs.Prelude.{◌≡◌, ℕ, List, Some, false}
use Rattle.afp_base.specs.declared.code.Code.{Code}
use Rattle.afp_base.specs.declared.code.Code.TheVariants.{Ok}
use Rattle.afp_client.specs.session.Takes.{token_in}
use Rattle.afp_serial.specs.Answer.{answer}
use Rattle.afp_serial.specs.History.{stand}
use Rattle.afp_serial.specs.Household.{Household}
use Rattle.afp_serial.specs.Token.{session_token}
use Rattle.afp_serial.specs.World.{fresh_world}
use Rattle.afp_serial.specs.declared.ask.Told.TheVariants.{Reply}
use Rattle.once_across_breaks.specs.same.Steps.{asks_token, begins, calls_on}

-- The law: FPGetSessionToken of the first opening is told Ok, and the client finds the token of the session 1 in its block.
abbrev pub TokenIsFound : Type 0
TokenIsFound =
    (house : Household) (moment : ℕ) (code : Code) (block : List ℕ)
    → answer (stand (fresh_world house moment) (begins moment)) (calls_on 1 moment 2 asks_token) ≡ Reply code block false
    → (code ≡ Ok) × (token_in block ≡ Some (session_token house.token_key 1))
