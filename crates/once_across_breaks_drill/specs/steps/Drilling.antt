-- A drill: which steps its client makes, by a number (this profile).
use Rattle.std.specs.Prelude.{ℕ, zero, suc, ◌+◌, ◌%◌, ◌==◌, if◌then◌else◌, List, [], ◌∷◌, ◌++◌, replicate, codes, map}
use Rattle.dsi_session.specs.RequestIds.{id_after}
use Rattle.afp_serial.specs.Answer.{answer}
use Rattle.afp_serial.specs.History.{stand}
use Rattle.afp_serial.specs.Household.{Household, household}
use Rattle.afp_serial.specs.Token.{session_token}
use Rattle.afp_serial.specs.World.{World, fresh_world}
use Rattle.afp_serial.specs.declared.ask.Told.{Told}
use Rattle.capture_made.specs.requests.Drawing.{drawn, next_state, number_of, state_after}
use Rattle.capture_made.specs.requests.Requests.{call_of, first_moment, open_volume}
use Rattle.once_across_breaks.specs.same.Laws.{opened_world}
use Rattle.once_across_breaks.specs.declared.same.breaks.Break.{Break}
use Rattle.once_across_breaks.specs.declared.same.breaks.Break.TheVariants.{Before, Behind, Never}
use Rattle.once_across_breaks.specs.same.Steps.{Step, asks_token, begins, calls_on, results, unbroken}

-- the house: no user, and one volume; its signature is that of the examples, and its key has only zeros
abbrev pub house : Household
house = household (codes "Mac") (0x00 ∷ 0x01 ∷ 0x02 ∷ 0x03 ∷ 0x04 ∷ 0x05 ∷ 0x06 ∷ 0x07 ∷ 0x08 ∷ 0x09 ∷ 0x0a ∷ 0x0b ∷ 0x0c ∷ 0x0d ∷ 0x0e ∷ 0x0f ∷ []) [] (codes "Share" ∷ []) [] (replicate 32 0)

-- where a step's link breaks, by the number that is drawn for it, less whole fours
abbrev pub break_of : ℕ → Break
break_of r = if r == 0 then Before else (if r == 1 then Behind else Never)

-- Where the steps have come: the state of the generator, the next id, and how many steps there were.
pub record Drawn : Type 0 where
  pub state : ℕ
  pub id : ℕ
  pub made : ℕ

-- the next step: the number of the break is drawn before the four of a made capture's step, of which the first is not used
abbrev pub next_step : Drawn → Step
next_step d = record {
  moment = first_moment + (d.made + 1);
  id = d.id;
  call = call_of ((drawn (next_state d.state)).o % 8) (drawn (next_state d.state)).a (drawn (next_state d.state)).b;
  breaks = break_of (number_of (next_state d.state) % 4);
}

-- behind it
abbrev pub drawn_after : Drawn → Drawn
drawn_after d = record { state = state_after (next_state d.state); id = id_after d.id; made = d.made + 1 }

-- so many steps
abbrev pub steps_from : Drawn → ℕ → List Step
steps_from d zero = []
steps_from d (suc count) = next_step d ∷ steps_from (drawn_after d) count

-- before the first step: the client has used four ids
abbrev pub first_drawn : ℕ → Drawn
first_drawn number = record { state = number; id = 4; made = 0 }

-- the steps of a drill
abbrev pub drill_steps : ℕ → ℕ → List Step
drill_steps number count = steps_from (first_drawn number) count

-- the world behind the opening, and behind FPOpenVol of the volume
abbrev pub first_world : World
first_world = opened_world house first_moment 0x20 (codes "Share")

-- what a client is told of FPOpenVol in its opening
abbrev pub told_opening : Household → ℕ → Told
told_opening h moment = answer (stand (fresh_world h moment) (begins moment ++ calls_on 1 moment 2 asks_token ∷ [])) (calls_on 1 moment 3 open_volume)

abbrev pub token : List ℕ
token = session_token house.token_key 1

-- what it is told of that FPOpenVol
abbrev pub volume_told : Told
volume_told = told_opening house first_moment

-- its next id behind so many steps
abbrev pub id_behind : ℕ → ℕ → ℕ
id_behind id zero = id
id_behind id (suc count) = id_behind (id_after id) count

-- what the client is told of its steps' calls; and what it is told of them where no link breaks
abbrev pub drilled : ℕ → ℕ → List Told
drilled number count = results first_world token 1 (drill_steps number count)

abbrev pub undisturbed : ℕ → ℕ → List Told
undisturbed number count = results first_world token 1 (map unbroken (drill_steps number count))
