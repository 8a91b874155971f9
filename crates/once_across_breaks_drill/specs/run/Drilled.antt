-- What a drill comes to (this profile).
use Rattle.std.specs.Prelude.{◌≡◌, ℕ, ◌+◌, suc, true, count_by, not, codes, List, ◌∷◌, ◌++◌, drop, map, Some, None}
use Rattle.afp_base.specs.Cached.{Answer}
use Rattle.afp_client.specs.session.State.{ClientState}
use Rattle.afp_client.specs.declared.session.stage.Stage.TheVariants.{Ready}
use Rattle.afp_serial.specs.History.{opened_in}
use Rattle.afp_serial.specs.Shown.{Shown}
use Rattle.afp_serial.specs.World.{fresh_world}
use Rattle.afp_serial.specs.declared.ask.Told.{Told}
use Rattle.capture_made.specs.requests.Requests.{first_moment}
use Rattle.once_across_breaks.specs.same.Steps.{all_asks, back_in, breaks_in, is_ok, opens}
use Rattle.once_across_breaks_drill.specs.rounds.Linked.{as_told}
use Rattle.once_across_breaks_drill.specs.steps.Drilling.{drill_steps, house, id_behind, token, undisturbed, volume_told}
use Rattle.once_across_breaks_drill.specs.declared.run.drilling.Drilled.{Drilled}

-- the client behind so many steps: it has no name, its link is opened, it has the token of its session, and no request waits
abbrev pub client_behind : ℕ → ClientState
client_behind steps = record { login = record { user = None }; stage = Ready; token = Some token; waiting = None; next_id = id_behind 4 steps }

-- what is told in the results behind the first, which is that of FPOpenVol
abbrev pub steps_told : List Answer → List Told
steps_told results = drop 1 (map as_told results)

-- The client, its results, their counts, and what its server was asked. The results are what is told of FPOpenVol, and of the same steps where no link
-- breaks; those behind the first are counted. Each link that breaks opens one session again, which is taken up.
pub record IsDrilled {T F : Type 0} (number steps : ℕ) (d : Drilled T F) (t : Shown) : Type 0 where
  pub client : d.run.client.state ≡ client_behind steps
  pub results : map as_told d.run.results.items ≡ volume_told ∷ undisturbed number steps
  pub answered : d.run.answered ≡ true
  pub commands : d.commands ≡ steps
  pub breaks : d.breaks ≡ breaks_in (drill_steps number steps)
  pub ok : d.ok ≡ count_by is_ok (undisturbed number steps)
  pub refused : d.refused ≡ count_by (λ told. not (is_ok told)) (undisturbed number steps)
  pub ok_of : d.ok ≡ count_by is_ok (steps_told d.run.results.items)
  pub refused_of : d.refused ≡ count_by (λ told. not (is_ok told)) (steps_told d.run.results.items)
  pub all : d.ok + d.refused ≡ steps
  pub start : t.start ≡ fresh_world house first_moment
  pub history : t.history ≡ opens first_moment 0x20 (codes "Share") ++ all_asks token 1 (drill_steps number steps)
  pub opened : opened_in t.start t.history ≡ suc d.breaks
  pub back : back_in t.start t.history ≡ d.breaks
