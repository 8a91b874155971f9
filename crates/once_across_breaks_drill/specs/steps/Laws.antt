-- The law of drills (this profile).
use Rattle.std.specs.Prelude.{ℕ, ◌≤◌}
use Rattle.capture_made.specs.requests.Requests.{most_steps}
use Rattle.once_across_breaks.specs.same.Laws.{BreaksChangeNothing}
use Rattle.once_across_breaks_drill.specs.steps.Drilling.{drill_steps, first_world, token}

-- breaks change nothing in a drill
abbrev pub DrillsAreUndisturbed : Type 0
DrillsAreUndisturbed = (number count : ℕ) → count ≤ most_steps → BreaksChangeNothing first_world token 1 (drill_steps number count)
