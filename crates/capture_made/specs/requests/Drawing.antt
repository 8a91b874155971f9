-- Numbers that are drawn (this profile).
use Rattle.std.specs.Prelude.{ℕ, ◌+◌, ◌*◌, ◌/◌, ◌%◌, ◌^◌}

-- the state of a generator behind this one
unfoldable pub next_state : ℕ → ℕ
next_state state = (state * 6364136223846793005 + 1442695040888963407) % 2 ^ 64

-- the number that is drawn with a state
abbrev pub number_of : ℕ → ℕ
number_of state = state / 2 ^ 33

-- The four numbers of a step, in the order in which they are drawn.
pub record Draws : Type 0 where
  pub c : ℕ
  pub o : ℕ
  pub a : ℕ
  pub b : ℕ

abbrev pub drawn : ℕ → Draws
drawn state = record {
  c = number_of (next_state state);
  o = number_of (next_state (next_state state));
  a = number_of (next_state (next_state (next_state state)));
  b = number_of (next_state (next_state (next_state (next_state state))));
}

-- the state behind them
abbrev pub state_after : ℕ → ℕ
state_after state = next_state (next_state (next_state (next_state state)))
