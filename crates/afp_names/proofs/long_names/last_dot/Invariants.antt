use Rattle.std.proofs.Common.{◌≡◌, ℕ, ◌<◌, get_or, MatchOption}
use Rattle.afp_names.proofs.long_names.last_dot.Given as goal

abbrev pub invariant-loop-i : goal.invariant-loop-i
invariant-loop-i l =
    MatchOption l.dot ((k : ℕ) → k < l.i → get_or l.text k 0 ≡ 46 → ⊥) (λ dot. (dot < l.i) × (get_or l.text dot 0 ≡ 46) × ((k : ℕ) → dot < k → k < l.i → get_or l.text k 0 ≡ 46 → ⊥))
