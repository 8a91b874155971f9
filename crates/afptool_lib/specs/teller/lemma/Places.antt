-- The places of a list, as two crates write them.
use Rattle.std.specs.Prelude.{◌≡◌, ℕ, zero, suc, List, [], ◌∷◌, ◌++◌}
use Rattle.std.proofs.Common.{refl, ap}
use Rattle.afp_core.specs.turns.Places.{upto}
use Rattle.capture_log_server.specs.Sole.{places_below}

pub same-places : (n : ℕ) → upto n ≡ places_below n
same-places zero = refl
same-places (suc n) = ap (λ (l : List ℕ). l ++ n ∷ []) (same-places n)
