-- the links still to come, without the first
use Rattle.std.proofs.Common.{◌≡◌, List, ◌∷◌, All, suc, subst, arith}
use Rattle.afp_outside.specs.ends.Tape.{Tape, IsFreshTape}

pub later : (x : Tape) (xs ys : List Tape) → ys ≡ x ∷ xs → All IsFreshTape ys → All IsFreshTape xs
later x xs ys e all =
    let whole : All IsFreshTape (x ∷ xs) = subst (λ zs. All IsFreshTape zs) e all in
    λ k d h. whole (suc k) d (omega arith)
