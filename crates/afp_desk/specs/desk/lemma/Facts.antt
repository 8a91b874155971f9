-- What the code and the proofs go by beside the rest; no public contract cites it.
use Rattle.std.specs.Prelude.{ℕ, ◌+◌, Bool, true, false, List, [], ◌∷◌}
use Rattle.std.proofs.Props.{props}
use Rattle.afp_serial.specs.Shown.{Rising}
use Rattle.afp_desk.specs.declared.desk.view.Stage.{Stage}
use Rattle.afp_desk.specs.declared.desk.view.Stage.TheVariants.{Idle, Waiting, Served}

-- a seat that does nothing
abbrev pub is_idle : Stage → Bool
is_idle Idle = true
is_idle (Waiting t) = false
is_idle (Served t) = false

-- rising places are known in one way
pub Rising-prop : (from : ℕ) (ks : List ℕ) (n : ℕ) → IsProp (Rising from ks n)
Rising-prop from [] n = hlevel props
Rising-prop from (k ∷ ks) n = let rest : IsProp (Rising (k + 1) ks n) = Rising-prop (k + 1) ks n in hlevel (props, rest)
