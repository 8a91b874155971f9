-- What went through a gate (this profile).
use Rattle.std.specs.Prelude.{List, [], ◌∷◌, ◌++◌, Option, Some, None}
use Rattle.afp_base.specs.declared.ids.LinkNumber.{LinkNumber}

-- The links whose calls entered, and those whose calls left, each in order.
pub record Passed : Type 0 where
  pub entered : List LinkNumber
  pub exited : List LinkNumber

abbrev pub none_passed : Passed
none_passed = record { entered = []; exited = [] }

-- A call of a link entered, or none did.
abbrev pub with_entered : Passed → Option LinkNumber → Passed
with_entered p None = p
with_entered p (Some link) = record { entered = p.entered ++ link ∷ []; exited = p.exited }

-- A call of a link left, or none did.
abbrev pub with_exited : Passed → Option LinkNumber → Passed
with_exited p None = p
with_exited p (Some link) = record { entered = p.entered; exited = p.exited ++ link ∷ [] }
