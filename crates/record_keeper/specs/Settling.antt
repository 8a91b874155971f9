-- What a keeper answered when it was asked to settle (this profile).
use Rattle.std.specs.Prelude.{ℕ, suc, List, [], ◌∷◌, Result, Ok, Err}
use Rattle.record_keeper.specs.declared.keeper.KeeperFault.{KeeperFault}
use Rattle.record_keeper.specs.declared.keeper.KeeperFault.TheVariants.{Failed, Memory}

-- the answers to settles, the oldest first
abbrev pub Answers : Type 0
Answers = List (Result (Unit {0}) KeeperFault)

-- how many settles went well
abbrev pub settled_in : Answers → ℕ
settled_in [] = 0
settled_in (Ok done ∷ answers) = suc (settled_in answers)
settled_in (Err fault ∷ answers) = settled_in answers

-- how many of them failed
abbrev pub failed_in : Answers → ℕ
failed_in [] = 0
failed_in (Ok done ∷ answers) = failed_in answers
failed_in (Err Failed ∷ answers) = suc (failed_in answers)
failed_in (Err Memory ∷ answers) = failed_in answers

-- how many of them found no memory
abbrev pub wanting_in : Answers → ℕ
wanting_in [] = 0
wanting_in (Ok done ∷ answers) = wanting_in answers
wanting_in (Err Failed ∷ answers) = wanting_in answers
wanting_in (Err Memory ∷ answers) = suc (wanting_in answers)
