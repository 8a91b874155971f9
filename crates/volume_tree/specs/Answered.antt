-- What answers say that may also be want of memory, or that no node was found.
use Rattle.std.specs.Prelude.{◌≡◌, ℕ, Option, Some, None, Result, Ok, Err}
use Rattle.afp_base.specs.declared.code.Code.{Code}
use Rattle.afp_base.specs.declared.ids.NodeId.{NodeId}
use Rattle.volume_tree.specs.declared.resolve.PlanFault.{PlanFault}
use Rattle.volume_tree.specs.declared.resolve.PlanFault.TheVariants as fault

-- the node, or the code, is the one that is wanted; or there was no memory
abbrev pub Answers : Result NodeId PlanFault → Result ℕ Code → Type 0
Answers (Ok id) wanted = wanted ≡ Ok id.0
Answers (Err (fault.Code code)) wanted = wanted ≡ Err code
Answers (Err fault.Memory) wanted = Unit {0}

-- what was planned stands where nothing is refused; else the code is the one that is refused, or there was no memory
abbrev pub Refuses : {A : Type 0} → Result A PlanFault → Option Code → Type 0
Refuses (Ok planned) refused = refused ≡ None
Refuses (Err (fault.Code code)) refused = refused ≡ Some code
Refuses (Err fault.Memory) refused = Unit {0}

-- where an answer is a code, that is what was wanted
abbrev pub FailsAs : {A B : Type 0} → Result A PlanFault → Result B Code → Type 0
FailsAs (Ok at_end) wanted = Unit {0}
FailsAs (Err (fault.Code code)) wanted = wanted ≡ Err code
FailsAs (Err fault.Memory) wanted = Unit {0}

-- the node that was found, if one was, is the one that is wanted
abbrev pub IsFoundNode : Option NodeId → Option ℕ → Type 0
IsFoundNode None wanted = wanted ≡ None
IsFoundNode (Some id) wanted = wanted ≡ Some id.0
