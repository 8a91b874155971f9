-- What is planned of a volume may be committed to it.
use Rattle.std.proofs.Common.{◌≡◌, subst, ℕ, Option, Some, None}
use Rattle.std.specs.Prelude.{IfOk, IfSome, IsSome, Result, Ok, Err}
use Rattle.volume_edits.specs.edits.Planned.{PlanValue}
use Rattle.volume_edits.specs.plans.Plans.{Plans}
use Rattle.volume_keeper.specs.kept.Commits.{MayCommit}
use Rattle.volume_spec.specs.EditLaws.{volume_call}
use Rattle.volume_spec.specs.TreeSteps.{TreeCall}
use Rattle.volume_spec.specs.VolumeState.{VolumeState}
use Rattle.volume_tree.specs.declared.resolve.PlanFault.{PlanFault}

pub tree_may : (v w : VolumeState) (user now : ℕ) (call : Option TreeCall) (planned : Result PlanValue PlanFault) → w ≡ v → IsSome call → IfOk planned (λ plan. IfSome call (λ c. Plans w user now (volume_call c) plan)) → IfOk planned (MayCommit v)
tree_may v w user now (Some c) (Ok plan) is some plans = subst (λ (x : VolumeState). MayCommit x plan) is (record { may = plans.may; before = plans.before; typed = plans.typed })
tree_may v w user now (Some c) (Err e) is some plans = tt
tree_may v w user now None planned is some plans = absurd (cc some)

pub fork_may : (v w : VolumeState) (planned : Result PlanValue PlanFault) → w ≡ v → IfOk planned (MayCommit w) → IfOk planned (MayCommit v)
fork_may v w planned is may = subst (λ (x : VolumeState). IfOk planned (MayCommit x)) is may
