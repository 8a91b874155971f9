use Rattle.std.proofs.Common.{◌≤◌, ◌∙◌, ◌+◌, ◌*◌, ap, sym, subst, length, nat_cmp}
use Rattle.afp_base.specs.ForkBytes.{splice}
use Rattle.afp_base.specs.Limits.{most_fork_bytes}
use Rattle.fork_bytes.specs.Plan.{IsForkPlan as IsForkPlan}
use Rattle.sorted_map.specs.map.Entries.{at}
use Rattle.volume_spec.specs.VolumeState.{VolumeState}
use Rattle.volume_tree.proofs.Filling.{after, ends-within, file, filled-kept, filled-state, plan-is}
use Rattle.volume_tree.specs.Filled.{FitsFork, filled}
use Rattle.volume_tree.specs.lemma.ForkEffect.{kept_fork}
use Rattle.volume_tree.specs.Kept.{state_of}
use Rattle.volume_tree.specs.Shown.{TreeValue}
use Rattle.volume_tree.proofs.volume.Volume.fill.Goals as goal

pub plan_fill-requires-clause-there : goal.plan_fill-requires-clause-there
plan_fill-requires-clause-there c =
    let state : VolumeState = state_of c.self.inside.name c.self.inside.dates c.self.inside.rows c.self.inside.forks in
    let fits : FitsFork state c.args.id.0 c.args.resource c.args.index c.args.block.now = subst (λ (v : TreeValue). FitsFork v.state c.args.id.0 c.args.resource c.args.index c.args.block.now) (sym c.self.view_is) c.requires in
    (file c.self.inside.name c.self.inside.dates c.self.inside.rows c.self.inside.forks c.self.inside.used c.args.id c.args.resource c.args.index c.args.block.now c.self.invariant fits).kept

pub plan_fill-requires-clause-fits : goal.plan_fill-requires-clause-fits
plan_fill-requires-clause-fits c =
    let state : VolumeState = state_of c.self.inside.name c.self.inside.dates c.self.inside.rows c.self.inside.forks in
    let fits : FitsFork state c.args.id.0 c.args.resource c.args.index c.args.block.now = subst (λ (v : TreeValue). FitsFork v.state c.args.id.0 c.args.resource c.args.index c.args.block.now) (sym c.self.view_is) c.requires in
    subst (λ n. 4096 * n + length c.args.block.now ≤ most_fork_bytes) (sym c.from.ensures) (ends-within c.self.inside.name c.self.inside.dates c.self.inside.rows c.self.inside.forks c.self.inside.used c.args.id c.args.resource c.args.index c.args.block.now c.self.invariant fits)

pub change_fork-requires-clause-there : goal.change_fork-requires-clause-there
change_fork-requires-clause-there c =
    let state : VolumeState = state_of c.self.inside.name c.self.inside.dates c.self.inside.rows c.self.inside.forks in
    let fits : FitsFork state c.args.id.0 c.args.resource c.args.index c.args.block.now = subst (λ (v : TreeValue). FitsFork v.state c.args.id.0 c.args.resource c.args.index c.args.block.now) (sym c.self.view_is) c.requires in
    (file c.self.inside.name c.self.inside.dates c.self.inside.rows c.self.inside.forks c.self.inside.used c.args.id c.args.resource c.args.index c.args.block.now c.self.invariant fits).kept

pub invariant_of-self : goal.invariant_of-self
invariant_of-self c =
    let state : VolumeState = state_of c.self.inside.name c.self.inside.dates c.self.inside.rows c.self.inside.forks in
    let fits : FitsFork state c.args.id.0 c.args.resource c.args.index c.args.block.now = subst (λ (v : TreeValue). FitsFork v.state c.args.id.0 c.args.resource c.args.index c.args.block.now) (sym c.self.view_is) c.requires in
    let plan = plan-is c.self.inside.name c.self.inside.dates c.self.inside.rows c.self.inside.forks c.self.inside.used c.args.id c.args.resource c.args.index c.args.block.now c.self.invariant fits c.in_ok-plan.plan (subst (λ n. IsForkPlan (kept_fork c.args.resource (at nat_cmp c.self.inside.forks c.args.id.0)) (splice (kept_fork c.args.resource (at nat_cmp c.self.inside.forks c.args.id.0)) (4096 * n) c.args.block.now) c.in_ok-plan.plan) c.from.ensures c.in_ok-plan.ensures) in
    let changed = c.change_fork.ensures.changed (after c.self.inside.name c.self.inside.dates c.self.inside.rows c.self.inside.forks c.self.inside.used c.args.id c.args.resource c.args.index c.args.block.now c.self.invariant fits) plan in
    filled-kept c.self.inside.name c.self.inside.dates c.self.inside.rows c.self.inside.forks c.self.inside.used c.args.id c.args.resource c.args.index c.args.block.now c.self.invariant fits c.splice_puts_between.ensures.reaches c.change_fork.new.forks c.change_fork.ensures.others changed

pub returns-clause-ok : goal.returns-clause-ok
returns-clause-ok c =
    let state : VolumeState = state_of c.self.inside.name c.self.inside.dates c.self.inside.rows c.self.inside.forks in
    let fits : FitsFork state c.args.id.0 c.args.resource c.args.index c.args.block.now = subst (λ (v : TreeValue). FitsFork v.state c.args.id.0 c.args.resource c.args.index c.args.block.now) (sym c.self.view_is) c.requires in
    let plan = plan-is c.self.inside.name c.self.inside.dates c.self.inside.rows c.self.inside.forks c.self.inside.used c.args.id c.args.resource c.args.index c.args.block.now c.self.invariant fits c.in_ok-plan.plan (subst (λ n. IsForkPlan (kept_fork c.args.resource (at nat_cmp c.self.inside.forks c.args.id.0)) (splice (kept_fork c.args.resource (at nat_cmp c.self.inside.forks c.args.id.0)) (4096 * n) c.args.block.now) c.in_ok-plan.plan) c.from.ensures c.in_ok-plan.ensures) in
    let changed = c.change_fork.ensures.changed (after c.self.inside.name c.self.inside.dates c.self.inside.rows c.self.inside.forks c.self.inside.used c.args.id c.args.resource c.args.index c.args.block.now c.self.invariant fits) plan in
    filled-state c.self.inside.name c.self.inside.dates c.self.inside.rows c.self.inside.forks c.self.inside.used c.args.id c.args.resource c.args.index c.args.block.now c.self.invariant fits c.splice_puts_between.ensures.reaches c.change_fork.new.forks c.change_fork.ensures.others changed
    ∙ ap (λ (v : TreeValue). filled c.args.id.0 c.args.resource c.args.index c.args.block.now v.state) c.self.view_is
