use Rattle.std.proofs.Common.{◌∙◌, ap, filter, not}
use Rattle.range_locks.specs.Locks.{are_one_row, is_fork_lock}
use Rattle.range_locks.proofs.Keeping.{taken_rows, lock_alike, lost_kept, one_taken, is_there}
use Rattle.range_locks.proofs.locks.Locks.unlock.Goals as goal

pub invariant_of-self : goal.invariant_of-self
invariant_of-self c =
    lost_kept (record { was = c.self.invariant; new_list = one_taken c.args.fork.now c.args.r.0 c.args.range c.in-Some.place c.self.invariant c.as_slice.ensures.value c.in-Some.ensures c.remove.ensures.items; new_rows = taken_rows c.self.inside.forks c.take_row.new.forks c.args.fork.now (λ x. not (are_one_row (record { range = c.args.range; reference = c.args.r }) x)) c.take_row.ensures; alike = λ q l on. lock_alike c.args.fork.now (record { range = c.args.range; reference = c.args.r }) q l on })

pub returns : goal.returns
returns c = (
  is_there c.args.fork.now c.args.r.0 c.args.range c.in-Some.place (c.as_slice.ensures.value ∙ c.self.view_is) c.in-Some.ensures,
  one_taken c.args.fork.now c.args.r.0 c.args.range c.in-Some.place c.self.invariant c.as_slice.ensures.value c.in-Some.ensures c.remove.ensures.items ∙ ap (filter (λ l. not (is_fork_lock c.args.fork.now c.args.r.0 c.args.range l))) c.self.view_is,
)
