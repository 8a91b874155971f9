use Rattle.std.proofs.Common.{◌∙◌, sym, subst}
use Rattle.deny_modes.specs.lemma.Counters.{IsTallied}
use Rattle.deny_modes.proofs.Counting.{nothing_gone, gone_shows, gone_there, no_tally_is_wrong, has_open, last_gone, one_gone, put_over}
use Rattle.sorted_map.specs.map.Entries.{at}
use Rattle.deny_modes.specs.lemma.ForkOrder.{fork_cmp}
use Rattle.deny_modes.proofs.opens.Opens.forget.Goals as goal

pub invariant_of-self : goal.invariant_of-self
invariant_of-self c = subst (λ l. IsTallied l c.self.inside.tallies) (sym (nothing_gone c.self.inside.rows c.args.r.0 c.in_default.ensures.value c.remove.ensures.entries)) c.self.invariant

pub returns-in_default : goal.returns-in_default
returns-in_default c = gone_shows c.self.inside.rows c.args.r.0 c.remove.ensures.was_sorted c.self.view_is c.remove.ensures.entries

pub invariant_of-self-in_default-get : goal.invariant_of-self-in_default-get
invariant_of-self-in_default-get c = absurd (no_tally_is_wrong (record { was = c.self.invariant; rise = c.remove.ensures.was_sorted; found = c.in-Some.ensures.value; new_rows = c.remove.ensures.entries; absent = c.remove.ensures.updates c.args.r.0 ∙ gone_there c.args.r.0 _ }) c.in_default-get.ensures)

pub returns-in_default-get : goal.returns-in_default-get
returns-in_default-get c = gone_shows c.self.inside.rows c.args.r.0 c.remove.ensures.was_sorted c.self.view_is c.remove.ensures.entries

pub without_one-left-requires : goal.without_one-left-requires
without_one-left-requires c = has_open (record { was = c.self.invariant; rise = c.remove.ensures.was_sorted; found = c.in-Some.ensures.value; new_rows = c.remove.ensures.entries; absent = c.remove.ensures.updates c.args.r.0 ∙ gone_there c.args.r.0 _ }) c.in-Some-get.tally.now c.in-Some-get.ensures

pub invariant_of-self-then-left-eq0 : goal.invariant_of-self-then-left-eq0
invariant_of-self-then-left-eq0 c = last_gone (record { was = c.self.invariant; rise = c.remove.ensures.was_sorted; found = c.in-Some.ensures.value; new_rows = c.remove.ensures.entries; absent = c.remove.ensures.updates c.args.r.0 ∙ gone_there c.args.r.0 _ }) c.in-Some-get.tally.now c.without_one-left.result c.in-Some-get.ensures c.without_one-left.ensures c.if-left-eq0.true c.remove-then-left-eq0.ensures.updates

pub invariant_of-self-else-left-eq0 : goal.invariant_of-self-else-left-eq0
invariant_of-self-else-left-eq0 c = one_gone (record { was = c.self.invariant; rise = c.remove.ensures.was_sorted; found = c.in-Some.ensures.value; new_rows = c.remove.ensures.entries; absent = c.remove.ensures.updates c.args.r.0 ∙ gone_there c.args.r.0 _ }) c.in-Some-get.tally.now c.without_one-left.result c.in-Some-get.ensures c.without_one-left.ensures c.if-left-eq0.false (put_over _ c.insert.result c.in-Some-get.tally.now (at fork_cmp c.self.inside.tallies c.in-Some.opened.fork) c.in-Some-get.ensures c.insert.ensures.absent c.insert.ensures.updates)

pub returns-then-left-eq0 : goal.returns-then-left-eq0
returns-then-left-eq0 c = gone_shows c.self.inside.rows c.args.r.0 c.remove.ensures.was_sorted c.self.view_is c.remove.ensures.entries

pub returns-else-left-eq0 : goal.returns-else-left-eq0
returns-else-left-eq0 c = gone_shows c.self.inside.rows c.args.r.0 c.remove.ensures.was_sorted c.self.view_is c.remove.ensures.entries
