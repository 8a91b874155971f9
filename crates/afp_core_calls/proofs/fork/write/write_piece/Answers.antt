use Rattle.std.proofs.Common.{◌≡◌, ◌∙◌, length, nat_lt, sym, subst, to_z-of_z}
use Rattle.afp_base.specs.ForkBytes.{splice}
use Rattle.afp_serial.specs.ForkBytes.{is_from_end, start_in}
use Rattle.afp_serial.specs.OnFork.{bytes_of}
use Rattle.volume_spec.specs.ForkEffect.{fork_of}
use Rattle.afp_core_calls.specs.fork.lemma.OnForkBytes.{IsFew, IsPlace, write_asked}
use Rattle.afp_core_state.specs.OnForks.{IsFork}
use Rattle.afp_core_calls.proofs.OfFork.ForkBytesLemmas.{node-there}
use Rattle.afp_core_calls.proofs.OfFork.ForkWriteLemmas.{place-told, write-no_place, write-none, write-refused, write-runs}
use Rattle.afp_core_calls.proofs.OfFork.OnForkLemmas.{own-plans}
use Rattle.afp_core_state.proofs.PlannedRows.{commits-at}
use Rattle.afp_core_calls.proofs.fork.write.write_piece.Goals as goal

pub returns-in_default : goal.returns-in_default
returns-in_default g c = λ call count row_is goes counted small.
    write-none c.args.state.now c.args.session.0 call c.args.reference.0 c.args.wide (write_asked c.args.flag c.args.offset count c.args.piece.now) row_is goes _
    (subst (IsFork c.args.state.now c.args.session.0 c.args.reference.0) c.in_default.is c.fork_at.ensures) c.refused.ensures

pub returns-in_default-start_on : goal.returns-in_default-start_on
returns-in_default-start_on g c = λ call count row_is goes counted small.
    let k = c.args.state.now in
    let stands = c.in-Some.ensures in
    let there = node-there k c.args.session.0 c.args.reference.0 c.in-Some.own stands c.kept_at-kept.result.now.state c.kept_at-kept.ensures in
    write-no_place k c.args.session.0 call c.args.reference.0 c.args.wide (write_asked c.args.flag c.args.offset count c.args.piece.now) row_is goes c.in-Some.own stands counted _
    (subst (IsPlace (start_in (bytes_of stands.file) (is_from_end c.args.flag) c.args.offset)) c.in_default-start_on.is
    (place-told stands.file c.in-Some.own.fork c.args.flag c.args.offset c.is_from_end.result c.start_on.result stands.fork_is c.is_from_end.ensures
    (simp (to_z-of_z, c.ranges.offset) at (c.start_on.ensures.place stands.file.file there)))) c.refused-in_default-start_on.ensures

pub returns-in-Some-write_refused : goal.returns-in-Some-write_refused
returns-in-Some-write_refused g c = λ call count row_is goes counted small.
    let k = c.args.state.now in
    let stands = c.in-Some.ensures in
    let there = node-there k c.args.session.0 c.args.reference.0 c.in-Some.own stands c.kept_at-kept.result.now.state c.kept_at-kept.ensures in
    write-refused k c.args.session.0 call c.args.reference.0 c.args.wide (write_asked c.args.flag c.args.offset count c.args.piece.now) row_is goes c.in-Some.own stands counted c.in-Some-start_on.start c.in-Some-write_refused.code _
    (subst (IsPlace (start_in (bytes_of stands.file) (is_from_end c.args.flag) c.args.offset)) c.in-Some-start_on.is
    (place-told stands.file c.in-Some.own.fork c.args.flag c.args.offset c.is_from_end.result c.start_on.result stands.fork_is c.is_from_end.ensures
    (simp (to_z-of_z, c.ranges.offset) at (c.start_on.ensures.place stands.file.file there))))
    (sym (c.write_refused.ensures stands.file.fork stands.reference_is stands.access_is) ∙ c.in-Some-write_refused.is) c.refused-in-Some-write_refused.ensures

pub returns : goal.returns
returns g c = λ call count row_is goes counted small.
    let k = c.args.state.now in
    let stands = c.in-Some.ensures in
    let start = c.in-Some-start_on.start in
    let there = node-there k c.args.session.0 c.args.reference.0 c.in-Some.own stands c.kept_at-kept.result.now.state c.kept_at-kept.ensures in
    let few : IsFew (bytes_of stands.file) = subst IsFew (λ i. fork_of (sym stands.fork_is i).resource stands.file.file) (c.start_on.ensures.few stands.file.file there) in
    let piece = c.args.piece.now in
    let bytes_are : fork_of c.in-Some.own.fork.resource stands.file.file ≡ bytes_of stands.file = λ i. fork_of (sym stands.fork_is i).resource stands.file.file in
    let answer = c.plan_fork_write-answer.result in
    let plans = own-plans k c.args.session.0 c.args.reference.0 c.in-Some.own stands c.whole_at-whole.result.now.state c.latest.result (λ l. nat_lt 0 (length piece)) (λ l. splice l start piece) (bytes_of stands.file) answer
    c.whole_at-whole.ensures c.latest.ensures bytes_are c.plan_fork_write-answer.ensures.plan in
    write-runs k c.args.session.0 call c.args.reference.0 c.args.wide (write_asked c.args.flag c.args.offset count piece) row_is goes c.in-Some.own stands counted c.run_plan.new.state start c.in-Ok.block answer c.run_plan.result
    (subst (IsPlace (start_in (bytes_of stands.file) (is_from_end c.args.flag) c.args.offset)) c.in-Some-start_on.is
    (place-told stands.file c.in-Some.own.fork c.args.flag c.args.offset c.is_from_end.result c.start_on.result stands.fork_is c.is_from_end.ensures
    (simp (to_z-of_z, c.ranges.offset) at (c.start_on.ensures.place stands.file.file there))))
    (sym (c.write_refused.ensures stands.file.fork stands.reference_is stands.access_is) ∙ c.in_default-write_refused.is)
    c.splice_puts_between.ensures.reaches c.forks_are_given_bytes.ensures.room few small c.in-Ok.ensures plans c.run_plan.ensures

pub run_plan-requires-clause-may : goal.run_plan-requires-clause-may
run_plan-requires-clause-may g c = commits-at c.args.state.now c.in-Some.own.index c.whole_at-whole.result.now.state c.plan_fork_write-answer.result c.whole_at-whole.ensures c.plan_fork_write-answer.ensures.may
