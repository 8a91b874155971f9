use Rattle.std.proofs.Common.{◌≡◌, ◌∙◌, sym, subst, to_z-of_z}
use Rattle.afp_base.specs.Overlap.{Range}
use Rattle.afp_replies.specs.Replies.{canonical_reply}
use Rattle.afp_serial.specs.OnFork.{bytes_of}
use Rattle.volume_spec.specs.ForkEffect.{fork_of}
use Rattle.afp_core_calls.specs.fork.lemma.OnForkBytes.{HasRoom, IsFew, start_reply}
use Rattle.afp_core_state.specs.OnForks.{IsFork}
use Rattle.afp_core_calls.proofs.OfFork.ForkBytesLemmas.{node-there}
use Rattle.afp_core_calls.proofs.OfFork.ForkLockLemmas.{lock-no_range, lock-none, lock-runs, unlock-runs}
use Rattle.afp_core_calls.proofs.fork.byte_range_lock.lock_asked.Goals as goal

pub returns-in_default : goal.returns-in_default
returns-in_default g c = λ call row_is goes small.
    lock-none c.args.state.now c.args.session.0 call c.args.reference.0 c.args.wide c.args.flags c.args.offset c.args.length row_is goes _
    (subst (IsFork c.args.state.now c.args.session.0 c.args.reference.0) c.in_default.is c.fork_at.ensures) c.refused.ensures

pub returns-in_default-range_asked : goal.returns-in_default-range_asked
returns-in_default-range_asked g c = λ call row_is goes small.
    let k = c.args.state.now in
    let stands = c.in-Some.ensures in
    let there = node-there k c.args.session.0 c.args.reference.0 c.in-Some.own stands c.kept_at-kept.result.now.state c.kept_at-kept.ensures in
    lock-no_range k c.args.session.0 call c.args.reference.0 c.args.wide c.args.flags c.args.offset c.args.length row_is goes c.in-Some.own stands _
    (sym c.in_default-range_asked.is ∙ (simp (to_z-of_z, c.ranges.offset, c.ranges.length) at (c.range_asked.ensures.range stands.file there stands.fork_is))) c.refused-in_default-range_asked.ensures

pub returns-then-unlocks : goal.returns-then-unlocks
returns-then-unlocks g c = λ call row_is goes small.
    let k = c.args.state.now in
    let stands = c.in-Some.ensures in
    let there = node-there k c.args.session.0 c.args.reference.0 c.in-Some.own stands c.kept_at-kept.result.now.state c.kept_at-kept.ensures in
    let few : IsFew (bytes_of stands.file) = subst IsFew (λ i. fork_of (sym stands.fork_is i).resource stands.file.file) (c.range_asked.ensures.few stands.file.file there) in
    unlock-runs k c.args.session.0 call c.args.reference.0 c.args.wide c.args.flags c.args.offset c.args.length row_is goes c.in-Some.own stands c.unlock-answer.new.state c.in-Some-range_asked.range c.in-Ok.block
    (sym c.in-Some-range_asked.is ∙ (simp (to_z-of_z, c.ranges.offset, c.ranges.length) at (c.range_asked.ensures.range stands.file there stands.fork_is))) few small
    (subst (λ (r : Range). HasRoom c.args.wide r.from → c.in-Ok.block ≡ canonical_reply (start_reply c.args.wide r.from)) c.range.view_is c.in-Ok.ensures.start)
    (sym (c.unlocks.ensures c.args.offset c.args.length) ∙ c.if-unlocks.true) c.unlock-answer.result c.told_unlocked.result (c.unlock-answer.ensures stands.file.fork stands.reference_is) c.told_unlocked.ensures

pub returns : goal.returns
returns g c = λ call row_is goes small.
    let k = c.args.state.now in
    let stands = c.in-Some.ensures in
    let there = node-there k c.args.session.0 c.args.reference.0 c.in-Some.own stands c.kept_at-kept.result.now.state c.kept_at-kept.ensures in
    let few : IsFew (bytes_of stands.file) = subst IsFew (λ i. fork_of (sym stands.fork_is i).resource stands.file.file) (c.range_asked.ensures.few stands.file.file there) in
    lock-runs k c.args.session.0 call c.args.reference.0 c.args.wide c.args.flags c.args.offset c.args.length row_is goes c.in-Some.own stands c.lock-answer.new.state c.in-Some-range_asked.range c.in-Ok.block
    (sym c.in-Some-range_asked.is ∙ (simp (to_z-of_z, c.ranges.offset, c.ranges.length) at (c.range_asked.ensures.range stands.file there stands.fork_is))) few small
    (subst (λ (r : Range). HasRoom c.args.wide r.from → c.in-Ok.block ≡ canonical_reply (start_reply c.args.wide r.from)) c.range.view_is c.in-Ok.ensures.start)
    (sym (c.unlocks.ensures c.args.offset c.args.length) ∙ c.if-unlocks.false) c.lock-answer.result c.told_locked.result (c.lock-answer.ensures stands.file.fork stands.reference_is) c.told_locked.ensures
