use Rattle.std.proofs.Common.{refl, subst}
use Rattle.afp_core_state.specs.OnForks.{IsFork}
use Rattle.afp_core_calls.proofs.OfFork.ForkCallRows.{get_fork_parms-row, parms-refused, parms-passes, parms-told}
use Rattle.afp_core_calls.proofs.OfFork.OnForkLemmas.{fork-done, fork-refused, fork-unopened, own-file, within-mask}
use Rattle.afp_core_calls.proofs.fork.get_fork_parms.get_fork_parms.Goals as goal

pub parms_block-requires-clause-within : goal.parms_block-requires-clause-within
parms_block-requires-clause-within g c = c.in-Some.ensures.within

pub parms_block-requires-clause-file : goal.parms_block-requires-clause-file
parms_block-requires-clause-file g c = own-file c.args.state.now c.args.session.0 c.args.reference.0 c.in-Some.own c.in-Some.ensures

pub parms_block-requires-clause-bits : goal.parms_block-requires-clause-bits
parms_block-requires-clause-bits g c = within-mask c.args.bits c.is_outside.result c.if-is_outside.false c.is_outside.ensures

pub returns-in_default : goal.returns-in_default
returns-in_default g c =
    fork-unopened c.args.state.now c.args.session.0 _ c.args.reference.0 _ _ _ (get_fork_parms-row c.args.reference c.args.bits) _
    (subst (IsFork c.args.state.now c.args.session.0 c.args.reference.0) c.in_default.is c.fork_at.ensures) c.refused.ensures

pub returns-then-is_outside : goal.returns-then-is_outside
returns-then-is_outside g c =
    fork-refused c.args.state.now c.args.session.0 _ c.args.reference.0 _ _ _ (get_fork_parms-row c.args.reference c.args.bits) c.in-Some.own c.in-Some.ensures _ _
    (parms-refused c.args.bits c.is_outside.result c.if-is_outside.true c.is_outside.ensures) c.refused-then-is_outside.ensures

pub returns : goal.returns
returns g c =
    let here = c.in-Some.ensures in
    fork-done c.args.state.now c.args.session.0 _ c.args.reference.0 _ _ _ (get_fork_parms-row c.args.reference c.args.bits) c.in-Some.own here _ _ c.in_ok-block.block _
    (parms-passes c.args.bits c.is_outside.result c.if-is_outside.false c.is_outside.ensures) refl refl
    (parms-told c.args.state.now c.args.session.0 c.args.reference c.in-Some.own here c.args.bits c.in_ok-block.block (c.in_ok-block.ensures here.file.volume here.file.file here.volume here.node)) c.done.ensures
