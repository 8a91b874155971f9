use Rattle.std.proofs.Common.{◌≡◌, ◌≤◌, length, arith, inr, inl}
use Rattle.afp_names.proofs.PathLemmas.{rest_at, zeros_before, read_zeros, bad_zeros, read_element, bad_element, bad_here, place_after, zeros_before-le, element_before-le, element_no_zero, path_steps-end, has_bad-end}
use Rattle.afp_names.proofs.path.read_steps.Goals as goal

pub loop-place-preserved-then-zeros-gt0 : goal.loop-place-preserved-then-zeros-gt0
loop-place-preserved-then-zeros-gt0 c =
    let bytes = c.args.bytes.now in
    let place = c.loop-place.place in
    let zeros = c.zeros_at_front-zeros.result in
    let short : zeros ≤ length (rest_at bytes place) = rw c.zeros_at_front-zeros.ensures (zeros_before-le (rest_at bytes place)) in
    record {
      within = place_after bytes place zeros 0 c.loop-place.invariant.within short;
      steps = read_zeros c.args.kind place zeros bytes c.loop-place.steps.items c.go_up.new.steps.items c.zeros_at_front-zeros.ensures c.if-zeros-gt0.true c.in_ok-go_up.ensures c.loop-place.invariant.steps;
      bad = bad_zeros c.args.kind place zeros bytes c.zeros_at_front-zeros.ensures c.if-zeros-gt0.true c.loop-place.invariant.bad;
    }

pub read_element-requires-clause-no_zero : goal.read_element-requires-clause-no_zero
read_element-requires-clause-no_zero c =
    rw c.element_at_front-len.ensures (element_no_zero (rest_at c.args.bytes.now c.loop-place.place))

pub returns-clause-steps : goal.returns-clause-steps
returns-clause-steps c =
    path_steps-end c.args.kind c.loop-place.place c.args.bytes.now c.loop-place.steps.items c.loop-place-test.false c.loop-place.invariant.steps

pub returns-clause-good : goal.returns-clause-good
returns-clause-good c =
    has_bad-end c.args.kind c.loop-place.place c.args.bytes.now c.loop-place-test.false c.loop-place.invariant.bad

pub returns-in-Err-clause-fault : goal.returns-in-Err-clause-fault
returns-in-Err-clause-fault c =
    let starts : zeros_before (rest_at c.args.bytes.now c.loop-place.place) ≡ 0 = omega (arith, c.zeros_at_front-zeros.ensures) in
    elim c.in-Err.ensures.fault [
      | inl memory ↦ inl memory
      | inr element ↦ inr (element.0, bad_here c.args.kind c.loop-place.place c.element_at_front-len.result c.args.bytes.now c.loop-place-test.true starts c.element_at_front-len.ensures element.1 c.loop-place.invariant.bad)
    ]

pub loop-place-preserved : goal.loop-place-preserved
loop-place-preserved c =
    let bytes = c.args.bytes.now in
    let place = c.loop-place.place in
    let len = c.element_at_front-len.result in
    let starts : zeros_before (rest_at bytes place) ≡ 0 = omega (arith, c.zeros_at_front-zeros.ensures) in
    let short : len ≤ length (rest_at bytes place) = rw c.element_at_front-len.ensures (element_before-le (rest_at bytes place)) in
    record {
      within = place_after bytes place len 0 c.loop-place.invariant.within short;
      steps = read_element c.args.kind place len bytes c.in-Ok.name c.loop-place.steps.items c.push.new.steps.items c.loop-place-test.true starts c.element_at_front-len.ensures c.in-Ok.ensures.name c.in_ok-push.ensures c.loop-place.invariant.steps;
      bad = bad_element c.args.kind place len bytes c.loop-place-test.true starts c.element_at_front-len.ensures c.in-Ok.ensures.good c.loop-place.invariant.bad;
    }
