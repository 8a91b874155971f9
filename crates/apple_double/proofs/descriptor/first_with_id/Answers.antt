use Rattle.std.proofs.Common.{arith, sym, ap, ◌∙◌}
use Rattle.std.specs.Prelude.{Some}
use Rattle.apple_double.specs.declared.descriptor.Descriptor.{Descriptor}
use Rattle.apple_double.proofs.Faults.{found, not-found}
use Rattle.apple_double.proofs.descriptor.first_with_id.Goals as goal

pub returns-then-descriptor-id : goal.returns-then-descriptor-id
returns-then-descriptor-id c =
    ap Some c.descriptor_at-descriptor.ensures
    ∙ sym
    (found c.args.bytes.now c.args.id c.args.end c.loop-index.index (omega arith) c.loop-index.invariant
    (ap (λ (d : Descriptor). d.id) (sym c.descriptor_at-descriptor.ensures) ∙ c.if-descriptor-id.true))

pub returns : goal.returns
returns c = sym (not-found c.args.bytes.now c.args.id c.args.end (λ k lt. c.loop-index.invariant k (omega arith)))
