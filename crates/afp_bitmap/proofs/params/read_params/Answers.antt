use Rattle.std.proofs.Common.{arith}
use Rattle.afp_bitmap.specs.lemma.Read.{reading}
use Rattle.afp_bitmap.proofs.ByKind.{reading_is, reading_again, is_found, is_bad, is_only}
use Rattle.afp_bitmap.proofs.params.read_params.Goals as goal

pub returns-clause-found : goal.returns-clause-found
returns-clause-found c =
    is_found c.args.kind c.args.bits c.args.bytes.now c.read.result (reading c.args.kind c.args.bits c.args.bytes.now) c.read.ensures
    (reading_is c.args.kind c.args.bits c.args.bytes.now c.requires.kind (λ i. omega (arith, c.type_inv.bytes i)))

pub returns-clause-only : goal.returns-clause-only
returns-clause-only c = λ v h e.
    is_only v c.read.result (reading c.args.kind c.args.bits c.args.bytes.now) c.read.ensures
    (reading_again c.args.kind c.args.bits c.args.bytes.now v c.requires.kind (λ i. omega (arith, c.type_inv.bytes i)) h e)

pub returns-clause-bad : goal.returns-clause-bad
returns-clause-bad c =
    is_bad c.args.kind c.args.bits c.args.bytes.now c.read.result (reading c.args.kind c.args.bits c.args.bytes.now) c.read.ensures
    (reading_is c.args.kind c.args.bits c.args.bytes.now c.requires.kind (λ i. omega (arith, c.type_inv.bytes i)))
