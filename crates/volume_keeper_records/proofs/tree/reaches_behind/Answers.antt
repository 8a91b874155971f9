use Rattle.std.proofs.Common.{◌+◌, ◌*◌, length, sym, ap, ◌∙◌}
use Rattle.std.specs.Prelude.{nat_lt}
use Rattle.volume_keeper_records.specs.lemma.Judged.{length_of}
use Rattle.volume_keeper_records.proofs.tree.reaches_behind.Goals as goal

pub returns-then-block : goal.returns-then-block
returns-then-block c =
    ap (λ bytes. nat_lt c.in-Some.place.resource_length (4096 * c.args.block.now.index + length bytes)) c.as_slice.ensures
    ∙ ap (λ r. nat_lt (length_of r c.in-Some.place) (4096 * c.args.block.now.index + length c.args.block.now.bytes)) (sym c.if-block.true)
    ∙ sym (c.in-Some.ensures (λ place. nat_lt (length_of c.args.block.now.is_resource place) (4096 * c.args.block.now.index + length c.args.block.now.bytes)))

pub returns-else-block : goal.returns-else-block
returns-else-block c =
    ap (λ bytes. nat_lt c.in-Some.place.data_length (4096 * c.args.block.now.index + length bytes)) c.as_slice.ensures
    ∙ ap (λ r. nat_lt (length_of r c.in-Some.place) (4096 * c.args.block.now.index + length c.args.block.now.bytes)) (sym c.if-block.false)
    ∙ sym (c.in-Some.ensures (λ place. nat_lt (length_of c.args.block.now.is_resource place) (4096 * c.args.block.now.index + length c.args.block.now.bytes)))

pub returns-in-None : goal.returns-in-None
returns-in-None c = sym (c.in-None.ensures (λ place. nat_lt (length_of c.args.block.now.is_resource place) (4096 * c.args.block.now.index + length c.args.block.now.bytes)))
