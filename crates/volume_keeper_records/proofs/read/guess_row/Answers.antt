use Rattle.std.proofs.Common.{◌≡◌, ◌∙◌, sym, ap, drop, take, slice_index}
use Rattle.volume_keeper_records.specs.declared.rows.TableRow.TheVariants as row
use Rattle.volume_keeper_records.specs.Shape.{node_in}
use Rattle.volume_keeper_records.proofs.ShapeCode.{node_guess}
use Rattle.volume_keeper_records.proofs.read.guess_row.Goals as goal

pub returns-in_ok-node_of : goal.returns-in_ok-node_of
returns-in_ok-node_of c =
    let key = c.as_slice-key.ensures in
    let value = c.as_slice-value.ensures in
    let tag : slice_index c.args.kept.now.key 0 ≡ 1 = ap (λ l. slice_index l 0) (sym key) ∙ sym c.byte_at-tag.ensures ∙ c.if-tag-eq-NODE.true in
    ap row.Node (c.in_ok-node_of.ensures ∙ (λ i. node_in c.args.version (key i) (value i) (take 32 (drop 19 (value i))) (drop 51 (value i))))
    ∙ sym (node_guess c.args.version c.args.kept.now tag)
