use Rattle.std.proofs.Common.{sym, ap, ◌∙◌, ◌<◌, length, get_or, arith}
use Rattle.volume_keeper_records.proofs.read.read_row.Goals as goal
use Rattle.volume_keeper_records.proofs.ShapeCode.{short_node}

pub returns-then-as_slice-lt-BEHIND : goal.returns-then-as_slice-lt-BEHIND
returns-then-as_slice-lt-BEHIND c =
    let size = ap length c.as_slice-then-byte_at-eq-NODE.ensures in
    let short : length c.args.kept.now.value < 51 = omega (arith, size, c.if-as_slice-lt-BEHIND.true) in
    sym (short_node (record { version = c.args.version; name = c.args.name.now }) c.args.kept.now (ap (λ k. get_or k 0 0) (sym c.as_slice.ensures) ∙ sym c.byte_at.ensures ∙ c.if-byte_at-eq-NODE.true) short)
