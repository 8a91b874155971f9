use Rattle.std.proofs.Common.{◌≡◌, ◌∙◌, ap, sym, length, arith}
use Rattle.node_rows.specs.lemma.Kinds.{KindsValue}
use Rattle.node_rows.proofs.KindCounts.{length-kinds}
use Rattle.node_rows.proofs.kinds.Kinds.find.Goals as goal

pub find_nth-requires-clause-end : goal.find_nth-requires-clause-end
find_nth-requires-clause-end c =
    let size : length c.args.self.now.kinds ≡ length c.self.inside.files.items = ap (λ (v : KindsValue). length v.kinds) (sym c.self.view_is) ∙ length-kinds 0 c.self.inside.files.items in
    omega (arith, c.requires.end, ap length c.as_slice.ensures.value)
