use Rattle.std.proofs.Common.{◌≡◌, ◌∙◌, ap, sym, length, arith}
use Rattle.std.specs.List.{remove}
use Rattle.node_rows.specs.lemma.Kinds.{KindsValue, kinds_of}
use Rattle.node_rows.proofs.KindCounts.{are-counts, kinds-are, length-kinds}
use Rattle.node_rows.proofs.kinds.Kinds.remove.Goals as goal

pub take_kind-requires-clause-within : goal.take_kind-requires-clause-within
take_kind-requires-clause-within c =
    let size : length c.args.self.now.kinds ≡ length c.self.inside.files.items = ap (λ (v : KindsValue). length v.kinds) (sym c.self.view_is) ∙ length-kinds 0 c.self.inside.files.items in
    omega (arith, c.requires.within)

pub invariant_of-self : goal.invariant_of-self
invariant_of-self c = are-counts c.take_kind.new.files.items (remove (kinds_of 0 c.self.inside.files.items) c.args.place) c.take_kind.ensures.items

pub returns-clause-kinds : goal.returns-clause-kinds
returns-clause-kinds c =
    kinds-are c.take_kind.new.files.items (remove (kinds_of 0 c.self.inside.files.items) c.args.place) c.take_kind.ensures.items
    ∙ ap (λ (v : KindsValue). remove v.kinds c.args.place) c.self.view_is
