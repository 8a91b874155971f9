use Rattle.std.proofs.Common.{◌-◌, subst, ℕ, List, None, Some, arith}
use Rattle.volume_spec.specs.Listing.{listed}
use Rattle.volume_spec.specs.VolumeState.{Row}
use Rattle.node_rows.specs.Kept.{RowsValue}
use Rattle.node_rows.specs.Kinds.{IsPlaceBehind, are_of_kind}
use Rattle.node_rows.specs.lemma.Places.{IsPart}
use Rattle.node_rows.specs.declared.child.Child.{Child}
use Rattle.node_rows.proofs.Behind.{none-left, none-there, there}
use Rattle.node_rows.proofs.rows.Rows.place_behind.Goals as goal

pub returns-then-skip-saturating_sub : goal.returns-then-skip-saturating_sub
returns-then-skip-saturating_sub c =
    let rows : List Row = c.self.inside.nodes.items in
    let first : ℕ = c.sibling_places-first.result.0 in
    let behind : ℕ = c.sibling_places-first.result.1 in
    let part : IsPart c.self.inside.children.items c.args.dir.0 first behind = subst (λ (l : List Child). IsPart l c.args.dir.0 first behind) c.as_slice.ensures.value c.sibling_places-first.ensures in
    subst (λ (v : RowsValue). IsPlaceBehind (are_of_kind c.args.files (listed v.rows c.args.dir.0)) c.args.from c.args.skip None) c.self.view_is
    (none-left rows c.self.inside.children.items c.self.inside.kinds.kinds c.self.inside.next c.args.dir.0 first behind c.self.invariant.kept c.self.invariant.kinds_are part c.args.files c.args.from c.args.skip
    (omega (arith, c.saturating_sub.ensures, c.if-skip-saturating_sub.true)))

pub returns-then-place-behind : goal.returns-then-place-behind
returns-then-place-behind c =
    let rows : List Row = c.self.inside.nodes.items in
    let first : ℕ = c.sibling_places-first.result.0 in
    let behind : ℕ = c.sibling_places-first.result.1 in
    let part : IsPart c.self.inside.children.items c.args.dir.0 first behind = subst (λ (l : List Child). IsPart l c.args.dir.0 first behind) c.as_slice.ensures.value c.sibling_places-first.ensures in
    subst (λ (v : RowsValue). IsPlaceBehind (are_of_kind c.args.files (listed v.rows c.args.dir.0)) c.args.from c.args.skip (Some (c.find-place.result - first))) c.self.view_is
    (there rows c.self.inside.children.items c.self.inside.kinds.kinds c.self.inside.next c.args.dir.0 first behind c.self.invariant.kept c.self.invariant.kinds_are part c.args.files c.args.from c.args.skip c.find-place.result
    (omega (arith, c.saturating_sub.ensures, c.if-skip-saturating_sub.false)) c.find-place.ensures c.if-place-behind.true)

pub returns-else-place-behind : goal.returns-else-place-behind
returns-else-place-behind c =
    let rows : List Row = c.self.inside.nodes.items in
    let first : ℕ = c.sibling_places-first.result.0 in
    let behind : ℕ = c.sibling_places-first.result.1 in
    let part : IsPart c.self.inside.children.items c.args.dir.0 first behind = subst (λ (l : List Child). IsPart l c.args.dir.0 first behind) c.as_slice.ensures.value c.sibling_places-first.ensures in
    subst (λ (v : RowsValue). IsPlaceBehind (are_of_kind c.args.files (listed v.rows c.args.dir.0)) c.args.from c.args.skip None) c.self.view_is
    (none-there rows c.self.inside.children.items c.self.inside.kinds.kinds c.self.inside.next c.args.dir.0 first behind c.self.invariant.kept c.self.invariant.kinds_are part c.args.files c.args.from c.args.skip c.find-place.result
    (omega (arith, c.saturating_sub.ensures, c.if-skip-saturating_sub.false)) c.find-place.ensures c.if-place-behind.false)
