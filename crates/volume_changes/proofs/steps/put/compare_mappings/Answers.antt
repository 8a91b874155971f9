use Rattle.std.proofs.Common.{◌≡◌, ◌∙◌, ap, sym, length}
use Rattle.std.specs.Ordering.{nat_cmp, ordering_then}
use Rattle.desktop_db.proofs.KeyBytes.{compare-pairs}
use Rattle.volume_changes.proofs.steps.put.compare_mappings.Goals as goal

pub returns-in-Less : goal.returns-in-Less
returns-in-Less c =
    let four : length c.args.one.now.creator ≡ length c.args.other.now.creator = c.four_bytes.ensures ∙ sym c.four_bytes-2.ensures in
    sym (compare-pairs c.args.one.now.creator c.args.other.now.creator c.args.one.now.node c.args.other.now.node four
    ∙ ap (λ o. ordering_then o (nat_cmp c.args.one.now.node c.args.other.now.node)) (sym c.compare_creators.ensures ∙ c.in-Less.is))

pub returns-in-Equal : goal.returns-in-Equal
returns-in-Equal c =
    let four : length c.args.one.now.creator ≡ length c.args.other.now.creator = c.four_bytes.ensures ∙ sym c.four_bytes-2.ensures in
    c.cmp.ensures ∙ sym (compare-pairs c.args.one.now.creator c.args.other.now.creator c.args.one.now.node c.args.other.now.node four
    ∙ ap (λ o. ordering_then o (nat_cmp c.args.one.now.node c.args.other.now.node)) (sym c.compare_creators.ensures ∙ c.in-Equal.is))

pub returns-in-Greater : goal.returns-in-Greater
returns-in-Greater c =
    let four : length c.args.one.now.creator ≡ length c.args.other.now.creator = c.four_bytes.ensures ∙ sym c.four_bytes-2.ensures in
    sym (compare-pairs c.args.one.now.creator c.args.other.now.creator c.args.one.now.node c.args.other.now.node four
    ∙ ap (λ o. ordering_then o (nat_cmp c.args.one.now.node c.args.other.now.node)) (sym c.compare_creators.ensures ∙ c.in-Greater.is))
