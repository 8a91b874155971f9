use Rattle.std.proofs.Common.{◌≡◌, ◌∙◌, ap, sym, length}
use Rattle.std.specs.Ordering.{nat_cmp, ordering_then}
use Rattle.volume_spec.specs.VolumeState.{Appl}
use Rattle.desktop_db.proofs.KeyBytes.{compare-pairs}
use Rattle.desktop_db.proofs.appl.Appl.compare.Goals as goal

pub returns-in-Less : goal.returns-in-Less
returns-in-Less c =
    let four : length c.args.self.now.creator ≡ length c.args.creator.now = sym (ap (λ (v : Appl). length v.creator) c.self.view_is) ∙ c.self.told ∙ sym c.told-creator in
    sym (compare-pairs c.args.self.now.creator c.args.creator.now c.args.self.now.node c.args.node.0 four ∙ ap (λ o. ordering_then o (nat_cmp c.args.self.now.node c.args.node.0)) (sym c.compare_creator.ensures ∙ c.in-Less.is))

pub returns-in-Equal : goal.returns-in-Equal
returns-in-Equal c =
    let four : length c.args.self.now.creator ≡ length c.args.creator.now = sym (ap (λ (v : Appl). length v.creator) c.self.view_is) ∙ c.self.told ∙ sym c.told-creator in
    c.cmp.ensures ∙ ap (λ (v : Appl). nat_cmp v.node c.args.node.0) c.self.view_is
    ∙ sym (compare-pairs c.args.self.now.creator c.args.creator.now c.args.self.now.node c.args.node.0 four ∙ ap (λ o. ordering_then o (nat_cmp c.args.self.now.node c.args.node.0)) (sym c.compare_creator.ensures ∙ c.in-Equal.is))

pub returns-in-Greater : goal.returns-in-Greater
returns-in-Greater c =
    let four : length c.args.self.now.creator ≡ length c.args.creator.now = sym (ap (λ (v : Appl). length v.creator) c.self.view_is) ∙ c.self.told ∙ sym c.told-creator in
    sym (compare-pairs c.args.self.now.creator c.args.creator.now c.args.self.now.node c.args.node.0 four ∙ ap (λ o. ordering_then o (nat_cmp c.args.self.now.node c.args.node.0)) (sym c.compare_creator.ensures ∙ c.in-Greater.is))
