use Rattle.std.proofs.Common.{◌≡◌, ◌∙◌, sym, subst}
use Rattle.volume_spec.specs.DesktopLaws.{with_desktop}
use Rattle.volume_edits.specs.edits.lemma.Whole.{IsWhole}
use Rattle.volume_keeper.proofs.loading.rebuild.whole_of.Goals as goal

pub invariant_of-result : goal.invariant_of-result
invariant_of-result c =
    let v = c.requires.0 in
    let is = c.requires.1 in
    let one = c.as_slice.ensures.value ∙ c.requires.2 in
    let two = c.as_slice-2.ensures.value ∙ c.requires.2 in
    let same : with_desktop c.in_ok-tree.tree.state c.in_ok-desktop.desktop.comments c.in_ok-desktop.desktop.icons c.in_ok-desktop.desktop.appls ≡ v =
    (λ i. with_desktop (c.in_ok-tree.ensures v is one i) (c.in_ok-desktop.ensures.comments v is two i) (c.in_ok-desktop.ensures.icons v is two i) (c.in_ok-desktop.ensures.appls v is two i)) in
    subst IsWhole (sym same) is
