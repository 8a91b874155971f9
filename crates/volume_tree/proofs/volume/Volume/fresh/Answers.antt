use Rattle.std.proofs.Common.{◌∙◌, ap, subst, sym, true}
use Rattle.volume_spec.specs.VolumeState.{guest, new_row}
use Rattle.volume_tree.specs.Kept.{state_of}
use Rattle.volume_tree.specs.lemma.Kept.{IsKeptVolume}
use Rattle.volume_tree.proofs.Keeping.{fresh-kept, fresh-state}
use Rattle.volume_tree.proofs.volume.Volume.fresh.Goals as goal

pub invariant_of-result : goal.invariant_of-result
invariant_of-result c =
    let root = c.new-root.ensures ∙ ap (λ name. new_row true guest 2 1 name c.args.now) (c.in_ok-copy.ensures ∙ c.in_ok-name.ensures) in
    subst (λ name. IsKeptVolume name c.new-2.result c.in_ok-rows.rows c.new-3.result 0) (sym c.in_ok-name.ensures)
    (fresh-kept c.args.name.now c.args.now c.new-2.result c.in_ok-rows.rows c.new-3.result c.new-root.result c.requires c.new-2.ensures.created c.new-2.ensures.modified c.new-2.ensures.backup
    c.in_ok-rows.ensures.rows root c.in_ok-rows.ensures.next c.new-3.ensures)

pub returns : goal.returns
returns c =
    let root = c.new-root.ensures ∙ ap (λ name. new_row true guest 2 1 name c.args.now) (c.in_ok-copy.ensures ∙ c.in_ok-name.ensures) in
    ap (λ name. state_of name c.new-2.result c.in_ok-rows.rows c.new-3.result) c.in_ok-name.ensures
    ∙ fresh-state c.args.name.now c.args.now c.new-2.result c.in_ok-rows.rows c.new-3.result c.new-root.result c.new-2.ensures.created c.new-2.ensures.modified c.new-2.ensures.backup
    c.in_ok-rows.ensures.rows root c.in_ok-rows.ensures.next c.new-3.ensures
