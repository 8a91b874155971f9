use Rattle.std.proofs.Common.{◌≡◌, ◌∙◌, ◌<◌, ◌+◌, ◌∷◌, drop, length, sym, ap, subst, rules}
use Rattle.std.proofs.lemmas.List.{drop_more}
use Rattle.std.specs.declared.cmp.Ordering.TheVariants.{Less}
use Rattle.volume_keeper_records.specs.FirstBad.{version_in}
use Rattle.volume_keeper_records.specs.KeyOrder.{RisesByKey, head_key}
use Rattle.volume_keeper_records.proofs.MissingKeys.{by_bytes, unsaid_version}
use Rattle.volume_keeper_records.proofs.load.version_of.Goals as goal

pub returns-in-Less : goal.returns-in-Less
returns-in-Less c =
    let records = c.args.records.now in
    let i = c.loop-kept.kept-index in
    let kept = c.kept-item.result in
    let within : i < length records = search rules in
    let left : drop i records ≡ kept ∷ drop (i + 1) records = drop_more records i kept within ∙ ap (λ r. r ∷ drop (i + 1) records) (sym c.kept-item.is) in
    let less : by_bytes head_key kept.key ≡ Less = sym (λ j. by_bytes (c.as_slice.ensures j) (c.as_slice-in-loop-kept.ensures j)) ∙ sym c.cmp.ensures ∙ c.in-Less.is in
    sym (unsaid_version kept (drop (i + 1) records) less (subst RisesByKey left c.loop-kept.invariant.rises).0) ∙ sym (ap version_in left) ∙ c.loop-kept.invariant.same
