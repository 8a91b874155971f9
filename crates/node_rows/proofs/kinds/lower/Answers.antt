use Rattle.std.proofs.Common.{◌≡◌, ◌<◌, ◌≤◌, ℕ, List, length, rules, arith}
use Rattle.std.specs.Prelude.{slice_index_or}
use Rattle.std.proofs.lemmas.Bool.{leb-true}
use Rattle.std.proofs.lemmas.List.Edits.{map_over_more}
use Rattle.afp_base.proofs.ListFacts.{all-index}
use Rattle.node_rows.specs.lemma.Kinds.{is_at_least, lowered}
use Rattle.node_rows.proofs.KindCounts.{still-there, still-read}
use Rattle.node_rows.proofs.kinds.lower.Goals as goal

pub overflow_sub-numbers : goal.overflow_sub-numbers
overflow_sub-numbers c =
    let old : List ℕ = c.args.numbers.now in
    let i : ℕ = c.loop-i.i in
    let within : i < length old = search rules in
    let same : slice_index_or c.loop-i.numbers i 0 ≡ slice_index_or old i 0 = still-there (lowered c.args.less) old c.loop-i.numbers i 0 within c.loop-i.invariant in
    let least : c.args.less ≤ slice_index_or old i 0 = leb-true c.args.less (slice_index_or old i 0) (all-index (is_at_least c.args.less) old i 0 c.requires within) in
    omega arith

pub loop-i-preserved : goal.loop-i-preserved
loop-i-preserved c =
    let within : c.loop-i.i < length c.args.numbers.now = search rules in
    map_over_more (lowered c.args.less) c.args.numbers.now c.loop-i.numbers c.loop-i.i (slice_index_or c.loop-i.numbers c.loop-i.i 0) within c.loop-i.invariant (still-read (lowered c.args.less) c.args.numbers.now c.loop-i.numbers c.loop-i.i 0 within c.loop-i.invariant)
