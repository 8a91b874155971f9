use Rattle.std.proofs.Common.{◌≡◌, ◌+◌, ◌<◌, ◌^◌, ℕ, List, length, rules, arith}
use Rattle.std.specs.Prelude.{slice_index_or}
use Rattle.std.proofs.lemmas.Bool.{ltb-true}
use Rattle.std.proofs.lemmas.List.Edits.{map_over_more}
use Rattle.afp_base.proofs.ListFacts.{all-index}
use Rattle.node_rows.specs.lemma.Kinds.{fits_more, raised}
use Rattle.node_rows.proofs.KindCounts.{still-there, still-read}
use Rattle.node_rows.proofs.kinds.raise.Goals as goal

pub overflow_add-numbers : goal.overflow_add-numbers
overflow_add-numbers c =
    let old : List ℕ = c.args.numbers.now in
    let i : ℕ = c.loop-i.i in
    let within : i < length old = search rules in
    let same : slice_index_or c.loop-i.numbers i 0 ≡ slice_index_or old i 0 = still-there (raised c.args.more) old c.loop-i.numbers i 0 within c.loop-i.invariant in
    let fits : slice_index_or old i 0 + c.args.more < 2 ^ 64 = ltb-true (slice_index_or old i 0 + c.args.more) (2 ^ 64) (all-index (fits_more c.args.more) old i 0 c.requires within) in
    omega arith

pub loop-i-preserved : goal.loop-i-preserved
loop-i-preserved c =
    let within : c.loop-i.i < length c.args.numbers.now = search rules in
    map_over_more (raised c.args.more) c.args.numbers.now c.loop-i.numbers c.loop-i.i (slice_index_or c.loop-i.numbers c.loop-i.i 0) within c.loop-i.invariant (still-read (raised c.args.more) c.args.numbers.now c.loop-i.numbers c.loop-i.i 0 within c.loop-i.invariant)
