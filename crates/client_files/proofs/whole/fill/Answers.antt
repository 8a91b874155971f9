use Rattle.std.proofs.Common.{arith, refl, ◌∙◌}
use Rattle.client_files.proofs.SourceLemmas.{fill_end, fill_failed, fill_fits, fill_full, fill_more, gives_start}
use Rattle.client_files.proofs.whole.fill.Goals as goal

pub loop-got-init : goal.loop-got-init
loop-got-init g c = (omega arith, refl, gives_start _ c.args.room.now)

pub loop-got-preserved : goal.loop-got-preserved
loop-got-preserved g c =
    let so_far = c.loop-got.invariant in
    let read = c.read_into.ensures in
    (fill_fits _ _ _ _ _ so_far.0 read.size c.in-Got.ensures.reads.most, read.size ∙ so_far.1, fill_more _ _ _ _ _ _ _ _ so_far.2 read.same c.in-Got.ensures.reads)

pub returns-in-End-clause-fills : goal.returns-in-End-clause-fills
returns-in-End-clause-fills g c =
    let so_far = c.loop-got.invariant in
    fill_end _ _ _ _ _ _ so_far.0 c.read_into.ensures.size so_far.2 c.read_into.ensures.same c.in-End.ensures.reads

pub returns-in-Failed-clause-fills : goal.returns-in-Failed-clause-fills
returns-in-Failed-clause-fills g c =
    let so_far = c.loop-got.invariant in
    fill_failed _ _ _ _ _ _ (omega (arith, so_far.1)) c.read_into.ensures.size so_far.2 c.in-Failed.ensures.reads

pub returns-clause-fills : goal.returns-clause-fills
returns-clause-fills g c =
    let so_far = c.loop-got.invariant in
    fill_full _ _ _ _ so_far.0 (omega (arith, so_far.1)) so_far.2
