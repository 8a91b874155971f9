use Rattle.std.proofs.Common.{◌++◌, subst, take}
use Rattle.std.specs.Prelude.{Option}
use Rattle.capture_log.specs.lemma.Gathering.{Gathers}
use Rattle.capture_log.specs.declared.replay_end.ReplayEnd.{ReplayEnd}
use Rattle.capture_log.proofs.SoFar.{so_far-none, so_far-more, decided, finished, failed, spent, no_memory-more, no_memory-ended}
use Rattle.capture_log.proofs.replaying.read_all.Goals as goal

pub loop-taken-init : goal.loop-taken-init
loop-taken-init g c = so_far-none c.args.turns (g.S.Source.source_state c.args.source.now) c.args.reader.now c.requires.new

pub loop-taken-preserved : goal.loop-taken-preserved
loop-taken-preserved g c =
    let x = c.loop-taken.invariant in
    so_far-more c.args.turns _ _ _ _ _ _ c.in-Got.n c.read.new.room x c.in-Got.ensures c.loop-taken-test.true
    (subst (λ (v : Option ReplayEnd). Gathers (x.read ++ take c.in-Got.n c.read.new.room) v c.feed.new.self) c.in-Ok-None.field-0-is (c.in-Ok-None.ensures x.read x.holds))

pub returns-in-Ok-Some : goal.returns-in-Ok-Some
returns-in-Ok-Some g c =
    let x = c.loop-taken.invariant in
    decided c.args.turns _ _ _ _ _ c.in-Got.n c.read.new.room c.in-Ok-Some.end x c.in-Got.ensures c.loop-taken-test.true
    (subst (λ (v : Option ReplayEnd). Gathers (x.read ++ take c.in-Got.n c.read.new.room) v c.feed.new.self) c.in-Ok-Some.field-0-is (c.in-Ok-Some.ensures x.read x.holds))

pub returns-in-Err : goal.returns-in-Err
returns-in-Err g c = no_memory-more c.args.turns _ _ _ _ _ c.in-Got.n c.read.new.room c.loop-taken.invariant c.in-Got.ensures

pub returns-in_default : goal.returns-in_default
returns-in_default g c = no_memory-ended c.args.turns _ _ _ _ _ c.loop-taken.invariant c.in-End.ensures

pub returns-in-End : goal.returns-in-End
returns-in-End g c =
    let x = c.loop-taken.invariant in
    finished c.args.turns _ _ _ _ _ c.in-Ok.end x c.in-End.ensures c.loop-taken-test.true (c.in-Ok.ensures x.read x.holds)

pub returns-in-Failed : goal.returns-in-Failed
returns-in-Failed g c = failed _ _ _ _ _ _ c.loop-taken.invariant c.in-Failed.ensures c.loop-taken-test.true

pub returns : goal.returns
returns g c = spent _ _ _ _ _ c.loop-taken.invariant c.loop-taken-test.false
