use Rattle.std.proofs.Common.{◌∙◌, ◌<◌, length, arith}
use Rattle.std.specs.Prelude.{slice_index_or}
use Rattle.std.proofs.Math.ListN.{length-set}
use Rattle.range_locks.specs.Locks.{ForkLock}
use Rattle.range_locks.proofs.Keeping.{exchange_more}
use Rattle.range_locks.proofs.locks.exchange_list.Goals as goal

pub loop-place-preserved : goal.loop-place-preserved
loop-place-preserved c =
    let within : c.loop-place.place < length c.args.list.now.items = omega (arith, c.len-place-end.ensures) in
    let held : ForkLock = slice_index_or c.loop-place.list.items c.loop-place.place c.index.result.now in (
      exchange_more c.args.a.now c.args.b.now c.args.list.now.items c.loop-place.list.items c.loop-place.place c.index.result.now c.exchanged.result within c.loop-place.invariant.0 c.index.ensures c.exchanged.ensures,
      length-set c.loop-place.list.items c.loop-place.place _ ∙ c.loop-place.invariant.1,
    )
