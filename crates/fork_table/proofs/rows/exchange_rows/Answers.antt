use Rattle.std.proofs.Common.{◌∙◌, ◌<◌, ℕ, ap, length, arith}
use Rattle.std.specs.Prelude.{slice_index_or}
use Rattle.std.proofs.Math.ListN.{length-set}
use Rattle.fork_table.specs.declared.open_fork.OpenFork.{OpenFork}
use Rattle.fork_table.proofs.References.{exchange_more}
use Rattle.fork_table.proofs.rows.exchange_rows.Goals as goal

pub loop-place-preserved : goal.loop-place-preserved
loop-place-preserved c =
    let given = c.entries.result.now in
    let row : ℕ × OpenFork = slice_index_or given c.loop-place.place c.index-entries-place.result in
    let within : c.loop-place.place < length c.args.rows.now = omega (arith, c.loop-place.invariant.1) in (
      exchange_more c.args.a.now c.args.b.now c.args.rows.now c.loop-place.rows given c.set_value.new.self c.loop-place.place row c.in_exchange-fork.result within
          c.loop-place.invariant.0 c.entries.ensures.all (ap (λ (d : ℕ × OpenFork). slice_index_or given c.loop-place.place d) c.index-entries-place.is) c.in_exchange-fork.ensures c.set_value.ensures,
      c.loop-place.invariant.1,
      ap length (c.set_value.ensures row) ∙ length-set c.loop-place.rows c.loop-place.place _ ∙ c.loop-place.invariant.2,
    )
