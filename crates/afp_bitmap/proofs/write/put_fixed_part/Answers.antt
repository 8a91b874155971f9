use Rattle.std.proofs.Common.{ap, ℕ, length, map, refl, arith}
use Rattle.std.proofs.lemmas.List.{drop_more, drop_all, take_all}
use Rattle.afp_bitmap.specs.declared.write.Field.TheVariants as codes
use Rattle.afp_bitmap.specs.declared.write.FieldRow.{FieldRow}
use Rattle.afp_bitmap.specs.Params.{asked_of}
use Rattle.afp_bitmap.specs.lemma.Writing.{row_of, all_noted, no_spots}
use Rattle.afp_bitmap.proofs.Loops.{row_put, row_kept, rows_put, rows_noted}
use Rattle.afp_bitmap.proofs.write.put_fixed_part.Goals as goal

pub loop-row-init : goal.loop-row-init
loop-row-init c = (
  record {
    begun = omega arith;
    whole_is = refl;
    all_is = ap (λ (n : ℕ). all_noted n (asked_of c.args.bits (map row_of c.args.rows.now)) no_spots) (omega arith);
  },
  take_all (length c.args.out.now) c.args.out.now (omega arith),
)

pub loop-row-preserved : goal.loop-row-preserved
loop-row-preserved c =
    let here = rw (drop_more {X = FieldRow} c.args.rows.now c.loop-row.row-index record { 0 = 0; 1 = codes.Short 0 } c.loop-row-test.true) at c.loop-row.invariant.0 in
    let spots = rw c.as_slice-base.ensures at c.in_ok-spots.ensures.spots in (
      row_put _ _ _ _ _ _ _ _ _ _ spots c.in_ok-spots.ensures.bytes c.in_ok-spots.ensures.same_spots c.in_ok-spots.ensures.same_bytes here,
      row_kept _ _ _ _ _ c.in_ok-spots.ensures.bytes c.in_ok-spots.ensures.same_bytes here.begun c.loop-row.invariant.1,
    )

pub returns-clause-spots : goal.returns-clause-spots
returns-clause-spots c =
    let here = rw (drop_all c.loop-row.row-index c.args.rows.now c.loop-row-test.false) at c.loop-row.invariant.0 in
    rows_noted _ _ _ _ _ _ here

pub returns-clause-bytes : goal.returns-clause-bytes
returns-clause-bytes c =
    let here = rw (drop_all c.loop-row.row-index c.args.rows.now c.loop-row-test.false) at c.loop-row.invariant.0 in
    rows_put _ _ _ _ _ _ here
