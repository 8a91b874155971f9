use Rattle.std.proofs.Common.{◌≡◌, ◌≤◌, drop, take}
use Rattle.volume_keeper_records.specs.Image.{tables_in}
use Rattle.volume_keeper_records.specs.FirstBad.{first_in, rows_in}
use Rattle.volume_keeper_records.specs.lemma.Judged.{IsTreeOf, HasBefore, places_in, next_in}
use Rattle.volume_keeper_records.proofs.Passing.{before_of}
use Rattle.volume_keeper_records.proofs.pass.judge_all.Given as goal

abbrev pub invariant-loop-i : goal.invariant-loop-i
invariant-loop-i l = record {
  tree : IsTreeOf (places_in l.rows) l.pass.tree;
  next : l.pass.next ≡ next_in l.rows;
  few : l.pass.bytes ≤ 268435456;
  before : HasBefore (before_of (rows_in (record { version = l.version; name = l.name }) (take l.i l.records))) l.pass;
  rest : first_in (record { version = l.version; name = l.name }) (tables_in (rows_in (record { version = l.version; name = l.name }) l.records)) l.records ≡ first_in (record { version = l.version; name = l.name }) (tables_in (rows_in (record { version = l.version; name = l.name }) l.records)) (drop l.i l.records);
}
