use Rattle.std.proofs.Common.{◌≡◌, ◌∙◌, ap}
use Rattle.std.specs.Prelude.{Vec, flat_map}
use Rattle.std.specs.declared.alloc.Global.{Global}
use Rattle.std.proofs.lemmas.Result.{IfOk-weaker}
use Rattle.volume_spec.specs.VolumeState.{VolumeState}
use Rattle.record_keeper.specs.declared.record.Change.{Change}
use Rattle.volume_keeper_records.specs.Records.{version}
use Rattle.volume_keeper_records.specs.Image.{rows_of, tables_of}
use Rattle.volume_keeper_records.specs.Migration.{migration}
use Rattle.volume_keeper_records.specs.lemma.Raising.{puts_of}
use Rattle.volume_keeper_records.proofs.RaisedRows.{rows_put}
use Rattle.volume_keeper_records.proofs.migration.migration_of.Goals as goal

pub returns : goal.returns
returns c = IfOk-weaker c.all_puts.result (λ (changes : Vec Change Global). changes.items ≡ flat_map puts_of c.args.rows.now) (λ (changes : Vec Change Global). (v : VolumeState) → c.args.rows.now ≡ rows_of (tables_of version v) → changes.items ≡ migration v)
    (λ changes puts v is. puts ∙ ap (flat_map puts_of) is ∙ rows_put v)
    c.all_puts.ensures
