use Rattle.std.proofs.Common.{◌∙◌, List, sym, ap, subst}
use Rattle.std.specs.Prelude.{flat_map}
use Rattle.std.specs.List.{list_all}
use Rattle.volume_spec.specs.SoundVolume.{IsSoundVolume}
use Rattle.volume_keeper_records.specs.declared.rows.TableRow.{TableRow}
use Rattle.volume_keeper_records.specs.Records.{version}
use Rattle.volume_keeper_records.specs.Image.{rows_of, tables_of}
use Rattle.volume_tree.specs.Restored.{restored}
use Rattle.volume_keeper.specs.loading.lemma.Rebuilt.{FitRows, has_name, nodes_said, with_blocks}
use Rattle.volume_keeper.proofs.OfLoading.Zeroed.{restored_is, start_sound}
use Rattle.volume_keeper.proofs.OfLoading.SoundRows.{rows_named}
use Rattle.volume_keeper.proofs.OfLoading.Filling.{Laws, all_fit, all_filled}
use Rattle.volume_keeper.proofs.loading.rebuild.tree_of.Goals as goal

pub all_loaded-requires : goal.all_loaded-requires
all_loaded-requires c = ap (list_all has_name) c.requires.2 ∙ rows_named c.requires.0 c.requires.1.sound

pub restore-requires : goal.restore-requires
restore-requires c =
    let v = c.requires.0 in
    let e = c.requires.2 in
    let same = (λ i. restored (c.head_in-head.ensures _ _ e i) ((c.in_ok-nodes.ensures ∙ ap (flat_map nodes_said) e) i)) ∙ restored_is v c.requires.1.sound in
    record { sound = subst IsSoundVolume (sym same) (start_sound v c.requires.1.sound) }

pub fill_all-requires : goal.fill_all-requires
fill_all-requires c =
    let v = c.requires.0 in
    let e = c.requires.2 in
    let same = c.in_ok-volume.ensures ∙ (λ i. restored (c.head_in-head.ensures _ _ e i) ((c.in_ok-nodes.ensures ∙ ap (flat_map nodes_said) e) i)) ∙ restored_is v c.requires.1.sound in
    let laws : Laws = record {
      say = c.tables_say_volumes.ensures.tables;
      size = c.blocks_are_bytes.ensures.length;
      back = c.blocks_are_bytes.ensures.back;
      rising = c.blocks_of_bytes_are_kept.ensures.rising;
      kept = c.blocks_of_bytes_are_kept.ensures.kept;
      before = c.splice_puts_between.ensures.before;
      between = c.splice_puts_between.ensures.between;
      behind = c.splice_puts_between.ensures.behind;
      reaches = c.splice_puts_between.ensures.reaches;
      image = c.records_are_images.ensures.rising;
    } in
    subst (λ (rows : List TableRow). FitRows rows c.in_ok-volume.volume.state) (sym e) (subst (FitRows (rows_of (tables_of version v))) (sym same) (all_fit laws v c.requires.1.sound))

pub returns : goal.returns
returns c = λ v whole e.
    let same = c.in_ok-volume.ensures ∙ (λ i. restored (c.head_in-head.ensures _ _ e i) ((c.in_ok-nodes.ensures ∙ ap (flat_map nodes_said) e) i)) ∙ restored_is v whole.sound in
    let laws : Laws = record {
      say = c.tables_say_volumes.ensures.tables;
      size = c.blocks_are_bytes.ensures.length;
      back = c.blocks_are_bytes.ensures.back;
      rising = c.blocks_of_bytes_are_kept.ensures.rising;
      kept = c.blocks_of_bytes_are_kept.ensures.kept;
      before = c.splice_puts_between.ensures.before;
      between = c.splice_puts_between.ensures.between;
      behind = c.splice_puts_between.ensures.behind;
      reaches = c.splice_puts_between.ensures.reaches;
      image = c.records_are_images.ensures.rising;
    } in
    c.in_ok-fill_all.ensures ∙ (λ i. with_blocks (e i) (same i)) ∙ all_filled laws v whole.sound
