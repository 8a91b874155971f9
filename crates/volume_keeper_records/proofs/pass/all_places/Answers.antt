use Rattle.std.proofs.Common.{◌++◌, [], List, map, sym, ap, ◌∙◌, rules}
use Rattle.std.specs.List.{cons_option}
use Rattle.volume_keeper_records.specs.declared.tree.Place.{Place}
use Rattle.volume_keeper_records.specs.lemma.Judged.{place_of, said_node}
use Rattle.volume_keeper_records.proofs.Passing.{pushed_places}
use Rattle.volume_keeper_records.proofs.pass.all_places.Goals as goal

pub loop-row-preserved : goal.loop-row-preserved
loop-row-preserved c =
    c.in_ok-push_place.ensures
    ∙ ap (λ (ps : List Place). ps ++ map place_of (cons_option (said_node c.row-item.result) [])) c.loop-row.invariant
    ∙ sym (pushed_places c.args.rows.now c.loop-row.row-index c.row-item.result (search rules) c.row-item.is)
