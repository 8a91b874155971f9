use Rattle.std.proofs.Common.{◌≡◌, rules, true}
use Rattle.volume_spec.specs.SoundVolume.{has_file, has_node}
use Rattle.volume_keeper.proofs.OfReplies.FoundFiles.{opens-id, opens-row}
use Rattle.volume_keeper.proofs.replies.found_file.open_fork.Goals as goal

pub returns-clause-found : goal.returns-clause-found
returns-clause-found c =
    let v = c.args.volume.now.state in
    let there : has_node v.rows c.in-Ok.id.0 ≡ true = c.rows_are_changed_in_place.ensures.walks v c.args.user c.args.dir.0 c.in-Ok.id.0 c.args.path.now c.keeps_sound.ensures c.in-Ok.ensures in
    let file : has_file v.rows c.in-Ok.id.0 ≡ true = search rules in
    opens-row v c.args.user c.args.dir.0 c.in-Ok.id.0 c.args.path.now c.keeps_sound.ensures c.in-Ok.ensures there file

pub returns-clause-id : goal.returns-clause-id
returns-clause-id c =
    let v = c.args.volume.now.state in
    let there : has_node v.rows c.in-Ok.id.0 ≡ true = c.rows_are_changed_in_place.ensures.walks v c.args.user c.args.dir.0 c.in-Ok.id.0 c.args.path.now c.keeps_sound.ensures c.in-Ok.ensures in
    let file : has_file v.rows c.in-Ok.id.0 ≡ true = search rules in
    opens-id v c.args.user c.args.dir.0 c.in-Ok.id.0 c.args.path.now there (opens-row v c.args.user c.args.dir.0 c.in-Ok.id.0 c.args.path.now c.keeps_sound.ensures c.in-Ok.ensures there file)
