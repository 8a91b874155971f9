use Rattle.std.proofs.Common.{◌≡◌, ◌∙◌, ap, sym, rules, not, Some}
use Rattle.std.specs.Prelude.{option_map}
use Rattle.volume_spec.specs.Edits.{bare}
use Rattle.volume_spec.specs.Walk.{row_at}
use Rattle.volume_keeper.proofs.OfKept.Files.{file_is, node_file, node_missing}
use Rattle.volume_keeper.proofs.kept.kept.KeptVolume.has_file.Goals as goal

pub returns-in-Some : goal.returns-in-Some
returns-in-Some g c =
    let v = c.args.self.now.state in
    let found : Some c.in-Some.node.now ≡ option_map bare (row_at v.rows c.args.id.0) = search rules in
    let dir : c.node-in-Some.inside.dir ≡ c.in-Some.node.now.dir = search rules in
    ap not dir ∙ node_file (row_at v.rows c.args.id.0) c.in-Some.node.now found ∙ sym (file_is v (search rules) c.args.id.0)

pub returns-in-None : goal.returns-in-None
returns-in-None g c =
    let v = c.args.self.now.state in
    node_missing (row_at v.rows c.args.id.0) (search rules) ∙ sym (file_is v (search rules) c.args.id.0)
