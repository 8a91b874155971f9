use Rattle.std.proofs.Common.{◌^◌, ◌<◌, arith}
use Rattle.volume_spec.specs.Rights.{rights_of}
use Rattle.volume_keeper.proofs.OfReplies.ToldRights.{rights-small}
use Rattle.volume_keeper.proofs.replies.directory.own_rights.Goals as goal

pub overflow_add-result : goal.overflow_add-result
overflow_add-result c =
    let small : rights_of c.args.node.now.privileges c.args.user < 2 ^ 3 = rights-small c.args.node.now.privileges c.args.user c.requires in
    let is = c.rights_of-own.ensures in
    omega arith
