use Rattle.std.proofs.Common.{◌∙◌, ap}
use Rattle.afp_replies.specs.declared.reply.Reply.TheVariants.{Empty}
use Rattle.afp_serial.specs.Users.{user_ids}
use Rattle.volume_spec.specs.SetFileDirParms.{set_dir_parms_behind}
use Rattle.volume_spec.specs.TreeSteps.{SetDirParms}
use Rattle.afp_core_state.specs.KeptWorld.{KeptWorld}
use Rattle.afp_core_calls.proofs.OfDirectory.CallRows.{set_dir_parms-changes}
use Rattle.afp_core_calls.proofs.OfDirectory.UserIds.{behind-by}
use Rattle.afp_core_calls.proofs.directory.set_dir_parms.set_dir_parms.Goals as goal

pub returns : goal.returns
returns g c =
    let is = c.requires in
    let bits = c.args.bits in
    let tail = c.args.tail.now in
    c.change_tree.ensures (SetDirParms is.dir.0 bits is.path tail) (λ v. Empty) (λ w. set_dir_parms_behind (user_ids w.house.users) bits tail)
    (set_dir_parms-changes c.args.call.now c.args.volume is.dir bits is.path tail is.is)
    (behind-by c.users.result.now c.args.state.now.world.house.users bits tail c.refused_behind-behind.result (c.users.ensures.value ∙ ap (λ (k : KeptWorld). k.world.house.users) c.state.view_is)
    c.refused_behind-behind.ensures)
    (λ v user there passes. c.new-nothing.ensures)
