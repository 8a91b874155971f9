use Rattle.std.proofs.Common.{◌∙◌, ◌&&◌, ◌||◌}
use Rattle.std.specs.List.{list_any}
use Rattle.afp_base.specs.DenyMode.{is_one_fork}
use Rattle.afp_serial.specs.World.{OpenFork}
use Rattle.afp_core_state.proofs.HeldFiles.{held-either, held-in}
use Rattle.afp_core_state.proofs.forks.OpenForks.is_held.Goals as goal

pub returns : goal.returns
returns c = λ w has.
    let opens = c.args.self.now.opens in
    c.either.ensures ∙ (λ i. c.denies_copying-data.ensures i || c.denies_copying-resource.ensures i)
    ∙ (λ i. list_any (λ (o : OpenFork). is_one_fork o.fork (c.fork_key-data_fork.ensures i) && (o.access.write || o.access.deny_read)) opens
    || list_any (λ (o : OpenFork). is_one_fork o.fork (c.fork_key-resource_fork.ensures i) && (o.access.write || o.access.deny_read)) opens)
    ∙ held-either opens c.args.volume.0 c.args.node.0 ∙ held-in w c.args.self.now c.args.volume.0 c.args.node.0 has
