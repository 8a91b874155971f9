use Rattle.afp_serial.specs.Household.{household}
use Rattle.afp_serial.proofs.Faultless.{server_fits}
use Rattle.afp_serial.proofs.StatusParts.{offsets_found}
use Rattle.afp_serial.proofs.house.House.status.Goals as goal

pub status_block-requires : goal.status_block-requires
status_block-requires c = rw c.as_slice.ensures (server_fits _ c.self.invariant.0)

pub returns-clause-offsets : goal.returns-clause-offsets
returns-clause-offsets c =
    offsets_found c.status_block.result
    (household
    c.self.inside.server c.self.inside.signature c.self.inside.users.items c.self.inside.volumes.items
    c.self.inside.message c.self.inside.token_key)
    c.args.self.now c.as_slice.result.now c.self.view_is c.as_slice.ensures c.status_block.ensures.block
