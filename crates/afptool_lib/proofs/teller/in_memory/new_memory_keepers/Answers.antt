use Rattle.afptool_lib.proofs.teller.in_memory.new_memory_keepers.Goals as goal

pub new-requires : goal.new-requires
new-requires c = c.in_ok-keepers.ensures.new
