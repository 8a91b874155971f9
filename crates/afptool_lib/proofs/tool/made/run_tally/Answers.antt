use Rattle.std.proofs.Common.{inl, inr, refl}
use Rattle.afptool_lib.proofs.tool.made.run_tally.Goals as goal

pub new-requires : goal.new-requires
new-requires g c = c.requires.keepers.new

pub returns-in-Ok : goal.returns-in-Ok
returns-in-Ok g c = inl (record { answer = c.in-Ok.tallied; tallies = c.in-Ok.ensures; told = c.tell.ensures })

pub returns-in-Err : goal.returns-in-Err
returns-in-Err g c = inr (refl, refl)
