use Rattle.afptool_lib.proofs.tool.made.run_make.Goals as goal

pub new-requires : goal.new-requires
new-requires g c = c.requires.keepers.new

pub returns : goal.returns
returns g c = record { answer = c.make.result; makes = c.make.ensures; status_is = c.status_of.ensures }
