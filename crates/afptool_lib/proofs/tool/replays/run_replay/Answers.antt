use Rattle.afptool_lib.proofs.tool.replays.run_replay.Goals as goal

pub new-requires : goal.new-requires
new-requires g c = c.requires.keepers.new
