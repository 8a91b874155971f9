use Rattle.std.proofs.Common.{inl}
use Rattle.afptool_lib.proofs.OfTool.CheckLemmas.{tells_check}
use Rattle.afptool_lib.proofs.tool.checking.run_check.Goals as goal

pub returns-in-Ended : goal.returns-in-Ended
returns-in-Ended g c = inl (tells_check c.args.turns _ _ _ _ _ c.in-Ended.end c.tell_end.result c.in-Ended.ensures c.tell_end.ensures)
