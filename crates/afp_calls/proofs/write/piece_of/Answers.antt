use Rattle.std.proofs.Common.{sym}
use Rattle.afp_calls.proofs.GroupLemmas.{no_piece}
use Rattle.afp_calls.proofs.write.piece_of.Goals as goal

pub returns-in_default : goal.returns-in_default
returns-in_default c = sym (no_piece c.args.call.now c.in_default.not-Write c.in_default.not-WriteExt c.in_default.not-AddIcon)
