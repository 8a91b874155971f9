use Rattle.std.proofs.Common.{ap, sym, Some}
use Rattle.desktop_db.proofs.KeyBytes.{nine}
use Rattle.volume_edits.proofs.edits.changed.key_of.Goals as goal

pub returns : goal.returns
returns c = ap Some (sym (nine c.args.key.now c.nine_bytes.ensures))
