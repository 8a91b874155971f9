use Rattle.std.proofs.Common.{◌+◌, ◌∙◌, take, drop}
use Rattle.std.proofs.lemmas.List.{append_assoc, drop-drop}
use Rattle.byteorder.specs.Endian.{big_bytes}
use Rattle.afp_bitmap.proofs.write.patch.Goals as goal

pub returns : goal.returns
returns c =
    rw (drop-drop 2 c.args.at c.args.out.now)
    (c.put_u16.ensures ∙ append_assoc (take c.args.at c.args.out.now) (big_bytes 2 c.args.number) (drop (c.args.at + 2) c.args.out.now))
