use Rattle.std.proofs.Common.{sym}
use Rattle.apple_double.proofs.Names.{if_name-long}
use Rattle.apple_double.proofs.read.mac_roman_name.Goals as goal

pub returns-then-bytes-gt-LONGEST_NAME : goal.returns-then-bytes-gt-LONGEST_NAME
returns-then-bytes-gt-LONGEST_NAME c = sym (if_name-long c.args.bytes.now c.if-bytes-gt-LONGEST_NAME.true)
