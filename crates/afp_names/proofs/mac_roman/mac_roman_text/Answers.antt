use Rattle.std.proofs.Common.{refl}
use Rattle.afp_names.proofs.MacRomanLemmas.{mac_roman_text-more}
use Rattle.afp_names.proofs.mac_roman.mac_roman_text.Goals as goal

pub loop-byte-preserved : goal.loop-byte-preserved
loop-byte-preserved c =
    rw (mac_roman_text-more c.args.bytes.now c.loop-byte.byte-index c.loop-byte-test.true) (rw (c.in_ok-push.ensures.bytes, c.char_of.ensures.char, c.loop-byte.invariant) refl)
