use Rattle.std.proofs.Common.{arith}
use Rattle.afp_names.specs.MacRoman.{mac_roman_char, upper_characters}
use Rattle.afp_names.proofs.MacRomanLemmas.{mac_roman_byte-char}
use Rattle.afp_names.proofs.mac_roman.char_of.Goals as goal

pub returns-clause-char : goal.returns-clause-char
unfolding mac_roman_char upper_characters
returns-clause-char c = c.char_in.ensures

pub returns-clause-back : goal.returns-clause-back
unfolding mac_roman_char upper_characters
returns-clause-back c = rw c.char_in.ensures (mac_roman_byte-char c.args.byte (omega arith))
