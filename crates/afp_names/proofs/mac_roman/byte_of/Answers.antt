use Rattle.afp_names.specs.MacRoman.{mac_roman_byte, upper_characters}
use Rattle.afp_names.proofs.MacRomanLemmas.{if_byte-char}
use Rattle.afp_names.proofs.mac_roman.byte_of.Goals as goal

pub returns-clause-byte : goal.returns-clause-byte
unfolding mac_roman_byte upper_characters
returns-clause-byte c = c.byte_in.ensures

pub returns-clause-back : goal.returns-clause-back
unfolding mac_roman_byte upper_characters
returns-clause-back c = if_byte-char c.byte_in.result c.args.character c.byte_in.ensures
