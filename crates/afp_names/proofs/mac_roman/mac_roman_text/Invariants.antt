use Rattle.std.proofs.Common.{◌≡◌, take, string_bytes}
use Rattle.afp_names.specs.MacRoman.{mac_roman_text}
use Rattle.afp_names.proofs.mac_roman.mac_roman_text.Given as goal

abbrev pub invariant-loop-byte : goal.invariant-loop-byte
invariant-loop-byte l = string_bytes l.text ≡ mac_roman_text (take l.byte-index l.bytes)
