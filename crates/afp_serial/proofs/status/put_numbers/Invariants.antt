use Rattle.std.proofs.Common.{◌≡◌, ◌++◌, take, flat_map}
use Rattle.byteorder.specs.Endian.{big_bytes}
use Rattle.afp_serial.proofs.status.put_numbers.Given as goal

abbrev pub invariant-loop-number : goal.invariant-loop-number
invariant-loop-number l = l.block ≡ l.initial.block ++ flat_map (big_bytes 2) (take l.number-index l.numbers)
