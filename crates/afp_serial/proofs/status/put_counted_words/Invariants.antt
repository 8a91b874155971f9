use Rattle.std.proofs.Common.{◌≡◌, ◌++◌, map, take, flat_map}
use Rattle.afp_serial.specs.StatusBlock.{pascal_string}
use Rattle.afp_serial.proofs.status.put_counted_words.Given as goal

abbrev pub invariant-loop-word : goal.invariant-loop-word
invariant-loop-word l = l.block ≡ l.initial.block ++ flat_map pascal_string (map (λ word. word.now) (take l.word-index l.words))
