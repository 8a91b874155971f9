use Rattle.std.proofs.Common.{◌≡◌, ◌≤◌, drop}
use Rattle.line_words.specs.Numbers.{value_behind}
use Rattle.line_words.proofs.numbers.value_of.Given as goal

abbrev pub invariant-loop-digit : goal.invariant-loop-digit
invariant-loop-digit l = record {
  most : l.value ≤ l.most;
  value : value_behind l.value (drop l.digit-index l.digits) ≡ value_behind 0 l.digits;
}
