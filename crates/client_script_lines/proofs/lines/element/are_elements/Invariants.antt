use Rattle.std.proofs.Common.{◌≡◌, length}
use Rattle.std.specs.List.{list_all, slice_split}
use Rattle.client_script_lines.specs.lines.Words.{is_element, is_slash}
use Rattle.client_script_lines.proofs.lines.element.are_elements.Given as goal

abbrev pub invariant-loop-alloc : goal.invariant-loop-alloc
invariant-loop-alloc l = list_all is_element (slice_split is_slash l.text) ≡ list_all is_element (slice_split is_slash l.left)

abbrev pub decreases-loop-alloc : goal.decreases-loop-alloc
decreases-loop-alloc l = length l.left
