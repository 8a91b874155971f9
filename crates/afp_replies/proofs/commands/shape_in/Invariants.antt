use Rattle.std.proofs.Common.{◌≡◌, drop, map}
use Rattle.afp_replies.specs.Commands.{shape_in}
use Rattle.afp_replies.specs.lemma.Reading.{row_of}
use Rattle.afp_replies.proofs.commands.shape_in.Given as goal

-- going on from here gives what all rows give
abbrev pub invariant-loop-row : goal.invariant-loop-row
invariant-loop-row l = shape_in (map row_of (drop l.row-index l.rows)) l.command ≡ shape_in (map row_of l.rows) l.command
