use Rattle.std.proofs.Common.{true, false}
use Rattle.afp_replies.proofs.Entries.{entry_here}
use Rattle.afp_replies.proofs.cursor.Cursor.entry.Goals as goal

pub returns-in-128 : goal.returns-in-128
returns-in-128 c =
    rw (c.entry_of.ensures)
    (entry_here c.args.wide c.args.file_bits c.args.dir_bits true _ _ _ _ _ _ _ c.in_ok-entry.ensures.0 c.in_ok-entry.ensures.1 c.place-place.ensures.place
    c.head_size-head.ensures.value c.width-2.ensures.value c.in-128.is c.params_at.ensures)

pub returns-in-0 : goal.returns-in-0
returns-in-0 c =
    rw (c.entry_of-in-0.ensures)
    (entry_here c.args.wide c.args.file_bits c.args.dir_bits false _ _ _ _ _ _ _ c.in_ok-entry.ensures.0 c.in_ok-entry.ensures.1 c.place-place.ensures.place
    c.head_size-head.ensures.value c.width-2.ensures.value c.in-0.is c.params_at-in-0.ensures)
