use Rattle.std.proofs.Common.{append_assoc}
use Rattle.afp_serial.proofs.status.put_head.Goals as goal

pub returns : goal.returns
returns c =
    rw (← c.offsets.view_is)
    (simp (c.in_ok-put_numbers-2.ensures, c.in_ok-put_padded_name.ensures, c.in_ok-put_numbers.ensures, append_assoc))
