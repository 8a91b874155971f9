use Rattle.afp_serial.proofs.Written.{Splices, lengths-seen, others-stay, reads-there, writes-seen, written-stay}
use Rattle.afp_serial.proofs.fork_laws.written_forks_are_read.Goals as goal

pub returns-clause-seen : goal.returns-clause-seen
returns-clause-seen c = writes-seen

pub returns-clause-lengths : goal.returns-clause-lengths
returns-clause-lengths c = lengths-seen

pub returns-clause-others : goal.returns-clause-others
returns-clause-others c = others-stay

pub returns-clause-stay : goal.returns-clause-stay
returns-clause-stay c =
    let s : Splices = record {
      before = c.splice_puts_between.ensures.before;
      between = c.splice_puts_between.ensures.between;
      behind = c.splice_puts_between.ensures.behind;
      reaches = c.splice_puts_between.ensures.reaches;
      len = c.resizing_keeps_the_front.ensures.length;
      front = c.resizing_keeps_the_front.ensures.front;
    } in
    written-stay s

pub returns-clause-read : goal.returns-clause-read
returns-clause-read c = reads-there
