use Rattle.afp_serial.proofs.ForksInHistories.{forks-have-changes, written-not-refused, written-read, written-there, writes-put}
use Rattle.afp_serial.proofs.Written.{Splices}
use Rattle.afp_serial.proofs.fork_laws.what_is_written_is_read.Goals as goal

pub returns-clause-changes : goal.returns-clause-changes
returns-clause-changes c = forks-have-changes

pub returns-clause-puts : goal.returns-clause-puts
returns-clause-puts c = writes-put

pub returns-clause-there : goal.returns-clause-there
returns-clause-there c =
    let s : Splices = record {
      before = c.splice_puts_between.ensures.before;
      between = c.splice_puts_between.ensures.between;
      behind = c.splice_puts_between.ensures.behind;
      reaches = c.splice_puts_between.ensures.reaches;
      len = c.resizing_keeps_the_front.ensures.length;
      front = c.resizing_keeps_the_front.ensures.front;
    } in
    written-there s

pub returns-clause-passes : goal.returns-clause-passes
returns-clause-passes c =
    let s : Splices = record {
      before = c.splice_puts_between.ensures.before;
      between = c.splice_puts_between.ensures.between;
      behind = c.splice_puts_between.ensures.behind;
      reaches = c.splice_puts_between.ensures.reaches;
      len = c.resizing_keeps_the_front.ensures.length;
      front = c.resizing_keeps_the_front.ensures.front;
    } in
    written-not-refused s

pub returns-clause-read : goal.returns-clause-read
returns-clause-read c =
    let s : Splices = record {
      before = c.splice_puts_between.ensures.before;
      between = c.splice_puts_between.ensures.between;
      behind = c.splice_puts_between.ensures.behind;
      reaches = c.splice_puts_between.ensures.reaches;
      len = c.resizing_keeps_the_front.ensures.length;
      front = c.resizing_keeps_the_front.ensures.front;
    } in
    written-read s
