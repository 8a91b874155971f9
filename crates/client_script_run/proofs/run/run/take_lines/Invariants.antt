use Rattle.std.proofs.Common.{◌≡◌, ◌+◌, ◌≤◌, true, length}
use Rattle.client_script_run.specs.run.lemma.Taking.{SoFar}
use Rattle.client_script_run.proofs.OfRun.LineLemmas.{rest_of}
use Rattle.client_script_run.proofs.run.run.take_lines.Given as goal

abbrev pub invariant-loop-text : goal.invariant-loop-text
invariant-loop-text g l = record {
  ended : l.lines.ended ≡ true → (g.S.Source.source_state l.source).ended ≡ true;
  counted : l.number + length l.lines.bytes ≤ l.lines.taken;
  core : l.asker.asked.fixed.core ≡ l.initial.asker.asked.fixed.core;
  dialer : l.asker.asked.fixed.dialer ≡ l.initial.asker.asked.fixed.dialer;
  turns : l.asker.asked.fixed.turns ≡ l.initial.asker.asked.fixed.turns;
  so_far : SoFar l.turns (g.S.Source.source_state l.initial.source) (g.O.Sink.sink_state l.initial.out) l.lines (g.S.Source.source_state l.source) l.mounted l.asker.asked.exchanges l.asker.asked.unanswered l.asker.ended l.asker.asked.fixed.limits.items l.number (g.O.Sink.sink_state l.out);
}

abbrev pub decreases-loop-text : goal.decreases-loop-text
decreases-loop-text g l = rest_of l.lines
