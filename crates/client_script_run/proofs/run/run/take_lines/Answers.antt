use Rattle.std.proofs.Common.{◌+◌, ◌-◌, ◌++◌, ◌∷◌, [], ℕ, ap, refl, ◌∙◌, arith}
use Rattle.client_script_run.proofs.OfRun.LineLemmas.{counts-on, less-left}
use Rattle.client_script_run.proofs.OfRun.StopLemmas.{keeps-fixed, line-comes, line-goes, line-stops, source-ends, source-fails, source-lacks, source-spent, starts, starts-counted, starts-ended}
use Rattle.client_script_run.proofs.run.run.take_lines.Goals as goal

pub loop-text-init : goal.loop-text-init
loop-text-init g c = record {
  ended = λ e. starts-ended c.new-lines.result c.new-lines.ensures e;
  counted = starts-counted c.new-lines.result c.new-lines.ensures;
  core = refl;
  dialer = refl;
  turns = refl;
  so_far = starts c.args.turns (g.S.Source.source_state c.args.source.now) (g.O.Sink.sink_state c.args.out.now) c.new-lines.result c.args.asker.now.asked.exchanges c.args.asker.now.asked.unanswered c.args.asker.now.ended c.args.asker.now.asked.fixed.limits.items c.new-lines.ensures c.requires.none c.requires.answered c.requires.live c.requires.limits;
}

pub overflow_add-number : goal.overflow_add-number
overflow_add-number g c =
    omega (arith, c.taken.type_inv, c.taken.ensures, counts-on _ _ c.loop-text.number c.loop-text.lines c.next.new.self (g.S.Source.source_state c.loop-text.source) (g.S.Source.source_state c.next.new.source) c.in-Line.text c.in-Line.ensures c.loop-text.invariant.counted)

pub loop-text-smaller : goal.loop-text-smaller
loop-text-smaller g c =
    less-left _ _ c.loop-text.lines c.next.new.self (g.S.Source.source_state c.loop-text.source) (g.S.Source.source_state c.next.new.source) c.in-Line.text c.taken.result c.in-Line.ensures c.taken.ensures
    (omega (arith, c.taken.type_inv))

pub loop-text-preserved : goal.loop-text-preserved
loop-text-preserved g c =
    let was = c.loop-text in
    let src = g.S.Source.source_state in
    let snk = g.O.Sink.sink_state in
    let took = c.take_text-taken in
    let asker = took.new.asker in
    let fixed = keeps-fixed was.mounted c.as_slice.result.now c.limit.new.self.asked (snk was.out) took.result took.new.mounted asker.asked (snk took.new.out) took.ensures in
    let so = was.invariant.so_far in
    record {
      ended = c.in-Line.ensures.reads.ended;
      counted = counts-on _ _ was.number was.lines c.next.new.self (src was.source) (src c.next.new.source) c.in-Line.text c.in-Line.ensures was.invariant.counted;
      core = ap (λ b. b.core) fixed ∙ c.limit.ensures.core ∙ was.invariant.core;
      dialer = ap (λ b. b.dialer) fixed ∙ c.limit.ensures.dialer ∙ was.invariant.dialer;
      turns = ap (λ b. b.turns) fixed ∙ c.limit.ensures.turns ∙ was.invariant.turns;
      so_far = line-goes c.args.turns (src c.args.source.now) (snk c.args.out.now) c.stop_by.result c.next.new.self (src c.next.new.source) took.new.mounted asker.asked.exchanges asker.asked.unanswered asker.ended asker.cost asker.place asker.asked.fixed.limits.items (was.number + 1) (snk c.stop_by.new.out)
          (line-comes c.args.turns (src c.args.source.now) (snk c.args.out.now) was.lines c.next.new.self (src was.source) (src c.next.new.source) was.mounted took.new.mounted was.asker.asked.exchanges was.asker.asked.unanswered was.asker.ended asker.ended c.ended.result
          was.number (was.number + 1) (snk was.out) (snk took.new.out) (snk c.stop_by.new.out) c.in-Line.text c.as_slice.result.now c.limit.new.self.asked asker.asked took.result was.asker.cost c.saturating_sub-most.result asker.cost asker.place c.place.result was.asker.asked.fixed.limits.items asker.asked.fixed.limits.items c.stop_by.result
          so (c.saturating_sub-most.ensures ∙ ap (λ (n : ℕ). c.args.turns - n) c.cost.ensures) c.in-Line.ensures c.limit.ensures.exchanges c.limit.ensures.unanswered refl
          (ap (λ b. b.limits.items) fixed ∙ c.limit.ensures.limits so.live
          ∙ ap (λ (n : ℕ). was.asker.asked.fixed.limits.items ++ (record { turns = n; spent = was.asker.cost }) ∷ []) (c.saturating_sub.ensures ∙ ap (λ (n : ℕ). c.args.turns - n) c.taken.ensures))
          took.ensures c.as_slice.ensures c.stop_by.ensures c.ended.ensures c.place.ensures)
          c.in-None.is;
    }

pub returns-in-Some-clause-stops : goal.returns-in-Some-clause-stops
returns-in-Some-clause-stops g c =
    let was = c.loop-text in
    let src = g.S.Source.source_state in
    let snk = g.O.Sink.sink_state in
    let took = c.take_text-taken in
    let asker = took.new.asker in
    let fixed = keeps-fixed was.mounted c.as_slice.result.now c.limit.new.self.asked (snk was.out) took.result took.new.mounted asker.asked (snk took.new.out) took.ensures in
    let so = was.invariant.so_far in
    line-stops c.args.turns (src c.args.source.now) (snk c.args.out.now) c.stop_by.result c.in-Some.end c.next.new.self (src c.next.new.source) took.new.mounted asker.asked.exchanges asker.asked.unanswered asker.ended asker.cost asker.place asker.asked.fixed.limits.items (was.number + 1) (snk c.stop_by.new.out)
    (line-comes c.args.turns (src c.args.source.now) (snk c.args.out.now) was.lines c.next.new.self (src was.source) (src c.next.new.source) was.mounted took.new.mounted was.asker.asked.exchanges was.asker.asked.unanswered was.asker.ended asker.ended c.ended.result
    was.number (was.number + 1) (snk was.out) (snk took.new.out) (snk c.stop_by.new.out) c.in-Line.text c.as_slice.result.now c.limit.new.self.asked asker.asked took.result was.asker.cost c.saturating_sub-most.result asker.cost asker.place c.place.result was.asker.asked.fixed.limits.items asker.asked.fixed.limits.items c.stop_by.result
    so (c.saturating_sub-most.ensures ∙ ap (λ (n : ℕ). c.args.turns - n) c.cost.ensures) c.in-Line.ensures c.limit.ensures.exchanges c.limit.ensures.unanswered refl
    (ap (λ b. b.limits.items) fixed ∙ c.limit.ensures.limits so.live
    ∙ ap (λ (n : ℕ). was.asker.asked.fixed.limits.items ++ (record { turns = n; spent = was.asker.cost }) ∷ []) (c.saturating_sub.ensures ∙ ap (λ (n : ℕ). c.args.turns - n) c.taken.ensures))
    took.ensures c.as_slice.ensures c.stop_by.ensures c.ended.ensures c.place.ensures)
    c.in-Some.is

pub returns-in-Some-clause-core : goal.returns-in-Some-clause-core
returns-in-Some-clause-core g c =
    let took = c.take_text-taken in
    ap (λ b. b.core) (keeps-fixed c.loop-text.mounted c.as_slice.result.now c.limit.new.self.asked (g.O.Sink.sink_state c.loop-text.out) took.result took.new.mounted took.new.asker.asked (g.O.Sink.sink_state took.new.out) took.ensures)
    ∙ c.limit.ensures.core ∙ c.loop-text.invariant.core

pub returns-in-Some-clause-dialer : goal.returns-in-Some-clause-dialer
returns-in-Some-clause-dialer g c =
    let took = c.take_text-taken in
    ap (λ b. b.dialer) (keeps-fixed c.loop-text.mounted c.as_slice.result.now c.limit.new.self.asked (g.O.Sink.sink_state c.loop-text.out) took.result took.new.mounted took.new.asker.asked (g.O.Sink.sink_state took.new.out) took.ensures)
    ∙ c.limit.ensures.dialer ∙ c.loop-text.invariant.dialer

pub returns-in-End-clause-stops : goal.returns-in-End-clause-stops
returns-in-End-clause-stops g c =
    let was = c.loop-text in
    let src = g.S.Source.source_state in
    source-ends c.args.turns (src c.args.source.now) (g.O.Sink.sink_state c.args.out.now) was.lines c.next.new.self (src was.source) (src c.next.new.source) was.mounted was.asker.asked.exchanges was.asker.asked.unanswered was.asker.ended was.number was.asker.cost was.asker.place was.asker.asked.fixed.limits.items
    c.saturating_sub-most.result (g.O.Sink.sink_state was.out) was.invariant.so_far (c.saturating_sub-most.ensures ∙ ap (λ (n : ℕ). c.args.turns - n) c.cost.ensures) c.in-End.ensures

pub returns-in-ReadFault-clause-stops : goal.returns-in-ReadFault-clause-stops
returns-in-ReadFault-clause-stops g c =
    let was = c.loop-text in
    let src = g.S.Source.source_state in
    source-fails c.args.turns (src c.args.source.now) (g.O.Sink.sink_state c.args.out.now) was.lines c.next.new.self (src was.source) (src c.next.new.source) was.mounted was.asker.asked.exchanges was.asker.asked.unanswered was.asker.ended was.number was.asker.cost was.asker.place was.asker.asked.fixed.limits.items
    c.saturating_sub-most.result (g.O.Sink.sink_state was.out) was.invariant.so_far (c.saturating_sub-most.ensures ∙ ap (λ (n : ℕ). c.args.turns - n) c.cost.ensures) c.in-ReadFault.ensures

pub returns-in-Spent-clause-stops : goal.returns-in-Spent-clause-stops
returns-in-Spent-clause-stops g c =
    let was = c.loop-text in
    let src = g.S.Source.source_state in
    source-spent c.args.turns (src c.args.source.now) (g.O.Sink.sink_state c.args.out.now) was.lines c.next.new.self (src was.source) (src c.next.new.source) was.mounted was.asker.asked.exchanges was.asker.asked.unanswered was.asker.ended was.number was.asker.cost was.asker.place was.asker.asked.fixed.limits.items
    c.saturating_sub-most.result (g.O.Sink.sink_state was.out) was.invariant.so_far (c.saturating_sub-most.ensures ∙ ap (λ (n : ℕ). c.args.turns - n) c.cost.ensures) c.in-Spent.ensures

pub returns-in-Memory-clause-stops : goal.returns-in-Memory-clause-stops
returns-in-Memory-clause-stops g c =
    let was = c.loop-text in
    let src = g.S.Source.source_state in
    source-lacks c.args.turns (src c.args.source.now) (g.O.Sink.sink_state c.args.out.now) was.lines (src was.source) (src c.next.new.source) was.mounted was.asker.asked.exchanges was.asker.asked.unanswered was.asker.ended was.number was.asker.cost was.asker.place was.asker.asked.fixed.limits.items
    c.saturating_sub-most.result (g.O.Sink.sink_state was.out) was.invariant.so_far (c.saturating_sub-most.ensures ∙ ap (λ (n : ℕ). c.args.turns - n) c.cost.ensures) c.in-Memory.ensures

pub returns-in-Some-clause-turns : goal.returns-in-Some-clause-turns
returns-in-Some-clause-turns g c =
    let took = c.take_text-taken in
    ap (λ b. b.turns) (keeps-fixed c.loop-text.mounted c.as_slice.result.now c.limit.new.self.asked (g.O.Sink.sink_state c.loop-text.out) took.result took.new.mounted took.new.asker.asked (g.O.Sink.sink_state took.new.out) took.ensures)
    ∙ c.limit.ensures.turns ∙ c.loop-text.invariant.turns
