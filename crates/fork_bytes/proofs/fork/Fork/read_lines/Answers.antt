use Rattle.std.proofs.Common.{◌≡◌, ◌∙◌, ◌+◌, ◌-◌, ◌++◌, length, drop, ap, sym, arith}
use Rattle.afp_base.specs.ForkBytes.{taken}
use Rattle.fork_bytes.specs.Line.{Line, line_of}
use Rattle.fork_bytes.proofs.Lines.{Step, found, found_bytes, none_on, not_found}
use Rattle.fork_bytes.proofs.Writes.{read_on}
use Rattle.fork_bytes.proofs.fork.Fork.read_lines.Goals as goal

pub returns-in-Some-clause-stopped : goal.returns-in-Some-clause-stopped
returns-in-Some-clause-stopped c =
    let start : c.as_slice-start.result.now ≡ c.loop-at.out = c.as_slice-start.ensures in
    let part : c.rest_of.result.now ≡ drop (length c.loop-at.out) c.read_in_block.new.out =
    c.rest_of.ensures ∙ (λ i. drop (length (start i)) (c.as_slice.ensures i)) in
    let step : Step c.args.self.now c.args.out.now c.loop-at.out c.read_in_block.new.out c.args.mask c.args.character c.args.from c.loop-at.at c.min-stop.result c.args.end = record {
      begun = c.loop-at.invariant.from;
      on = omega (arith, c.next_block.ensures, c.min-stop.ensures, c.loop-at-test.true);
      within = omega (arith, c.min-stop.ensures);
      old_is = c.loop-at.invariant.read;
      new_is = c.in_ok-read_in_block.ensures.ok;
      none = c.loop-at.invariant.none;
    } in
    sym (ap (λ (l : Line). l.stopped) (found step c.rest_of.result.now part c.in-Some.k c.in-Some.ensures.within c.in-Some.ensures.is c.in-Some.ensures.first))

pub returns-in-Some-clause-ok : goal.returns-in-Some-clause-ok
returns-in-Some-clause-ok c =
    let start : c.as_slice-start.result.now ≡ c.loop-at.out = c.as_slice-start.ensures in
    let part : c.rest_of.result.now ≡ drop (length c.loop-at.out) c.read_in_block.new.out =
    c.rest_of.ensures ∙ (λ i. drop (length (start i)) (c.as_slice.ensures i)) in
    let step : Step c.args.self.now c.args.out.now c.loop-at.out c.read_in_block.new.out c.args.mask c.args.character c.args.from c.loop-at.at c.min-stop.result c.args.end = record {
      begun = c.loop-at.invariant.from;
      on = omega (arith, c.next_block.ensures, c.min-stop.ensures, c.loop-at-test.true);
      within = omega (arith, c.min-stop.ensures);
      old_is = c.loop-at.invariant.read;
      new_is = c.in_ok-read_in_block.ensures.ok;
      none = c.loop-at.invariant.none;
    } in
    c.truncate.ensures
    ∙ found_bytes step c.rest_of.result.now part c.in-Some.k (length c.as_slice-start.result.now + c.in-Some.k + 1) (omega (arith, ap length start))
    ∙ ap (λ l. c.args.out.now ++ l) (sym (ap (λ (l : Line). l.bytes) (found step c.rest_of.result.now part c.in-Some.k c.in-Some.ensures.within c.in-Some.ensures.is c.in-Some.ensures.first)))

pub loop-at-preserved : goal.loop-at-preserved
loop-at-preserved c =
    let start : c.as_slice-start.result.now ≡ c.loop-at.out = c.as_slice-start.ensures in
    let part : c.rest_of.result.now ≡ drop (length c.loop-at.out) c.read_in_block.new.out =
    c.rest_of.ensures ∙ (λ i. drop (length (start i)) (c.as_slice.ensures i)) in
    let step : Step c.args.self.now c.args.out.now c.loop-at.out c.read_in_block.new.out c.args.mask c.args.character c.args.from c.loop-at.at c.min-stop.result c.args.end = record {
      begun = c.loop-at.invariant.from;
      on = omega (arith, c.next_block.ensures, c.min-stop.ensures, c.loop-at-test.true);
      within = omega (arith, c.min-stop.ensures);
      old_is = c.loop-at.invariant.read;
      new_is = c.in_ok-read_in_block.ensures.ok;
      none = c.loop-at.invariant.none;
    } in
    record {
      from = omega (arith, step.begun, step.on);
      end = step.within;
      read = read_on c.args.self.now c.args.out.now c.loop-at.out c.read_in_block.new.out c.args.from c.loop-at.at c.min-stop.result step.begun step.on step.old_is step.new_is;
      none = none_on step c.rest_of.result.now part c.in_default.ensures.none;
    }

pub returns-clause-stopped : goal.returns-clause-stopped
returns-clause-stopped c =
    let at : c.loop-at.at ≡ c.args.end = omega (arith, c.loop-at.invariant.end, c.loop-at-test.false) in
    sym (ap (λ (l : Line). l.stopped) (ap (λ n. line_of c.args.mask c.args.character (taken c.args.self.now c.args.from (n - c.args.from))) (sym at) ∙ not_found c.args.mask c.args.character _ c.loop-at.invariant.none))

pub returns-clause-ok : goal.returns-clause-ok
returns-clause-ok c =
    let at : c.loop-at.at ≡ c.args.end = omega (arith, c.loop-at.invariant.end, c.loop-at-test.false) in
    c.loop-at.invariant.read
    ∙ ap (λ l. c.args.out.now ++ l) (sym (ap (λ (l : Line). l.bytes) (ap (λ n. line_of c.args.mask c.args.character (taken c.args.self.now c.args.from (n - c.args.from))) (sym at) ∙ not_found c.args.mask c.args.character _ c.loop-at.invariant.none)))
