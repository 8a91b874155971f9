use Rattle.std.proofs.Common.{List, ℕ, ◌+◌, ◌∷◌, ◌++◌, false, sym, ap, ◌∙◌, subst}
use Rattle.capture_log.specs.lemma.Gathering.{ReaderState}
use Rattle.capture_log.specs.Judged.{JudgedAt}
use Rattle.capture_log.specs.Reading.{lines_in}
use Rattle.capture_log.specs.Taking.{IsCapture, TakesRawLine}
use Rattle.capture_log.specs.declared.replay_end.ReplayEnd.{ReplayEnd}
use Rattle.capture_log.proofs.GatheringLemmas.{ends-line, long-line}
use Rattle.capture_log.proofs.reader.Reader.end_line.Goals as goal

pub returns-then-is_too_long : goal.returns-then-is_too_long
returns-then-is_too_long g c = λ read h more.
    subst (λ (v : ReplayEnd). JudgedAt (lines_in false (read ++ (c.args.last.now ++ 10 ∷ more))) v) (sym c.in_ok-too_long.ensures)
    (long-line c.args.self.now read c.args.last.now h c.requires.one (sym c.if-is_too_long.true ∙ c.is_too_long.ensures) more)

pub returns : goal.returns
returns g c = λ read h.
    let held = c.as_slice.result.now in
    let whole = c.as_slice.ensures ∙ c.in_ok-extend.ensures.ok ∙ ap (λ (x : ReaderState). x.held ++ c.args.last.now) c.self.view_is in
    let takes = subst (λ (x : ReaderState). TakesRawLine h.standing (x.capture.number + 1) held c.in_ok-verdict.verdict c.take.new.self) c.self.view_is
    (c.in_ok-verdict.ensures h.standing (subst (λ (x : ReaderState). IsCapture x.capture h.standing) (sym c.self.view_is) h.is)) in
    ends-line c.args.self.now _ read c.args.last.now held c.in_ok-verdict.verdict h c.take.new.self c.requires.one whole takes
    (ap (λ (l : List ℕ). record { capture = c.take.new.self; held = l }) c.truncate.ensures)
