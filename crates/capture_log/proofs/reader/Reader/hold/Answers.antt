use Rattle.std.proofs.Common.{List, ℕ, ◌++◌, false, sym, ap, ◌∙◌, subst}
use Rattle.capture_log.specs.lemma.Gathering.{ReaderState}
use Rattle.capture_log.specs.Judged.{JudgedAt}
use Rattle.capture_log.specs.Reading.{lines_in}
use Rattle.capture_log.specs.declared.replay_end.ReplayEnd.{ReplayEnd}
use Rattle.capture_log.proofs.GatheringLemmas.{held-more, long-rest}
use Rattle.capture_log.proofs.reader.Reader.hold.Goals as goal

pub returns-then-is_too_long : goal.returns-then-is_too_long
returns-then-is_too_long g c = λ read h.
    subst (λ (v : ReplayEnd). JudgedAt (lines_in false (read ++ c.args.more.now)) v) (sym c.in_ok-too_long.ensures)
    (long-rest c.args.self.now read c.args.more.now h c.requires (sym c.if-is_too_long.true ∙ c.is_too_long.ensures))

pub returns : goal.returns
returns g c = λ read h.
    held-more c.args.self.now _ read c.args.more.now h c.requires (sym c.if-is_too_long.false ∙ c.is_too_long.ensures)
    (ap (λ (l : List ℕ). record { capture = c.self.inside.capture; held = l }) c.in_ok-extend.ensures.ok
    ∙ ap (λ (x : ReaderState). record { capture = x.capture; held = x.held ++ c.args.more.now }) c.self.view_is)
