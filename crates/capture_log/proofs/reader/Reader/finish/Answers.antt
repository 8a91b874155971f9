use Rattle.std.proofs.Common.{◌+◌, length, sym, ap, ◌∙◌, subst}
use Rattle.std.proofs.lemmas.List.{nil_from_length}
use Rattle.std.proofs.lemmas.Result.{IfOk-weaker}
use Rattle.capture_log.specs.lemma.Gathering.{ReaderState}
use Rattle.capture_log.specs.Judged.{DecidesEnd}
use Rattle.capture_log.specs.Taking.{IsCapture}
use Rattle.capture_log.proofs.GatheringLemmas.{ended-empty}
use Rattle.capture_log.proofs.reader.Reader.finish.Goals as goal

pub returns-then-as_slice-eq0 : goal.returns-then-as_slice-eq0
returns-then-as_slice-eq0 g c =
    IfOk-weaker c.end.result _ _
    (λ verdict f read h.
    let held = c.as_slice.ensures ∙ ap (λ (x : ReaderState). x.held) c.self.view_is in
    ended-empty c.args.self.now read verdict h (nil_from_length c.args.self.now.held (ap length (sym held) ∙ c.if-as_slice-eq0.true))
    (subst (λ (x : ReaderState). DecidesEnd h.standing (x.capture.number + 1) verdict) c.self.view_is
    (f h.standing (subst (λ (x : ReaderState). IsCapture x.capture h.standing) (sym c.self.view_is) h.is))))
    c.end.ensures
