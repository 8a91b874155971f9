use Rattle.std.proofs.Common.{ℕ, ◌+◌, List, sym, ap, ◌∙◌, subst}
use Rattle.std.specs.Prelude.{Option, Some, None}
use Rattle.std.proofs.lemmas.Result.{IfOk-weaker}
use Rattle.capture_log.specs.lemma.Gathering.{ReaderState}
use Rattle.capture_log.specs.Taking.{IsCapture, TakesRawLine}
use Rattle.capture_log.specs.declared.replay_end.ReplayEnd.{ReplayEnd}
use Rattle.capture_log.proofs.GatheringLemmas.{some-held, ended-last, ended-line}
use Rattle.capture_log.proofs.reader.Reader.finish_line.Goals as goal

pub returns-in-Some : goal.returns-in-Some
returns-in-Some g c = λ read h.
    let held = c.as_slice.ensures ∙ ap (λ (x : ReaderState). x.held) c.self.view_is in
    let takes = c.in_ok-end.ensures h.standing (subst (λ (x : ReaderState). IsCapture x.capture h.standing) (sym c.self.view_is) h.is) in
    let all = subst (λ (l : List ℕ). TakesRawLine h.standing (c.args.self.now.capture.number + 1) l (Some c.in-Some.end) c.take.new.self) held
    (subst (λ (v : Option ReplayEnd). TakesRawLine h.standing (c.args.self.now.capture.number + 1) c.as_slice.result.now v c.take.new.self) c.in-Some.is
    (subst (λ (x : ReaderState). TakesRawLine h.standing (x.capture.number + 1) c.as_slice.result.now c.in_ok-end.field-0 c.take.new.self) c.self.view_is takes)) in
    ended-last c.args.self.now read c.in-Some.end h (some-held c.args.self.now.held c.requires.some) all

pub returns : goal.returns
returns g c =
    IfOk-weaker c.end.result _ _
    (λ verdict f read h.
    let held = c.as_slice.ensures ∙ ap (λ (x : ReaderState). x.held) c.self.view_is in
    let takes = c.in_ok-end.ensures h.standing (subst (λ (x : ReaderState). IsCapture x.capture h.standing) (sym c.self.view_is) h.is) in
    let all = subst (λ (l : List ℕ). TakesRawLine h.standing (c.args.self.now.capture.number + 1) l None c.take.new.self) held
    (subst (λ (v : Option ReplayEnd). TakesRawLine h.standing (c.args.self.now.capture.number + 1) c.as_slice.result.now v c.take.new.self) c.in_default.is
    (subst (λ (x : ReaderState). TakesRawLine h.standing (x.capture.number + 1) c.as_slice.result.now c.in_ok-end.field-0 c.take.new.self) c.self.view_is takes)) in
    ended-line c.args.self.now read verdict h all.0 c.take.new.self.number (some-held c.args.self.now.held c.requires.some) all.1 all.3 (f all.0 all.2))
    c.end.ensures
