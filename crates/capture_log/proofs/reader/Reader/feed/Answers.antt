use Rattle.std.proofs.Common.{◌≡◌, ℕ, List, [], ◌∷◌, ◌++◌, false, sym, ap, ◌∙◌, subst, append_assoc}
use Rattle.std.specs.Prelude.{Option}
use Rattle.std.proofs.lemmas.Result.{IfOk-weaker}
use Rattle.capture_log.specs.lemma.Gathering.{Holds, Gathers, EndsLine}
use Rattle.capture_log.specs.Judged.{JudgedAt}
use Rattle.capture_log.specs.Reading.{lines_in}
use Rattle.capture_log.specs.declared.replay_end.ReplayEnd.{ReplayEnd}
use Rattle.capture_log.proofs.reader.Reader.feed.Goals as goal

pub end_line-requires-clause-is : goal.end_line-requires-clause-is
end_line-requires-clause-is g c = let i = c.loop-line.invariant c.requires.0 c.requires.1 in (c.requires.0 ++ i.0, i.2)

pub returns-in-Some-2 : goal.returns-in-Some-2
returns-in-Some-2 g c = λ read h.
    let i = c.loop-line.invariant read h in
    let line = c.in-Some.line.now in
    let rest = c.in-Some.rest.now in
    let ends : EndsLine (read ++ i.0) line c.in_ok-end.field-0 c.end_line.new.self = c.in_ok-end.ensures (read ++ i.0) i.2 in
    let whole : (read ++ i.0) ++ (line ++ 10 ∷ rest) ≡ read ++ c.args.piece.now =
    append_assoc read i.0 (line ++ 10 ∷ rest) ∙ ap (λ (l : List ℕ). read ++ l) (ap (λ (l : List ℕ). i.0 ++ l) (sym c.in-Some.ensures.cut) ∙ sym i.1) in
    subst (λ (l : List ℕ). JudgedAt (lines_in false l) c.in-Some-2.end) whole (subst (λ (v : Option ReplayEnd). EndsLine (read ++ i.0) line v c.end_line.new.self) c.in-Some-2.is ends rest)

pub loop-line-preserved : goal.loop-line-preserved
loop-line-preserved g c = λ read h.
    let i = c.loop-line.invariant read h in
    let line = c.in-Some.line.now in
    let rest = c.in-Some.rest.now in
    let ends : EndsLine (read ++ i.0) line c.in_ok-end.field-0 c.end_line.new.self = c.in_ok-end.ensures (read ++ i.0) i.2 in
    let held : Holds c.end_line.new.self ((read ++ i.0) ++ (line ++ 10 ∷ [])) = subst (λ (v : Option ReplayEnd). EndsLine (read ++ i.0) line v c.end_line.new.self) c.in_default-2.is ends in (
      i.0 ++ (line ++ 10 ∷ []),
      i.1 ∙ ap (λ (l : List ℕ). i.0 ++ l) (c.in-Some.ensures.cut ∙ sym (append_assoc line (10 ∷ []) rest)) ∙ sym (append_assoc i.0 (line ++ 10 ∷ []) rest),
      subst (λ (l : List ℕ). Holds c.end_line.new.self l) (append_assoc read i.0 (line ++ 10 ∷ [])) held,
    )

pub returns : goal.returns
returns g c =
    IfOk-weaker c.hold.result _ _
    (λ verdict f read h.
    let i = c.loop-line.invariant read h in
    subst (λ (l : List ℕ). Gathers l verdict c.hold.new.self) (append_assoc read i.0 c.loop-line.left.now ∙ ap (λ (l : List ℕ). read ++ l) (sym i.1)) (f (read ++ i.0) i.2))
    c.hold.ensures
