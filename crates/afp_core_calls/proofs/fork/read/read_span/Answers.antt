use Rattle.std.proofs.Common.{◌∙◌, subst, sym}
use Rattle.afp_core_calls.specs.fork.lemma.OnForkBytes.{IsSpanOf}
use Rattle.afp_core_state.specs.OnForks.{IsFork}
use Rattle.afp_core_calls.proofs.OfFork.ForkBytesLemmas.{read-negative, read-none, read-of, read-refused, read-runs}
use Rattle.afp_core_calls.proofs.fork.read.read_span.Goals as goal

pub returns-in_default : goal.returns-in_default
returns-in_default g c = λ call asked row_is goes is.
    read-none c.args.state.now c.args.session.0 call c.args.reference.0 asked row_is goes _ (subst (IsFork c.args.state.now c.args.session.0 c.args.reference.0) c.in_default.is c.fork_at.ensures) c.refused.ensures

pub returns-in_default-span : goal.returns-in_default-span
returns-in_default-span g c = λ call asked row_is goes is.
    read-negative c.args.state.now c.args.session.0 call c.args.reference.0 asked row_is goes _ (subst (IsSpanOf asked) c.in_default-span.is is) c.refused-in_default-span.ensures

pub returns-in-Some-read_refused : goal.returns-in-Some-read_refused
returns-in-Some-read_refused g c = λ call asked row_is goes is.
    let stands = c.in-Some.ensures in
    read-refused c.args.state.now c.args.session.0 call c.args.reference.0 asked row_is goes c.in-Some.own stands c.in-Some-span.span c.in-Some-read_refused.code _ (subst (IsSpanOf asked) c.in-Some-span.is is)
    (sym (c.read_refused.ensures stands.file.fork stands.reference_is stands.access_is) ∙ c.in-Some-read_refused.is) c.refused-in-Some-read_refused.ensures

pub returns : goal.returns
returns g c = λ call asked row_is goes is.
    let k = c.args.state.now in
    let stands = c.in-Some.ensures in
    let met = c.read_bytes-met_end in
    read-runs k c.args.session.0 call c.args.reference.0 asked row_is goes c.in-Some.own stands c.in-Some-span.span met.result met.new.out c.told_read.result (subst (IsSpanOf asked) c.in-Some-span.is is)
    (sym (c.read_refused.ensures stands.file.fork stands.reference_is stands.access_is) ∙ c.in_default-read_refused.is)
    (read-of k c.args.session.0 c.args.reference.0 c.in-Some.own stands c.kept_at-kept.result.now.state c.kept_at-kept.ensures asked c.in-Some-span.span (subst (IsSpanOf asked) c.in-Some-span.is is) met.result met.new.out met.ensures)
    c.told_read.ensures
