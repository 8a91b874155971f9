use Rattle.std.proofs.Common.{◌∙◌, refl, ap, subst}
use Rattle.std.specs.Prelude.{slice_range}
use Rattle.range_locks.specs.lemma.Kept.{IsBefore, IsBehind}
use Rattle.range_locks.specs.Locks.{without_holder}
use Rattle.range_locks.proofs.Keeping.{no_part, part_gone, cleared, lost_kept}
use Rattle.range_locks.proofs.locks.Locks.forget.Goals as goal

pub returns-then-first-last : goal.returns-then-first-last
returns-then-first-last c = no_part c.args.self.now c.args.r.0 c.before-first.result c.behind-last.result
    (subst (λ l. IsBefore l c.args.r.0 c.before-first.result) (c.as_slice.ensures.value ∙ c.self.view_is) c.before-first.ensures)
    (subst (λ l. IsBehind l c.args.r.0 c.behind-last.result) (c.as_slice-2.ensures.value ∙ c.self.view_is) c.behind-last.ensures)
    c.if-first-last.true

pub invariant_of-self : goal.invariant_of-self
invariant_of-self c =
    let low = subst (λ l. IsBefore l c.args.r.0 c.before-first.result) c.as_slice.ensures.value c.before-first.ensures in
    let high = subst (λ l. IsBehind l c.args.r.0 c.behind-last.result) c.as_slice-2.ensures.value c.behind-last.ensures in
    lost_kept (record {
      was = c.self.invariant;
      new_list = part_gone c.args.r.0 c.before-first.result c.behind-last.result low high c.drop-drain.ensures.items c.drain.ensures.kept;
      new_rows = cleared c.clear_rows.new.forks c.args.r.0 c.before-first.result c.behind-last.result c.self.invariant low high (c.locks_between-own.ensures ∙ ap (λ l. slice_range l c.before-first.result c.behind-last.result) c.as_slice-3.ensures.value) c.clear_rows.ensures;
      alike = λ q l on. refl;
    })

pub returns : goal.returns
returns c =
    let low = subst (λ l. IsBefore l c.args.r.0 c.before-first.result) c.as_slice.ensures.value c.before-first.ensures in
    let high = subst (λ l. IsBehind l c.args.r.0 c.behind-last.result) c.as_slice-2.ensures.value c.behind-last.ensures in
    part_gone c.args.r.0 c.before-first.result c.behind-last.result low high c.drop-drain.ensures.items c.drain.ensures.kept ∙ ap (without_holder c.args.r.0) c.self.view_is
