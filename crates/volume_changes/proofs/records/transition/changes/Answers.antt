use Rattle.std.proofs.Common.{◌∙◌, ap, subst, sym, List}
use Rattle.record_keeper.specs.declared.record.Change.{Change}
use Rattle.record_keeper.specs.Records.{changed}
use Rattle.volume_keeper_records.specs.Image.{kept_image}
use Rattle.volume_changes.specs.records.Laws.{IsExact}
use Rattle.volume_changes.proofs.records.transition.changes.Goals as goal

pub returns-clause-image : goal.returns-clause-image
returns-clause-image g c =
    ap (λ (l : List Change). changed l (kept_image (g.S.Transition.before c.args.step.now))) c.in_ok-changes.ensures
    ∙ c.volumes_change_exactly.ensures.made c.args.touched.now (g.S.Transition.before c.args.step.now) (g.S.Transition.after c.args.step.now) c.requires.before c.requires.after c.requires.within

pub returns-clause-exact : goal.returns-clause-exact
returns-clause-exact g c =
    subst (λ (l : List Change). IsExact l (kept_image (g.S.Transition.before c.args.step.now)) (kept_image (g.S.Transition.after c.args.step.now))) (sym c.in_ok-changes.ensures)
    (c.volumes_change_exactly.ensures.exact c.args.touched.now (g.S.Transition.before c.args.step.now) (g.S.Transition.after c.args.step.now)
    (c.touched_keys_rise.ensures c.args.touched.now c.in_range.ensures c.requires.rising) c.requires.before c.requires.after c.requires.within)
