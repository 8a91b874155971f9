use Rattle.std.proofs.Common.{◌-◌, refl, sym, subst, take, []}
use Rattle.volume_edits.specs.edits.Planned.{edits_of}
use Rattle.volume_changes.specs.steps.lemma.Put.{IsWith, mapping_key}
use Rattle.volume_changes.specs.steps.lemma.Touching.{all_appls_in, appls_in}
use Rattle.volume_changes.proofs.OfSteps.Gathered.{appls-last, with-last}
use Rattle.volume_changes.proofs.OfSteps.Putting.{with-none}
use Rattle.volume_changes.proofs.steps.touched.+appls_touched.Goals as goal

pub returns-then-count-eq0 : goal.returns-then-count-eq0
returns-then-count-eq0 t c = subst (λ l. IsWith mapping_key (all_appls_in (edits_of (take c.args.count c.args.edits.now)) c.args.appls.now) [] l) (sym c.new.ensures.items)
    (subst (λ k. IsWith mapping_key (all_appls_in (edits_of (take k c.args.edits.now)) c.args.appls.now) [] []) (sym c.if-count-eq0.true) (with-none mapping_key [] refl))

pub returns : goal.returns
returns t c =
    with-last mapping_key (all_appls_in (edits_of (take (c.args.count - 1) c.args.edits.now)) c.args.appls.now) (appls_in c.index-edits-count.result.edit c.args.appls.now) (all_appls_in (edits_of (take c.args.count c.args.edits.now)) c.args.appls.now)
    c.in_ok-mappings.mappings.items c.put_appls.new.mappings.items (appls-last c.args.appls.now c.args.edits.now c.args.count c.index-edits-count.result c.if-count-eq0.false c.requires c.index-edits-count.is) c.in_ok-mappings.ensures c.in_ok-put_appls.ensures
