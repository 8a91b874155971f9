use Rattle.std.proofs.Common.{◌≡◌, ◌∙◌, ap, sym, subst, true}
use Rattle.std.specs.Prelude.{pos}
use Rattle.std.specs.List.{list_all}
use Rattle.volume_spec.specs.DesktopLaws.{with_desktop}
use Rattle.volume_spec.specs.Edit.{after_call, after_edits}
use Rattle.volume_spec.specs.EditLaws.{MayEditAll}
use Rattle.volume_spec.specs.EditRanges.{is_typed_edit}
use Rattle.volume_spec.specs.Edits.{changed_at}
use Rattle.volume_spec.specs.TypedVolume.{is_date}
use Rattle.volume_spec.specs.VolumeState.{VolumeState}
use Rattle.volume_edits.specs.edits.Planned.{PlanValue, StandOn, edits_of}
use Rattle.volume_edits.specs.edits.Whole.{VolumeValue}
use Rattle.volume_edits.specs.edits.lemma.Whole.{IsWhole}
use Rattle.volume_edits.proofs.OfEdits.Left.{carried, none-edits}
use Rattle.volume_edits.proofs.edits.whole.WholeVolume.apply.Goals as goal

pub returns-then-is_empty : goal.returns-then-is_empty
returns-then-is_empty c = none-edits c.args.self.now.state c.args.plan.moment c.args.plan.edits (sym c.is_empty.ensures ∙ c.if-is_empty.true)

pub edit_all-requires-clause-may : goal.edit_all-requires-clause-may
edit_all-requires-clause-may c = subst (λ (p : PlanValue). MayEditAll c.args.self.now.state (edits_of p.edits)) (sym c.plan.view_is) c.requires.may

pub edit_all-requires-clause-before : goal.edit_all-requires-clause-before
edit_all-requires-clause-before c = subst (λ (p : PlanValue). StandOn c.args.self.now.state p.edits) (sym c.plan.view_is) c.requires.before

pub edit_all-requires-clause-typed : goal.edit_all-requires-clause-typed
edit_all-requires-clause-typed c = subst (λ (p : PlanValue). list_all is_typed_edit (edits_of p.edits) ≡ true) (sym c.plan.view_is) c.requires.typed

pub invariant_of-self : goal.invariant_of-self
invariant_of-self c =
    let moved : c.touch.new.self.state ≡ changed_at c.plan.inside.moment c.self.inside.tree.state = c.touch.ensures.state in
    let whole : with_desktop c.touch.new.self.state c.self.inside.desktop.comments c.self.inside.desktop.icons c.self.inside.desktop.appls ≡ changed_at c.plan.inside.moment c.edit_all.new.self.state =
    ap (λ (v : VolumeState). with_desktop v c.self.inside.desktop.comments c.self.inside.desktop.icons c.self.inside.desktop.appls) moved ∙ ap (λ (v : VolumeValue). changed_at c.plan.inside.moment v.state) c.self.view_is in
    let is : with_desktop c.touch.new.self.state c.self.inside.desktop.comments c.self.inside.desktop.icons c.self.inside.desktop.appls ≡ after_call c.args.self.now.state c.args.plan.moment (edits_of c.args.plan.edits) =
    carried c.args.self.now.state c.edit_all.new.self.state (with_desktop c.touch.new.self.state c.self.inside.desktop.comments c.self.inside.desktop.icons c.self.inside.desktop.appls) c.args.plan.moment c.args.plan.edits (sym c.is_empty.ensures ∙ c.if-is_empty.false)
    (c.edit_all.ensures ∙ (λ i. after_edits c.args.self.now.state (edits_of (c.plan.view_is i).edits))) (whole ∙ (λ i. changed_at (c.plan.view_is i).moment c.edit_all.new.self.state)) in
    let date : is_date (pos c.args.plan.moment) ≡ true = subst (λ (p : PlanValue). is_date (pos p.moment) ≡ true) c.plan.view_is c.date_in_range.ensures in
    subst (λ (v : VolumeState). IsWhole v) (sym is) (record {
      sound = c.edits_keep_volumes_sound.ensures.call c.args.self.now.state c.args.plan.moment (edits_of c.args.plan.edits) c.requires.may c.keeps_sound.ensures.sound;
      typed = c.edits_keep_numbers_in_ranges.ensures.call c.args.self.now.state c.args.plan.moment (edits_of c.args.plan.edits) date c.requires.may c.requires.typed c.keeps_sound.ensures.typed;
    })

pub returns : goal.returns
returns c =
    let moved : c.touch.new.self.state ≡ changed_at c.plan.inside.moment c.self.inside.tree.state = c.touch.ensures.state in
    let whole : with_desktop c.touch.new.self.state c.self.inside.desktop.comments c.self.inside.desktop.icons c.self.inside.desktop.appls ≡ changed_at c.plan.inside.moment c.edit_all.new.self.state =
    ap (λ (v : VolumeState). with_desktop v c.self.inside.desktop.comments c.self.inside.desktop.icons c.self.inside.desktop.appls) moved ∙ ap (λ (v : VolumeValue). changed_at c.plan.inside.moment v.state) c.self.view_is in
    let is : with_desktop c.touch.new.self.state c.self.inside.desktop.comments c.self.inside.desktop.icons c.self.inside.desktop.appls ≡ after_call c.args.self.now.state c.args.plan.moment (edits_of c.args.plan.edits) =
    carried c.args.self.now.state c.edit_all.new.self.state (with_desktop c.touch.new.self.state c.self.inside.desktop.comments c.self.inside.desktop.icons c.self.inside.desktop.appls) c.args.plan.moment c.args.plan.edits (sym c.is_empty.ensures ∙ c.if-is_empty.false)
    (c.edit_all.ensures ∙ (λ i. after_edits c.args.self.now.state (edits_of (c.plan.view_is i).edits))) (whole ∙ (λ i. changed_at (c.plan.view_is i).moment c.edit_all.new.self.state)) in
    is
