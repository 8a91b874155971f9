use Rattle.std.proofs.Common.{◌∙◌, ◌-◌, ap, refl, arith, take, List, ℕ, Option}
use Rattle.std.specs.Prelude.{option_map}
use Rattle.desktop_db.specs.Kept.{shown_icon}
use Rattle.volume_spec.specs.Edit.{after_edits}
use Rattle.volume_edits.specs.edits.Planned.{edits_of}
use Rattle.volume_edits.proofs.OfEdits.Behind.{Last, last}
use Rattle.volume_edits.proofs.OfEdits.DesktopBehind.{icon-behind, icon_or, shown_at}
use Rattle.volume_edits.proofs.edits.whole.WholeVolume.+icon_behind.Goals as goal

pub icon_behind-requires : goal.icon_behind-requires
icon_behind-requires t c =
    let l : Last c.args.self.now.state c.args.edits.now c.args.count c.index-edits-count.result.edit = last c.args.self.now.state c.args.edits.now c.args.count c.index-edits-count.result c.if-count-eq0.false c.requires.within c.requires.may c.index-edits-count.is in
    (omega (arith, c.decreases, l.some), (l.within, l.before))

pub returns-in-Some : goal.returns-in-Some
returns-in-Some t c =
    let l : Last c.args.self.now.state c.args.edits.now c.args.count c.index-edits-count.result.edit = last c.args.self.now.state c.args.edits.now c.args.count c.index-edits-count.result c.if-count-eq0.false c.requires.within c.requires.may c.index-edits-count.is in
    let old : Option (ℕ × List ℕ) = shown_at c.args.key.now (after_edits c.args.self.now.state (edits_of (take (c.args.count - 1) c.args.edits.now))).icons in
    ap (λ o. icon_or o old) c.in-Some.ensures ∙ icon-behind c.what_was_put_is_found.ensures.icon c.args.self.now.state c.args.edits.now c.args.count c.args.key.now c.index-edits-count.result.edit old l refl

pub returns-in-None : goal.returns-in-None
returns-in-None t c =
    let l : Last c.args.self.now.state c.args.edits.now c.args.count c.index-edits-count.result.edit = last c.args.self.now.state c.args.edits.now c.args.count c.index-edits-count.result c.if-count-eq0.false c.requires.within c.requires.may c.index-edits-count.is in
    ap (λ o. icon_or o (option_map shown_icon c.icon_behind.result)) c.in-None.ensures
    ∙ icon-behind c.what_was_put_is_found.ensures.icon c.args.self.now.state c.args.edits.now c.args.count c.args.key.now c.index-edits-count.result.edit (option_map shown_icon c.icon_behind.result) l c.icon_behind.ensures
