use Rattle.std.proofs.Common.{rules, ◌≡◌, ◌∙◌, ◌-◌, ap, refl, arith, take, ℤ, Option}
use Rattle.std.specs.Prelude.{unwrap_or}
use Rattle.volume_spec.specs.Edit.{after_edits}
use Rattle.volume_edits.specs.edits.Planned.{edits_of}
use Rattle.volume_edits.proofs.OfEdits.Behind.{Last, last}
use Rattle.volume_edits.proofs.OfEdits.HeadAndComments.{backup-behind}
use Rattle.volume_edits.proofs.edits.whole.WholeVolume.+backup_behind.Goals as goal

pub backup_behind-requires : goal.backup_behind-requires
backup_behind-requires t c =
    let l : Last c.args.self.now.state c.args.edits.now c.args.count c.index-edits-count.result.edit = last c.args.self.now.state c.args.edits.now c.args.count c.index-edits-count.result c.if-count-eq0.false c.requires.within c.requires.may c.index-edits-count.is in
    (omega (arith, c.decreases, l.some), (l.within, l.before))

pub returns-in-Some : goal.returns-in-Some
returns-in-Some t c =
    let l : Last c.args.self.now.state c.args.edits.now c.args.count c.index-edits-count.result.edit = last c.args.self.now.state c.args.edits.now c.args.count c.index-edits-count.result c.if-count-eq0.false c.requires.within c.requires.may c.index-edits-count.is in
    let old : ℤ = (after_edits c.args.self.now.state (edits_of (take (c.args.count - 1) c.args.edits.now))).backup in
    let h : c.in-Some.date ≡ (after_edits c.args.self.now.state (edits_of (take c.args.count c.args.edits.now))).backup = ap (λ (o : Option ℤ). unwrap_or o old) c.in-Some.ensures ∙ backup-behind c.args.self.now.state c.args.edits.now c.args.count old c.index-edits-count.result.edit l refl in
    search (rules, h)

pub returns-in-None : goal.returns-in-None
returns-in-None t c =
    let l : Last c.args.self.now.state c.args.edits.now c.args.count c.index-edits-count.result.edit = last c.args.self.now.state c.args.edits.now c.args.count c.index-edits-count.result c.if-count-eq0.false c.requires.within c.requires.may c.index-edits-count.is in
    let h : c.backup_behind.result ≡ (after_edits c.args.self.now.state (edits_of (take c.args.count c.args.edits.now))).backup = ap (λ (o : Option ℤ). unwrap_or o c.backup_behind.result) c.in-None.ensures ∙ backup-behind c.args.self.now.state c.args.edits.now c.args.count c.backup_behind.result c.index-edits-count.result.edit l c.backup_behind.ensures in
    search (rules, h)
