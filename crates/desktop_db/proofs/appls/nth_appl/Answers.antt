use Rattle.std.proofs.Common.{◌≡◌, ◌∙◌, ap, sym, cond, Some, None, true, arith}
use Rattle.volume_spec.specs.VolumeState.{Appl}
use Rattle.desktop_db.proofs.Creators.{appls-climb}
use Rattle.desktop_db.proofs.Heads.{climbs, nth-at, nth-past}
use Rattle.desktop_db.proofs.appls.nth_appl.Goals as goal

pub returns-then-behind-appls : goal.returns-then-behind-appls
returns-then-behind-appls c =
    let up : climbs (λ (appl : Appl). appl.creator) c.args.appls.now ≡ true = appls-climb c.args.appls.now c.requires.formed c.requires.order in
    sym (nth-past (λ appl. appl.creator) c.args.creator.now c.args.appls.now c.first_of-first.result c.args.n up c.first_of-first.ensures.place (omega arith) (omega arith))

pub returns-then-not-is_of : goal.returns-then-not-is_of
returns-then-not-is_of c =
    let up : climbs (λ (appl : Appl). appl.creator) c.args.appls.now ≡ true = appls-climb c.args.appls.now c.requires.formed c.requires.order in
    let x : Appl = c.index-appls-first.result in
    sym (nth-at (λ appl. appl.creator) c.args.creator.now c.args.appls.now c.first_of-first.result c.args.n x up c.first_of-first.ensures.place (omega arith) (omega arith) c.index-appls-first.is
    ∙ ap (λ t. cond t (Some x) None) (sym c.is_of.ensures ∙ c.if-not-is_of.true))

pub returns : goal.returns
returns c =
    let up : climbs (λ (appl : Appl). appl.creator) c.args.appls.now ≡ true = appls-climb c.args.appls.now c.requires.formed c.requires.order in
    let x : Appl = c.index-appls-first.result in
    sym (nth-at (λ appl. appl.creator) c.args.creator.now c.args.appls.now c.first_of-first.result c.args.n x up c.first_of-first.ensures.place (omega arith) (omega arith) c.index-appls-first.is
    ∙ ap (λ t. cond t (Some x) None) (sym c.is_of.ensures ∙ c.if-not-is_of.false))
