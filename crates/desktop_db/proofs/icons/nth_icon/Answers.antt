use Rattle.std.proofs.Common.{◌≡◌, ◌∙◌, ap, sym, cond, Some, None, true, arith}
use Rattle.volume_spec.specs.VolumeState.{Icon}
use Rattle.desktop_db.proofs.Creators.{icons-climb}
use Rattle.desktop_db.proofs.Heads.{climbs, nth-at, nth-past}
use Rattle.desktop_db.proofs.icons.nth_icon.Goals as goal

pub returns-then-behind-icons : goal.returns-then-behind-icons
returns-then-behind-icons c =
    let up : climbs (λ (icon : Icon). icon.creator) c.args.icons.now ≡ true = icons-climb c.args.icons.now c.requires.formed c.requires.order in
    sym (nth-past (λ icon. icon.creator) c.args.creator.now c.args.icons.now c.first_of-first.result c.args.n up c.first_of-first.ensures.place (omega arith) (omega arith))

pub returns-then-not-is_of : goal.returns-then-not-is_of
returns-then-not-is_of c =
    let up : climbs (λ (icon : Icon). icon.creator) c.args.icons.now ≡ true = icons-climb c.args.icons.now c.requires.formed c.requires.order in
    let x : Icon = c.index-icons-first.result in
    sym (nth-at (λ icon. icon.creator) c.args.creator.now c.args.icons.now c.first_of-first.result c.args.n x up c.first_of-first.ensures.place (omega arith) (omega arith) c.index-icons-first.is
    ∙ ap (λ t. cond t (Some x) None) (sym c.is_of.ensures ∙ c.if-not-is_of.true))

pub returns : goal.returns
returns c =
    let up : climbs (λ (icon : Icon). icon.creator) c.args.icons.now ≡ true = icons-climb c.args.icons.now c.requires.formed c.requires.order in
    let x : Icon = c.index-icons-first.result in
    sym (nth-at (λ icon. icon.creator) c.args.creator.now c.args.icons.now c.first_of-first.result c.args.n x up c.first_of-first.ensures.place (omega arith) (omega arith) c.index-icons-first.is
    ∙ ap (λ t. cond t (Some x) None) (sym c.is_of.ensures ∙ c.if-not-is_of.false))
