use Rattle.std.proofs.Common.{◌∙◌, ap, sym}
use Rattle.std.specs.Prelude.{option_map}
use Rattle.desktop_db.specs.Kept.{shown_icon}
use Rattle.afp_core_calls.proofs.OfDesktop.DeskLemmas.{icon-found, key-listed}
use Rattle.afp_core_calls.proofs.desktop.icons.listed.Goals as goal

pub returns : goal.returns
returns c =
    let v = c.args.volume.now.state in
    let k = key-listed v.icons c.args.creator.now c.args.index c.in-Some.key (sym c.in-Some.is ∙ c.nth_icon.ensures) in
    icon-found v.comments v.icons v.appls c.args.creator.now c.args.index c.in-Some.key (c.in-Some-icon.tag, c.in-Some-icon.bits) k.0 (c.desktops_keep_volumes_sound.ensures.has v c.keeps_sound.ensures.sound)
    c.icons_have_their_keys.ensures.parts c.icons_have_their_keys.ensures.listed k.1 k.2 (ap (option_map shown_icon) (sym c.in-Some-icon.is) ∙ c.icon.ensures)
