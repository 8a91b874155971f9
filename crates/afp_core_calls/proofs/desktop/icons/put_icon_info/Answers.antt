use Rattle.volume_spec.specs.Icons.{get_icon_info_icon}
use Rattle.afp_core_calls.proofs.OfDesktop.DeskLemmas.{info-told}
use Rattle.afp_core_calls.proofs.desktop.icons.put_icon_info.Goals as goal

pub returns-in-Ok-clause-ok : goal.returns-in-Ok-clause-ok
unfolding get_icon_info_icon
returns-in-Ok-clause-ok c =
    info-told c.args.volume.now.state.icons c.args.creator.now c.args.index _ _ _ c.args.out.now _ c.in-Some.ensures c.in-Ok.ensures.ok
