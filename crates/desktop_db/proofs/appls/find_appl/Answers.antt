use Rattle.std.proofs.Common.{sym}
use Rattle.volume_spec.specs.Desktop.{pair_key}
use Rattle.volume_spec.specs.SoundVolume.{appl_key}
use Rattle.desktop_db.proofs.Places.{not-found, place-read}
use Rattle.desktop_db.proofs.appls.find_appl.Goals as goal

pub returns-in-Ok : goal.returns-in-Ok
returns-in-Ok c =
    sym (place-read appl_key (pair_key c.args.creator.now c.args.node.0) c.args.appls.now c.in-Ok.place c.index-appls-place.result c.requires c.in-Ok.ensures.found c.index-appls-place.is)

pub returns-in-Err : goal.returns-in-Err
returns-in-Err c = sym (not-found appl_key (pair_key c.args.creator.now c.args.node.0) c.args.appls.now c.in-Err.field-0 c.in-Err.ensures.gap)
