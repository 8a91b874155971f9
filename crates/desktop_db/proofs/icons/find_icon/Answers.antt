use Rattle.std.proofs.Common.{sym}
use Rattle.volume_spec.specs.SoundVolume.{icon_key}
use Rattle.desktop_db.proofs.Places.{not-found, place-read}
use Rattle.desktop_db.proofs.icons.find_icon.Goals as goal

pub returns-in-Ok : goal.returns-in-Ok
returns-in-Ok c = sym (place-read icon_key c.args.key.now c.args.icons.now c.in-Ok.place c.index-icons-place.result c.requires c.in-Ok.ensures.found c.index-icons-place.is)

pub returns-in-Err : goal.returns-in-Err
returns-in-Err c = sym (not-found icon_key c.args.key.now c.args.icons.now c.in-Err.field-0 c.in-Err.ensures.gap)
