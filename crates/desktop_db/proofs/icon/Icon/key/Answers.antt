use Rattle.std.proofs.Common.{◌∙◌, ap, sym}
use Rattle.volume_spec.specs.SoundVolume.{icon_key}
use Rattle.desktop_db.proofs.KeyBytes.{nine}
use Rattle.desktop_db.proofs.icon.Icon.key.Goals as goal

pub returns : goal.returns
returns c = sym (nine c.self.inside.key c.self.invariant) ∙ ap icon_key c.self.view_is
