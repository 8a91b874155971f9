use Rattle.std.proofs.Common.{◌∙◌, ap, take, drop}
use Rattle.std.specs.Prelude.{slice_index}
use Rattle.volume_spec.specs.SoundVolume.{is_icon}
use Rattle.desktop_db.proofs.KeyBytes.{icon-formed}
use Rattle.desktop_db.proofs.icon.Icon.new.Goals as goal

pub returns-clause-formed : goal.returns-clause-formed
returns-clause-formed c =
    ap (λ bits. is_icon (record { creator = take 4 c.args.key; kind = take 4 (drop 4 c.args.key); icon_kind = slice_index c.args.key 8; tag = c.args.tag; bits = bits })) c.truncate.ensures
    ∙ icon-formed c.args.key c.args.tag c.args.bits c.nine_bytes.ensures
