use Rattle.std.proofs.Common.{◌≡◌, ◌∙◌, ap, rules}
use Rattle.volume_spec.specs.VolumeState.{Icon}
use Rattle.volume_spec.specs.SoundVolume.{icon_key}
use Rattle.volume_spec.specs.Desktop.{icon_under, with_icon}
use Rattle.volume_keeper.proofs.loading.rebuild.put_icon.Goals as goal

pub returns-in-Ok-clause-icons : goal.returns-in-Ok-clause-icons
returns-in-Ok-clause-icons c =
    let shown : Icon = record { creator = c.icon.inside.creator; kind = c.icon.inside.kind; icon_kind = c.icon.inside.icon_kind; tag = c.icon.inside.tag; bits = c.icon.inside.bits } in
    let is : shown ≡ c.args.icon.now = search rules in
    c.in-Ok.ensures.ok
    ∙ (λ i. with_icon (icon_under (c.icon_key-key.ensures i) c.icon.inside.tag (c.in_ok-copy.ensures i)) c.args.desktop.now.icons)
    ∙ ap (λ (x : Icon). with_icon (icon_under (icon_key x) x.tag x.bits) c.args.desktop.now.icons) is
