use Rattle.std.proofs.Common.{◌≡◌, ◌∙◌, ap, sym, false}
use Rattle.volume_spec.specs.DesktopLaws.{with_desktop}
use Rattle.volume_spec.specs.Edit.{edited}
use Rattle.volume_spec.specs.Desktop.{has_no_icon_room}
use Rattle.desktop_db.proofs.KeyBytes.{nine}
use Rattle.volume_edits.proofs.OfEdits.Seen.{put-ok}
use Rattle.volume_edits.proofs.edits.kinds.puts_icon.Goals as goal

pub returns : goal.returns
unfolding edited
returns c =
    let room : has_no_icon_room c.args.key c.args.desktop.now.icons ≡ false = ap (λ key. has_no_icon_room key c.args.desktop.now.icons) (sym (nine c.args.key c.nine_bytes.ensures)) ∙ c.requires.may.room in
    let icons = put-ok c.put_icon-put.result (has_no_icon_room c.args.key c.args.desktop.now.icons) c.put_icon-put.ensures.full.0 room (c.put_icon-put.ensures.room c.requires.room) c.put_icon-put.ensures.ok in
    λ i. with_desktop c.args.tree.now.state (c.put_icon-put.ensures.comments i) (icons i) (c.put_icon-put.ensures.appls i)
