use Rattle.std.proofs.Common.{◌≡◌, drop}
use Rattle.volume_keeper.specs.loading.lemma.Rebuilt.{HasApplRoom, HasIconRoom, HaveRoom, appls_with, comments_with, icons_with, with_all}
use Rattle.volume_keeper.proofs.loading.rebuild.put_all.Given as goal

abbrev pub invariant-loop-i : goal.invariant-loop-i
invariant-loop-i l = record {
  icon_room : HaveRoom HasIconRoom icons_with (drop l.i l.rows) l.desktop.icons;
  appl_room : HaveRoom HasApplRoom appls_with (drop l.i l.rows) l.desktop.appls;
  comments : with_all comments_with (drop l.i l.rows) l.desktop.comments ≡ with_all comments_with l.rows l.fn.desktop.comments;
  icons : with_all icons_with (drop l.i l.rows) l.desktop.icons ≡ with_all icons_with l.rows l.fn.desktop.icons;
  appls : with_all appls_with (drop l.i l.rows) l.desktop.appls ≡ with_all appls_with l.rows l.fn.desktop.appls;
}
