use Rattle.std.proofs.Common.{◌∙◌, List, sym, subst}
use Rattle.volume_spec.specs.VolumeState.{Icon, Appl}
use Rattle.volume_keeper_records.specs.declared.rows.TableRow.{TableRow}
use Rattle.volume_keeper.specs.loading.lemma.Rebuilt.{HasApplRoom, HasIconRoom, HaveRoom, appls_with, comments_with, icons_with, with_all}
use Rattle.volume_keeper.proofs.OfLoading.DesktopAgain.{appls_again, appls_have_room, comments_again, icons_again, icons_have_room}
use Rattle.volume_keeper.proofs.loading.rebuild.desktop_of.Goals as goal

pub put_all-requires-clause-icons : goal.put_all-requires-clause-icons
put_all-requires-clause-icons c =
    subst (λ (t : List TableRow × List Icon). HaveRoom HasIconRoom icons_with t.0 t.1) (sym (λ i. (c.requires.2 i, c.new-desktop.ensures.icons i)))
    (icons_have_room c.requires.0 (c.desktops_keep_volumes_sound.ensures.has c.requires.0 c.requires.1.sound) c.icons_have_their_keys.ensures.parts)

pub put_all-requires-clause-appls : goal.put_all-requires-clause-appls
put_all-requires-clause-appls c =
    subst (λ (t : List TableRow × List Appl). HaveRoom HasApplRoom appls_with t.0 t.1) (sym (λ i. (c.requires.2 i, c.new-desktop.ensures.appls i)))
    (appls_have_room c.requires.0 (c.desktops_keep_volumes_sound.ensures.has c.requires.0 c.requires.1.sound))

pub returns-clause-comments : goal.returns-clause-comments
returns-clause-comments c = λ v whole e.
    c.in_ok-put_all.ensures.comments ∙ (λ i. with_all comments_with (e i) (c.new-desktop.ensures.comments i)) ∙ comments_again v (c.desktops_keep_volumes_sound.ensures.has v whole.sound)

pub returns-clause-icons : goal.returns-clause-icons
returns-clause-icons c = λ v whole e.
    c.in_ok-put_all.ensures.icons ∙ (λ i. with_all icons_with (e i) (c.new-desktop.ensures.icons i)) ∙ icons_again v (c.desktops_keep_volumes_sound.ensures.has v whole.sound) c.icons_have_their_keys.ensures.parts

pub returns-clause-appls : goal.returns-clause-appls
returns-clause-appls c = λ v whole e.
    c.in_ok-put_all.ensures.appls ∙ (λ i. with_all appls_with (e i) (c.new-desktop.ensures.appls i)) ∙ appls_again v (c.desktops_keep_volumes_sound.ensures.has v whole.sound)
