use Rattle.std.proofs.Common.{◌≡◌, ◌++◌, subst, rules}
use Rattle.std.specs.Prelude.{OnOk}
use Rattle.afp_bitmap.specs.declared.params.Values.TheVariants.{Volume as VolumeOf}
use Rattle.afp_bitmap.specs.declared.volume.VolumeValues.{VolumeValues}
use Rattle.afp_replies.specs.Replies.{canonical_reply}
use Rattle.afp_replies.specs.declared.reply.Reply.TheVariants.{Params}
use Rattle.volume_spec.specs.DesktopLaws.{with_desktop}
use Rattle.volume_keeper.proofs.OfKept.Telling.{volume_same}
use Rattle.volume_keeper.proofs.kept.kept.KeptVolume.get_vol_parms.Goals as goal

pub returns-clause-ok : goal.returns-clause-ok
returns-clause-ok g c =
    let is : with_desktop c.whole.inside.tree.state c.whole.inside.desktop.comments c.whole.inside.desktop.icons c.whole.inside.desktop.appls ≡ c.args.self.now.state = search rules in
    subst (λ (values : VolumeValues). OnOk c.get_vol_parms.result (c.get_vol_parms.new.out ≡ c.args.out.now ++ canonical_reply (Params c.args.bits (VolumeOf values))))
    (volume_same c.whole.inside.tree.state c.args.self.now.state c.whole.inside.desktop.comments c.whole.inside.desktop.icons c.whole.inside.desktop.appls is c.args.id.0 c.args.bits) c.get_vol_parms.ensures.ok
