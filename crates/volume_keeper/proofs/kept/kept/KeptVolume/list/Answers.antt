use Rattle.std.proofs.Common.{◌≡◌, ◌++◌, subst, rules, Option}
use Rattle.std.specs.Prelude.{OnOk}
use Rattle.afp_base.specs.declared.code.Code.{Code}
use Rattle.afp_replies.specs.Replies.{canonical_reply}
use Rattle.afp_replies.specs.declared.reply.Reply.{Reply}
use Rattle.volume_spec.specs.DesktopLaws.{with_desktop}
use Rattle.volume_tree.specs.Answered.{Refuses}
use Rattle.volume_tree.specs.Shown.{opened}
use Rattle.volume_keeper.proofs.OfKept.Telling.{list_same, reply_same, list_told}
use Rattle.volume_keeper.proofs.kept.kept.KeptVolume.list.Goals as goal

pub returns-clause-refused : goal.returns-clause-refused
returns-clause-refused g c =
    let is : with_desktop c.whole.inside.tree.state c.whole.inside.desktop.comments c.whole.inside.desktop.icons c.whole.inside.desktop.appls ≡ c.args.self.now.state = search rules in
    subst (λ (refused : Option Code). Refuses c.list.result refused) (list_same c.whole.inside.tree.state c.args.self.now.state c.whole.inside.desktop.comments c.whole.inside.desktop.icons c.whole.inside.desktop.appls is (opened c.args.opens.now) c.args.asked c.args.dir.0 c.args.path.now) c.list.ensures.refused

pub returns-clause-ok : goal.returns-clause-ok
returns-clause-ok g c =
    let is : with_desktop c.whole.inside.tree.state c.whole.inside.desktop.comments c.whole.inside.desktop.icons c.whole.inside.desktop.appls ≡ c.args.self.now.state = search rules in
    subst (λ (reply : Reply). OnOk c.list.result (c.list.new.out ≡ c.args.out.now ++ canonical_reply reply))
    (reply_same c.whole.inside.tree.state c.args.self.now.state c.whole.inside.desktop.comments c.whole.inside.desktop.icons c.whole.inside.desktop.appls is (opened c.args.opens.now) c.args.asked c.args.dir.0 c.args.path.now)
    (list_told c.whole.inside.tree.state (opened c.args.opens.now) c.args.asked c.args.dir.0 c.args.path.now c.list.result c.list.ensures.refused c.list.new.out c.args.out.now c.list.ensures.ok)
