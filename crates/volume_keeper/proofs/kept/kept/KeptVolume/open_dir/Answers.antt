use Rattle.std.proofs.Common.{◌≡◌, subst, rules, Option}
use Rattle.afp_base.specs.declared.code.Code.{Code}
use Rattle.volume_spec.specs.DesktopLaws.{with_desktop}
use Rattle.volume_spec.specs.OpenDir.{open_dir_id}
use Rattle.volume_tree.specs.Answered.{Refuses}
use Rattle.volume_keeper.proofs.OfKept.Telling.{open_same, id_same, id_told}
use Rattle.volume_keeper.proofs.kept.kept.KeptVolume.open_dir.Goals as goal

pub returns-clause-refused : goal.returns-clause-refused
returns-clause-refused g c =
    let is : with_desktop c.whole.inside.tree.state c.whole.inside.desktop.comments c.whole.inside.desktop.icons c.whole.inside.desktop.appls ≡ c.args.self.now.state = search rules in
    subst (λ (refused : Option Code). Refuses c.open_dir.result refused) (open_same c.whole.inside.tree.state c.args.self.now.state c.whole.inside.desktop.comments c.whole.inside.desktop.icons c.whole.inside.desktop.appls is c.args.user c.args.dir.0 c.args.path.now) c.open_dir.ensures.refused

pub returns-clause-id : goal.returns-clause-id
returns-clause-id g c =
    let is : with_desktop c.whole.inside.tree.state c.whole.inside.desktop.comments c.whole.inside.desktop.icons c.whole.inside.desktop.appls ≡ c.args.self.now.state = search rules in
    id_told c.open_dir.result (open_dir_id c.whole.inside.tree.state c.args.user c.args.dir.0 c.args.path.now) (open_dir_id c.args.self.now.state c.args.user c.args.dir.0 c.args.path.now) (id_same c.whole.inside.tree.state c.args.self.now.state c.whole.inside.desktop.comments c.whole.inside.desktop.icons c.whole.inside.desktop.appls is c.args.user c.args.dir.0 c.args.path.now) c.open_dir.ensures.id
