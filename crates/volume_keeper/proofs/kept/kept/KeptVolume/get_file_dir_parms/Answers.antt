use Rattle.std.proofs.Common.{◌≡◌, ◌++◌, subst, rules, Option}
use Rattle.std.specs.Prelude.{OnOk}
use Rattle.afp_base.specs.declared.code.Code.{Code}
use Rattle.afp_bitmap.specs.declared.params.Values.{Values}
use Rattle.afp_replies.specs.Replies.{canonical_reply}
use Rattle.afp_serial.specs.GetFileDirParms.{get_file_dir_parms_reply}
use Rattle.volume_spec.specs.DesktopLaws.{with_desktop}
use Rattle.volume_tree.specs.Answered.{Refuses}
use Rattle.volume_tree.specs.Shown.{opened}
use Rattle.volume_keeper.proofs.OfKept.Telling.{node_same, values_same, node_told}
use Rattle.volume_keeper.proofs.kept.kept.KeptVolume.get_file_dir_parms.Goals as goal

pub returns-clause-refused : goal.returns-clause-refused
returns-clause-refused g c =
    let is : with_desktop c.whole.inside.tree.state c.whole.inside.desktop.comments c.whole.inside.desktop.icons c.whole.inside.desktop.appls ≡ c.args.self.now.state = search rules in
    subst (λ (refused : Option Code). Refuses c.get_file_dir_parms.result refused) (node_same c.whole.inside.tree.state c.args.self.now.state c.whole.inside.desktop.comments c.whole.inside.desktop.icons c.whole.inside.desktop.appls is c.args.user c.args.file_bits c.args.dir_bits c.args.dir.0 c.args.path.now) c.get_file_dir_parms.ensures.refused

pub returns-clause-ok : goal.returns-clause-ok
returns-clause-ok g c =
    let is : with_desktop c.whole.inside.tree.state c.whole.inside.desktop.comments c.whole.inside.desktop.icons c.whole.inside.desktop.appls ≡ c.args.self.now.state = search rules in
    subst (λ (values : Option Values). OnOk c.get_file_dir_parms.result (c.get_file_dir_parms.new.out ≡ c.args.out.now ++ canonical_reply (get_file_dir_parms_reply c.args.file_bits c.args.dir_bits values)))
    (values_same c.whole.inside.tree.state c.args.self.now.state c.whole.inside.desktop.comments c.whole.inside.desktop.icons c.whole.inside.desktop.appls is c.args.user (opened c.args.opens.now) c.args.file_bits c.args.dir_bits c.args.dir.0 c.args.path.now)
    (node_told c.values_are_those_asked_for.ensures.found c.whole.inside.tree.state c.keeps_sound.ensures c.args.user (opened c.args.opens.now) c.args.file_bits c.args.dir_bits c.args.dir.0 c.args.path.now c.get_file_dir_parms.result c.get_file_dir_parms.ensures.refused
    c.get_file_dir_parms.new.out c.args.out.now c.get_file_dir_parms.ensures.ok)
