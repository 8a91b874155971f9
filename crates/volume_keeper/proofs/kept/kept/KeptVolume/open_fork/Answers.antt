use Rattle.std.proofs.Common.{◌≡◌, ◌∙◌, ap, sym, subst, rules, true, List, Option, Some}
use Rattle.std.specs.Prelude.{option_map}
use Rattle.afp_base.specs.declared.code.Code.{Code}
use Rattle.afp_base.specs.declared.ids.NodeId.{NodeId}
use Rattle.volume_spec.specs.DesktopLaws.{with_desktop}
use Rattle.volume_spec.specs.OpenFork.{open_fork_file}
use Rattle.volume_spec.specs.SoundVolume.{has_file}
use Rattle.volume_spec.specs.VolumeState.{Row}
use Rattle.volume_spec.specs.Walk.{row_at}
use Rattle.volume_tree.specs.Answered.{Refuses}
use Rattle.volume_keeper.proofs.OfKept.Telling.{file_same, fork_same, rows_same, told_id}
use Rattle.volume_keeper.proofs.kept.kept.KeptVolume.open_fork.Goals as goal

pub returns-clause-refused : goal.returns-clause-refused
returns-clause-refused g c =
    let is : with_desktop c.whole.inside.tree.state c.whole.inside.desktop.comments c.whole.inside.desktop.icons c.whole.inside.desktop.appls ≡ c.args.self.now.state = search rules in
    subst (λ (refused : Option Code). Refuses c.open_fork.result refused)
    (fork_same c.whole.inside.tree.state c.args.self.now.state c.whole.inside.desktop.comments c.whole.inside.desktop.icons c.whole.inside.desktop.appls is c.args.user c.args.bits c.args.reads c.args.writes c.args.dir.0 c.args.path.now)
    c.open_fork.ensures.refused

pub returns-clause-file : goal.returns-clause-file
returns-clause-file g c =
    let is : with_desktop c.whole.inside.tree.state c.whole.inside.desktop.comments c.whole.inside.desktop.icons c.whole.inside.desktop.appls ≡ c.args.self.now.state = search rules in
    let rows = rows_same c.whole.inside.tree.state c.args.self.now.state c.whole.inside.desktop.comments c.whole.inside.desktop.icons c.whole.inside.desktop.appls is in
    told_id c.open_fork.result (λ (id : NodeId). has_file c.whole.inside.tree.state.rows id.0 ≡ true) (λ (id : NodeId). has_file c.args.self.now.state.rows id.0 ≡ true) c.open_fork.ensures.file
    (λ id told. subst (λ (l : List Row). has_file l id.0 ≡ true) rows told)

pub returns-clause-found : goal.returns-clause-found
returns-clause-found g c =
    let is : with_desktop c.whole.inside.tree.state c.whole.inside.desktop.comments c.whole.inside.desktop.icons c.whole.inside.desktop.appls ≡ c.args.self.now.state = search rules in
    let rows = rows_same c.whole.inside.tree.state c.args.self.now.state c.whole.inside.desktop.comments c.whole.inside.desktop.icons c.whole.inside.desktop.appls is in
    let file = file_same c.whole.inside.tree.state c.args.self.now.state c.whole.inside.desktop.comments c.whole.inside.desktop.icons c.whole.inside.desktop.appls is c.args.user c.args.dir.0 c.args.path.now in
    told_id c.open_fork.result (λ (id : NodeId). open_fork_file c.whole.inside.tree.state c.args.user c.args.dir.0 c.args.path.now ≡ row_at c.whole.inside.tree.state.rows id.0)
    (λ (id : NodeId). open_fork_file c.args.self.now.state c.args.user c.args.dir.0 c.args.path.now ≡ row_at c.args.self.now.state.rows id.0) c.open_fork.ensures.found
    (λ id told. sym file ∙ told ∙ ap (λ (l : List Row). row_at l id.0) rows)

pub returns-clause-id : goal.returns-clause-id
returns-clause-id g c =
    let is : with_desktop c.whole.inside.tree.state c.whole.inside.desktop.comments c.whole.inside.desktop.icons c.whole.inside.desktop.appls ≡ c.args.self.now.state = search rules in
    let file = file_same c.whole.inside.tree.state c.args.self.now.state c.whole.inside.desktop.comments c.whole.inside.desktop.icons c.whole.inside.desktop.appls is c.args.user c.args.dir.0 c.args.path.now in
    told_id c.open_fork.result (λ (id : NodeId). option_map (λ (row : Row). row.id) (open_fork_file c.whole.inside.tree.state c.args.user c.args.dir.0 c.args.path.now) ≡ Some id.0)
    (λ (id : NodeId). option_map (λ (row : Row). row.id) (open_fork_file c.args.self.now.state c.args.user c.args.dir.0 c.args.path.now) ≡ Some id.0) c.open_fork.ensures.id
    (λ id told. ap (λ (o : Option Row). option_map (λ (row : Row). row.id) o) (sym file) ∙ told)
