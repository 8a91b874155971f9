use Rattle.std.proofs.Common.{◌∙◌, ap, refl, []}
use Rattle.volume_spec.specs.SetFileDirParms.{with_settings}
use Rattle.volume_spec.specs.VolumeState.{Row, privileges_of}
use Rattle.node_rows.specs.declared.node.Marks.{Marks}
use Rattle.volume_tree.proofs.SetMarks.{marks-set}
use Rattle.volume_tree.proofs.after.NodeAfter.with.Goals as goal

pub returns : goal.returns
returns c =
    let marked : Marks → Row = λ (m : Marks). record { id = c.self.inside.id.0; parent = c.self.inside.parent.0; dir = c.self.inside.dir; attributes = m.attributes; created = m.created; modified = m.modified; backup = m.backup; finder = m.finder; filed = m.filed; privileges = privileges_of m.owner m.group m.rights; name = c.self.inside.name.now; data_fork = []; resource_fork = [] } in
    ap marked c.marks_after.ensures ∙ marks-set c.args.settings.now c.self.inside.marks (marked c.self.inside.marks) refl ∙ ap (with_settings c.args.settings.now) c.self.view_is
