use Rattle.std.proofs.Common.{◌∙◌, ap, sym}
use Rattle.std.specs.Option.{option_copied}
use Rattle.volume_tree.proofs.Placing.{never-missing}
use Rattle.volume_tree.proofs.volume.Volume.name_at.Goals as goal

pub unreachable-requires : goal.unreachable-requires
unreachable-requires c =
    never-missing c.args.self.now.state.rows c.args.id.0 (c.rows_are_changed_in_place.ensures.walks c.args.self.now.state c.args.user c.args.dir.0 c.args.id.0 c.args.path.now c.keeps_sound.ensures c.requires)
    (ap option_copied (sym c.in-None.is) ∙ c.node.ensures)
