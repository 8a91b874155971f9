use Rattle.std.proofs.Common.{◌∙◌, ap, sym}
use Rattle.std.specs.Option.{option_copied}
use Rattle.volume_tree.proofs.Restoring.{found-there}
use Rattle.volume_tree.proofs.restore.root_name.Goals as goal

pub unreachable-requires : goal.unreachable-requires
unreachable-requires c = found-there c.args.rows.now.rows 2 (sym c.get.ensures ∙ ap option_copied c.in-None.is) c.requires
