use Rattle.std.proofs.Common.{◌≡◌, drop}
use Rattle.std.specs.Prelude.{slice_get}
use Rattle.volume_spec.specs.Desktop.{creators_of}
use Rattle.desktop_db.proofs.appls.nth_creator.Given as goal

abbrev pub invariant-loop-appl : goal.invariant-loop-appl
invariant-loop-appl l = slice_get (creators_of l.node.0 (drop l.appl-index l.appls)) l.left ≡ slice_get (creators_of l.node.0 l.appls) l.i
