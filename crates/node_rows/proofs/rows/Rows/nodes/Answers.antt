use Rattle.std.proofs.Common.{◌∙◌, ap, sym}
use Rattle.afp_base.specs.Apart.{are_apart}
use Rattle.volume_spec.specs.SoundVolume.{are_named_alike}
use Rattle.node_rows.proofs.Asked.{names-apart}
use Rattle.node_rows.specs.Kept.{RowsValue}
use Rattle.node_rows.proofs.rows.Rows.nodes.Goals as goal

pub returns-clause-apart : goal.returns-clause-apart
returns-clause-apart c =
    ap (λ (v : RowsValue). are_apart are_named_alike v.rows) (sym c.self.view_is)
    ∙ names-apart c.self.inside.nodes.items c.self.inside.children.items c.self.inside.next c.self.invariant.kept
