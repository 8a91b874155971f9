use Rattle.std.proofs.Common.{◌-◌, ◌∙◌, ◌==◌, ap, arith, cond, List, ℕ}
use Rattle.std.specs.List.{list_any}
use Rattle.afp_serial.specs.OnFork.{placed}
use Rattle.session_table.proofs.VolumeLemmas.{open-id}
use Rattle.session_table.proofs.open_volumes.OpenVolumes.open.Goals as goal

pub returns : goal.returns
returns c =
    open-id 1 c.args.volume.0 (c.args.volume.0 - 1) c.self.inside.opened (omega arith) (omega arith)
    ∙ ap (λ (l : List ℕ). cond (list_any (λ o. o == c.args.volume.0) l) l (placed (λ o. o) c.args.volume.0 l)) c.self.view_is
