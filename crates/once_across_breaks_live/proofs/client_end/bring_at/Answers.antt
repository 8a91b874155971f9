use Rattle.std.proofs.Common.{refl}
use Rattle.std.proofs.lemmas.Option.{slice_get-get_or}
use Rattle.std.proofs.lemmas.Result.{on_ok_weaker}
use Rattle.once_across_breaks_live.proofs.client_end.bring_at.Goals as goal

pub returns : goal.returns
returns c =
    on_ok_weaker c.bring.result
    (λ h. record { old = _; new = c.bring.new.lane; there = slice_get-get_or c.args.lanes.now c.args.index c.index-lanes-index.result c.requires.within; set_there = refl; changed = h })
    c.bring.ensures
