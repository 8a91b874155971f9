use Rattle.std.proofs.Common.{refl}
use Rattle.std.proofs.lemmas.Option.{slice_get-get_or}
use Rattle.std.proofs.lemmas.Result.{on_ok_weaker}
use Rattle.once_across_breaks_live.proofs.client_end.ask_at.Goals as goal

pub returns : goal.returns
returns c =
    on_ok_weaker c.ask.result
    (λ h. record { old = _; new = c.ask.new.lane; there = slice_get-get_or c.args.lanes.now c.args.index c.index-lanes-index.result c.requires; set_there = refl; changed = h })
    c.ask.ensures
