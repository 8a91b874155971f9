use Rattle.std.proofs.Common.{refl}
use Rattle.std.proofs.lemmas.Option.{slice_get-get_or}
use Rattle.capture_log_server.proofs.RunningLemmas.{on_ok_with}
use Rattle.capture_log_server.proofs.slots.lose_at.Goals as goal

pub returns : goal.returns
returns g c =
    on_ok_with c.lose.result _ _
    (λ h. record { old = _; then_is = c.lose.new.self; there = slice_get-get_or c.args.slots.now c.args.index c.index-slots-index.result c.requires; set = refl; loses = h })
    c.lose.ensures
