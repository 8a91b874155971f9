use Rattle.std.proofs.Common.{refl}
use Rattle.std.proofs.lemmas.Option.{slice_get-get_or}
use Rattle.capture_log_server.proofs.RunningLemmas.{on_ok_with}
use Rattle.capture_log_server.proofs.slots.idle_at.Goals as goal

pub returns : goal.returns
returns g c =
    on_ok_with c.idle.result _ _
    (λ h. record { old = _; then_is = c.idle.new.self; there = slice_get-get_or c.args.slots.now c.args.index c.index-slots-index.result c.requires; set = refl; idles = h })
    c.idle.ensures
