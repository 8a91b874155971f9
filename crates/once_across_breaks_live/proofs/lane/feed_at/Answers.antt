use Rattle.std.proofs.Common.{refl}
use Rattle.std.proofs.lemmas.Option.{slice_get-get_or}
use Rattle.std.proofs.lemmas.Result.{IfOk-weaker}
use Rattle.once_across_breaks_live.proofs.lane.feed_at.Goals as goal

pub feed-requires : goal.feed-requires
feed-requires g c = c.requires.is _ (slice_get-get_or c.args.lanes.now c.args.index c.index-lanes-index.result c.requires.within)

pub returns : goal.returns
returns g c =
    IfOk-weaker c.feed.result _ _
    (λ told h. record { old = _; new = c.feed.new.self; there = slice_get-get_or c.args.lanes.now c.args.index c.index-lanes-index.result c.requires.within; set_there = refl; changed = h })
    c.feed.ensures
