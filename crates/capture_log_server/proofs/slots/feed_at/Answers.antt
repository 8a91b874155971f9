use Rattle.std.proofs.Common.{refl}
use Rattle.std.proofs.lemmas.Option.{slice_get-get_or}
use Rattle.std.proofs.lemmas.Result.{IfOk-weaker}
use Rattle.capture_log_server.proofs.slots.feed_at.Goals as goal

pub feed-requires-clause-is : goal.feed-requires-clause-is
feed-requires-clause-is g c =
    let f = c.requires.fit _ (slice_get-get_or c.args.slots.now c.args.index c.index-slots-index.result c.requires.within) in (f.state, f.is)

pub feed-requires-clause-takes : goal.feed-requires-clause-takes
feed-requires-clause-takes g c = (c.requires.fit _ (slice_get-get_or c.args.slots.now c.args.index c.index-slots-index.result c.requires.within)).takes

pub feed-requires-clause-there : goal.feed-requires-clause-there
feed-requires-clause-there g c = (c.requires.fit _ (slice_get-get_or c.args.slots.now c.args.index c.index-slots-index.result c.requires.within)).there

pub returns : goal.returns
returns g c =
    IfOk-weaker c.feed.result _ _
    (λ tally h. record { old = _; then_is = c.feed.new.self; there = slice_get-get_or c.args.slots.now c.args.index c.index-slots-index.result c.requires.within; set = refl; feeds = h })
    c.feed.ensures
