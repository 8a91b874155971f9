use Rattle.std.proofs.Common.{◌≡◌, subst, ℕ, ◌-◌, List, ◌++◌, length, min, take, arith}
use Rattle.dsi_frame.specs.Buffered.{buffer_length}
use Rattle.once_across_breaks_live.proofs.NearLemmas.{brings-near}
use Rattle.once_across_breaks_live.proofs.client_end.ClientEnd.bring.Goals as goal

pub returns : goal.returns
returns c =
    brings-near c.args.most c.args.self.now c.take_all.new.self c.args.lane.now c.feed-taken.new.self c.moved-size.result c.feed-taken.result c.take_all.new.up c.take_away.new.bytes c.moved-size.ensures
    (subst (λ (d : List ℕ). c.feed-taken.result ≡ min (length (take c.moved-size.result d)) (buffer_length - length c.args.self.now.client.held.rest)) c.as_slice.ensures c.feed-taken.ensures.taken)
    (subst (λ (d : List ℕ). c.feed-taken.new.self.held.rest ≡ c.args.self.now.client.held.rest ++ take c.feed-taken.result (take c.moved-size.result d)) c.as_slice.ensures c.feed-taken.ensures.rest)
    c.feed-taken.ensures.place c.feed-taken.ensures.state c.requires (omega (arith, c.in_ok-take_all.ensures.came)) c.in_ok-take_away.ensures c.in_ok-take_all.ensures.takes
