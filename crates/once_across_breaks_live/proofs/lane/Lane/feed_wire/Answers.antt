use Rattle.std.proofs.Common.{subst, sym, ap, ◌∙◌, ◌≡◌, ◌≢◌, ◌+◌, ◌≤◌, true, arith, List, ◌++◌, ℕ, length, take}
use Rattle.std.proofs.lemmas.List.{length-take-le}
use Rattle.std.specs.Prelude.{Option, IfNone}
use Rattle.afp_server.specs.link.Wire.{Feeds, feed_point}
use Rattle.afp_server.specs.declared.link.stage.Stage.TheVariants as stages
use Rattle.afp_server.specs.declared.link.tally.Tally.{Tally}
use Rattle.afp_server.specs.declared.link.wire.WireEnd.{WireEnd}
use Rattle.dsi_frame.specs.Deframe.{GivenOut}
use Rattle.dsi_frame.specs.Frame.{Frame}
use Rattle.volume_spec.specs.TypedVolume.{are_bytes}
use Rattle.once_across_breaks_live.proofs.LaneLemmas.{at_none}
use Rattle.once_across_breaks_live.proofs.lane.Lane.feed_wire.Goals as goal

pub feed-end-requires-clause-live : goal.feed-end-requires-clause-live
feed-end-requires-clause-live g c = subst (λ (o : Option WireEnd). IfNone o (c.args.begun.stage ≢ stages.Closing)) (sym c.requires.goes_on) c.requires.live

pub returns : goal.returns
returns g c =
    record {
      after = c.feed-end.new.self;
      result = c.feed-end.result;
      still = c.in_ok-there.ensures;
      end = c.feed-end.ensures.end;
      open_yet = c.feed-end.ensures.live;
      total = let whole : c.feed-end.new.self.held.place + length c.feed-end.new.self.held.rest ≤ c.args.begun.held.place + length c.args.begun.held.rest + length (take c.args.size c.as_slice.result.now) = c.feed-end.ensures.total in
          omega (arith, whole, length-take-le c.args.size c.as_slice.result.now (omega (arith, c.requires.within, ap length c.as_slice.ensures)), c.requires.most);
      feeds = subst (λ (u : List ℕ). (bytes : List ℕ) (past : List Frame) → GivenOut bytes past c.args.begun.held
          → Feeds (record { block = c.args.begun.block; now = c.args.now; bytes = bytes; past = past; stage = c.args.begun.stage; out = c.args.self.now.down; shown = g.T.Teller.shown c.args.teller.now }) (bytes ++ take c.args.size u) c.feed-end.result c.feed-end.new.self.held
          (feed_point c.feed-end.new.self.stage c.feed-end.new.self.tally c.feed-end.new.out (g.T.Teller.shown c.feed-end.new.teller))) c.as_slice.ensures
          (at_none c.args.begun.end _ c.requires.goes_on c.feed-end.ensures.feeds);
      up = c.in_ok-take_away.ensures;
      answered = λ e. sym (ap (λ (x : Tally). x.answered) c.tally-told.ensures) ∙ e;
      typed = subst (λ (bytes : List ℕ). are_bytes bytes ≡ true) c.as_slice-2.ensures c.bytes_in_range.ensures;
    }
