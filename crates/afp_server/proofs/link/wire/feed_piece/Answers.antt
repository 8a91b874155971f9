use Rattle.std.proofs.Common.{◌+◌, [], ◌++◌, take, refl, sym, ◌∙◌, arith, ap, length}
use Rattle.std.proofs.lemmas.List.{take_rest}
use Rattle.afp_server.proofs.OfLink.WireLemmas.{piece-none, piece-ends, piece-done, piece-left, piece-more, piece-total}
use Rattle.afp_server.proofs.link.wire.feed_piece.Goals as goal
use Rattle.afp_base.proofs.ListFacts.{nil_from_no_length}

pub loop-end-init : goal.loop-end-init
loop-end-init g c = record {
  fixed = refl;
  block = refl;
  live = c.requires.live;
  total = refl;
  feeds = ([], refl, λ start block moment s. piece-none start _ _ s);
}

pub returns-in-Some-clause-feeds : goal.returns-in-Some-clause-feeds
returns-in-Some-clause-feeds g c = λ start block moment s.
    let inv = c.loop-end.invariant in
    piece-ends start inv.feeds.0 c.loop-end.left.now c.args.piece.now c.in-Some.end _ inv.feeds.1
    (c.in-Some.ensures.feeds start (start.bytes ++ inv.feeds.0) (block ∙ sym inv.block) moment (inv.feeds.2 start block moment s))

pub returns-then-is_empty-clause-feeds : goal.returns-then-is_empty-clause-feeds
returns-then-is_empty-clause-feeds g c = λ start block moment s.
    let inv = c.loop-end.invariant in
    piece-done start inv.feeds.0 c.loop-end.left.now c.args.piece.now c.handle_frames.new.deframer _ inv.feeds.1 (nil_from_no_length c.loop-end.left.now (sym c.if-is_empty.ensures))
    ((rw c.in_default.is at c.handle_frames.ensures.feeds) start (start.bytes ++ inv.feeds.0) (block ∙ sym inv.block) moment (inv.feeds.2 start block moment s))

pub loop-end-preserved : goal.loop-end-preserved
loop-end-preserved g c =
    let inv = c.loop-end.invariant in
    record {
      fixed = c.handle_frames.ensures.fixed ∙ inv.fixed;
      block = c.handle_frames.ensures.block ∙ inv.block;
      live = rw c.in_default.is at c.handle_frames.ensures.live;
      total =
          let before = c.handle_frames.ensures.total in
          piece-total c.handle_frames.new.deframer c.feed-taken.new.self c.loop-end.left.now _ c.feed-taken.result _ (omega arith) c.feed-taken.ensures.rest c.feed-taken.ensures.place
          (take_rest c.loop-end.left.now c.feed-taken.result) (ap (λ n. n + length c.loop-end.left.now) before ∙ inv.total);
      feeds = (
        inv.feeds.0 ++ take c.feed-taken.result c.loop-end.left.now,
        piece-left inv.feeds.0 c.loop-end.left.now c.args.piece.now _ c.feed-taken.result inv.feeds.1 (take_rest c.loop-end.left.now c.feed-taken.result),
        λ start block moment s.
            piece-more start inv.feeds.0 c.loop-end.left.now c.feed-taken.result c.handle_frames.new.deframer c.feed-taken.new.self _
            ((rw c.in_default.is at c.handle_frames.ensures.feeds) start (start.bytes ++ inv.feeds.0) (block ∙ sym inv.block) moment (inv.feeds.2 start block moment s)).0
            c.feed-taken.ensures.rest c.feed-taken.ensures.place,
      );
    }
