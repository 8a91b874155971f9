use Rattle.std.proofs.Common.{◌≡◌, [], arith, ◌+◌, length, refl, sym, ◌∙◌, ap, subst}
use Rattle.std.specs.Prelude.{None}
use Rattle.afp_outside.specs.ends.Gate.{Passed, none_passed}
use Rattle.dsi_frame.specs.Buffered.{Buffered}
use Rattle.afp_server.specs.link.Requests.{Requests, no_requests}
use Rattle.afp_server.specs.link.lemma.Serving.{ServesFrames}
use Rattle.afp_server.specs.link.Progress.{Start, Point, point, SoFar}
use Rattle.afp_server.specs.declared.link.serve.LinkEnd.TheVariants as links
use Rattle.afp_server.specs.declared.link.stage.Stage.{Stage}
use Rattle.afp_server.specs.declared.link.stage.Stage.TheVariants as stages
use Rattle.afp_server.proofs.OfLink.ReadSteps.{Waits, so_far-gets, ends-reads, ends-unread, ends-spent, link-idles, link-ends}
use Rattle.afp_server.proofs.OfLink.Serving.{so_far-none}
use Rattle.afp_server.proofs.link.serve.serve_session.Goals as goal

pub loop-end-init : goal.loop-end-init
loop-end-init g c =
    let start : Start = record { block = c.args.session.now.block; turns = c.args.turns; link = g.L.Link.link_state c.args.link.now; shown = g.T.Teller.shown c.args.teller.now } in
    let r : Requests = c.new-requests.result in
    let made : r ≡ no_requests start.link.now = c.new-requests.ensures ∙ ap no_requests c.now.ensures in
    let at_requests : SoFar start (point (record { place = 0; rest = [] }) stages.Fresh r start.link start.shown none_passed) 0 =
    subst (λ (x : Requests). SoFar start (point (record { place = 0; rest = [] }) stages.Fresh x start.link start.shown none_passed) 0) (sym made) (so_far-none start) in
    let at_held : SoFar start (point c.args.deframer.now stages.Fresh r start.link start.shown none_passed) 0 =
    subst (λ (d : Buffered). SoFar start (point d stages.Fresh r start.link start.shown none_passed) 0) (sym c.requires.empty) at_requests in
    let at_stage : SoFar start (point c.args.deframer.now c.args.session.now.stage r start.link start.shown none_passed) 0 =
    subst (λ (stage : Stage). SoFar start (point c.args.deframer.now stage r start.link start.shown none_passed) 0) (sym c.requires.fresh) at_held in
    record {
      fixed = refl;
      block = refl;
      live = λ e. let both = c.requires.fresh in absurd (cc (both, e));
      so_far = subst (λ (p : Passed). SoFar start (point c.args.deframer.now c.args.session.now.stage r start.link start.shown p) 0) (sym c.requires.nothing) at_stage;
    }

pub returns-in-Some-clause-serves : goal.returns-in-Some-clause-serves
returns-in-Some-clause-serves g c =
    let start : Start = record { block = c.args.session.now.block; turns = c.args.turns; link = g.L.Link.link_state c.args.link.now; shown = g.T.Teller.shown c.args.teller.now } in
    c.in-Some.ensures.serves start c.loop-end.cost (sym c.loop-end.invariant.block) c.loop-end.invariant.so_far

pub returns-then-cost-turns-clause-serves : goal.returns-then-cost-turns-clause-serves
returns-then-cost-turns-clause-serves g c =
    let start : Start = record { block = c.args.session.now.block; turns = c.args.turns; link = g.L.Link.link_state c.args.link.now; shown = g.T.Teller.shown c.args.teller.now } in
    let here : Point = point c.serve_frames.new.deframer c.serve_frames.new.session.stage c.serve_frames.new.requests (g.L.Link.link_state c.serve_frames.new.link) (g.T.Teller.shown c.serve_frames.new.teller) (g.G.Gate.passed c.serve_frames.new.log) in
    let served : ServesFrames start c.loop-end.cost None here = c.in_default.ensures.serves start c.loop-end.cost (sym c.loop-end.invariant.block) c.loop-end.invariant.so_far in
    ends-spent start here c.loop-end.cost served.0 served.1 c.if-cost-turns.true

pub read_more-requires-clause-free : goal.read_more-requires-clause-free
read_more-requires-clause-free g c =
    let start : Start = record { block = c.args.session.now.block; turns = c.args.turns; link = g.L.Link.link_state c.args.link.now; shown = g.T.Teller.shown c.args.teller.now } in
    let here : Point = point c.serve_frames.new.deframer c.serve_frames.new.session.stage c.serve_frames.new.requests (g.L.Link.link_state c.serve_frames.new.link) (g.T.Teller.shown c.serve_frames.new.teller) (g.G.Gate.passed c.serve_frames.new.log) in
    let served : ServesFrames start c.loop-end.cost None here = c.in_default.ensures.serves start c.loop-end.cost (sym c.loop-end.invariant.block) c.loop-end.invariant.so_far in
    served.2

pub read_more-requires-clause-fits : goal.read_more-requires-clause-fits
read_more-requires-clause-fits g c =
    let start : Start = record { block = c.args.session.now.block; turns = c.args.turns; link = g.L.Link.link_state c.args.link.now; shown = g.T.Teller.shown c.args.teller.now } in
    let here : Point = point c.serve_frames.new.deframer c.serve_frames.new.session.stage c.serve_frames.new.requests (g.L.Link.link_state c.serve_frames.new.link) (g.T.Teller.shown c.serve_frames.new.teller) (g.G.Gate.passed c.serve_frames.new.log) in
    let served : ServesFrames start c.loop-end.cost None here = c.in_default.ensures.serves start c.loop-end.cost (sym c.loop-end.invariant.block) c.loop-end.invariant.so_far in
    let s : SoFar start here c.loop-end.cost = served.0 in
    omega (arith, s.place, s.costs, c.if-cost-turns.false, c.requires.turns)

pub loop-end-preserved-in-Got : goal.loop-end-preserved-in-Got
loop-end-preserved-in-Got g c =
    let start : Start = record { block = c.args.session.now.block; turns = c.args.turns; link = g.L.Link.link_state c.args.link.now; shown = g.T.Teller.shown c.args.teller.now } in
    let here : Point = point c.serve_frames.new.deframer c.serve_frames.new.session.stage c.serve_frames.new.requests (g.L.Link.link_state c.serve_frames.new.link) (g.T.Teller.shown c.serve_frames.new.teller) (g.G.Gate.passed c.serve_frames.new.log) in
    let served : ServesFrames start c.loop-end.cost None here = c.in_default.ensures.serves start c.loop-end.cost (sym c.loop-end.invariant.block) c.loop-end.invariant.so_far in
    let waits : Waits start here c.loop-end.cost = record { so_far = served.0; unfinished = served.1; below = c.if-cost-turns.false } in
    let end = g.L.Link.link_state c.read_more.new.link in
    let b = c.in-Got.ensures.reads in record {
      fixed = c.serve_frames.ensures.fixed ∙ c.loop-end.invariant.fixed;
      block = c.serve_frames.ensures.block ∙ c.loop-end.invariant.block;
      live = c.in_default.ensures.live;
      so_far = so_far-gets start here c.loop-end.cost c.in-Got.n end c.read_more.new.deframer b.room waits b.reads b.rest b.place (omega (arith, c.in-Got.ensures.most)) b.fits;
    }

pub returns-in-Some-idle-clause-serves : goal.returns-in-Some-idle-clause-serves
returns-in-Some-idle-clause-serves g c =
    let start : Start = record { block = c.args.session.now.block; turns = c.args.turns; link = g.L.Link.link_state c.args.link.now; shown = g.T.Teller.shown c.args.teller.now } in
    let here : Point = point c.serve_frames.new.deframer c.serve_frames.new.session.stage c.serve_frames.new.requests (g.L.Link.link_state c.serve_frames.new.link) (g.T.Teller.shown c.serve_frames.new.teller) (g.G.Gate.passed c.serve_frames.new.log) in
    let served : ServesFrames start c.loop-end.cost None here = c.in_default.ensures.serves start c.loop-end.cost (sym c.loop-end.invariant.block) c.loop-end.invariant.so_far in
    let waits : Waits start here c.loop-end.cost = record { so_far = served.0; unfinished = served.1; below = c.if-cost-turns.false } in
    link-ends start c.serve_frames.new.deframer c.serve_frames.new.session.stage c.idle.new.session.stage c.serve_frames.new.requests c.idle.new.requests
    (g.L.Link.link_state c.serve_frames.new.link) (g.L.Link.link_state c.read_more.new.link) (g.L.Link.link_state c.idle.new.link) (g.T.Teller.shown c.serve_frames.new.teller) (g.T.Teller.shown c.idle.new.teller) (g.G.Gate.passed c.serve_frames.new.log) c.loop-end.cost c.in-Some-idle.end
    waits (omega (arith, served.2)) c.in-Quiet.ensures.reads.0 c.in-Some-idle.ensures.idles

pub loop-end-preserved : goal.loop-end-preserved
loop-end-preserved g c =
    let start : Start = record { block = c.args.session.now.block; turns = c.args.turns; link = g.L.Link.link_state c.args.link.now; shown = g.T.Teller.shown c.args.teller.now } in
    let here : Point = point c.serve_frames.new.deframer c.serve_frames.new.session.stage c.serve_frames.new.requests (g.L.Link.link_state c.serve_frames.new.link) (g.T.Teller.shown c.serve_frames.new.teller) (g.G.Gate.passed c.serve_frames.new.log) in
    let served : ServesFrames start c.loop-end.cost None here = c.in_default.ensures.serves start c.loop-end.cost (sym c.loop-end.invariant.block) c.loop-end.invariant.so_far in
    let waits : Waits start here c.loop-end.cost = record { so_far = served.0; unfinished = served.1; below = c.if-cost-turns.false } in
    let end = g.L.Link.link_state c.idle.new.link in
    let reads = c.in-Quiet.ensures.reads in
    let after = g.T.Teller.shown c.idle.new.teller in record {
      fixed = c.idle.ensures.fixed ∙ c.serve_frames.ensures.fixed ∙ c.loop-end.invariant.fixed;
      block = c.idle.ensures.block ∙ c.serve_frames.ensures.block ∙ c.loop-end.invariant.block;
      live = c.in_default-idle.ensures.live;
      so_far = subst (λ (d : Buffered). SoFar start (point d c.idle.new.session.stage c.idle.new.requests end after (g.G.Gate.passed c.serve_frames.new.log)) (c.loop-end.cost + 1)) (sym reads.1)
          (link-idles start c.serve_frames.new.deframer c.serve_frames.new.session.stage c.idle.new.session.stage c.serve_frames.new.requests c.idle.new.requests
          (g.L.Link.link_state c.serve_frames.new.link) (g.L.Link.link_state c.read_more.new.link) end (g.T.Teller.shown c.serve_frames.new.teller) after (g.G.Gate.passed c.serve_frames.new.log) c.loop-end.cost
          waits (omega (arith, served.2)) reads.0 c.in_default-idle.ensures.idles);
    }

pub returns-in-End-clause-serves : goal.returns-in-End-clause-serves
returns-in-End-clause-serves g c =
    let start : Start = record { block = c.args.session.now.block; turns = c.args.turns; link = g.L.Link.link_state c.args.link.now; shown = g.T.Teller.shown c.args.teller.now } in
    let here : Point = point c.serve_frames.new.deframer c.serve_frames.new.session.stage c.serve_frames.new.requests (g.L.Link.link_state c.serve_frames.new.link) (g.T.Teller.shown c.serve_frames.new.teller) (g.G.Gate.passed c.serve_frames.new.log) in
    let served : ServesFrames start c.loop-end.cost None here = c.in_default.ensures.serves start c.loop-end.cost (sym c.loop-end.invariant.block) c.loop-end.invariant.so_far in
    let waits : Waits start here c.loop-end.cost = record { so_far = served.0; unfinished = served.1; below = c.if-cost-turns.false } in
    let end = g.L.Link.link_state c.read_more.new.link in
    let reads = c.in-End.ensures.reads in
    let same = reads.1 in
    ends-reads start here c.loop-end.cost end c.end_of.result waits reads.0
    (λ empty. c.end_of.ensures.whole (ap (λ (d : Buffered). d.rest) same ∙ empty))
    (λ some. c.end_of.ensures.cut (omega (arith, some, ap (λ (d : Buffered). length d.rest) same)) ∙ ap (λ (d : Buffered). links.Cut d.place) same)

pub returns-in-Failed-clause-serves : goal.returns-in-Failed-clause-serves
returns-in-Failed-clause-serves g c =
    let start : Start = record { block = c.args.session.now.block; turns = c.args.turns; link = g.L.Link.link_state c.args.link.now; shown = g.T.Teller.shown c.args.teller.now } in
    let here : Point = point c.serve_frames.new.deframer c.serve_frames.new.session.stage c.serve_frames.new.requests (g.L.Link.link_state c.serve_frames.new.link) (g.T.Teller.shown c.serve_frames.new.teller) (g.G.Gate.passed c.serve_frames.new.log) in
    let served : ServesFrames start c.loop-end.cost None here = c.in_default.ensures.serves start c.loop-end.cost (sym c.loop-end.invariant.block) c.loop-end.invariant.so_far in
    let waits : Waits start here c.loop-end.cost = record { so_far = served.0; unfinished = served.1; below = c.if-cost-turns.false } in
    let end = g.L.Link.link_state c.read_more.new.link in
    ends-unread start here c.loop-end.cost end waits c.in-Failed.ensures.reads.0
