use Rattle.std.proofs.Common.{List, length, arith, sym, ap, ◌∙◌, subst}
use Rattle.std.specs.Prelude.{slice_get, if◌then◌else◌}
use Rattle.afp_base.specs.Counts.{counted}
use Rattle.afp_serial.specs.StatusBlock.{status_block}
use Rattle.capture_log_server.specs.lemma.Slots.{FeedsAt, IsFit}
use Rattle.capture_log_server.specs.States.{ConnectionState, RunningState}
use Rattle.capture_log_server.proofs.RunningLemmas.{lent_back, fit-there, passed-over, fed-there}
use Rattle.capture_log_server.proofs.running.Running.feed.Goals as goal

pub returns-then-is_over_at : goal.returns-then-is_over_at
returns-then-is_over_at g c = λ s first is started.
    let same = ap (λ (x : RunningState). x.connections) (sym c.self.view_is) ∙ sym c.as_slice.ensures.value in
    passed-over c.args.self.now s first c.args.now c.args.index c.args.piece.now c.is_over_at.result is c.requires.within
    (λ x at. c.is_over_at.ensures x (ap (λ (l : List ConnectionState). slice_get l c.args.index) (sym same) ∙ at)) c.if-is_over_at.true

pub feed_at-requires-clause-fit : goal.feed_at-requires-clause-fit
feed_at-requires-clause-fit g c = λ x at.
    let same = ap (λ (y : RunningState). y.connections) (sym c.self.view_is) ∙ sym c.as_slice.ensures.value in
    let lent = ap (λ (y : RunningState). y.connections) (sym c.self.view_is) ∙ sym c.as_mut_slice.ensures.value in
    let it : IsFit (status_block c.args.self.now.house) x =
    fit-there c.args.self.now c.requires.is.0 c.requires.is.1 c.args.index c.is_over_at.result c.requires.is.2 c.requires.is.3
    (λ y there. c.is_over_at.ensures y (ap (λ (l : List ConnectionState). slice_get l c.args.index) (sym same) ∙ there)) c.if-is_over_at.false
    x (ap (λ (l : List ConnectionState). slice_get l c.args.index) lent ∙ at) in
    subst (λ (y : RunningState). IsFit (status_block y.house) x) (sym c.self.view_is) it

pub returns : goal.returns
returns g c = λ s first is started.
    let same = ap (λ (x : RunningState). x.connections) (sym c.self.view_is) ∙ sym c.as_slice.ensures.value in
    let again = ap (λ (x : RunningState). x.connections) (sym c.self.view_is) ∙ sym c.as_slice-2.ensures.value in
    let u = g.T.Teller.shown c.feed_at.new.teller in
    let slots = c.feed_at.new.slots in
    let tally = c.in_ok-tally.tally in
    let inside : FeedsAt (status_block c.self.inside.house) c.args.now c.args.piece.now c.self.inside.connections.items c.args.index (g.T.Teller.shown c.self.inside.teller) tally slots u =
    subst (λ (l : List ConnectionState). FeedsAt (status_block c.self.inside.house) c.args.now c.args.piece.now l c.args.index (g.T.Teller.shown c.self.inside.teller) tally slots u) c.as_mut_slice.ensures.value c.in_ok-tally.ensures in
    fed-there c.args.self.now c.count.new.self s first c.args.now c.args.index c.args.piece.now tally c.is_over_at.result c.is_used_at-used.result slots u is started
    (λ x at. c.is_over_at.ensures x (ap (λ (l : List ConnectionState). slice_get l c.args.index) (sym same) ∙ at)) c.if-is_over_at.false
    (λ x at. c.is_used_at-used.ensures x (ap (λ (l : List ConnectionState). slice_get l c.args.index) (sym again) ∙ at))
    (subst (λ (x : RunningState). FeedsAt (status_block x.house) c.args.now c.args.piece.now x.connections c.args.index x.teller tally slots u) c.self.view_is inside)
    (c.count.ensures ∙ ap (λ (l : List ConnectionState). record {
      house = c.self.inside.house;
      teller = u;
      connections = l;
      links = if c.is_used_at-used.result then c.self.inside.links else counted 1 c.self.inside.links;
      replies = counted tally.replies c.self.inside.replies;
      refused = counted tally.refused c.self.inside.refused;
    }) (lent_back c.self.inside.connections.len slots c.self.inside.connections.items (omega (arith, c.feed_at.auto.slots, ap length c.as_mut_slice.ensures.value)) (omega (arith, c.as_mut_slice.ensures.len, ap length c.as_mut_slice.ensures.value)))
    ∙ ap (λ (x : RunningState). record {
      house = x.house;
      teller = u;
      connections = slots;
      links = if c.is_used_at-used.result then x.links else counted 1 x.links;
      replies = counted tally.replies x.replies;
      refused = counted tally.refused x.refused;
    }) c.self.view_is)
