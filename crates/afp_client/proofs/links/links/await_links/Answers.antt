use Rattle.std.proofs.Common.{rules, arith, ◌≡◌, ◌∙◌, [], ap, sym, subst, length}
use Rattle.afp_client.specs.links.History.{allowed}
use Rattle.afp_client.proofs.OfLinks.LimitLemmas.{allowed-here}
use Rattle.dsi_frame.specs.Buffered.{Buffered}
use Rattle.afp_client.specs.session.State.{Client}
use Rattle.afp_client.specs.links.Links.{dialled}
use Rattle.afp_client.specs.links.Coming.{CameOn}
use Rattle.afp_client.specs.links.lemma.Coming.{LivesOn, OpensOn}
use Rattle.afp_client.specs.declared.links.came.Came.{Came}
use Rattle.afp_client.specs.declared.links.came.Came.TheVariants as comes
use Rattle.afp_client.proofs.OfLinks.GoingLemmas.{rejoined_live, rejoined_opening, opens-after}
use Rattle.afp_client.proofs.OfLinks.JoinLemmas.{breaks-over, leaves-link, same_over-join}
use Rattle.afp_client.proofs.links.links.await_links.Goals as goal

pub returns-then-not-is_break-clause-leaves : goal.returns-then-not-is_break-clause-leaves
returns-then-not-is_break-clause-leaves g c = λ first old past all is over.
    let here = c.loop-link.invariant.over first old past all is over in
    leaves-link g.D.Link.Link.link_state c.args.turns first old past here.0 all here.1 c.loop-link.core c.await_sent-came.new.core c.loop-link.out c.loop-link.link c.await_sent-came.new.link
    c.loop-link.noted c.await_sent-came.new.noted c.loop-link.cost c.await_sent-came.new.cost c.loop-link.idle (g.D.Dialer.dialer_state c.loop-link.dialer) c.await_sent-came.result
    here.2 here.3 (c.await_sent-came.ensures.comes (dialled here.3.from) here.1 (allowed-here g.D.Link.Link.link_state c.args.turns first here.3.from past here.0 all here.1 is here.2 here.3.past_is) here.3.on)

pub returns-in-Err-clause-leaves : goal.returns-in-Err-clause-leaves
returns-in-Err-clause-leaves g c = λ first old past all is over.
    let here = c.loop-link.invariant.over first old past all is over in
    let broke : c.await_sent-came.result ≡ comes.Broke = search rules in
    let b = subst (λ (came : Came). CameOn (dialled here.3.from) c.args.turns here.1 came c.await_sent-came.new.core (g.D.Link.Link.link_state c.await_sent-came.new.link) c.await_sent-came.new.noted c.await_sent-came.new.cost) broke
    (c.await_sent-came.ensures.comes (dialled here.3.from) here.1 (allowed-here g.D.Link.Link.link_state c.args.turns first here.3.from past here.0 all here.1 is here.2 here.3.past_is) here.3.on) in
    let next = breaks-over g.D.Link.Link.link_state first old here.0 here.1 c.loop-link.core c.await_sent-came.new.core c.break_link.new.core c.loop-link.out c.loop-link.link c.await_sent-came.new.link
    c.loop-link.noted c.await_sent-came.new.noted c.loop-link.cost c.await_sent-came.new.cost c.loop-link.idle c.break_link.new.idle (g.D.Dialer.dialer_state c.loop-link.dialer) (g.D.Dialer.dialer_state c.break_link.new.dialer)
    here.3 b (ap (λ (x : Client). x.state) c.break_link.ensures.core) c.break_link.ensures.idle c.break_link.ensures.back in
    let same = same_over-join past here.0 next.later all here.1 [] here.2 next.same in
    record {
      later = next.later;
      same = same;
      none = c.in-Err.ensures.rejoins first old next.later (is ∙ ap allowed (sym (same.limits first.limits))) next.between;
    }

pub loop-link-preserved : goal.loop-link-preserved
loop-link-preserved g c = record {
  below = c.in-Ok.ensures.below;
  live =
      let broke : c.await_sent-came.result ≡ comes.Broke = search rules in
      rejoined_live c.await_sent-came.new.core.state _ _ (subst (λ (came : Came). LivesOn came c.await_sent-came.new.core.state) broke c.await_sent-came.ensures.lives) (ap (λ (x : Client). x.state) c.break_link.ensures.core) c.in-Ok.ensures.begins;
  opening = λ is.
      let broke : c.await_sent-came.result ≡ comes.Broke = search rules in
      let kept = subst (λ (came : Came). OpensOn c.loop-link.core.state came c.await_sent-came.new.core.state) broke (c.await_sent-came.ensures.opens is) in
      rejoined_opening c.args.core.now.state c.await_sent-came.new.core.state _ _ (kept ∙ (c.loop-link.invariant.opening is).waits) (ap (λ (x : Client). x.state) c.break_link.ensures.core) c.in-Ok.ensures.begins;
  fits = omega (arith, ap (λ (h : Buffered). h.place) c.in-Ok.ensures.held, ap (λ (h : Buffered). length h.rest) c.in-Ok.ensures.held);
  over = λ first old past all is over.
      let here = c.loop-link.invariant.over first old past all is over in
      let broke : c.await_sent-came.result ≡ comes.Broke = search rules in
      let b = subst (λ (came : Came). CameOn (dialled here.3.from) c.args.turns here.1 came c.await_sent-came.new.core (g.D.Link.Link.link_state c.await_sent-came.new.link) c.await_sent-came.new.noted c.await_sent-came.new.cost) broke
      (c.await_sent-came.ensures.comes (dialled here.3.from) here.1 (allowed-here g.D.Link.Link.link_state c.args.turns first here.3.from past here.0 all here.1 is here.2 here.3.past_is) here.3.on) in
      let next = breaks-over g.D.Link.Link.link_state first old here.0 here.1 c.loop-link.core c.await_sent-came.new.core c.break_link.new.core c.loop-link.out c.loop-link.link c.await_sent-came.new.link
      c.loop-link.noted c.await_sent-came.new.noted c.loop-link.cost c.await_sent-came.new.cost c.loop-link.idle c.break_link.new.idle (g.D.Dialer.dialer_state c.loop-link.dialer) (g.D.Dialer.dialer_state c.break_link.new.dialer)
      here.3 b (ap (λ (x : Client). x.state) c.break_link.ensures.core) c.break_link.ensures.idle c.break_link.ensures.back in
      let same = same_over-join past here.0 next.later all here.1 [] here.2 next.same in
      (next.later, [], same, c.in-Ok.ensures.rejoins first old next.later (is ∙ ap allowed (sym (same.limits first.limits))) next.between);
}

pub returns-then-not-is_break-clause-opens : goal.returns-then-not-is_break-clause-opens
returns-then-not-is_break-clause-opens g c = λ is. opens-after c.args.core.now.state c.loop-link.core.state _ c.await_sent-came.result (c.loop-link.invariant.opening is) (c.await_sent-came.ensures.opens is)
