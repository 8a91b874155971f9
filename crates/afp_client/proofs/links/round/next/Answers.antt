use Rattle.std.proofs.Common.{List, ℕ, Bool, ◌||◌, sym, ap, ◌∙◌, subst}
use Rattle.afp_client.specs.session.Happens.{Happens}
use Rattle.afp_client.specs.links.lemma.Coming.{NextOn, LivesNext, OpensNext, next_of}
use Rattle.afp_client.specs.links.History.{is_reply}
use Rattle.afp_client.specs.declared.links.came.Next.{Next}
use Rattle.afp_client.proofs.OfLinks.NextLemmas.{next-on, next-unsent, next-ready}
use Rattle.afp_client.proofs.OfLinks.GoingLemmas.{lives_next, lives_unsent, opens_next, opens_unsent, reads_is, reads_unfinished}
use Rattle.afp_client.proofs.links.round.next.Goals as goal

pub returns-then-flush-clause-next : goal.returns-then-flush-clause-next
returns-then-flush-clause-next g c = λ start turns all cost on.
    let happens = subst (λ (x : List ℕ). Happens c.args.core.now x c.event-event.result c.event-event.new.self c.event-event.new.out) c.requires.empty c.event-event.ensures.happens in
    subst (λ (n : Next). NextOn start turns all n c.event-event.new.self (g.L.Link.link_state c.flush.new.link) c.flush.new.noted cost) (sym c.next_of.ensures)
    (next-on start turns all c.args.core.now c.event-event.new.self c.event-event.new.out (g.L.Link.link_state c.args.link.now) (g.L.Link.link_state c.flush.new.link) c.args.noted.now c.note_reply.new.noted c.flush.new.noted cost c.args.opening c.place-at.result c.event-event.result
    c.place-at.ensures on happens (c.note_reply.ensures ∙ ap (λ (b : Bool). record c.args.noted.now { replied = is_reply b c.event-event.result || c.args.noted.now.replied }) c.opened-opened.ensures) c.if-flush.ensures.sends c.if-flush.ensures.notes)

pub returns-else-flush-clause-next : goal.returns-else-flush-clause-next
returns-else-flush-clause-next g c = λ start turns all cost on.
    let happens = subst (λ (x : List ℕ). Happens c.args.core.now x c.event-event.result c.event-event.new.self c.event-event.new.out) c.requires.empty c.event-event.ensures.happens in
    next-unsent start all c.args.core.now c.event-event.new.self c.event-event.new.out (g.L.Link.link_state c.args.link.now) (g.L.Link.link_state c.flush.new.link) c.args.noted.now c.note_reply.new.noted c.flush.new.noted cost c.event-event.result
    on happens (c.note_reply.ensures ∙ ap (λ (b : Bool). record c.args.noted.now { replied = is_reply b c.event-event.result || c.args.noted.now.replied }) c.opened-opened.ensures) c.if-flush.ensures.sends c.if-flush.ensures.notes

pub returns-then-flush-clause-ready : goal.returns-then-flush-clause-ready
returns-then-flush-clause-ready g c = λ at code block is.
    next-ready c.args.opening c.place-at.result c.args.core.now c.event-event.new.self c.args.out.now c.event-event.new.out c.event-event.result at code block c.event-event.ensures.happens (sym c.next_of.ensures ∙ is)

pub returns-then-flush-clause-lives : goal.returns-then-flush-clause-lives
returns-then-flush-clause-lives g c =
    subst (λ (n : Next). LivesNext n c.event-event.new.self.state) (sym c.next_of.ensures)
    (lives_next c.args.opening c.place-at.result c.args.core.now c.event-event.new.self c.args.out.now c.event-event.new.out c.event-event.result c.requires.live c.event-event.ensures.happens)

pub returns-then-flush-clause-opens : goal.returns-then-flush-clause-opens
returns-then-flush-clause-opens g c = λ is.
    subst (λ (n : Next). OpensNext c.args.core.now.state n c.event-event.new.self.state) (sym (c.next_of.ensures ∙ ap (λ (b : Bool). next_of b c.place-at.result c.event-event.result) is))
    (opens_next c.place-at.result c.args.core.now c.event-event.new.self c.args.out.now c.event-event.new.out c.event-event.result (c.requires.unopened is) c.event-event.ensures.happens)

pub returns-then-flush-clause-free : goal.returns-then-flush-clause-free
returns-then-flush-clause-free g c = λ is.
    c.event-event.ensures.room (reads_is c.args.opening c.place-at.result c.event-event.result (sym c.next_of.ensures ∙ is))
    (subst (λ (n : Next). LivesNext n c.event-event.new.self.state) (sym c.next_of.ensures ∙ is)
    (lives_next c.args.opening c.place-at.result c.args.core.now c.event-event.new.self c.args.out.now c.event-event.new.out c.event-event.result c.requires.live c.event-event.ensures.happens))

pub returns-else-flush-clause-lives : goal.returns-else-flush-clause-lives
returns-else-flush-clause-lives g c =
    let happens = subst (λ (x : List ℕ). Happens c.args.core.now x c.event-event.result c.event-event.new.self c.event-event.new.out) c.requires.empty c.event-event.ensures.happens in
    lives_unsent c.args.core.now c.event-event.new.self c.event-event.new.out (g.L.Link.link_state c.args.link.now) (g.L.Link.link_state c.flush.new.link) c.event-event.result c.requires.live happens c.if-flush.ensures.sends

pub returns-else-flush-clause-opens : goal.returns-else-flush-clause-opens
returns-else-flush-clause-opens g c = λ is.
    let happens = subst (λ (x : List ℕ). Happens c.args.core.now x c.event-event.result c.event-event.new.self c.event-event.new.out) c.requires.empty c.event-event.ensures.happens in
    opens_unsent c.args.core.now c.event-event.new.self c.event-event.new.out (g.L.Link.link_state c.args.link.now) (g.L.Link.link_state c.flush.new.link) c.event-event.result (c.requires.unopened is) happens c.if-flush.ensures.sends

pub returns-then-flush-clause-unfinished : goal.returns-then-flush-clause-unfinished
returns-then-flush-clause-unfinished g c = λ is.
    reads_unfinished c.args.opening c.place-at.result c.args.core.now c.event-event.new.self c.args.out.now c.event-event.new.out c.event-event.result c.requires.live c.event-event.ensures.happens (sym c.next_of.ensures ∙ is)
