use Rattle.std.proofs.Common.{◌∙◌, ◌++◌, List, ℕ, ap}
use Rattle.dsi_frame.specs.Frame.{canonical_frame}
use Rattle.afp_client.specs.links.History.{tickle_frame}
use Rattle.afp_client.proofs.OfLinks.RoundLemmas.{tickles, tickle-unsent}
use Rattle.afp_client.proofs.links.round.tickle.Goals as goal

pub returns-then-flush-clause-comes : goal.returns-then-flush-clause-comes
returns-then-flush-clause-comes g c = λ start turns all client cost on due.
    tickles start all client c.put_tickle.new.out (g.L.Link.link_state c.args.link.now) (g.L.Link.link_state c.flush.new.link) c.args.noted.now c.flush.new.noted cost on due
    (c.in-Ok.ensures.ok ∙ ap (λ (x : List ℕ). x ++ canonical_frame tickle_frame) c.requires.empty) c.if-flush.ensures.sends c.if-flush.ensures.notes

pub returns-else-flush-clause-comes : goal.returns-else-flush-clause-comes
returns-else-flush-clause-comes g c = λ start turns all client cost on due.
    tickle-unsent start all client c.put_tickle.new.out (g.L.Link.link_state c.args.link.now) (g.L.Link.link_state c.flush.new.link) c.args.noted.now c.flush.new.noted cost on due
    (c.in-Ok.ensures.ok ∙ ap (λ (x : List ℕ). x ++ canonical_frame tickle_frame) c.requires.empty) c.if-flush.ensures.sends c.if-flush.ensures.notes
