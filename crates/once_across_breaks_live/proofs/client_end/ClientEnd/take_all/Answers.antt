use Rattle.std.proofs.Common.{Bool, subst, ◌∙◌}
use Rattle.once_across_breaks_live.specs.lemma.Near.{TakesOne, near}
use Rattle.once_across_breaks_live.proofs.NearLemmas.{leads-all, leads-on}
use Rattle.once_across_breaks_live.proofs.client_end.ClientEnd.take_all.Goals as goal

pub loop-goes_on-preserved : goal.loop-goes_on-preserved
loop-goes_on-preserved c =
    let now = near c.loop-goes_on.self c.loop-goes_on.up in
    let next = near c.next.new.self c.next.new.up in
    record {
      leads = leads-on (near c.args.self.now c.args.up.now) now next c.loop-goes_on.invariant.leads (subst (λ (b : Bool). TakesOne b now next) c.if-not-goes_on.false c.in_ok-goes_on.ensures.takes);
      came = c.in_ok-goes_on.ensures.came ∙ c.loop-goes_on.invariant.came;
    }

pub returns-then-not-goes_on-clause-takes : goal.returns-then-not-goes_on-clause-takes
returns-then-not-goes_on-clause-takes c =
    let now = near c.loop-goes_on.self c.loop-goes_on.up in
    let next = near c.next.new.self c.next.new.up in
    leads-all (near c.args.self.now c.args.up.now) now next c.loop-goes_on.invariant.leads (subst (λ (b : Bool). TakesOne b now next) c.if-not-goes_on.true c.in_ok-goes_on.ensures.takes)
