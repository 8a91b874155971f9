use Rattle.std.proofs.Common.{◌≡◌, ◌∙◌, ap, subst, List, ℕ}
use Rattle.std.proofs.lemmas.Result.{IfOk-weaker}
use Rattle.afp_serial.specs.StatusBlock.{status_block}
use Rattle.once_across_breaks_live.specs.Once.{ComesTo, block_of}
use Rattle.once_across_breaks_live.proofs.whole_run.once.Goals as goal

pub returns : goal.returns
returns g c =
    let first = g.T.Teller.shown c.args.teller in
    let block_is : status_block c.in_ok-house.house ≡ block_of first = ap status_block c.in_ok-house.ensures.value ∙ c.house.ensures in
    IfOk-weaker c.run_all.result _ _
    (λ run x. subst (λ (b : List ℕ). ComesTo b c.args.login first c.args.events.now run.answered run.client (g.T.Teller.shown run.teller) run.results.items) block_is x) c.run_all.ensures
