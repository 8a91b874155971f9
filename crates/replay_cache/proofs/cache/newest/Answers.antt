use Rattle.std.proofs.Common.{◌≡◌, ◌∙◌, ◌-◌, sym, ap, arith, Some}
use Rattle.std.specs.Prelude.{slice_get}
use Rattle.afp_base.specs.Cached.{Request, Kept}
use Rattle.replay_cache.proofs.Searching.{newest_before, stands_at}
use Rattle.replay_cache.proofs.cache.newest.Goals as goal

pub returns-then-answers : goal.returns-then-answers
returns-then-answers c =
    let request : Request = record { id = c.args.id; write = c.args.write; offset = c.args.offset; payload = c.args.payload.now } in
    let place : slice_get c.args.kept.now (c.loop-left.left - 1) ≡ Some c.index-kept-left.result = stands_at c.args.kept.now (c.loop-left.left - 1) c.index-kept-left.result (omega (arith, c.loop-left.invariant.0, c.loop-left-test.true)) ∙ ap Some (sym c.index-kept-left.is) in
    ap (λ (k : Kept). Some k.answer) c.exchange.view_is
    ∙ sym (newest_before c.args.kept.now c.loop-left.left c.index-kept-left.result request c.loop-left-test.true place (sym c.answers.ensures ∙ c.if-answers.true) c.loop-left.invariant.1)
