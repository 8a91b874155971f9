use Rattle.std.proofs.Common.{◌≡◌, ◌∙◌, ◌+◌, ◌*◌, ◌/◌, ◌-◌, ◌++◌, take, drop, ap, subst, append_assoc, arith}
use Rattle.std.specs.Result.{OnOk}
use Rattle.afp_base.specs.ForkBytes.{taken}
use Rattle.fork_bytes.specs.Blocks.{block_at}
use Rattle.fork_bytes.proofs.Writes.{read_is}
use Rattle.fork_bytes.proofs.fork.Fork.read_in_block.Goals as goal

pub overflow_cast-index : goal.overflow_cast-index
overflow_cast-index c = omega (arith, c.requires.few, c.requires.order)

pub returns-clause-ok : goal.returns-clause-ok
returns-clause-ok c =
    let bytes = c.args.self.now in
    let i = c.args.from / 4096 in
    let low = c.args.from - 4096 * i in
    let n = c.args.end - c.args.from in
    let part = c.front_of-part.result.now in
    let place : 4096 * i + low ≡ c.args.from = omega arith in
    let is : part ≡ take n (drop low (block_at bytes i)) = c.front_of-part.ensures ∙ ap (take n) (c.rest_of.ensures ∙ ap (drop low) c.block.ensures) in
    let read : part ++ c.zeros.result.now ≡ taken bytes c.args.from n =
    read_is bytes part c.zeros.result.now i low n (omega (arith, c.requires.one_block)) (omega (arith, c.requires.within, c.requires.order)) is c.zeros.ensures
    ∙ ap (λ at. taken bytes at n) place in
    subst (λ l. OnOk c.extend-2.result (c.extend-2.new.self ≡ l))
    (ap (λ l. l ++ c.zeros.result.now) c.in_ok-extend.ensures.ok ∙ append_assoc c.args.out.now part c.zeros.result.now ∙ ap (λ l. c.args.out.now ++ l) read)
    c.extend-2.ensures.ok
