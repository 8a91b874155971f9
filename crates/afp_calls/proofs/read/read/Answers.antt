use Rattle.std.proofs.Common.{sym, ◌∙◌, refl, arith}
use Rattle.afp_calls.proofs.AnswerLemmas.{empty_misspelt, block_answer}
use Rattle.afp_calls.proofs.read.read.Goals as goal

pub returns-then-is_empty : goal.returns-then-is_empty
returns-then-is_empty c = empty_misspelt c.args.block.now _ (sym c.is_empty.ensures ∙ c.if-is_empty.true)

pub returns : goal.returns
returns c =
    block_answer c.one_request_for_each.ensures.function c.what_is_spelt_can_be_written.ensures c.one_request_for_each.ensures.unknown c.args.block.now _ _ c.new-fields.result c.read_known.result
    (λ k. omega (arith, c.type_inv.block k)) (sym c.is_empty.ensures ∙ c.if-is_empty.false) refl c.new-fields.ensures c.read_known.ensures
