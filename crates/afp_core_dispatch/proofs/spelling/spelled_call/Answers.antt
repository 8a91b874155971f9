use Rattle.std.proofs.Common.{◌∙◌, ap, ℕ, drop, take}
use Rattle.std.proofs.lemmas.List.{take_min, drop_min}
use Rattle.afp_core_dispatch.proofs.SpellingLemmas.{spelled-write, spelled-plain}
use Rattle.afp_core_dispatch.proofs.spelling.spelled_call.Goals as goal

pub returns-then-request : goal.returns-then-request
returns-then-request c =
    let r = c.args.request.now in
    spelled-write c.args.has_user r.write r.id r.offset r.payload _ _ _ c.if-request.true
    (c.split_at.ensures.front ∙ ap (λ (n : ℕ). take n c.as_slice-payload.result.now) c.min.ensures ∙ take_min r.offset c.as_slice-payload.result.now ∙ ap (take r.offset) c.as_slice-payload.ensures)
    (c.split_at.ensures.back ∙ ap (λ (n : ℕ). drop n c.as_slice-payload.result.now) c.min.ensures ∙ drop_min r.offset c.as_slice-payload.result.now ∙ ap (drop r.offset) c.as_slice-payload.ensures)
    c.judged_call.ensures

pub returns-else-request : goal.returns-else-request
returns-else-request c =
    let r = c.args.request.now in
    spelled-plain c.args.has_user r.write r.id r.offset r.payload c.as_slice-payload.result.now _ c.if-request.false c.as_slice-payload.ensures c.judged_call-else-request.ensures
