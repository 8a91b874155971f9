use Rattle.std.proofs.Common.{◌∙◌, ◌==◌, ◌&&◌, Bool, ap, bit_and, not, sym}
use Rattle.afp_core_calls.proofs.fork.byte_range_lock.counts_from_end.Goals as goal

pub returns-then-is_from_end : goal.returns-then-is_from_end
returns-then-is_from_end c = λ offset length.
    ap not (c.unlocks.ensures offset length) ∙ ap (λ (b : Bool). b && not (not (bit_and c.args.flags 1 == 0))) (sym (sym c.is_from_end.ensures ∙ c.if-is_from_end.true))
