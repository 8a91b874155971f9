use Rattle.std.proofs.Common.{arith}
use Rattle.std.specs.Option.{option_copied}
use Rattle.afp_calls_grammar.proofs.OfFields.PathBytes.{none_put, step_put, all_put}
use Rattle.afp_calls_grammar.proofs.fields.pathname.canonical_bytes.Goals as goal

pub loop-i-init : goal.loop-i-init
loop-i-init c = none_put c.args.path.now c.kind-kind.result c.new-bytes.result c.kind-kind.ensures.kind c.new-bytes.ensures

pub loop-i-preserved : goal.loop-i-preserved
loop-i-preserved c =
    step_put c.kind-kind.result (option_copied c.loop-i.before) c.args.path.now.steps c.loop-i.i c.step-step.result.now c.loop-i.bytes c.put_step.new.bytes _ c.step-step.ensures c.in_ok-put_step.ensures c.loop-i.invariant

pub returns-clause-bytes : goal.returns-clause-bytes
returns-clause-bytes c =
    all_put c.kind-kind.result (option_copied c.loop-i.before) c.args.path.now.steps c.loop-i.i c.loop-i.bytes _ (omega (arith, c.len-i-end.ensures.len, c.loop-i-test.false)) c.loop-i.invariant
