use Rattle.std.proofs.Common.{ap, ◌∙◌, unwrap_or}
use Rattle.dsi_session.proofs.OptionLemmas.{has_read-next}
use Rattle.dsi_session.proofs.options.read_options.Goals as goal

pub loop-scan-preserved : goal.loop-scan-preserved
loop-scan-preserved c =
    has_read-next c.args.payload.now c.loop-scan.attention c.unwrap_or-attention.result c.in-Ok.option c.loop-scan.scan c.next.new.scan
    c.loop-scan.invariant.0 c.loop-scan.invariant.1 c.in-Ok.ensures.ok
    (c.unwrap_or-attention.ensures ∙ ap (λ o. unwrap_or o c.loop-scan.attention) c.attention.ensures)
