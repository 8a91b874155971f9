use Rattle.afp_core_calls.proofs.OfDesktop.DeskLemmas.{appl-told}
use Rattle.afp_core_calls.proofs.desktop.appls.put_appl.Goals as goal

pub put_file-requires-clause-file : goal.put_file-requires-clause-file
put_file-requires-clause-file g c = c.in-Some.ensures.has

pub returns-in-Ok-clause-ok : goal.returns-in-Ok-clause-ok
returns-in-Ok-clause-ok g c =
    appl-told c.args.kept.now.state _ c.args.creator.now c.args.index c.args.bits _ _ c.args.out.now _ c.in-Some.ensures c.in-Ok.ensures.ok
