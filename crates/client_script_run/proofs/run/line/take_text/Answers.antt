use Rattle.client_script_run.proofs.OfRun.ScriptLemmas.{text_taken}
use Rattle.client_script_run.proofs.run.line.take_text.Goals as goal

pub returns-in-Ok : goal.returns-in-Ok
returns-in-Ok g c =
    text_taken c.args.mounted.now c.args.text.now (g.A.Asker.exchanges c.args.asker.now) (g.O.Sink.sink_state c.args.out.now) c.take_line.result c.take_line.new.mounted
    (g.A.Asker.exchanges c.take_line.new.asker) (g.O.Sink.sink_state c.take_line.new.out) c.in-Ok.line c.in-Ok.ensures.line c.take_line.ensures
