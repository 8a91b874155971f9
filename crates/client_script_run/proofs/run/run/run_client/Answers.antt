use Rattle.client_script_run.proofs.OfRun.FaultLemmas.{sink-counted, source-counted}
use Rattle.client_script_run.proofs.run.run.run_client.Goals as goal

pub returns-clause-source : goal.returns-clause-source
returns-clause-source g c =
    source-counted g.D.Link.Link.link_state c.args.turns c.args.login (g.D.Dialer.dialer_state c.args.dialer) (g.S.Source.source_state c.args.source.now) (g.O.Sink.sink_state c.args.out.now) c.run_whole.result.end
    (g.D.Dialer.dialer_state c.run_whole.result.dialer) (g.S.Source.source_state c.run_whole.new.source) (g.O.Sink.sink_state c.run_whole.new.out) c.run_whole.ensures

pub returns-clause-sink : goal.returns-clause-sink
returns-clause-sink g c =
    sink-counted g.D.Link.Link.link_state c.args.turns c.args.login (g.D.Dialer.dialer_state c.args.dialer) (g.S.Source.source_state c.args.source.now) (g.O.Sink.sink_state c.args.out.now) c.run_whole.result.end
    (g.D.Dialer.dialer_state c.run_whole.result.dialer) (g.S.Source.source_state c.run_whole.new.source) (g.O.Sink.sink_state c.run_whole.new.out) c.run_whole.ensures
