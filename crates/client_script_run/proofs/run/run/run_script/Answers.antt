use Rattle.std.proofs.Common.{ℕ, refl, ap, ◌∙◌}
use Rattle.afp_client.specs.session.State.{Client}
use Rattle.client_script_run.specs.asker.Standing.{first_of}
use Rattle.client_script_run.specs.declared.asker.asker.AskEnd.TheVariants as asks
use Rattle.client_script_run.specs.run.Runs.{first_client}
use Rattle.client_script_run.specs.declared.run.ends.ClientEnd.TheVariants as ends
use Rattle.client_script_run.proofs.OfRun.StopLemmas.{opened-runs, runs-none}
use Rattle.client_script_run.proofs.run.run.run_script.Goals as goal

pub returns-in_default : goal.returns-in_default
returns-in_default g c =
    runs-none g.D.Link.Link.link_state c.args.turns (first_of (first_client c.args.login) c.args.turns) (first_of (first_client c.args.login) c.args.turns) (g.D.Dialer.dialer_state c.args.dialer) (g.S.Source.source_state c.args.source.now) (g.O.Sink.sink_state c.args.out.now) asks.Memory ends.Memory
    (g.D.Dialer.dialer_state c.args.dialer) refl refl refl

pub returns-in_default-room_of : goal.returns-in_default-room_of
returns-in_default-room_of g c =
    runs-none g.D.Link.Link.link_state c.args.turns (first_of (first_client c.args.login) c.args.turns) (first_of (first_client c.args.login) c.args.turns) (g.D.Dialer.dialer_state c.args.dialer) (g.S.Source.source_state c.args.source.now) (g.O.Sink.sink_state c.args.out.now) asks.Memory ends.Memory
    (g.D.Dialer.dialer_state c.args.dialer) refl refl refl

pub returns-in-Ok-open_asker : goal.returns-in-Ok-open_asker
returns-in-Ok-open_asker g c =
    let now = c.in-Ok-open_asker.asker.asked.fixed in
    let new = c.in-Ok-open_asker.ensures.opened in
    opened-runs g.D.Link.Link.link_state c.args.turns (first_of (first_client c.args.login) c.args.turns) (first_of now.core.value now.turns) (g.D.Dialer.dialer_state c.args.dialer) (g.D.Dialer.dialer_state now.dialer.value) (g.S.Source.source_state c.args.source.now) (g.O.Sink.sink_state c.args.out.now)
    c.run_open.result.end (g.D.Dialer.dialer_state c.run_open.result.dialer) (g.S.Source.source_state c.run_open.new.source) (g.O.Sink.sink_state c.run_open.new.out)
    (ap (λ (x : Client). first_of x now.turns) (new.core_is ∙ c.in-Ok.ensures) ∙ ap (λ (n : ℕ). first_of (first_client c.args.login) n) new.turns_is) (ap g.D.Dialer.dialer_state new.dialer_is) c.run_open.ensures

pub returns-in-Err : goal.returns-in-Err
returns-in-Err g c =
    runs-none g.D.Link.Link.link_state c.args.turns (first_of (first_client c.args.login) c.args.turns) (first_of c.in-Ok.core c.args.turns) (g.D.Dialer.dialer_state c.args.dialer) (g.S.Source.source_state c.args.source.now) (g.O.Sink.sink_state c.args.out.now) c.in-Err.failed.end c.end_of_ask.result
    (g.D.Dialer.dialer_state c.in-Err.failed.dialer) (ap (λ (x : Client). first_of x c.args.turns) c.in-Ok.ensures) c.end_of_ask.ensures c.in-Err.ensures.failed
