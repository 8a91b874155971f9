use Rattle.afp_serial.specs.Answered.{told_of}
use Rattle.afp_core_dispatch.proofs.AskLemmas.{pulse-runs}
use Rattle.afp_core_dispatch.proofs.asks.pulse.Goals as goal

pub returns : goal.returns
returns g c = λ out. pulse-runs c.args.state.now c.sweep.new.state c.args.link.0 (told_of c.told_pulse-answered.result out) (c.told_pulse-answered.ensures out) c.sweep.ensures
