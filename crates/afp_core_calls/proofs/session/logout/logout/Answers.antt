use Rattle.std.proofs.Common.{ap, List, ℕ, true}
use Rattle.afp_base.specs.declared.code.Code.TheVariants.{Ok}
use Rattle.afp_serial.specs.declared.ask.Told.TheVariants.{Reply}
use Rattle.afp_core_calls.proofs.OfSession.LoginLemmas.{logout-runs}
use Rattle.afp_core_state.proofs.SessionLemmas.{session_of-number}
use Rattle.afp_core_calls.proofs.session.logout.logout.Goals as goal

pub returns : goal.returns
returns g c = λ s at.
    logout-runs c.args.state.now _ s _ c.args.session.0 (session_of-number c.args.state.now.world.sessions c.args.session.0 s at) (ap (λ (b : List ℕ). Reply Ok b true) c.new.ensures) c.end.ensures
