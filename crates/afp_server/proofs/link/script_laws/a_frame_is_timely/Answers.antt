use Rattle.std.proofs.Common.{subst}
use Rattle.std.specs.Prelude.{Option}
use Rattle.afp_server.specs.declared.link.stage.FrameEnd.{FrameEnd}
use Rattle.afp_server.proofs.OfLink.Moments.{ClosesBy, does-timely}
use Rattle.afp_server.proofs.link.script_laws.a_frame_is_timely.Goals as goal

pub returns-clause-moments : goal.returns-clause-moments
returns-clause-moments c = λ block now stage f did does. (does-timely block now stage f did does).moments

pub returns-clause-closed : goal.returns-clause-closed
returns-clause-closed c = λ block now stage f did does is. subst (λ (o : Option FrameEnd). ClosesBy o did.stage) is (does-timely block now stage f did does).closing

pub returns-clause-displaced : goal.returns-clause-displaced
returns-clause-displaced c = λ block now stage f did does is. subst (λ (o : Option FrameEnd). ClosesBy o did.stage) is (does-timely block now stage f did does).closing
