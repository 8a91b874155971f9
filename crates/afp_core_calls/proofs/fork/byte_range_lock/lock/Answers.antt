use Rattle.std.proofs.Common.{ap, subst, sym}
use Rattle.afp_core_state.specs.KeptWorld.{KeptWorld}
use Rattle.afp_core_state.specs.lemma.KeptWorld.{forks_in, with_forks}
use Rattle.afp_core_calls.proofs.fork.byte_range_lock.lock.Goals as goal
use Rattle.afp_core_state.specs.Forks.{Forks, LocksRange}

pub returns : goal.returns
returns g c = λ o is.
    let w = c.args.state.now.world in
    record {
      forks = c.lock.new.self;
      is = subst (λ (f : Forks). LocksRange w f o c.args.range c.lock.result c.lock.new.self) (ap (λ (k : KeptWorld). forks_in k.world) c.state.view_is)
          (c.lock.ensures w o (record { opens = sym (ap (λ (k : KeptWorld). k.world.opens) c.state.view_is); locks = sym (ap (λ (k : KeptWorld). k.world.locks) c.state.view_is) }) is);
      now = ap (λ (k : KeptWorld). with_forks k c.lock.new.self) c.state.view_is;
    }
