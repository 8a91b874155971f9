use Rattle.std.proofs.Common.{◌∙◌, ap, subst, sym, Some}
use Rattle.afp_serial.specs.ExchangeFiles.{opens_exchanged}
use Rattle.afp_core_state.specs.Forks.{Forks, with_opens}
use Rattle.afp_core_state.specs.lemma.LockRanges.{AreInRange}
use Rattle.afp_core_state.proofs.ExchangedForks.{forks-swapped, swapped-in-range}
use Rattle.afp_core_state.proofs.forks.OpenForks.exchange.Goals as goal

pub invariant_of-self : goal.invariant_of-self
invariant_of-self c =
    subst AreInRange (sym c.swap-2.ensures.locks) (swapped-in-range _ _ c.swap.new.self.locks
    (subst AreInRange (sym c.swap.ensures.locks) (swapped-in-range _ _ c.self.inside.table.locks c.self.invariant)))

pub returns : goal.returns
returns c =
    forks-swapped c.args.volume.0 c.args.a.0 c.args.b.0 c.self.inside.table c.swap.new.self c.swap-2.new.self _ _ _ _ c.fork_key-a_data.ensures c.fork_key-b_data.ensures c.fork_key-a_resource.ensures c.fork_key-b_resource.ensures c.swap.ensures.opens c.swap.ensures.locks c.swap-2.ensures.opens c.swap-2.ensures.locks
    ∙ ap (λ (f : Forks). with_opens f (opens_exchanged c.args.volume.0 (Some (record { first = c.args.a.0; second = c.args.b.0 })) f.opens)) c.self.view_is
