use Rattle.std.proofs.Common.{List, [], subst}
use Rattle.volume_keeper.specs.kept.Kept.{KeptState}
use Rattle.afp_core_state.specs.KeptWorld.{with_token_key, world_of}
use Rattle.afp_core_state.specs.lemma.Holding.{StandBeside}
use Rattle.afp_core_state.proofs.HoldingLemmas.{are-held}
use Rattle.afp_core_state.proofs.state.State.keepers_hold.Goals as goal

pub returns : goal.returns
returns g c =
    let a = c.self.inside in
    let k = g.K.Keeper in
    are-held k.records k.sure k.faults (world_of (with_token_key a.house a.sessions.token_key) a.latest a.drain a.sessions.next_link a.sessions.sessions a.forks []) a.kept.items c.args.self.now c.self.view_is
    (subst (λ (l : List KeptState). StandBeside k.records k.sure k.faults l) c.as_slice.ensures.value c.stand_beside.ensures)
