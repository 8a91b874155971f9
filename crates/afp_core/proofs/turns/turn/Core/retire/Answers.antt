use Rattle.std.proofs.Common.{◌∙◌, ap}
use Rattle.afp_core.specs.turns.ServerState.{ServerState}
use Rattle.afp_core.proofs.OfKeepers.LoadLemmas.{few-volumes}
use Rattle.afp_core.proofs.turns.turn.Core.retire.Goals as goal

pub settle_all-requires : goal.settle_all-requires
settle_all-requires g c =
    few-volumes c.self.inside.state.world c.self-inside.inside.0.0.kept.items c.self.invariant (ap (λ i. i.state.world.volumes) c.self-inside.view_is)

pub returns : goal.returns
returns g c = record {
  kept = c.self-inside.inside.0.0.kept.items;
  volumes_are = ap (λ i. i.state.world.volumes) c.self-inside.view_is ∙ ap (λ (s : ServerState). s.world.volumes) c.self.view_is;
  faults_are = ap (λ i. i.state.faults) c.self-inside.view_is ∙ ap (λ (s : ServerState). s.faults) c.self.view_is;
  sure_are = ap (λ i. i.state.sure) c.self-inside.view_is ∙ ap (λ (s : ServerState). s.sure) c.self.view_is;
  settled_are = ap (λ i. i.state.settled) c.self-inside.view_is ∙ ap (λ (s : ServerState). s.settled) c.self.view_is;
  retires = c.settle_all.ensures;
}
