use Rattle.std.proofs.Common.{◌<◌, ap, subst, length, arith, List, [], refl}
use Rattle.std.proofs.lemmas.List.{length-map}
use Rattle.volume_keeper.specs.kept.Changing.{Settles}
use Rattle.volume_keeper.specs.kept.Kept.{KeptState}
use Rattle.afp_core_state.specs.KeptWorld.{KeptWorld, with_token_key, world_of}
use Rattle.afp_core_state.proofs.KeeperLemmas.{becomes-kept}
use Rattle.afp_core_state.proofs.state.State.settle_at.Goals as goal

pub returns : goal.returns
returns g c =
    let a = c.self.inside in
    let kept : List KeptState = a.kept.items in
    let within : c.args.index < length kept = omega (arith, c.requires, ap (λ (k : KeptWorld). length k.world.volumes) c.self.view_is, length-map kept (λ (k : KeptState). k.state)) in
    becomes-kept (world_of (with_token_key a.house a.sessions.token_key) a.latest a.drain a.sessions.next_link a.sessions.sessions a.forks []) kept c.args.index c.index_mut.result.now c.settle.new.self (λ old one. Settles old c.settle.result one) c.args.self.now _
    c.self.view_is within (subst (λ (k : KeptState). Settles k c.settle.result c.settle.new.self) c.index_mut.ensures.value c.settle.ensures) refl
