use Rattle.std.proofs.Common.{◌≡◌, ◌∙◌, ◌<◌, ◌-◌, List, Some, ap, arith, length, subst, sym}
use Rattle.std.specs.Prelude.{IfSome, option_map, slice_get}
use Rattle.std.proofs.lemmas.List.{length-map}
use Rattle.afp_serial.specs.World.{volume_at}
use Rattle.volume_keeper.specs.kept.Kept.{KeptState}
use Rattle.volume_keeper_records.specs.Image.{kept_image}
use Rattle.afp_core_state.specs.KeptWorld.{KeptWorld}
use Rattle.afp_core_state.proofs.HoldingLemmas.{image-at, placed-kept}
use Rattle.afp_core_state.proofs.state.State.keeper.Goals as goal

pub returns-in-Some-clause-records : goal.returns-in-Some-clause-records
returns-in-Some-clause-records g c =
    let kept : List KeptState = c.self.inside.kept.items in
    let told = g.K.Keeper.records c.keeper.result.now in
    let within : c.in-Some.index < length kept = omega (arith, c.in-Some.ensures.1, ap (λ (k : KeptWorld). length k.world.volumes) c.self.view_is, length-map kept (λ (k : KeptState). k.state)) in
    subst (λ (k : KeptWorld). IfSome told (λ held. option_map kept_image (volume_at k.world.volumes c.args.v.0) ≡ Some held)) c.self.view_is
    (image-at told kept c.args.v.0 c.in-Some.index c.index-in-Some.result.now c.in-Some.ensures.0 within
    (subst (λ (k : KeptState). IfSome told (λ held. held ≡ kept_image k.state)) c.index-in-Some.ensures c.keeper.ensures.records))

pub returns-in-Some-clause-faults : goal.returns-in-Some-clause-faults
returns-in-Some-clause-faults g c =
    let kept : List KeptState = c.self.inside.kept.items in
    let within : c.in-Some.index < length kept = omega (arith, c.in-Some.ensures.1, ap (λ (k : KeptWorld). length k.world.volumes) c.self.view_is, length-map kept (λ (k : KeptState). k.state)) in
    let same = c.keeper.ensures.faults ∙ ap (λ (k : KeptState). k.faults) c.index-in-Some.ensures in
    subst (λ (k : KeptWorld). slice_get k.faults (c.args.v.0 - 1) ≡ Some (g.K.Keeper.faults c.keeper.result.now)) c.self.view_is
    (placed-kept (λ k. k.faults) kept c.args.v.0 c.in-Some.index c.index-in-Some.result.now c.in-Some.ensures.0 within ∙ ap Some (sym same))

pub returns-in-Some-clause-sure : goal.returns-in-Some-clause-sure
returns-in-Some-clause-sure g c =
    let kept : List KeptState = c.self.inside.kept.items in
    let within : c.in-Some.index < length kept = omega (arith, c.in-Some.ensures.1, ap (λ (k : KeptWorld). length k.world.volumes) c.self.view_is, length-map kept (λ (k : KeptState). k.state)) in
    let same = c.keeper.ensures.sure ∙ ap (λ (k : KeptState). k.sure) c.index-in-Some.ensures in
    subst (λ (k : KeptWorld). slice_get k.sure (c.args.v.0 - 1) ≡ Some (g.K.Keeper.sure c.keeper.result.now)) c.self.view_is
    (placed-kept (λ k. k.sure) kept c.args.v.0 c.in-Some.index c.index-in-Some.result.now c.in-Some.ensures.0 within ∙ ap Some (sym same))
