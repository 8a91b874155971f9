use Rattle.std.proofs.Common.{ap}
use Rattle.afp_serial.specs.CopyFile.{CopyAsked}
use Rattle.afp_core_state.specs.KeptWorld.{KeptWorld}
use Rattle.afp_core_state.specs.lemma.KeptWorld.{forks_in}
use Rattle.afp_core_state.proofs.ForkLemmas.{has-forks}
use Rattle.volume_spec.specs.CopyFile.{Source}
use Rattle.afp_core_calls.proofs.OfFile.CopyLemmas.{no-target, source-by, source-fault, target-plans, target-refuses}
use Rattle.afp_core_calls.proofs.file.copy_file.plan_copy.Goals as goal

pub returns-in-Err : goal.returns-in-Err
returns-in-Err g c =
    let x = c.args in
    let asked : CopyAsked = record { volume = x.volume.0; dir = x.dir.0; path = x.path.now; target = x.target_volume.0; target_dir = x.target_dir.0; target_path = x.target_path.now; new_path = x.new_path.now } in
    source-fault x.state.now x.user x.index asked c.whole_at-whole.result.now.state c.whole_at-whole.ensures c.in-Err.fault c.in-Err.ensures.refused

pub returns-in_default : goal.returns-in_default
returns-in_default g c =
    let x = c.args in
    let asked : CopyAsked = record { volume = x.volume.0; dir = x.dir.0; path = x.path.now; target = x.target_volume.0; target_dir = x.target_dir.0; target_path = x.target_path.now; new_path = x.new_path.now } in
    no-target x.state.now x.user x.index asked c.whole_at-whole.result.now.state c.whole_at-whole.ensures c.in-Ok.source c.in-Ok.ensures.refused c.in-Ok.ensures.file c.in_default.ensures

pub returns-in-Ok-planned : goal.returns-in-Ok-planned
returns-in-Ok-planned g c =
    let x = c.args in
    let k = x.state.now in
    let asked : CopyAsked = record { volume = x.volume.0; dir = x.dir.0; path = x.path.now; target = x.target_volume.0; target_dir = x.target_dir.0; target_path = x.target_path.now; new_path = x.new_path.now } in
    let source : Source = record { file = c.in-Ok.source; held = c.is_held-held.result; denied = c.lacks_read-denied.result } in
    let from = c.whole_at-whole.result.now.state in
    let there = c.whole_at-whole.ensures in
    let found = c.in-Ok.ensures in
    let is =
    source-by k x.user x.index asked from there c.in-Ok.source found.refused found.file c.id.result.0 c.id-2.result.0 c.is_held-held.result c.lacks_read-denied.result c.id.ensures c.id-2.ensures
    (c.is_held-held.ensures k.world (has-forks k.world c.state.inside.forks (ap (λ (x : KeptWorld). forks_in x.world) c.state.view_is))) c.lacks_read-denied.ensures in
    target-plans k x.user x.index asked c.whole_at-whole.result.now.state c.whole_at-whole.ensures c.in-Ok.source c.in-Ok.ensures.refused c.in-Ok.ensures.file c.in-Some.target c.whole_at-to.result.now.state c.in-Some.ensures.0 c.in-Some.ensures.1 c.whole_at-to.ensures
    c.latest.result source c.in-Ok-planned.plan c.latest.ensures is c.in-Ok-planned.ensures.refused c.in-Ok-planned.ensures.plan

pub returns-in-Err-planned : goal.returns-in-Err-planned
returns-in-Err-planned g c =
    let x = c.args in
    let k = x.state.now in
    let asked : CopyAsked = record { volume = x.volume.0; dir = x.dir.0; path = x.path.now; target = x.target_volume.0; target_dir = x.target_dir.0; target_path = x.target_path.now; new_path = x.new_path.now } in
    let source : Source = record { file = c.in-Ok.source; held = c.is_held-held.result; denied = c.lacks_read-denied.result } in
    let from = c.whole_at-whole.result.now.state in
    let there = c.whole_at-whole.ensures in
    let found = c.in-Ok.ensures in
    let is =
    source-by k x.user x.index asked from there c.in-Ok.source found.refused found.file c.id.result.0 c.id-2.result.0 c.is_held-held.result c.lacks_read-denied.result c.id.ensures c.id-2.ensures
    (c.is_held-held.ensures k.world (has-forks k.world c.state.inside.forks (ap (λ (x : KeptWorld). forks_in x.world) c.state.view_is))) c.lacks_read-denied.ensures in
    target-refuses k x.user x.index asked c.whole_at-whole.result.now.state c.whole_at-whole.ensures c.in-Ok.source c.in-Ok.ensures.refused c.in-Ok.ensures.file c.in-Some.target c.whole_at-to.result.now.state c.in-Some.ensures.0 c.in-Some.ensures.1 c.whole_at-to.ensures
    c.latest.result source c.in-Err-planned.fault is c.in-Err-planned.ensures.refused
