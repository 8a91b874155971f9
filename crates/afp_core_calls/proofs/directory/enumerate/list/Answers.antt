use Rattle.std.proofs.Common.{ap, subst, sym}
use Rattle.afp_serial.specs.Enumerate.{enumerate_reply}
use Rattle.volume_spec.specs.Enumerate.{enumerate_refusal}
use Rattle.afp_core_state.specs.OnVolumes.{IsOpen}
use Rattle.afp_core_state.specs.KeptWorld.{KeptWorld}
use Rattle.afp_core_state.specs.lemma.KeptWorld.{forks_in}
use Rattle.afp_core_state.proofs.ForkLemmas.{has-forks}
use Rattle.afp_core_state.proofs.TellRows.{tells-runs, tells-unopened}
use Rattle.afp_core_calls.proofs.OfDirectory.CallRows.{lists-tells}
use Rattle.afp_core_calls.proofs.directory.enumerate.list.Goals as goal

pub returns-in_default : goal.returns-in_default
returns-in_default g c = λ call asks is goes calls same.
    tells-unopened c.args.state.now c.args.session.0 call c.args.volume.0 _ _ (lists-tells call c.args.volume.0 c.args.dir.0 asks c.args.path.now is goes) _
    (subst (IsOpen c.args.state.now c.args.session.0 c.args.volume.0) c.in_default.is c.opened.ensures) c.refused.ensures

pub returns : goal.returns
returns g c = λ call asks is goes calls same.
    let answer = c.list-answer in
    let v = c.kept_at.result.now.state in
    let asked = c.args.asked in
    let k = c.args.state.now in
    let opens = sym (c.on-opens.ensures k.world (has-forks k.world c.state.inside.forks (ap (λ (x : KeptWorld). forks_in x.world) c.state.view_is))) in
    tells-runs c.args.state.now c.args.session.0 call c.args.volume.0 _ _ (lists-tells call c.args.volume.0 c.args.dir.0 asks c.args.path.now is goes) asked.user c.in-Some.index v _ _ answer.result c.new-block.result answer.new.out
    c.told_of.result calls c.in-Some.ensures c.kept_at.ensures
    (λ i. enumerate_refusal v (opens i) (same i) c.args.dir.0 c.args.path.now) (λ i. enumerate_reply v (opens i) (same i) c.args.dir.0 c.args.path.now)
    answer.ensures.refused c.new-block.ensures answer.ensures.ok c.told_of.ensures
