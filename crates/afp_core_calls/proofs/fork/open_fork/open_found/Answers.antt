use Rattle.std.proofs.Common.{◌∙◌, ap, sym, subst}
use Rattle.std.specs.Prelude.{Err, Ok as with_ok, slice_get}
use Rattle.fork_table.specs.declared.open_fork.OpenFault.{OpenFault}
use Rattle.afp_core_state.specs.Forks.{OpensFork}
use Rattle.afp_core_state.specs.KeptWorld.{KeptWorld}
use Rattle.afp_core_state.specs.lemma.KeptWorld.{forks_in, with_forks}
use Rattle.afp_core_state.specs.Running.{done, RunsRow}
use Rattle.afp_core_state.proofs.ForkLemmas.{has-forks}
use Rattle.afp_core_calls.proofs.OfFork.OpenForkLemmas.{denied-runs, found-many, found-opened, found-refused, found-stays, found-undone}
use Rattle.afp_core_calls.proofs.fork.open_fork.open_found.Goals as goal

pub returns-in-Ok-opened_block : goal.returns-in-Ok-opened_block
returns-in-Ok-opened_block g c = λ call asked f.
    let k = c.args.state.now in
    let forks = has-forks k.world c.state.inside.forks (ap (λ (k : KeptWorld). forks_in k.world) c.state.view_is) in
    found-opened k c.args.session.0 call asked c.args.index c.args.fork c.args.mode c.args.bits f c.state.inside.forks forks _ c.in-Ok.reference c.open.new.self c.in-Ok-opened_block.block _
    (λ s same. c.in-Ok.ensures k.world s forks same) (ap (λ (k : KeptWorld). with_forks k c.open.new.self) c.state.view_is)
    (c.in-Ok-opened_block.ensures f.volume f.file (ap (λ (k : KeptWorld). slice_get k.world.volumes c.args.index) c.state.view_is ∙ f.there) f.found) c.done.ensures

pub returns-in-Err : goal.returns-in-Err
returns-in-Err g c = λ call asked f.
    let k = c.args.state.now in
    let forks = has-forks k.world c.state.inside.forks (ap (λ (k : KeptWorld). forks_in k.world) c.state.view_is) in
    found-undone k c.args.session.0 call asked c.args.index c.args.fork c.args.mode c.args.bits f c.state.inside.forks forks _ c.in-Ok.reference c.open.new.self c.close.new.self
    c.closing_undoes_an_open.ensures c.references_are_lowest.ensures.free c.keeps_sound.ensures (λ s same. c.in-Ok.ensures k.world s forks same) c.close.ensures
    (ap (λ (k : KeptWorld). with_forks k c.close.new.self) c.state.view_is)

pub returns-in-Err-Deny : goal.returns-in-Err-Deny
returns-in-Err-Deny g c = λ call asked f.
    let k = c.args.state.now in
    let forks = has-forks k.world c.state.inside.forks (ap (λ (k : KeptWorld). forks_in k.world) c.state.view_is) in
    let stays = found-refused k c.args.session.0 call asked c.args.index c.args.fork c.args.mode c.args.bits f c.state.inside.forks forks c.open.result c.open.new.self c.in-Err-Deny.field-0 c.in-Err-Deny.is
    (λ s same. c.open.ensures k.world s forks same) in
    denied-runs k c.args.session.0 call asked c.args.index c.args.fork c.args.mode c.args.bits f _ c.told_denied.result
    (found-stays k c.args.session.0 call asked c.args.index c.args.fork c.args.mode c.args.bits f c.state.inside.forks forks _ c.open.new.self (ap (λ (k : KeptWorld). with_forks k c.open.new.self) c.state.view_is) stays)
    (λ s same. (subst (λ (e : OpenFault). OpensFork k.world s c.state.inside.forks c.args.fork c.args.mode (Err e) c.open.new.self) c.in-Err-Deny.field-0-is (c.in-Err-Deny.ensures k.world s forks same)).0)
    c.told_denied.ensures

pub returns-in-Err-TooMany : goal.returns-in-Err-TooMany
returns-in-Err-TooMany g c = λ call asked f.
    let k = c.args.state.now in
    let forks = has-forks k.world c.state.inside.forks (ap (λ (k : KeptWorld). forks_in k.world) c.state.view_is) in
    let stays = found-refused k c.args.session.0 call asked c.args.index c.args.fork c.args.mode c.args.bits f c.state.inside.forks forks c.open.result c.open.new.self c.in-Err-TooMany.field-0 c.in-Err-TooMany.is
    (λ s same. c.open.ensures k.world s forks same) in
    subst (λ (x : KeptWorld). RunsRow k c.args.session.0 call (with_ok (done c.refused.result)) x)
    (sym (found-stays k c.args.session.0 call asked c.args.index c.args.fork c.args.mode c.args.bits f c.state.inside.forks forks _ c.open.new.self (ap (λ (k : KeptWorld). with_forks k c.open.new.self) c.state.view_is) stays))
    (found-many k c.args.session.0 call asked c.args.index c.args.fork c.args.mode c.args.bits f _
    (λ s same.
    let o = subst (λ (e : OpenFault). OpensFork k.world s c.state.inside.forks c.args.fork c.args.mode (Err e) c.open.new.self) c.in-Err-TooMany.field-0-is (c.in-Err-TooMany.ensures k.world s forks same) in
    (o.0, o.1)) c.refused.ensures)

pub returns-in-Err-Memory : goal.returns-in-Err-Memory
returns-in-Err-Memory g c = λ call asked f.
    let k = c.args.state.now in
    let forks = has-forks k.world c.state.inside.forks (ap (λ (k : KeptWorld). forks_in k.world) c.state.view_is) in
    let stays = found-refused k c.args.session.0 call asked c.args.index c.args.fork c.args.mode c.args.bits f c.state.inside.forks forks c.open.result c.open.new.self c.in-Err-Memory.field-0 c.in-Err-Memory.is
    (λ s same. c.open.ensures k.world s forks same) in
    found-stays k c.args.session.0 call asked c.args.index c.args.fork c.args.mode c.args.bits f c.state.inside.forks forks _ c.open.new.self (ap (λ (k : KeptWorld). with_forks k c.open.new.self) c.state.view_is) stays
