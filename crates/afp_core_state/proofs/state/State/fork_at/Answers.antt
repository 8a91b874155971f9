use Rattle.std.proofs.Common.{◌∙◌, ap, refl, sym, List}
use Rattle.afp_serial.specs.World.{is_open, volume_at, OpenFork as Opened}
use Rattle.fork_table.specs.declared.open_fork.OpenFork.{OpenFork}
use Rattle.afp_core_state.specs.KeptWorld.{KeptWorld}
use Rattle.afp_core_state.specs.lemma.KeptWorld.{forks_in}
use Rattle.afp_core_state.proofs.ForkLemmas.{fork-found, fork-none, fork-unfound, has-forks}
use Rattle.afp_core_state.proofs.state.State.fork_at.Goals as goal
use Rattle.afp_core_state.specs.Forks.{open_of}

pub returns-in_default : goal.returns-in_default
returns-in_default g c =
    let w = c.args.self.now.world in
    let forks = has-forks w c.self.inside.forks (ap (λ (k : KeptWorld). forks_in k.world) c.self.view_is) in
    fork-none c.args.self.now c.args.session.0 c.args.reference.0 (λ s same. c.in_default.ensures.own w s forks same)

pub returns-in-None : goal.returns-in-None
returns-in-None g c =
    let w = c.args.self.now.world in
    let forks = has-forks w c.self.inside.forks (ap (λ (k : KeptWorld). forks_in k.world) c.self.view_is) in
    fork-unfound c.args.self.now c.args.session.0 c.args.reference.0 (open_of c.args.reference.0 c.in-Some.open) (λ s same. c.in-Some.ensures.own w s forks same)
    (ap (λ (o : OpenFork). volume_at w.volumes o.fork.volume) (sym c.open.view_is) ∙ c.in-None.ensures)

pub returns-in-Some-index : goal.returns-in-Some-index
returns-in-Some-index g c =
    let w = c.args.self.now.world in
    let forks = has-forks w c.self.inside.forks (ap (λ (k : KeptWorld). forks_in k.world) c.self.view_is) in
    fork-found c.args.self.now c.args.session.0 c.args.reference.0 (open_of c.args.reference.0 c.in-Some.open) _ c.requires.opens (λ s same. c.in-Some.ensures.own w s forks same)
    (ap (λ (opens : List Opened). is_open opens c.args.reference.0) forks.opens ∙ c.in-Some.ensures.open) refl refl
    (ap (λ (o : OpenFork). o.fork.volume) (sym c.open.view_is) ∙ c.in-Some-index.ensures.0) c.in-Some-index.ensures.1
