use Rattle.std.proofs.Common.{◌∙◌, ap, refl, []}
use Rattle.std.specs.Prelude.{Ok, Err}
use Rattle.afp_serial.specs.World.{World}
use Rattle.afp_serial.specs.declared.ask.Outcome.TheVariants as outcome
use Rattle.afp_serial.specs.declared.ask.Told.{Told}
use Rattle.record_keeper.specs.declared.keeper.KeeperFault.TheVariants as keeper
use Rattle.afp_core_state.specs.KeptWorld.{with_token_key, world_of}
use Rattle.afp_core_state.specs.Running.{done}
use Rattle.afp_core_state.proofs.PlannedRows.{commit-becomes, may-commit}
use Rattle.afp_core_state.proofs.planned.commit_plan.Goals as goal

pub commit-requires : goal.commit-requires
commit-requires g c =
    let a = c.state.inside in
    may-commit (world_of (with_token_key a.house a.sessions.token_key) a.latest a.drain a.sessions.next_link a.sessions.sessions a.forks []) a.kept.items c.args.index c.index_mut.result.now c.args.state.now c.args.plan c.state.view_is c.requires.within
    c.index_mut.ensures.value c.requires.may

pub returns-in-Ok : goal.returns-in-Ok
returns-in-Ok g c =
    let a = c.state.inside in
    let w : World = world_of (with_token_key a.house a.sessions.token_key) a.latest a.drain a.sessions.next_link a.sessions.sessions a.forks [] in
    record {
      answer = Ok tt;
      becomes = commit-becomes w a.kept.items c.args.index c.index_mut.result.now c.commit.new.self c.args.state.now _ c.args.plan c.commit.result (Ok tt) c.state.view_is c.requires.within c.index_mut.ensures.value c.in-Ok.is c.commit.ensures refl;
      tells = ap done c.done.ensures;
    }

pub returns-in-Err-Failed : goal.returns-in-Err-Failed
returns-in-Err-Failed g c =
    let a = c.state.inside in
    let w : World = world_of (with_token_key a.house a.sessions.token_key) a.latest a.drain a.sessions.next_link a.sessions.sessions a.forks [] in
    record {
      answer = Err keeper.Failed;
      becomes = commit-becomes w a.kept.items c.args.index c.index_mut.result.now c.commit.new.self c.args.state.now _ c.args.plan c.commit.result (Err keeper.Failed) c.state.view_is c.requires.within c.index_mut.ensures.value
          (c.in-Err-Failed.is ∙ ap Err c.in-Err-Failed.field-0-is) c.commit.ensures refl;
      tells = ap (λ (t : Told). (t, outcome.Fault)) c.refused.ensures;
    }

pub returns : goal.returns
returns g c =
    let a = c.state.inside in
    let w : World = world_of (with_token_key a.house a.sessions.token_key) a.latest a.drain a.sessions.next_link a.sessions.sessions a.forks [] in
    record {
      answer = Err keeper.Memory;
      becomes = commit-becomes w a.kept.items c.args.index c.index_mut.result.now c.commit.new.self c.args.state.now _ c.args.plan c.commit.result (Err keeper.Memory) c.state.view_is c.requires.within c.index_mut.ensures.value
          (c.in-Err-Memory.is ∙ ap Err c.in-Err-Memory.field-0-is) c.commit.ensures refl;
      tells = tt;
    }
