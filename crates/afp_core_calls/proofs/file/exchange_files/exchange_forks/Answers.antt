use Rattle.std.proofs.Common.{◌∙◌, ap}
use Rattle.afp_core_state.specs.Forks.{Forks}
use Rattle.afp_core_state.specs.KeptWorld.{kept_world, volumes_of, with_token_key, world_of}
use Rattle.afp_core_state.specs.lemma.KeptWorld.{with_forks}
use Rattle.afp_core_calls.specs.file.lemma.Exchanging.{with_exchanged}
use Rattle.afp_core_calls.proofs.file.exchange_files.exchange_forks.Goals as goal

pub returns : goal.returns
returns g c =
    let a = c.state.inside in
    ap (λ (f : Forks). with_forks (kept_world (world_of (with_token_key a.house a.sessions.token_key) a.latest a.drain a.sessions.next_link a.sessions.sessions a.forks (volumes_of a.kept.items)) a.kept.items) f) c.exchange.ensures
    ∙ ap (with_exchanged c.args.volume.0 (record { first = c.args.a.0; second = c.args.b.0 })) c.state.view_is
