use Rattle.std.proofs.Common.{◌∙◌, ap, ◌==◌, not, refl}
use Rattle.afp_core_state.specs.KeptWorld.{KeptWorld, kept_world, volumes_of, with_token_key, world_of}
use Rattle.afp_core_state.specs.lemma.KeptWorld.{forks_in, with_forks, with_sessions, with_table}
use Rattle.session_table.specs.Sessions.{ended, Table}
use Rattle.afp_core_state.proofs.ForkLemmas.{end-runs}
use Rattle.afp_core_state.proofs.state.State.end.Goals as goal
use Rattle.afp_core_state.specs.Forks.{left_of}

pub returns : goal.returns
returns g c =
    let a = c.self.inside in
    end-runs c.args.self.now _ c.args.session.0 (ended c.args.self.now.world.sessions c.args.session.0) c.close_session.new.self c.requires.opens
    (ap (λ (t : Table). with_forks (with_table (kept_world (world_of (with_token_key a.house a.sessions.token_key) a.latest a.drain a.sessions.next_link a.sessions.sessions a.forks (volumes_of a.kept.items)) a.kept.items) t) c.close_session.new.self) c.end.ensures ∙ ap (λ (k : KeptWorld). with_forks (with_sessions k (ended k.world.sessions c.args.session.0)) c.close_session.new.self) c.self.view_is)
    refl
    (c.close_session.ensures ∙ ap (λ (k : KeptWorld). left_of (λ o. not (o.session == c.args.session.0)) (forks_in k.world)) c.self.view_is)
