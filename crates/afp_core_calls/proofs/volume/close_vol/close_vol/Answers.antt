use Rattle.std.proofs.Common.{◌∙◌, ap, sym, refl, List, ℕ, ◌==◌, ◌&&◌, filter, not, false}
use Rattle.afp_base.specs.declared.code.Code.TheVariants.{Ok, ParamErr}
use Rattle.afp_core_state.specs.KeptWorld.{KeptWorld}
use Rattle.afp_core_state.specs.lemma.KeptWorld.{forks_in, kept_parts, with_forks, with_sessions}
use Rattle.session_table.specs.Sessions.{Table}
use Rattle.afp_serial.specs.declared.ask.Told.TheVariants.{Reply}
use Rattle.afp_calls_grammar.specs.declared.grammar.call.Call.TheVariants.{CloseVol}
use Rattle.session_table.specs.Sessions.{replaced, session_of}
use Rattle.afp_core_state.proofs.RowLemmas.{is_refused}
use Rattle.afp_core_calls.proofs.OfVolume.VolumeLemmas.{close_vol-not_open, close_vol-runs}
use Rattle.afp_core_state.proofs.SessionLemmas.{session_of-number}
use Rattle.afp_core_state.specs.Forks.{left_of}
use Rattle.afp_core_calls.proofs.volume.close_vol.close_vol.Goals as goal

pub returns-then-not-has_volume : goal.returns-then-not-has_volume
returns-then-not-has_volume g c = λ s at.
    let there = ap (λ (k : KeptWorld). session_of k.world.sessions c.args.session.0) c.state.view_is ∙ at in
    is_refused c.args.state.now _ s (CloseVol c.args.volume) ParamErr _
    (close_vol-not_open c.args.state.now.world s c.args.volume (sym (c.has_volume.ensures s there) ∙ c.if-not-has_volume.true)) c.refused.ensures refl

pub returns : goal.returns
returns g c = λ s at.
    let there = ap (λ (k : KeptWorld). session_of k.world.sessions c.args.session.0) c.state.view_is ∙ at in
    let number = session_of-number c.args.state.now.world.sessions c.args.session.0 s at in
    let a = c.state.inside in
    close_vol-runs c.args.state.now _ s c.args.session.0 c.args.volume _ (replaced c.args.state.now.world.sessions (record s { volumes = filter (λ v. not (v == c.args.volume.0)) s.volumes })) c.close_volume-2.new.self number (sym (c.has_volume.ensures s there) ∙ c.if-not-has_volume.false)
    (c.done.ensures ∙ ap (λ (b : List ℕ). Reply Ok b false) c.new.ensures) (ap (λ (t : Table). kept_parts a.house a.latest a.drain t c.close_volume-2.new.self a.kept.items) (c.close_volume.ensures s there)
    ∙ ap (λ (k : KeptWorld). with_forks (with_sessions k (replaced k.world.sessions (record s { volumes = filter (λ v. not (v == c.args.volume.0)) s.volumes }))) c.close_volume-2.new.self) c.state.view_is)
    refl
    (c.close_volume-2.ensures ∙ ap (λ (k : KeptWorld). left_of (λ o. not ((o.session == c.args.session.0) && (o.fork.volume == c.args.volume.0))) (forks_in k.world)) c.state.view_is)
