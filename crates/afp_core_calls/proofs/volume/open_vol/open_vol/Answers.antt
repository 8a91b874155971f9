use Rattle.std.proofs.Common.{◌∙◌, ap, refl, Bool, None, Some}
use Rattle.std.specs.Prelude.{if◌then◌else◌}
use Rattle.afp_base.specs.declared.code.Code.TheVariants.{BitmapErr, ObjectNotFound}
use Rattle.afp_serial.specs.OpenVol.{with_volume}
use Rattle.afp_calls_grammar.specs.declared.grammar.call.Call.TheVariants.{OpenVol}
use Rattle.afp_core_state.specs.KeptWorld.{KeptWorld}
use Rattle.afp_core_state.specs.lemma.KeptWorld.{kept_parts, with_sessions}
use Rattle.session_table.specs.Sessions.{Table}
use Rattle.session_table.specs.Sessions.{replaced, session_of}
use Rattle.afp_core_state.proofs.RowLemmas.{is_refused}
use Rattle.afp_core_calls.proofs.OfVolume.VolumeLemmas.{open_vol-bits, open_vol-no_volume, open_vol-runs}
use Rattle.afp_core_calls.proofs.volume.open_vol.open_vol.Goals as goal

pub returns-then-are_refused : goal.returns-then-are_refused
returns-then-are_refused g c = λ s at.
    let refused = c.are_refused.ensures ∙ ap (λ (b : Bool). if b then Some BitmapErr else None) c.if-are_refused.true in
    is_refused c.args.state.now _ s (OpenVol c.args.bits c.args.name.now) BitmapErr _ (open_vol-bits c.args.state.now.world s c.args.bits c.args.name.now BitmapErr refused) c.refused.ensures refl

pub returns-in_default : goal.returns-in_default
returns-in_default g c = λ s at.
    let passes = c.are_refused.ensures ∙ ap (λ (b : Bool). if b then Some BitmapErr else None) c.if-are_refused.false in
    is_refused c.args.state.now _ s (OpenVol c.args.bits c.args.name.now) ObjectNotFound _
    (open_vol-no_volume c.args.state.now.world s c.args.bits c.args.name.now passes c.in_default.ensures.named) c.refused-in_default.ensures refl

pub returns : goal.returns
returns g c = λ s at.
    let passes = c.are_refused.ensures ∙ ap (λ (b : Bool). if b then Some BitmapErr else None) c.if-are_refused.false in
    let named = c.in-Some.ensures.named in
    let a = c.state.inside in
    let there = ap (λ (k : KeptWorld). session_of k.world.sessions c.args.session.0) c.state.view_is ∙ at in
    open_vol-runs c.args.state.now _ s c.args.bits c.args.name.now c.in-Some.volume.0 _ c.in_ok-block.block (replaced c.args.state.now.world.sessions (with_volume s c.in-Some.volume.0)) passes named c.done.ensures (c.in_ok-block.ensures named.state named.there)
    (ap (λ (t : Table). kept_parts a.house a.latest a.drain t a.forks a.kept.items) (c.open_volume.ensures s there) ∙ ap (λ (k : KeptWorld). with_sessions k (replaced k.world.sessions (with_volume s c.in-Some.volume.0))) c.state.view_is)
    refl
