-- The rows of FPOpenVol and FPCloseVol.
use Rattle.std.proofs.Common.{◌≡◌, ◌∙◌, ap, sym, refl, ℕ, ◌==◌, true, false, not, ◌&&◌, List, [], filter, Some, None}
use Rattle.afp_base.specs.declared.code.Code.{Code}
use Rattle.afp_base.specs.declared.code.Code.TheVariants.{Ok, ParamErr, ObjectNotFound}
use Rattle.afp_base.specs.declared.ids.VolumeId.{VolumeId}
use Rattle.afp_calls_grammar.specs.declared.grammar.call.Call.TheVariants.{CloseVol, OpenVol}
use Rattle.afp_serial.specs.declared.ask.Told.{Told}
use Rattle.afp_serial.specs.declared.ask.Told.TheVariants.{Reply}
use Rattle.afp_serial.specs.OpenVol.{open_vol_reply, state_named, volume_named, with_volume}
use Rattle.afp_replies.specs.Replies.{canonical_reply}
use Rattle.volume_spec.specs.GetVolParms.{get_vol_parms_refusal}
use Rattle.volume_spec.specs.VolumeState.{VolumeState}
use Rattle.afp_serial.specs.World.{Effect, plain, volume_at, with_session, closing, has_opened, World, Session, OpenFork}
use Rattle.afp_serial.specs.Rows.{row, refusal, effect}
use Rattle.session_table.specs.Sessions.{replaced}
use Rattle.afp_core_state.specs.KeptWorld.{KeptWorld}
use Rattle.afp_core_state.specs.lemma.KeptWorld.{forks_in, with_forks, with_sessions}
use Rattle.afp_core_calls.specs.volume.lemma.NamedVolume.{IsNamed}
use Rattle.afp_core_state.specs.Forks.{Forks, left_of}
use Rattle.afp_core_state.proofs.RowLemmas.{IsRowOf, has_effect}

-- FPCloseVol
pub close_vol-not_open : (w : World) (s : Session) (volume : VolumeId) → has_opened s volume.0 ≡ false → refusal w s (CloseVol volume) ≡ Some (plain ParamErr)
unfolding row
close_vol-not_open w s volume h = rw h refl

pub close_vol-runs : (old new : KeptWorld) (s : Session) (n : ℕ) (volume : VolumeId) (told : Told) (sessions : List Session) (forks : Forks)
    → s.number ≡ n → has_opened s volume.0 ≡ true → told ≡ Reply Ok [] false → new ≡ with_forks (with_sessions old sessions) forks
    → sessions ≡ replaced old.world.sessions (record s { volumes = filter (λ v. not (v == volume.0)) s.volumes })
    → forks ≡ left_of (λ o. not ((o.session == n) && (o.fork.volume == volume.0))) (forks_in old.world)
    → IsRowOf old s (CloseVol volume) told new
unfolding row
close_vol-runs old new s n volume told sessions forks number h tells is set closes =
    let rest : List Session = replaced old.world.sessions (record s { volumes = filter (λ v. not (v == volume.0)) s.volumes }) in
    has_effect old new s (CloseVol volume) told _ (rw h refl) tells is
    ((λ i. record old.world { sessions = set i; opens = (closes i).opens; locks = (closes i).locks })
    ∙ ap (λ (m : ℕ). closing (record old.world { sessions = rest }) (λ (o : OpenFork). not ((o.session == m) && (o.fork.volume == volume.0)))) (sym number))

-- FPOpenVol
module _ (w : World) (s : Session) (bits : ℕ) (name : List ℕ) where
  pub open_vol-bits : (code : Code) → get_vol_parms_refusal bits ≡ Some code → refusal w s (OpenVol bits name) ≡ Some (plain code)
  unfolding row
  open_vol-bits code h = rw h refl

  pub open_vol-no_volume : get_vol_parms_refusal bits ≡ None → state_named w (volume_named w name) ≡ None → refusal w s (OpenVol bits name) ≡ Some (plain ObjectNotFound)
  unfolding row
  open_vol-no_volume h v = rw (h, v) refl

  pub open_vol-passes : (id : ℕ) (v : VolumeState) → get_vol_parms_refusal bits ≡ None → volume_named w name ≡ Some id → volume_at w.volumes id ≡ Some v → refusal w s (OpenVol bits name) ≡ None
  unfolding row
  open_vol-passes id v h named there = rw (h, named, there) refl

  pub open_vol-does : (id : ℕ) (v : VolumeState) → volume_named w name ≡ Some id → volume_at w.volumes id ≡ Some v
      → effect w s (OpenVol bits name) ≡ record { world = with_session w (with_volume s id); reply = open_vol_reply bits id v }
  unfolding row
  open_vol-does id v named there = rw (named, there) refl

pub open_vol-runs : (old new : KeptWorld) (s : Session) (bits : ℕ) (name : List ℕ) (id : ℕ) (told : Told) (block : List ℕ) (sessions : List Session)
    → get_vol_parms_refusal bits ≡ None → (named : IsNamed old.world name id)
    → told ≡ Reply Ok block false → block ≡ canonical_reply (open_vol_reply bits id named.state) → new ≡ with_sessions old sessions
    → sessions ≡ replaced old.world.sessions (with_volume s id)
    → IsRowOf old s (OpenVol bits name) told new
open_vol-runs old new s bits name id told block sessions h named tells bytes is set =
    let w = old.world in
    let does = open_vol-does w s bits name id named.state named.named named.there in
    has_effect old new s (OpenVol bits name) told _ (open_vol-passes w s bits name id named.state h named.named named.there)
    (tells ∙ ap (λ (b : List ℕ). Reply Ok b false) (bytes ∙ ap (λ (e : Effect). canonical_reply e.reply) (sym does))) is
    (ap (λ (x : List Session). record w { sessions = x }) set ∙ ap (λ (e : Effect). e.world) (sym does))
