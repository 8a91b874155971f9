-- What OpenVol does keeps a sound world sound.
use Rattle.std.proofs.Common.{◌≡◌, sym, refl, subst, ℕ, Bool, true, false, List, [], ◌∷◌, ◌∙◌, Option, Some, None}
use Rattle.std.specs.Prelude.{◌==◌, find, is_none}
use Rattle.std.specs.List.{list_all, list_any}
use Rattle.std.proofs.lemmas.Bool.{and_parts, and_from, cond_both, or_right}
use Rattle.afp_base.specs.Choice.{first_holding}
use Rattle.afp_base.specs.declared.code.Code.TheVariants.{ObjectNotFound}
use Rattle.afp_bitmap.specs.declared.params.Values.TheVariants.{Volume}
use Rattle.afp_bitmap.specs.declared.volume.VolumeValues.{VolumeValues}
use Rattle.afp_replies.specs.declared.reply.Reply.TheVariants.{Params}
use Rattle.afp_replies.specs.Commands.{rows, shape_in, shape_of}
use Rattle.afp_calls_grammar.specs.declared.grammar.call.Call.TheVariants.{OpenVol}
use Rattle.afp_serial.proofs.OnVolumeRows.{Asks, IsToldTo, refused_before-none, refused_before-refused, told-shown}
use Rattle.afp_serial.proofs.PlacedLists.{any-placed}
use Rattle.afp_serial.proofs.Replaced.{TakesPlace, number_of, numbered, replaced-apart, replaced-old, replaced-sound, volume-kept}
use Rattle.afp_serial.proofs.SoundParts.{ApartSessions, sessions-parts, opens-parts, caches-parts, users-parts}
use Rattle.afp_serial.proofs.SoundRow.{IsSoundRow, no-keeper, no_more-refuses}
use Rattle.afp_serial.proofs.ToldReplies.{volume-told-to}
use Rattle.afp_serial.proofs.VolumeCodes.{volume-refuses}
use Rattle.afp_serial.proofs.VolumeStates.{served-at}
use Rattle.afp_serial.specs.SessionLaws.{SessionsAfter, all_stay, asking_changes}
use Rattle.afp_serial.specs.Users.{is_user_of}
use Rattle.afp_serial.specs.World.{plain, refused_before, has_opened, has_session, volume_at, with_session, World, Session}
use Rattle.afp_serial.specs.OnFork.{placed}
use Rattle.afp_serial.specs.OpenVol.{open_vol_row, opens_volume, state_named, volume_named, with_volume}
use Rattle.afp_serial.specs.Sound.{IsSound, has_volume_open, is_file_of, is_lawful_open, is_lawful_cache}
use Rattle.volume_spec.specs.GetVolParms.{get_vol_parms_refusal}
use Rattle.volume_spec.specs.VolumeState.{VolumeState}
use Rattle.afp_base.proofs.ListFacts.{all-put, all-weaker, find-all}

-- what was open stays open

opened-way : (w : World) (s : Session) (test : Session → Bool) (volume : ℕ) → find test w.sessions ≡ Some s → TakesPlace w s (with_volume s volume)
opened-way w s test volume found = record { test = test; found = found; number = refl; place = refl }

still-open : (s : Session) (v u : ℕ) → has_opened s u ≡ true → has_opened (with_volume s v) u ≡ true
still-open s v u had =
    cond_both (has_opened s v) s.volumes (placed (λ n. n) v s.volumes) (λ l. list_any (λ other. other == u) l ≡ true)
    (λ twice. had)
    (λ new. any-placed (λ n. n) v (λ other. other == u) s.volumes ∙ or_right (v == u) (list_any (λ other. other == u) s.volumes) had)

with-volume-sound : (w : World) (s : Session) (test : Session → Bool) (v : ℕ) → find test w.sessions ≡ Some s → IsSound w → IsSound (with_session w (with_volume s v))
with-volume-sound w s test v found h =
    let t : Session = with_volume s v in
    let way : TakesPlace w s t = opened-way w s test v found in
    replaced-sound w s t h way
    (find-all test (λ x. is_user_of w.house.users x.user) w.sessions s found (users-parts w h.users))
    (find-all test (λ x. is_lawful_cache x.cache) w.sessions s found (caches-parts w h.caches))
    (all-weaker (is_lawful_open w) (λ o. has_volume_open (with_session w t).sessions o.session o.fork.volume) w.opens
    (λ o stood. volume-kept w s t o.session o.fork.volume (sessions-parts w h.sessions) (numbered way)
    (λ had.
    let e = and_parts (s.number == o.session) (has_opened s o.fork.volume) had in
    and_from (s.number == o.session) (has_opened (with_volume s v) o.fork.volume) e.0 (still-open s v o.fork.volume e.1))
    (and_parts (has_volume_open w.sessions o.session o.fork.volume) (is_file_of (volume_at w.volumes o.fork.volume) o.fork.node) stood).0)
    (opens-parts w h.opens).stand)

-- what holds of the world, and of it with a volume open in the session, holds of what is done
pub opens-keeps : (P : World → Type 0) (w : World) (s : Session) (bits : ℕ) (volume : Option ℕ) (state : Option VolumeState) → P w → ((v : ℕ) → P (with_session w (with_volume s v))) → P (opens_volume w s bits volume state).world
opens-keeps P w s bits None state h gives = h
opens-keeps P w s bits (Some v) None h gives = h
opens-keeps P w s bits (Some v) (Some q) h gives = gives v

-- what is not refused: the bits may be asked, and the volume is there
record Opens (w : World) (bits : ℕ) (volume : Option ℕ) : Type 0 where
  asked : get_vol_parms_refusal bits ≡ None
  id : ℕ
  named : volume ≡ Some id
  state : VolumeState
  there : volume_at w.volumes id ≡ Some state

opens-passed : (w : World) (bits : ℕ) (volume : Option ℕ) → first_holding (refused_before (get_vol_parms_refusal bits) ((is_none (state_named w volume), plain ObjectNotFound) ∷ [])) ≡ None → Opens w bits volume
opens-passed w bits volume passes =
    let both = refused_before-none (get_vol_parms_refusal bits) ((is_none (state_named w volume), plain ObjectNotFound) ∷ []) passes in
    by volume refl both.0 both.1
  where
    by-state : (id : ℕ) (o : Option VolumeState) → volume_at w.volumes id ≡ o → get_vol_parms_refusal bits ≡ None → first_holding ((is_none o, plain ObjectNotFound) ∷ []) ≡ None → Opens w bits (Some id)
    by-state id None there asked h = absurd (cc)
    by-state id (Some v) there asked h = record { asked = asked; id = id; named = refl; state = v; there = there }

    by : (o : Option ℕ) → volume ≡ o → get_vol_parms_refusal bits ≡ None → first_holding ((is_none (state_named w o), plain ObjectNotFound) ∷ []) ≡ None → Opens w bits volume
    by None is asked h = absurd (cc)
    by (Some id) is asked h = subst (Opens w bits) (sym is) (by-state id (volume_at w.volumes id) refl asked h)

open-vol-asks : (bits : ℕ) (name : List ℕ) (values : VolumeValues) → Asks (OpenVol bits name) (Params bits (Volume values))
unfolding shape_of shape_in rows
open-vol-asks bits name values = (refl, refl)

opens-told : (w : World) (s : Session) (bits : ℕ) (name : List ℕ) (volume : Option ℕ) → IsSound w → Opens w bits volume → IsToldTo (OpenVol bits name) (opens_volume w s bits volume (state_named w volume)).reply
opens-told w s bits name volume h o =
    subst (λ (v : Option ℕ). IsToldTo (OpenVol bits name) (opens_volume w s bits v (state_named w v)).reply) (sym o.named)
    (subst (λ (q : Option VolumeState). IsToldTo (OpenVol bits name) (opens_volume w s bits (Some o.id) q).reply) (sym o.there)
    (volume-told-to (OpenVol bits name) o.state o.id bits (open-vol-asks bits name) (served-at w o.id o.state h o.there) o.asked))

pub open-vol-sound : (bits : ℕ) (name : List ℕ) → IsSoundRow (OpenVol bits name) (open_vol_row bits name)
open-vol-sound bits name = record {
  refuses = λ w s r is h. no_more-refuses (OpenVol bits name) ((open_vol_row bits name).refusals w s) r is (refused_before-refused (get_vol_parms_refusal bits) ((is_none (state_named w (volume_named w name)), plain ObjectNotFound) ∷ []) (volume-refuses bits) refl);
  sound = λ w s test lawful found passes h. opens-keeps IsSound w s bits (volume_named w name) (state_named w (volume_named w name)) h (λ v. with-volume-sound w s test v found h);
  fits = λ w s lawful passes h. (opens-told w s bits name (volume_named w name) h (opens-passed w bits (volume_named w name) passes)).short;
  shown = λ w s lawful passes h known. told-shown (OpenVol bits name) (opens_volume w s bits (volume_named w name) (state_named w (volume_named w name))).reply
      (opens-told w s bits name (volume_named w name) h (opens-passed w bits (volume_named w name) passes));
  apart = λ w s test found a. opens-keeps ApartSessions w s bits (volume_named w name) (state_named w (volume_named w name)) a (λ v. replaced-apart w s (with_volume s v) a (opened-way w s test v found));
  next = λ w s. opens-keeps (λ x. x.next_link ≡ w.next_link) w s bits (volume_named w name) (state_named w (volume_named w name)) refl (λ v. refl);
  keeper = λ w s index passes commits. no-keeper w index commits;
  old = λ w s n h. opens-keeps (λ x. has_session x.sessions n ≡ true → has_session w.sessions n ≡ true) w s bits (volume_named w name) (state_named w (volume_named w name)) (λ h. h) (λ v. replaced-old w (with_volume s v) n) h;
  cached = λ w s test found p h. opens-keeps (λ x. list_all (λ y. p y.number y.cache) x.sessions ≡ true) w s bits (volume_named w name) (state_named w (volume_named w name)) h (λ v. all-put number_of (λ x. p x.number x.cache) (with_volume s v) w.sessions h (find-all test (λ x. p x.number x.cache) w.sessions s found h));
  leaves = λ stays w s. opens-keeps (SessionsAfter false w s) w s bits (volume_named w name) (state_named w (volume_named w name)) (all_stay refl) (λ v. asking_changes (with_volume s v) refl refl refl (λ same. refl) refl);
}
