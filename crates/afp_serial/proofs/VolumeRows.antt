-- What the rows of calls owe that change a volume by edits.
use Rattle.std.proofs.Common.{◌≡◌, sym, refl, subst, ℕ, zero, suc, ◌<◌, arith, true, List, [], ◌∷◌, length, Option, Some, None}
use Rattle.std.specs.Prelude.{slice_get}
use Rattle.std.specs.List.{list_all}
use Rattle.std.proofs.lemmas.Option.{slice_get_within}
use Rattle.afp_base.specs.Choice.{first_holding}
use Rattle.afp_base.specs.declared.code.Code.{Code}
use Rattle.afp_replies.specs.declared.reply.Reply.{Reply}
use Rattle.afp_calls_grammar.specs.declared.grammar.call.Call.{Call}
use Rattle.afp_serial.proofs.OnVolumeRows.{IsToldTo, done-keeps, on-passes, on-refused, told-shown}
use Rattle.afp_serial.proofs.SessionUsers.{user-long}
use Rattle.afp_serial.proofs.SoundParts.{ApartSessions}
use Rattle.afp_serial.proofs.SoundRow.{IsSoundRow, no_more-refuses}
use Rattle.afp_serial.proofs.VolumeCodes.{is_refusal}
use Rattle.afp_serial.proofs.VolumeStates.{IsServed, moment-date, served-at, state-sound}
use Rattle.afp_serial.specs.LawfulCall.{is_lawful_call}
use Rattle.afp_serial.specs.OnVolume.{done_on, on_volume, opened_on, with_volume_state}
use Rattle.afp_serial.specs.SessionLaws.{SessionsAfter, all_stay, logs_in}
use Rattle.afp_serial.specs.Sound.{IsSound}
use Rattle.afp_serial.specs.VolumeRows.{changes_volume, edits_on, keeper_of_edits, with_edits}
use Rattle.afp_serial.specs.World.{Effect, has_session, user_of, volume_at, World, Session}
use Rattle.volume_spec.proofs.CallsBring.{calls-bring}
use Rattle.volume_spec.proofs.CallsMay.{call-may}
use Rattle.volume_spec.proofs.EditsSound.{call-sound}
use Rattle.volume_spec.proofs.EditsTyped.{edits-of-call-typed}
use Rattle.volume_spec.proofs.OpenFiles.{calls-let, edits-of-call-let-be, edits-of-call-named}
use Rattle.volume_spec.specs.Edit.{Edit, after_call}
use Rattle.volume_spec.specs.EditLaws.{LetFilesBe, MayEditAll}
use Rattle.volume_spec.specs.EditRanges.{is_typed_edit, is_typed_volume_call}
use Rattle.volume_spec.specs.TypedVolume.{is_long}
use Rattle.volume_spec.specs.VolumeCalls.{VolumeCall, call_edits, is_formed_call, volume_refusal}
use Rattle.volume_spec.specs.VolumeState.{VolumeState}

-- what holds of a world, and of it with any other state of the volume, holds of what edits make of it
pub edits-keep : (P : World → Type 0) (w : World) (volume : ℕ) (v : VolumeState) (edits : List Edit) → P w → ((new : VolumeState) → P (with_volume_state w volume new)) → P (with_edits w volume v edits)
edits-keep P w volume v [] h gives = h
edits-keep P w volume v (e ∷ es) h gives = gives (after_call v w.latest (e ∷ es))

-- the volume of the keeper is there
pub edits-keeper : (w : World) (volume index : ℕ) (edits : VolumeState → List Edit) → keeper_of_edits volume (edits_on (volume_at w.volumes volume) edits) ≡ Some index → index < length w.volumes
edits-keeper w zero index edits names = absurd (cc)
edits-keeper w (suc k) index edits names = by (slice_get w.volumes k) refl names
  where
    of-edits : (v : VolumeState) (es : List Edit) → slice_get w.volumes k ≡ Some v → keeper_of_edits (suc k) es ≡ Some index → index < length w.volumes
    of-edits v [] is h = absurd (cc)
    of-edits v (e ∷ es) is h =
        let within : k < length w.volumes = slice_get_within w.volumes k v is in
        let same : k ≡ index = cc in
        omega (arith, within, same)

    by : (o : Option VolumeState) → slice_get w.volumes k ≡ o → keeper_of_edits (suc k) (edits_on o edits) ≡ Some index → index < length w.volumes
    by None is h = absurd (cc)
    by (Some v) is h = of-edits v (edits v) is h

-- edits that may be made keep a sound world sound

edits-sound : (w : World) (volume : ℕ) (v : VolumeState) (edits : List Edit) → volume_at w.volumes volume ≡ Some v → MayEditAll v edits → LetFilesBe v (opened_on w volume) edits → list_all is_typed_edit edits ≡ true → IsSound w
    → IsSound (with_edits w volume v edits)
edits-sound w volume v [] there may lets typed h = h
edits-sound w volume v (e ∷ es) there may lets typed h =
    let served : IsServed v volume = served-at w volume v h there in
    state-sound w volume v (after_call v w.latest (e ∷ es)) h (record {
      there = there;
      named = edits-of-call-named v w.latest (e ∷ es);
      files = λ id busy. edits-of-call-let-be v (opened_on w volume) w.latest (e ∷ es) id lets busy;
      sound = call-sound v w.latest (e ∷ es) may served.sound;
      typed = edits-of-call-typed v w.latest (e ∷ es) (moment-date w h) may typed served.typed;
    })

-- so do those of a call of a user that is not refused
pub change-sound : (w : World) (user volume : ℕ) (v : VolumeState) (change : VolumeCall) → is_long user ≡ true → is_formed_call change ≡ true → is_typed_volume_call change ≡ true → volume_at w.volumes volume ≡ Some v
    → volume_refusal v user (opened_on w volume) change ≡ None → IsSound w → IsSound (with_edits w volume v (call_edits v user w.latest change))
change-sound w user volume v change long formed typed there passes h =
    let served : IsServed v volume = served-at w volume v h there in
    edits-sound w volume v (call_edits v user w.latest change) there
    (call-may v user (opened_on w volume) w.latest change formed passes served.sound)
    (calls-let v user (opened_on w volume) w.latest change passes served.sound)
    (calls-bring v user (opened_on w volume) w.latest change long (moment-date w h) typed formed passes served.sound served.typed)
    h

-- the row

pub edits-row-sound : (call : Call) (volume : ℕ) (change : VolumeCall) (reply : ℕ → VolumeState → Reply)
    → ((v : VolumeState) (user : ℕ) (w : World) → is_refusal (volume_refusal v user (opened_on w volume) change) ≡ true)
    → (is_lawful_call call ≡ true → (is_formed_call change ≡ true) × (is_typed_volume_call change ≡ true))
    → ((w : World) (user : ℕ) (v : VolumeState) → IsServed v volume → volume_refusal v user (opened_on w volume) change ≡ None → IsToldTo call (reply user v))
    → IsSoundRow call (changes_volume volume change reply)
edits-row-sound call volume change reply rightly ranges tells = record {
  refuses = λ w s r is h. no_more-refuses call (on_volume w s volume (refuses w s)) r is (on-refused w s volume (refuses w s) (λ v. rightly v (user_of s) w));
  sound = λ w s test lawful found passes h. sound w s lawful passes (user-long w s test found h) h;
  fits = λ w s lawful passes h. (told w s passes h).short;
  shown = λ w s lawful passes h known. told-shown call (done_on (volume_at w.volumes volume) w (does w s)).reply (told w s passes h);
  apart = λ w s test found a. done-keeps ApartSessions (volume_at w.volumes volume) w (does w s) a
      (λ v. edits-keep ApartSessions w volume v (edits w s v) a (λ new. record { numbers = a.numbers; links = a.links; below = a.below }));
  next = λ w s. done-keeps (λ x. x.next_link ≡ w.next_link) (volume_at w.volumes volume) w (does w s) refl (λ v. edits-keep (λ x. x.next_link ≡ w.next_link) w volume v (edits w s v) refl (λ new. refl));
  keeper = λ w s index passes commits. edits-keeper w volume index (edits w s) commits;
  old = λ w s n h. done-keeps (λ x. has_session x.sessions n ≡ true → has_session w.sessions n ≡ true) (volume_at w.volumes volume) w (does w s) (λ h. h)
      (λ v. edits-keep (λ x. has_session x.sessions n ≡ true → has_session w.sessions n ≡ true) w volume v (edits w s v) (λ h. h) (λ new h. h)) h;
  cached = λ w s test found p h. done-keeps (λ x. list_all (λ y. p y.number y.cache) x.sessions ≡ true) (volume_at w.volumes volume) w (does w s) h
      (λ v. edits-keep (λ x. list_all (λ y. p y.number y.cache) x.sessions ≡ true) w volume v (edits w s v) h (λ new. h));
  leaves = λ stays w s. done-keeps (SessionsAfter (logs_in call) w s) (volume_at w.volumes volume) w (does w s) (all_stay refl) (λ v. edits-keep (SessionsAfter (logs_in call) w s) w volume v (edits w s v) (all_stay refl) (λ new. all_stay refl));
}
  where
    refuses : World → Session → VolumeState → Option Code
    refuses w s v = volume_refusal v (user_of s) (opened_on w volume) change

    edits : World → Session → VolumeState → List Edit
    edits w s v = call_edits v (user_of s) w.latest change

    does : World → Session → VolumeState → Effect
    does w s v = record { world = with_edits w volume v (call_edits v (user_of s) w.latest change); reply = reply (user_of s) v }

    sound : (w : World) (s : Session) → is_lawful_call call ≡ true → first_holding (on_volume w s volume (refuses w s)) ≡ None → is_long (user_of s) ≡ true → IsSound w → IsSound (done_on (volume_at w.volumes volume) w (does w s)).world
    sound w s lawful passes long h =
        let p = on-passes w s volume (refuses w s) passes in
        let r = ranges lawful in
        subst (λ o. IsSound (done_on o w (does w s)).world) (sym p.there) (change-sound w (user_of s) volume p.state change long r.0 r.1 p.there p.passes h)

    told : (w : World) (s : Session) → first_holding (on_volume w s volume (refuses w s)) ≡ None → IsSound w → IsToldTo call (done_on (volume_at w.volumes volume) w (does w s)).reply
    told w s passes h =
        let p = on-passes w s volume (refuses w s) passes in
        subst (λ o. IsToldTo call (done_on o w (does w s)).reply) (sym p.there) (tells w (user_of s) p.state (served-at w volume p.state h p.there) p.passes)
