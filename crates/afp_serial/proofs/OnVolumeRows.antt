-- What the rows of calls on one volume owe, in one place.
use Rattle.std.proofs.Common.{◌≡◌, sym, refl, subst, ℕ, zero, suc, ◌<◌, arith, Bool, true, false, not, List, [], ◌∷◌, length, Option, Some, None}
use Rattle.std.specs.Prelude.{pos, ◌&&◌}
use Rattle.std.specs.List.{list_all}
use Rattle.std.proofs.lemmas.Option.{slice_get_within}
use Rattle.std.proofs.lemmas.Bool.{and_from}
use Rattle.afp_base.specs.Choice.{first_holding}
use Rattle.afp_base.specs.declared.code.Code.{Code}
use Rattle.afp_base.specs.declared.code.Code.TheVariants.{Ok, ParamErr}
use Rattle.afp_replies.proofs.Showing.{what_fits_a_request}
use Rattle.afp_replies.specs.Commands.{shape_of}
use Rattle.afp_replies.specs.Replies.{Shows, canonical_reply}
use Rattle.afp_replies.specs.Requested.{FitsRequest, IsTold}
use Rattle.afp_replies.specs.declared.reply.Reply.{Reply}
use Rattle.afp_calls_grammar.specs.declared.grammar.call.Call.{Call}
use Rattle.afp_serial.proofs.SessionUsers.{user-long}
use Rattle.afp_serial.proofs.SoundParts.{ApartSessions}
use Rattle.afp_serial.proofs.SoundRow.{IsSoundRow, is_refused, is_short, no-keeper, no_more-refuses}
use Rattle.afp_serial.proofs.VolumeCodes.{else-refuses, is_refusal, tree-refuses}
use Rattle.afp_serial.proofs.VolumeStates.{IsServed, moment-date, served-at, state-sound}
use Rattle.afp_serial.specs.SessionLaws.{SessionsAfter, all_stay, logs_in}
use Rattle.afp_serial.specs.World.{Effect, Refusal, plain, refused_before, has_opened, has_session, user_of, volume_at, World, Session}
use Rattle.afp_serial.specs.LawfulCall.{is_lawful_call}
use Rattle.afp_serial.specs.OnVolume.{changes_tree_unless, done_on, keeper_of, on_volume, opened_on, refused_on, tells_of, with_volume_state}
use Rattle.afp_serial.specs.ReplyKinds.{command_of, reply_kind}
use Rattle.afp_serial.specs.Sound.{IsSound}
use Rattle.volume_spec.proofs.Later.{effect-sound}
use Rattle.volume_spec.proofs.OpenFiles.{call-lets-be, call-named}
use Rattle.volume_spec.proofs.TypedSteps.{call-typed}
use Rattle.volume_spec.specs.Shared.{refused_else}
use Rattle.volume_spec.specs.TreeSteps.{TreeCall, TreeStep, is_named_call, is_typed_call, tree_effect, tree_refusal}
use Rattle.volume_spec.specs.TypedVolume.{is_date, is_long}
use Rattle.volume_spec.specs.VolumeState.{VolumeState}

-- a call's request asks for the fields of this reply
abbrev pub Asks : Call → Reply → Type 0
Asks call reply = IsTold (shape_of (command_of call)) Ok (reply_kind call) reply

-- what is told of a call: it fits in a frame, and has what the call's request asks for
pub record IsToldTo (call : Call) (reply : Reply) : Type 0 where
  pub short : is_short reply ≡ true
  pub fits : FitsRequest (reply_kind call) Ok reply

pub told-shown : (call : Call) (reply : Reply) → IsToldTo call reply → Shows reply (reply_kind call) Ok (canonical_reply reply)
told-shown call reply t = what_fits_a_request reply (reply_kind call) Ok t.fits

-- refusals

pub refused_before-refused : (o : Option Code) (rest : List Refusal) → is_refusal o ≡ true → list_all (λ r. is_refused r.1) rest ≡ true → list_all (λ r. is_refused r.1) (refused_before o rest) ≡ true
refused_before-refused None rest h k = k
refused_before-refused (Some code) rest h k = and_from (is_refused (plain code)) (list_all (λ (r : Refusal). is_refused r.1) rest) h k

pub on-refused : (w : World) (s : Session) (volume : ℕ) (refuses : VolumeState → Option Code) → ((v : VolumeState) → is_refusal (refuses v) ≡ true) → list_all (λ r. is_refused r.1) (on_volume w s volume refuses) ≡ true
on-refused w s volume refuses rightly = refused_before-refused (refused_on (volume_at w.volumes volume) refuses) [] (by (volume_at w.volumes volume)) refl
  where
    by : (o : Option VolumeState) → is_refusal (refused_on o refuses) ≡ true
    by None = refl
    by (Some v) = rightly v

-- what is not refused: the volume is there, and refuses nothing
pub record Passes (w : World) (volume : ℕ) (refuses : VolumeState → Option Code) : Type 0 where
  pub state : VolumeState
  pub there : volume_at w.volumes volume ≡ Some state
  pub passes : refuses state ≡ None

pub refused_before-none : (o : Option Code) (rest : List Refusal) → first_holding (refused_before o rest) ≡ None → (o ≡ None) × (first_holding rest ≡ None)
refused_before-none None rest h = (refl, h)
refused_before-none (Some code) rest h = absurd (cc)

pub on-passes : (w : World) (s : Session) (volume : ℕ) (refuses : VolumeState → Option Code) → first_holding (on_volume w s volume refuses) ≡ None → Passes w volume refuses
on-passes w s volume refuses passes = by (has_opened s volume) (volume_at w.volumes volume) refl passes
  where
    by : (b : Bool) (o : Option VolumeState) → volume_at w.volumes volume ≡ o → first_holding ((not b, plain ParamErr) ∷ refused_before (refused_on o refuses) []) ≡ None → Passes w volume refuses
    by false o there h = absurd (cc)
    by true None there h = absurd (cc)
    by true (Some v) there h = record { state = v; there = there; passes = (refused_before-none (refuses v) [] h).0 }

-- what is refused neither first nor behind that
pub else-none : (o first : Option Code) → refused_else o first ≡ None → first ≡ None
else-none None first h = h
else-none (Some code) None h = refl
else-none (Some code) (Some other) h = absurd (cc)

-- so the volume of its keeper is there
pub keeper-there : (w : World) (s : Session) (volume index : ℕ) (refuses : VolumeState → Option Code) → first_holding (on_volume w s volume refuses) ≡ None → keeper_of volume ≡ Some index → index < length w.volumes
keeper-there w s zero index refuses passes names = absurd (cc)
keeper-there w s (suc k) index refuses passes names =
    let p = on-passes w s (suc k) refuses passes in
    let within : k < length w.volumes = slice_get_within w.volumes k p.state p.there in
    let same : k ≡ index = cc in
    omega (arith, within, same)

-- what holds of the world, and of each that is made of a volume, holds of what is done
pub done-keeps : (P : World → Type 0) (o : Option VolumeState) (w : World) (does : VolumeState → Effect) → P w → ((v : VolumeState) → P (does v).world) → P (done_on o w does).world
done-keeps P None w does h gives = h
done-keeps P (Some v) w does h gives = gives v

-- rows that tell

pub tells-sound : (call : Call) (volume : ℕ) (refuses : World → Session → VolumeState → Option Code) (reply : World → Session → VolumeState → Reply)
    → ((w : World) (s : Session) (v : VolumeState) → is_refusal (refuses w s v) ≡ true)
    → ((w : World) (s : Session) (v : VolumeState) → is_lawful_call call ≡ true → IsServed v volume → refuses w s v ≡ None → IsToldTo call (reply w s v))
    → IsSoundRow call (tells_of volume refuses reply)
tells-sound call volume refuses reply rightly tells = record {
  refuses = λ w s r is h. no_more-refuses call (on_volume w s volume (refuses w s)) r is (on-refused w s volume (refuses w s) (rightly w s));
  sound = λ w s test lawful found passes h. done-keeps IsSound (volume_at w.volumes volume) w (does w s) h (λ v. h);
  fits = λ w s lawful passes h. (told w s lawful passes h).short;
  shown = λ w s lawful passes h known. told-shown call (done_on (volume_at w.volumes volume) w (does w s)).reply (told w s lawful passes h);
  apart = λ w s test found a. done-keeps ApartSessions (volume_at w.volumes volume) w (does w s) a (λ v. a);
  next = λ w s. done-keeps (λ x. x.next_link ≡ w.next_link) (volume_at w.volumes volume) w (does w s) refl (λ v. refl);
  keeper = λ w s index passes commits. no-keeper w index commits;
  old = λ w s n h. done-keeps (λ x. has_session x.sessions n ≡ true → has_session w.sessions n ≡ true) (volume_at w.volumes volume) w (does w s) (λ h. h) (λ v h. h) h;
  cached = λ w s test found p h. done-keeps (λ x. list_all (λ y. p y.number y.cache) x.sessions ≡ true) (volume_at w.volumes volume) w (does w s) h (λ v. h);
  leaves = λ stays w s. done-keeps (SessionsAfter (logs_in call) w s) (volume_at w.volumes volume) w (does w s) (all_stay refl) (λ v. all_stay refl);
}
  where
    does : World → Session → VolumeState → Effect
    does w s v = record { world = w; reply = reply w s v }

    told : (w : World) (s : Session) → is_lawful_call call ≡ true → first_holding (on_volume w s volume (refuses w s)) ≡ None → IsSound w
        → IsToldTo call (done_on (volume_at w.volumes volume) w (does w s)).reply
    told w s lawful passes h =
        let p = on-passes w s volume (refuses w s) passes in
        subst (λ o. IsToldTo call (done_on o w (does w s)).reply) (sym p.there) (tells w s p.state lawful (served-at w volume p.state h p.there) p.passes)

-- rows that change the tree

abbrev step_at : World → Session → ℕ → TreeCall → TreeStep
step_at w s volume tree = record { user = user_of s; call = tree; now = w.latest; opens = opened_on w volume }

tree-sound : (w : World) (s : Session) (volume : ℕ) (v : VolumeState) (tree : TreeCall) → is_named_call tree ≡ true → is_typed_call tree ≡ true → volume_at w.volumes volume ≡ Some v → tree_refusal v (user_of s) (opened_on w volume) tree ≡ None
    → is_long (user_of s) ≡ true → IsSound w → IsSound (with_volume_state w volume (tree_effect v (user_of s) w.latest tree))
tree-sound w s volume v tree named typed there passes long h =
    let served : IsServed v volume = served-at w volume v h there in
    let step : TreeStep = step_at w s volume tree in
    state-sound w volume v (tree_effect v (user_of s) w.latest tree) h (record {
      there = there;
      named = call-named v step;
      files = λ id busy. call-lets-be v step id passes busy;
      sound = effect-sound v step named passes served.sound;
      typed = call-typed v step (and_from (is_date (pos w.latest)) (is_long (user_of s) && is_typed_call tree) (moment-date w h) (and_from (is_long (user_of s)) (is_typed_call tree) long typed))
          named passes served.sound served.typed;
    })

pub changes-sound : (call : Call) (volume : ℕ) (tree : TreeCall) (behind : World → Option Code) (reply : VolumeState → Reply)
    → ((w : World) → is_refusal (behind w) ≡ true)
    → (is_lawful_call call ≡ true → (is_named_call tree ≡ true) × (is_typed_call tree ≡ true))
    → ((w : World) (s : Session) (v : VolumeState) → IsServed v volume → tree_refusal v (user_of s) (opened_on w volume) tree ≡ None → IsToldTo call (reply v))
    → IsSoundRow call (changes_tree_unless behind volume tree reply)
changes-sound call volume tree behind reply rightly ranges tells = record {
  refuses = λ w s r is h. no_more-refuses call (on_volume w s volume (refuses w s)) r is
      (on-refused w s volume (refuses w s) (λ v. else-refuses (behind w) (tree_refusal v (user_of s) (opened_on w volume) tree) (rightly w) (tree-refuses v (user_of s) (opened_on w volume) tree)));
  sound = λ w s test lawful found passes h. sound w s lawful passes (user-long w s test found h) h;
  fits = λ w s lawful passes h. (told w s passes h).short;
  shown = λ w s lawful passes h known. told-shown call (done_on (volume_at w.volumes volume) w (does w s)).reply (told w s passes h);
  apart = λ w s test found a. done-keeps ApartSessions (volume_at w.volumes volume) w (does w s) a (λ v. record { numbers = a.numbers; links = a.links; below = a.below });
  next = λ w s. done-keeps (λ x. x.next_link ≡ w.next_link) (volume_at w.volumes volume) w (does w s) refl (λ v. refl);
  keeper = λ w s index passes commits. keeper-there w s volume index (refuses w s) passes commits;
  old = λ w s n h. done-keeps (λ x. has_session x.sessions n ≡ true → has_session w.sessions n ≡ true) (volume_at w.volumes volume) w (does w s) (λ h. h) (λ v h. h) h;
  cached = λ w s test found p h. done-keeps (λ x. list_all (λ y. p y.number y.cache) x.sessions ≡ true) (volume_at w.volumes volume) w (does w s) h (λ v. h);
  leaves = λ stays w s. done-keeps (SessionsAfter (logs_in call) w s) (volume_at w.volumes volume) w (does w s) (all_stay refl) (λ v. all_stay refl);
}
  where
    refuses : World → Session → VolumeState → Option Code
    refuses w s v = refused_else (behind w) (tree_refusal v (user_of s) (opened_on w volume) tree)

    does : World → Session → VolumeState → Effect
    does w s v = record { world = with_volume_state w volume (tree_effect v (user_of s) w.latest tree); reply = reply v }

    sound : (w : World) (s : Session) → is_lawful_call call ≡ true → first_holding (on_volume w s volume (refuses w s)) ≡ None → is_long (user_of s) ≡ true → IsSound w → IsSound (done_on (volume_at w.volumes volume) w (does w s)).world
    sound w s lawful passes long h =
        let p = on-passes w s volume (refuses w s) passes in
        let r = ranges lawful in
        subst (λ o. IsSound (done_on o w (does w s)).world) (sym p.there) (tree-sound w s volume p.state tree r.0 r.1 p.there (else-none (behind w) _ p.passes) long h)

    told : (w : World) (s : Session) → first_holding (on_volume w s volume (refuses w s)) ≡ None → IsSound w → IsToldTo call (done_on (volume_at w.volumes volume) w (does w s)).reply
    told w s passes h =
        let p = on-passes w s volume (refuses w s) passes in
        subst (λ o. IsToldTo call (done_on o w (does w s)).reply) (sym p.there) (tells w s p.state (served-at w volume p.state h p.there) (else-none (behind w) _ p.passes))
