-- Calls on a volume that the session has open: what they share.
use Rattle.std.proofs.Common.{◌≡◌, ◌∙◌, ap, sym, refl, subst, ℕ, zero, suc, ◌+◌, ◌<◌, Bool, true, false, not, List, [], ◌∷◌, length, Option, Some, None, is_some, arith, add-one}
use Rattle.std.specs.Prelude.{IfSome, MatchOption, option_map, slice_get, slice_set, unwrap_or}
use Rattle.std.proofs.lemmas.Option.{same_Some}
use Rattle.afp_base.proofs.Facts.{some-none}
use Rattle.afp_base.specs.Choice.{first_holding}
use Rattle.afp_base.specs.declared.code.Code.{Code}
use Rattle.afp_base.specs.declared.code.Code.TheVariants.{Ok, ParamErr}
use Rattle.afp_replies.specs.Replies.{canonical_reply}
use Rattle.afp_calls_grammar.specs.declared.grammar.call.Call.{Call}
use Rattle.afp_serial.specs.Answer.{effect_reply}
use Rattle.afp_serial.specs.World.{Effect, plain, refused_before, has_opened, user_of, volume_at, World, Session}
use Rattle.afp_serial.specs.OnVolume.{keeper_of, on_volume, with_state}
use Rattle.afp_serial.specs.Rows.{ends_session}
use Rattle.afp_serial.specs.declared.ask.Outcome.TheVariants as outcome
use Rattle.afp_serial.specs.declared.ask.Told.{Told}
use Rattle.afp_serial.specs.declared.ask.Told.TheVariants.{Reply}
use Rattle.volume_spec.specs.VolumeState.{VolumeState, guest}
use Rattle.afp_core_state.specs.KeeperFaults.{KeepersRise, SureStand}
use Rattle.afp_core_state.specs.OnVolumes.{BecomesKept, IsKeptAt, IsOpen, IsOpenAt, IsUser, with_kept}
use Rattle.afp_core_state.specs.KeptWorld.{KeptWorld}
use Rattle.session_table.specs.Sessions.{session_of}
use Rattle.afp_core_state.specs.Running.{IsOutcomeOf}
use Rattle.afp_core_state.proofs.KeeperLemmas.{volume_at-index, stand-same}
use Rattle.record_keeper.specs.Settling.{settled_in}
use Rattle.volume_keeper.specs.kept.Changing.{FailsIn}
use Rattle.volume_keeper.specs.kept.Kept.{KeptState}

-- what holds of an optional value
pub if-some : {A : Type 0} → (P Q : A → Type 0) → (o : Option A) → IfSome o P → ((a : A) → P a → Q a) → IfSome o Q
if-some P Q None holds more = tt
if-some P Q (Some a) holds more = more a holds

pub some-holds : {A : Type 0} → (P : A → Type 0) → (o : Option A) (a : A) → o ≡ Some a → IfSome o P → P a
some-holds P o a is holds = subst (λ o. IfSome o P) is holds

-- lists with another element
pub set-same : {A : Type 0} → (xs : List A) (i : ℕ) (a : A) → slice_get xs i ≡ Some a → slice_set xs i a ≡ xs
set-same [] i a h = refl
set-same (x ∷ xs) zero a h = ap (λ y. y ∷ xs) (sym (same_Some x a h))
set-same (x ∷ xs) (suc i) a h = ap (λ ys. x ∷ ys) (set-same xs i a h)

rise-set : (xs : List ℕ) (i a b : ℕ) → slice_get xs i ≡ Some a → a < b → KeepersRise (Some i) xs (slice_set xs i b)
rise-set [] i a b h less = cc
rise-set (x ∷ xs) zero a b h less = let same : x ≡ a = same_Some x a h in (omega (arith, same, less), refl)
rise-set (x ∷ xs) (suc i) a b h less = (refl, rise-set xs i a b h less)

stand-set : (sure : List Bool) (xs : List ℕ) (i b : ℕ) → slice_get sure i ≡ Some false → SureStand sure xs (slice_set xs i b)
stand-set [] xs i b h = tt
stand-set (s ∷ sure) [] i b h = tt
stand-set (s ∷ sure) (x ∷ xs) zero b h = ((λ is. cc), stand-same sure xs)
stand-set (s ∷ sure) (x ∷ xs) (suc i) b h = ((λ e. refl), stand-set sure xs i b h)

-- the volume is not opened, or is not there
pub refused-unopened : (w : World) (s : Session) (volume : ℕ) (refuses : VolumeState → Option Code) → has_opened s volume ≡ false
    → first_holding (on_volume w s volume refuses) ≡ Some (plain ParamErr)
refused-unopened w s volume refuses h = rw h refl

pub refused-unfound : (w : World) (s : Session) (volume : ℕ) (refuses : VolumeState → Option Code) → volume_at w.volumes volume ≡ None
    → first_holding (on_volume w s volume refuses) ≡ Some (plain ParamErr)
refused-unfound w s volume refuses none = rw none (by (has_opened s volume))
  where
    by : (b : Bool) → first_holding ((not b, plain ParamErr) ∷ (true, plain ParamErr) ∷ []) ≡ Some (plain ParamErr)
    by true = refl
    by false = refl

pub index-opens : (k : KeptWorld) (number volume : ℕ) (found : Option ℕ) → MatchOption found (volume_at k.world.volumes volume ≡ None) (λ index. (volume ≡ index + 1) × (index < length k.world.volumes))
    → ((s : Session) → session_of k.world.sessions number ≡ Some s → has_opened s volume ≡ true) → IsOpen k number volume found
index-opens k number volume None is opened = λ s at refuses. refused-unfound k.world s volume refuses is
index-opens k number volume (Some index) is opened = record { id = is.0; within = is.1; opened = opened }

-- the user for whom the session of a number calls
abbrev pub user-in : KeptWorld → ℕ → ℕ
user-in k number = unwrap_or (option_map user_of (session_of k.world.sessions number)) guest

pub is-user : (k : KeptWorld) (number : ℕ) → IsUser k number (user-in k number)
is-user k number = λ s at. ap (λ (o : Option Session). unwrap_or (option_map user_of o) guest) at

-- it is as the volume refuses
pub refused-on : (w : World) (s : Session) (volume : ℕ) (v : VolumeState) (refuses : VolumeState → Option Code) → has_opened s volume ≡ true → volume_at w.volumes volume ≡ Some v
    → first_holding (on_volume w s volume refuses) ≡ option_map plain (refuses v)
refused-on w s volume v refuses opened there = rw (opened, there) (by (refuses v))
  where
    by : (o : Option Code) → first_holding (refused_before o []) ≡ option_map plain o
    by None = refl
    by (Some code) = refl

-- the volume at the index has the id
pub found-at : (k : KeptWorld) (number volume index : ℕ) (v : VolumeState) → IsOpenAt k number volume index → slice_get k.world.volumes index ≡ Some v → volume_at k.world.volumes volume ≡ Some v
found-at k number volume index v stands there = volume_at-index k.world.volumes volume index stands.id ∙ there

-- what is told of an effect
pub told-effect : (call : Call) (e of : Effect) (block : List ℕ) → e ≡ of → ends_session call ≡ false → block ≡ canonical_reply of.reply → Reply Ok block false ≡ effect_reply call e
told-effect call e of block is goes told =
    ap (λ (b : List ℕ). Reply Ok b false) (told ∙ ap (λ (x : Effect). canonical_reply x.reply) (sym is)) ∙ ap (λ (b : Bool). Reply Ok (canonical_reply e.reply) b) (sym goes)

-- a volume and its keeper that stay
pub kept-stays : (k : KeptWorld) (index : ℕ) (one : KeptState) → IsKeptAt k index one → with_kept k index one ≡ k
kept-stays k index one was =
    let v = set-same k.world.volumes index one.state was.state in
    let f = set-same k.faults index one.faults was.faults in
    let s = set-same k.sure index one.sure was.sure in
    let n = set-same k.settled index (settled_in one.settles) was.settled in
    λ i. record { world = record k.world { volumes = v i }; faults = f i; sure = s i; settled = n i }

-- another state of a volume whose keeper stays
pub state-changes : (k : KeptWorld) (index : ℕ) (one : KeptState) (v : VolumeState) → IsKeptAt k index one
    → with_kept k index (record one { state = v }) ≡ record k { world = record k.world { volumes = slice_set k.world.volumes index v } }
state-changes k index one v was =
    let f = set-same k.faults index one.faults was.faults in
    let s = set-same k.sure index one.sure was.sure in
    let n = set-same k.settled index (settled_in one.settles) was.settled in
    λ i. record { world = record k.world { volumes = slice_set k.world.volumes index v }; faults = f i; sure = s i; settled = n i }

-- a keeper that failed
pub keeper-fails : (k new : KeptWorld) (want : Told) (after : World) (committed_to : Option ℕ) (told : Told) (index : ℕ) → committed_to ≡ Some index → told ≡ want → k.world ≡ after
    → BecomesKept k index (λ old one. FailsIn old one) new → IsOutcomeOf want after committed_to outcome.Fault told k new
keeper-fails k new want after committed_to told index commits tells same b =
    let f = b.is in
    let states : with_kept k index b.one ≡ record k { faults = slice_set k.faults index b.one.faults; settled = slice_set k.settled index (settled_in b.one.settles) } =
    (let v = ap (slice_set k.world.volumes index) f.state ∙ set-same k.world.volumes index b.old.state b.was.state in
    let s = ap (slice_set k.sure index) f.sure ∙ set-same k.sure index b.old.sure b.was.sure in
    λ i. record { world = record k.world { volumes = v i }; faults = slice_set k.faults index b.one.faults; sure = s i; settled = slice_set k.settled index (settled_in b.one.settles) }) in
    let is : new ≡ record k { faults = slice_set k.faults index b.one.faults; settled = slice_set k.settled index (settled_in b.one.settles) } = b.now ∙ states in
    record {
      legal = ap is_some commits;
      serial = tells;
      world = ap (λ (x : KeptWorld). x.world) is ∙ same;
      keepers = subst (λ (o : Option ℕ). KeepersRise o k.faults new.faults) (sym commits)
          (subst (λ (l : List ℕ). KeepersRise (Some index) k.faults l) (sym (ap (λ (x : KeptWorld). x.faults) is)) (rise-set k.faults index b.old.faults b.one.faults b.was.faults f.faults));
      stand = subst (λ (l : List ℕ). SureStand k.sure k.faults l) (sym (ap (λ (x : KeptWorld). x.faults) is))
          (stand-set k.sure k.faults index b.one.faults (b.was.sure ∙ ap Some f.unsure));
      sure = ap (λ (x : KeptWorld). x.sure) is;
      settled = λ none. absurd (some-none index (sym commits ∙ none));
    }

pub keeper-at : (volume index : ℕ) → volume ≡ index + 1 → keeper_of volume ≡ Some index
keeper-at volume index is = ap keeper_of (is ∙ add-one index)

pub state-at : (volumes : List VolumeState) (volume index : ℕ) (v : VolumeState) → volume ≡ index + 1 → with_state volumes volume v ≡ slice_set volumes index v
state-at volumes volume index v is = ap (λ (n : ℕ). with_state volumes n v) (is ∙ add-one index)
