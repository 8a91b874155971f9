-- Another state of a volume keeps a sound world sound.
use Rattle.std.proofs.Common.{◌==◌, ◌≡◌, ◌≢◌, ◌∙◌, ap, sym, refl, subst, ℕ, zero, suc, ◌<◌, ◌≤◌, pos, arith, Bool, true, false, not, ◌&&◌, ◌||◌, List, [], ◌∷◌, length, map, Some}
use Rattle.std.specs.Prelude.{filter, nat_le, slice_get, slice_set, bytes_eq}
use Rattle.std.specs.Cmp.Lexicographic.{pointwise}
use Rattle.std.specs.List.{list_all, list_any}
use Rattle.std.proofs.lemmas.Bool.{and_parts, and_from, eq-eqb, eqb-true, leb-true, or_left, or_right, both_ways}
use Rattle.std.proofs.lemmas.List.{length-set}
use Rattle.std.proofs.lemmas.List.Elements.{All-set}
use Rattle.std.proofs.lemmas.Option.{get_or_from_slice_get, slice_get_within}
use Rattle.afp_serial.proofs.SoundParts.{KeptLimits, LawfulOpens, fields-parts, limits-parts, limits-whole, opens-parts, opens-whole}
use Rattle.afp_serial.specs.Limits.{most_volumes}
use Rattle.afp_serial.specs.OnVolume.{opened_on, with_state, with_volume_state}
use Rattle.afp_serial.specs.World.{volume_at, World, OpenFork}
use Rattle.afp_serial.specs.Sound.{IsSound, ServesVolumes, has_apart_sessions, has_lawful_caches, has_lawful_locks, has_typed_fields, has_volume_open, is_file_of, is_lawful_open, has_known_users}
use Rattle.volume_spec.specs.Shared.{Opened, is_busy}
use Rattle.volume_spec.specs.SoundVolume.{IsSoundVolume, has_file}
use Rattle.volume_spec.specs.TypedVolume.{is_date, is_typed_volume}
use Rattle.volume_spec.specs.VolumeState.{VolumeState}
use Rattle.afp_base.proofs.ListFacts.{all-both, all-place, all-weaker, any-map, any-still, any-weaker}

-- lists with another element

all-set : {A : Type 0} (p : A → Bool) (xs : List A) (i : ℕ) (new : A) → list_all p xs ≡ true → p new ≡ true → list_all p (slice_set xs i new) ≡ true
all-set p [] i new h here = refl
all-set p (x ∷ xs) zero new h here = and_from (p new) (list_all p xs) here (and_parts (p x) (list_all p xs) h).1
all-set p (x ∷ xs) (suc i) new h here =
    let e = and_parts (p x) (list_all p xs) h in
    and_from (p x) (list_all p (slice_set xs i new)) e.0 (all-set p xs i new e.1 here)

get-set : {A : Type 0} (xs : List A) (i : ℕ) (old new : A) → slice_get xs i ≡ Some old → slice_get (slice_set xs i new) i ≡ Some new
get-set [] i old new h = absurd (cc)
get-set (x ∷ xs) zero old new h = refl
get-set (x ∷ xs) (suc i) old new h = get-set xs i old new h

get-other : {A : Type 0} (xs : List A) (i j : ℕ) (new : A) → j ≢ i → slice_get (slice_set xs i new) j ≡ slice_get xs j
get-other [] i j new h = refl
get-other (x ∷ xs) zero zero new h = absurd (h refl)
get-other (x ∷ xs) zero (suc j) new h = refl
get-other (x ∷ xs) (suc i) zero new h = refl
get-other (x ∷ xs) (suc i) (suc j) new h = get-other xs i j new (λ same. h (ap suc same))

map-set-like : {A B : Type 0} (f : A → B) (xs : List A) (i : ℕ) (old new : A) → slice_get xs i ≡ Some old → f new ≡ f old → map f (slice_set xs i new) ≡ map f xs
map-set-like f [] i old new h like = refl
map-set-like f (x ∷ xs) zero old new h like = let same : x ≡ old = cc in ap (λ y. y ∷ map f xs) (like ∙ ap f (sym same))
map-set-like f (x ∷ xs) (suc i) old new h like = ap (λ l. f x ∷ l) (map-set-like f xs i old new h like)

-- where each element passes a test with itself, some element does with each
all-own : {A : Type 0} (test : A → A → Bool) (xs : List A) → ((x : A) → test x x ≡ true) → list_all (λ x. list_any (test x) xs) xs ≡ true
all-own test [] own = refl
all-own test (x ∷ xs) own =
    and_from (test x x || list_any (test x) xs) (list_all (λ y. test y x || list_any (test y) xs) xs)
    (or_left (test x x) (list_any (test x) xs) (own x))
    (all-weaker (λ y. list_any (test y) xs) (λ y. test y x || list_any (test y) xs) xs (λ y h. or_right (test y x) (list_any (test y) xs) h) (all-own test xs own))

-- the volume of an id in a sound world

pub record IsServed (v : VolumeState) (volume : ℕ) : Type 0 where
  pub sound : IsSoundVolume v
  pub typed : is_typed_volume v ≡ true
  pub small : volume < 65536

pub served-at : (w : World) (volume : ℕ) (v : VolumeState) → IsSound w → volume_at w.volumes volume ≡ Some v → IsServed v volume
served-at w zero v h there = absurd (cc)
served-at w (suc index) v h there =
    let within : index < length w.volumes = slice_get_within w.volumes index v there in
    let few : length w.volumes ≤ 8 = leb-true (length w.volumes) most_volumes (limits-parts w h.limits).volumes in
    record {
      sound = subst IsSoundVolume (get_or_from_slice_get w.volumes index v v there) (h.volumes.each index v within);
      typed = all-place is_typed_volume w.volumes index v h.volumes.typed there;
      small = omega arith;
    }

pub moment-date : (w : World) → IsSound w → is_date (pos w.latest) ≡ true
moment-date w h = (fields-parts w h.typed).latest

-- another state of it

state-length : (volumes : List VolumeState) (volume : ℕ) (new : VolumeState) → length (with_state volumes volume new) ≡ length volumes
state-length volumes zero new = refl
state-length volumes (suc index) new = length-set volumes index new

pub state-at : (volumes : List VolumeState) (volume : ℕ) (old new : VolumeState) → volume_at volumes volume ≡ Some old → volume_at (with_state volumes volume new) volume ≡ Some new
state-at volumes zero old new there = absurd (cc)
state-at volumes (suc index) old new there = get-set volumes index old new there

pub state-other : (volumes : List VolumeState) (volume other : ℕ) (new : VolumeState) → other ≢ volume → volume_at (with_state volumes volume new) other ≡ volume_at volumes other
state-other volumes zero other new h = refl
state-other volumes (suc index) zero new h = refl
state-other volumes (suc index) (suc other) new h = get-other volumes index other new (λ same. h (ap suc same))

state-served : (w : World) (volume : ℕ) (old new : VolumeState) → ServesVolumes w.house w.volumes → volume_at w.volumes volume ≡ Some old → new.name ≡ old.name → IsSoundVolume new → is_typed_volume new ≡ true
    → ServesVolumes w.house (with_state w.volumes volume new)
state-served w zero old new h there named sound typed = h
state-served w (suc index) old new h there named sound typed = record {
  served = ap (λ names. pointwise bytes_eq names w.house.volumes) (map-set-like (λ (v : VolumeState). v.name) w.volumes index old new there named) ∙ h.served;
  each = All-set IsSoundVolume w.volumes index new sound h.each;
  typed = all-set is_typed_volume w.volumes index new h.typed typed;
}

-- an open fork of the volume is busy there

abbrev is_own : ℕ → OpenFork → OpenFork → Bool
is_own volume o p = not (o.fork.volume == volume) || ((p.fork.volume == volume) && (p.fork.node == o.fork.node))

owns-itself : (volume : ℕ) (o : OpenFork) → is_own volume o o ≡ true
owns-itself volume o = by (o.fork.volume == volume)
  where
    by : (b : Bool) → (not b || (b && (o.fork.node == o.fork.node))) ≡ true
    by true = eq-eqb o.fork.node o.fork.node refl
    by false = refl

busy-there : (w : World) (volume : ℕ) (o : OpenFork) → (o.fork.volume == volume) ≡ true → list_any (is_own volume o) w.opens ≡ true → is_busy (opened_on w volume) o.fork.node ≡ true
unfolding is_busy opened_on
busy-there w volume o on own =
    any-map (λ (x : Opened). x.node == o.fork.node) (λ (p : OpenFork). record { node = p.fork.node; resource = p.fork.resource }) (filter (λ (p : OpenFork). p.fork.volume == volume) w.opens)
    ∙ any-weaker both (λ (p : OpenFork). p.fork.node == o.fork.node) (filter (λ (p : OpenFork). p.fork.volume == volume) w.opens) (λ p h. (and_parts (p.fork.volume == volume) (p.fork.node == o.fork.node) h).1)
    (any-still both (λ (p : OpenFork). p.fork.volume == volume) w.opens (λ p h. (and_parts (p.fork.volume == volume) (p.fork.node == o.fork.node) h).0)
    (any-weaker (is_own volume o) both w.opens (λ p h. ap (λ b. not b || both p) (sym on) ∙ h) own))
  where
    both : OpenFork → Bool
    both p = (p.fork.volume == volume) && (p.fork.node == o.fork.node)

-- what a state must keep: the name, and each file of which a fork is open
pub record TakesState (w : World) (volume : ℕ) (old new : VolumeState) : Type 0 where
  pub there : volume_at w.volumes volume ≡ Some old
  pub named : new.name ≡ old.name
  pub files : (id : ℕ) → is_busy (opened_on w volume) id ≡ true → has_file old.rows id ≡ true → has_file new.rows id ≡ true
  pub sound : IsSoundVolume new
  pub typed : is_typed_volume new ≡ true

fork-kept : (w : World) (volume : ℕ) (old new : VolumeState) → TakesState w volume old new → (o : OpenFork) → list_any (is_own volume o) w.opens ≡ true
    → is_file_of (volume_at w.volumes o.fork.volume) o.fork.node ≡ true → is_file_of (volume_at (with_state w.volumes volume new) o.fork.volume) o.fork.node ≡ true
fork-kept w volume old new t o own stood = by (o.fork.volume == volume) refl
  where
    by : (b : Bool) → (o.fork.volume == volume) ≡ b → is_file_of (volume_at (with_state w.volumes volume new) o.fork.volume) o.fork.node ≡ true
    by false other = ap (λ state. is_file_of state o.fork.node) (state-other w.volumes volume o.fork.volume new (λ same. both_ways (o.fork.volume == volume) other (eq-eqb o.fork.volume volume same))) ∙ stood
    by true on =
        let same : o.fork.volume ≡ volume = eqb-true o.fork.volume volume on in
        let before : has_file old.rows o.fork.node ≡ true = ap (λ state. is_file_of state o.fork.node) (sym t.there ∙ ap (volume_at w.volumes) (sym same)) ∙ stood in
        ap (λ state. is_file_of state o.fork.node) (ap (volume_at (with_state w.volumes volume new)) same ∙ state-at w.volumes volume old new t.there) ∙ t.files o.fork.node (busy-there w volume o on own) before

state-opens : (w : World) (volume : ℕ) (old new : VolumeState) → TakesState w volume old new → LawfulOpens w → LawfulOpens (with_volume_state w volume new)
state-opens w volume old new t p = record {
  references = p.references;
  stand = all-both (is_lawful_open w) (λ o. list_any (is_own volume o) w.opens) (is_lawful_open (with_volume_state w volume new)) w.opens
      (λ o stood own.
      let e = and_parts (has_volume_open w.sessions o.session o.fork.volume) (is_file_of (volume_at w.volumes o.fork.volume) o.fork.node) stood in
      and_from (has_volume_open w.sessions o.session o.fork.volume) (is_file_of (volume_at (with_state w.volumes volume new) o.fork.volume) o.fork.node) e.0 (fork-kept w volume old new t o own e.1))
      p.stand (all-own (is_own volume) w.opens (owns-itself volume));
  clashes = p.clashes;
}

state-limits : (w : World) (volume : ℕ) (new : VolumeState) → KeptLimits w → KeptLimits (with_volume_state w volume new)
state-limits w volume new p = record {
  users = p.users;
  volumes = ap (λ n. nat_le n most_volumes) (state-length w.volumes volume new) ∙ p.volumes;
  sessions = p.sessions;
  forks = p.forks;
  locks = p.locks;
}

pub state-sound : (w : World) (volume : ℕ) (old new : VolumeState) → IsSound w → TakesState w volume old new → IsSound (with_volume_state w volume new)
unfolding has_apart_sessions has_known_users has_lawful_locks has_lawful_caches has_typed_fields
state-sound w volume old new h t = record {
  house = h.house;
  typed = h.typed;
  volumes = state-served w volume old new h.volumes t.there t.named t.sound t.typed;
  sessions = h.sessions;
  users = h.users;
  opens = opens-whole (with_volume_state w volume new) (state-opens w volume old new t (opens-parts w h.opens));
  locks = h.locks;
  caches = h.caches;
  limits = limits-whole (with_volume_state w volume new) (state-limits w volume new (limits-parts w h.limits));
}
