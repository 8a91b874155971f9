-- What becomes of the keepers' counts.
use Rattle.std.proofs.Common.{◌≡◌, ◌∙◌, ap, sym, refl, subst, ℕ, zero, suc, ◌<◌, ◌+◌, Bool, List, [], ◌∷◌, length, get_or, map, set, Option, Some, None, arith, add-one}
use Rattle.std.specs.Prelude.{option_map, slice_get, slice_set}
use Rattle.afp_serial.specs.World.{volume_at, World}
use Rattle.volume_spec.specs.VolumeState.{VolumeState}
use Rattle.record_keeper.specs.Settling.{settled_in}
use Rattle.volume_keeper.specs.kept.Kept.{KeptState}
use Rattle.afp_serial.specs.declared.ask.Outcome.TheVariants as outcome
use Rattle.afp_serial.specs.declared.ask.Told.{Told}
use Rattle.afp_core_state.specs.KeeperFaults.{SureStand}
use Rattle.afp_core_state.specs.KeptWorld.{KeptWorld, volumes_of, kept_world}
use Rattle.afp_core_state.specs.OnVolumes.{BecomesKept, IsKeptAt, with_kept}
use Rattle.afp_core_state.specs.Running.{IsOutcomeOf}

-- nothing
pub stand-same : (sure : List Bool) (xs : List ℕ) → SureStand sure xs xs
stand-same [] xs = tt
stand-same (s ∷ rest) [] = tt
stand-same (s ∷ rest) (x ∷ xs) = ((λ e. refl), stand-same rest xs)

-- an entry that meets no fault, and changes the world alone
pub outcome-done : (old new : KeptWorld) (want : Told) (after next : World) (index : Option ℕ) (told : Told) → told ≡ want → new ≡ record old { world = next } → next ≡ after
    → IsOutcomeOf want after index outcome.Done told old new
outcome-done old new want after next index told tells is becomes = record {
  legal = refl;
  serial = tells;
  world = ap (λ (k : KeptWorld). k.world) is ∙ becomes;
  keepers = ap (λ (k : KeptWorld). k.faults) is;
  stand = subst (λ (xs : List ℕ). SureStand old.sure old.faults xs) (sym (ap (λ (k : KeptWorld). k.faults) is)) (stand-same old.sure old.faults);
  sure = ap (λ (k : KeptWorld). k.sure) is;
  settled = λ none. ap (λ (k : KeptWorld). k.settled) is;
}

-- one that changes nothing
pub outcome-same : (old new : KeptWorld) (want : Told) (index : Option ℕ) (told : Told) → told ≡ want → new ≡ old
    → IsOutcomeOf want old.world index outcome.Done told old new
outcome-same old new want index told tells is = outcome-done old new want old.world old.world index told tells is refl

-- the volumes beside their keepers
pub volume-of : (kept : List KeptState) (index : ℕ) (d : KeptState) → index < length kept → slice_get (volumes_of kept) index ≡ Some (get_or kept index d).state
volume-of [] index d within = absurd (omega (arith, within))
volume-of (one ∷ kept) zero d within = refl
volume-of (one ∷ kept) (suc index) d within = volume-of kept index d (omega (arith, within))

pub volume_at-index : (volumes : List VolumeState) (n index : ℕ) → n ≡ index + 1 → volume_at volumes n ≡ slice_get volumes index
volume_at-index volumes n index is = ap (volume_at volumes) (is ∙ add-one index)

pub node-count : (volumes : List VolumeState) (n index count : ℕ) (v : VolumeState) → n ≡ index + 1 → slice_get volumes index ≡ Some v → count ≡ length v.rows
    → Some count ≡ option_map (λ v. length v.rows) (volume_at volumes n)
node-count volumes n index count v is there counts = ap Some counts ∙ sym (ap (option_map (λ (x : VolumeState). length x.rows)) (volume_at-index volumes n index is ∙ there))

-- the volume at an index and its keeper came to something
list-set : {A : Type 0} → (f : KeptState → A) (kept : List KeptState) (index : ℕ) (one : KeptState) → map f (set kept index one) ≡ slice_set (map f kept) index (f one)
list-set f [] index one = refl
list-set f (k ∷ kept) zero one = refl
list-set f (k ∷ kept) (suc index) one = ap (λ l. f k ∷ l) (list-set f kept index one)

pub list-get : {A : Type 0} → (f : KeptState → A) (kept : List KeptState) (index : ℕ) (d : KeptState) → index < length kept → slice_get (map f kept) index ≡ Some (f (get_or kept index d))
list-get f [] index d within = absurd (omega (arith, within))
list-get f (k ∷ kept) zero d within = refl
list-get f (k ∷ kept) (suc index) d within = list-get f kept index d (omega (arith, within))

pub becomes-kept : (w : World) (kept : List KeptState) (index : ℕ) (d one : KeptState) (becomes : KeptState → KeptState → Type 0) (k new : KeptWorld)
    → kept_world (record w { volumes = volumes_of kept }) kept ≡ k → index < length kept → becomes (get_or kept index d) one
    → new ≡ kept_world (record w { volumes = volumes_of (set kept index one) }) (set kept index one) → BecomesKept k index becomes new
becomes-kept w kept index d one becomes k new is within does becomes_is = record {
  old = get_or kept index d;
  one = one;
  was = subst (λ (x : KeptWorld). IsKeptAt x index (get_or kept index d)) is record {
    state = list-get (λ x. x.state) kept index d within;
    faults = list-get (λ x. x.faults) kept index d within;
    sure = list-get (λ x. x.sure) kept index d within;
    settled = list-get (λ x. settled_in x.settles) kept index d within;
  };
  is = does;
  now =
      let v = list-set (λ x. x.state) kept index one in
      let f = list-set (λ x. x.faults) kept index one in
      let s = list-set (λ x. x.sure) kept index one in
      let n = list-set (λ x. settled_in x.settles) kept index one in
      becomes_is ∙ (λ i. record { world = record w { volumes = v i }; faults = f i; sure = s i; settled = n i }) ∙ ap (λ (x : KeptWorld). with_kept x index one) is;
}
