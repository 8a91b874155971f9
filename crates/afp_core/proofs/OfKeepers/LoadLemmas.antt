-- Loads of volumes, one after the other.
use Rattle.std.proofs.Common.{◌≡◌, ◌∙◌, ap, sym, refl, subst, ℕ, zero, suc, ◌+◌, ◌<◌, ◌≤◌, Bool, true, List, [], ◌∷◌, ◌++◌, length, length-append, map, take, drop, get_or, Option, Some, None, arith}
use Rattle.std.specs.Prelude.{All, bytes_eq, slice_get, slice_index_or}
use Rattle.std.specs.Cmp.Lexicographic.{pointwise}
use Rattle.std.specs.List.{list_all}
use Rattle.std.proofs.lemmas.List.{length-drop, length-map, take_more}
use Rattle.std.proofs.lemmas.Bool.{and_from, leb-true}
use Rattle.std.proofs.lemmas.List.Elements.{All-cons}
use Rattle.std.proofs.lemmas.Option.{get_or_from_slice_get, slice_get-get_or, slice_get_within}
use Rattle.std.proofs.lemmas.Slice.Eq.{bytes_eq-Decides}
use Rattle.afp_names.specs.Name.{name_fault}
use Rattle.volume_spec.specs.SoundVolume.{IsSoundVolume}
use Rattle.volume_spec.specs.TypedVolume.{is_typed_volume}
use Rattle.afp_serial.proofs.FreshWorld.{printable-name}
use Rattle.afp_serial.proofs.SoundParts.{limits-parts}
use Rattle.afp_serial.specs.Faultless.{IsFaultless}
use Rattle.afp_serial.specs.Household.{Household}
use Rattle.afp_serial.specs.Limits.{most_volumes}
use Rattle.afp_serial.specs.Sound.{IsSound, ServesVolumes}
use Rattle.afp_serial.specs.World.{World}
use Rattle.afp_core_state.specs.KeptWorld.{volumes_of}
use Rattle.afp_core.specs.keepers.Loads.{IsCoreFault, LoadEach, LoadsOne}
use Rattle.afp_core.specs.keepers.lemma.Loads.{IsFaultAt}
use Rattle.afp_core.specs.declared.keepers.core_fault.CoreFault.{CoreFault}
use Rattle.afp_core.specs.declared.keepers.core_fault.CoreFault.TheVariants.{Count, Load, Memory}
use Rattle.volume_keeper.specs.kept.Kept.{KeptState}
use Rattle.record_keeper.specs.Records.{Records}

-- the first of what is left of a list
first-left : {K : Type 0} → (xs ys : List K) (i : ℕ) (d : K) → ys ≡ drop i xs → 0 < length ys → slice_get xs i ≡ Some (get_or ys 0 d)
first-left [] ys zero d is some = absurd (omega (arith, ap length is, some))
first-left [] ys (suc i) d is some = absurd (omega (arith, ap length is, some))
first-left (x ∷ xs) ys zero d is some = ap Some (sym (ap (λ l. get_or l 0 d) is))
first-left (x ∷ xs) ys (suc i) d is some = first-left xs ys i d is some

-- where something is left of a list, as many are gone as one that stands there
pub left-within : {K : Type 0} → (xs ys : List K) (i many : ℕ) → ys ≡ drop i xs → 0 < length ys → length xs ≡ many → i < many
left-within xs ys i many is some same = omega (arith, ap length is, length-drop i xs, some, same)

-- the names of a house's volumes are names
pub volumes-named : (house : Household) (names : List (List ℕ)) → names ≡ house.volumes → IsFaultless house → All (λ (name : List ℕ). name_fault name ≡ None) names
volumes-named house names is has =
    subst (λ (l : List (List ℕ)). All (λ (name : List ℕ). name_fault name ≡ None) l) (sym is) (λ k d within. printable-name (slice_index_or house.volumes k d) (has.volume_names k d within))

-- there are few volumes
pub few-volumes : (w : World) (kept : List KeptState) → IsSound w → volumes_of kept ≡ w.volumes → length kept ≤ most_volumes
few-volumes w kept sound is =
    omega (arith, sym (length-map kept (λ (k : KeptState). k.state)) ∙ ap length is, leb-true (length w.volumes) most_volumes (limits-parts w sound.limits).volumes)

-- what is left behind the first
drop-next : {K : Type 0} → (i : ℕ) (xs : List K) → drop 1 (drop i xs) ≡ drop (suc i) xs
drop-next zero xs = refl
drop-next (suc i) [] = refl
drop-next (suc i) (x ∷ xs) = drop-next i xs

pub rest-next : {K : Type 0} → (keepers left next : List K) (kept new : List KeptState) (one : KeptState) → left ≡ drop (length kept) keepers → next ≡ drop 1 left → new ≡ kept ++ one ∷ [] → next ≡ drop (length new) keepers
rest-next keepers left next kept new one rest is becomes =
    let many : length new ≡ suc (length kept) = omega (arith, ap length becomes, length-append kept (one ∷ [])) in
    is ∙ ap (drop 1) rest ∙ drop-next (length kept) keepers ∙ ap (λ (n : ℕ). drop n keepers) (sym many)

module _ {K : Type 0} (records : K → Option Records) (sure : K → Bool) (faults : K → ℕ) (now : ℕ) where
  -- the volumes that were loaded are those of the house
  loaded-names : (names : List (List ℕ)) (keepers : List K) (kept : List KeptState) → LoadEach records sure faults now names keepers kept
      → pointwise bytes_eq (map (λ v. v.name) (volumes_of kept)) names ≡ true
  loaded-names [] [] [] loads = refl
  loaded-names [] [] (one ∷ kept) loads = absurd loads
  loaded-names [] (keeper ∷ keepers) kept loads = absurd loads
  loaded-names (name ∷ names) [] kept loads = absurd loads
  loaded-names (name ∷ names) (keeper ∷ keepers) [] loads = absurd loads
  loaded-names (name ∷ names) (keeper ∷ keepers) (one ∷ kept) loads =
      and_from (bytes_eq one.state.name name) (pointwise bytes_eq (map (λ v. v.name) (volumes_of kept)) names)
      ((bytes_eq-Decides one.state.name name).1 loads.0.0.name_is) (loaded-names names keepers kept loads.1)

  loaded-sound : (names : List (List ℕ)) (keepers : List K) (kept : List KeptState) → LoadEach records sure faults now names keepers kept → All IsSoundVolume (volumes_of kept)
  loaded-sound [] [] [] loads = λ k d within. absurd (omega (arith, within))
  loaded-sound [] [] (one ∷ kept) loads = absurd loads
  loaded-sound [] (keeper ∷ keepers) kept loads = absurd loads
  loaded-sound (name ∷ names) [] kept loads = absurd loads
  loaded-sound (name ∷ names) (keeper ∷ keepers) [] loads = absurd loads
  loaded-sound (name ∷ names) (keeper ∷ keepers) (one ∷ kept) loads =
      All-cons IsSoundVolume one.state (volumes_of kept) loads.0.0.sound (loaded-sound names keepers kept loads.1)

  loaded-typed : (names : List (List ℕ)) (keepers : List K) (kept : List KeptState) → LoadEach records sure faults now names keepers kept
      → list_all is_typed_volume (volumes_of kept) ≡ true
  loaded-typed [] [] [] loads = refl
  loaded-typed [] [] (one ∷ kept) loads = absurd loads
  loaded-typed [] (keeper ∷ keepers) kept loads = absurd loads
  loaded-typed (name ∷ names) [] kept loads = absurd loads
  loaded-typed (name ∷ names) (keeper ∷ keepers) [] loads = absurd loads
  loaded-typed (name ∷ names) (keeper ∷ keepers) (one ∷ kept) loads =
      and_from (is_typed_volume one.state) (list_all is_typed_volume (volumes_of kept)) loads.0.0.typed (loaded-typed names keepers kept loads.1)

  pub loaded-serve : (house : Household) (keepers : List K) (kept : List KeptState) → LoadEach records sure faults now house.volumes keepers kept → ServesVolumes house (volumes_of kept)
  loaded-serve house keepers kept loads = record {
    served = loaded-names house.volumes keepers kept loads;
    each = loaded-sound house.volumes keepers kept loads;
    typed = loaded-typed house.volumes keepers kept loads;
  }

  -- one volume more
  load-snoc : (names : List (List ℕ)) (keepers : List K) (kept : List KeptState) (name : List ℕ) (keeper : K) (one : KeptState) → LoadEach records sure faults now names keepers kept
      → LoadsOne name now (records keeper) (sure keeper) (faults keeper) one → LoadEach records sure faults now (names ++ name ∷ []) (keepers ++ keeper ∷ []) (kept ++ one ∷ [])
  load-snoc [] [] [] name keeper one before loaded = (loaded, tt)
  load-snoc [] [] (x ∷ kept) name keeper one before loaded = absurd before
  load-snoc [] (k ∷ keepers) kept name keeper one before loaded = absurd before
  load-snoc (n ∷ names) [] kept name keeper one before loaded = absurd before
  load-snoc (n ∷ names) (k ∷ keepers) [] name keeper one before loaded = absurd before
  load-snoc (n ∷ names) (k ∷ keepers) (x ∷ kept) name keeper one before loaded = (before.0, load-snoc names keepers kept name keeper one before.1 loaded)

  pub load-next : (names : List (List ℕ)) (keepers left : List K) (kept new : List KeptState) (name : List ℕ) (keeper d : K) (one : KeptState) → length keepers ≡ length names
      → LoadEach records sure faults now (take (length kept) names) (take (length kept) keepers) kept → left ≡ drop (length kept) keepers → 0 < length left
      → name ≡ get_or names (length kept) name → keeper ≡ get_or left 0 d → LoadsOne name now (records keeper) (sure keeper) (faults keeper) one → new ≡ kept ++ one ∷ []
      → LoadEach records sure faults now (take (length new) names) (take (length new) keepers) new
  load-next names keepers left kept new name keeper d one same before rest some is_name is_keeper loaded becomes =
      let i = length kept in
      let there : slice_get keepers i ≡ Some keeper = first-left keepers left i d rest some ∙ ap Some (sym is_keeper) in
      let within : i < length keepers = slice_get_within keepers i keeper there in
      let at_keeper : get_or keepers i keeper ≡ keeper = get_or_from_slice_get keepers i keeper keeper there in
      let many : length new ≡ i + 1 = ap length becomes ∙ length-append kept (one ∷ []) in
      let front : take (length new) names ≡ take i names ++ name ∷ [] = ap (λ (n : ℕ). take n names) many ∙ take_more names i name (omega (arith, within, same)) ∙ ap (λ (x : List ℕ). take i names ++ x ∷ []) (sym is_name) in
      let ahead : take (length new) keepers ≡ take i keepers ++ keeper ∷ [] = ap (λ (n : ℕ). take n keepers) many ∙ take_more keepers i keeper within ∙ ap (λ (x : K). take i keepers ++ x ∷ []) at_keeper in
      subst (λ (l : List KeptState). LoadEach records sure faults now (take (length new) names) (take (length new) keepers) l) (sym becomes)
      (subst (λ (l : List (List ℕ)). LoadEach records sure faults now l (take (length new) keepers) (kept ++ one ∷ [])) (sym front)
      (subst (λ (l : List K). LoadEach records sure faults now (take i names ++ name ∷ []) l (kept ++ one ∷ [])) (sym ahead)
      (load-snoc (take i names) (take i keepers) kept name keeper one before loaded)))

  -- a load that gave no volume, behind those that did
  load-stops : (i : ℕ) (names : List (List ℕ)) (keepers : List K) (kept : List KeptState) (name : List ℕ) (keeper : K) (fault : CoreFault)
      → length keepers ≡ length names → LoadEach records sure faults now (take i names) (take i keepers) kept → slice_get names i ≡ Some name → slice_get keepers i ≡ Some keeper
      → IsFaultAt i name (records keeper) (sure keeper) fault → IsCoreFault records sure faults now names keepers fault
  load-stops i names keepers kept name keeper Count same before called is cause = absurd cause
  load-stops i names keepers kept name keeper (Load at_index fault) same before called is cause = (
    same,
    record {
      kept = kept;
      before = subst (λ (n : ℕ). LoadEach records sure faults now (take n names) (take n keepers) kept) (sym cause.0) before;
      name = name;
      named = ap (slice_get names) cause.0 ∙ called;
      keeper = keeper;
      kept_by = ap (slice_get keepers) cause.0 ∙ is;
      cause = cause.1;
    },
  )
  load-stops i names keepers kept name keeper Memory same before called is cause = same

  -- the same of the first that is left
  pub load-stops-first : (i : ℕ) (names : List (List ℕ)) (keepers left : List K) (kept : List KeptState) (name : List ℕ) (keeper d : K) (fault : CoreFault)
      → length keepers ≡ length names → LoadEach records sure faults now (take i names) (take i keepers) kept → left ≡ drop i keepers → 0 < length left
      → name ≡ get_or names i name → keeper ≡ get_or left 0 d → IsFaultAt i name (records keeper) (sure keeper) fault → IsCoreFault records sure faults now names keepers fault
  load-stops-first i names keepers left kept name keeper d fault same before rest some is_name is_keeper cause =
      let there : slice_get keepers i ≡ Some keeper = first-left keepers left i d rest some ∙ ap Some (sym is_keeper) in
      let within : i < length keepers = slice_get_within keepers i keeper there in
      let named : slice_get names i ≡ Some name = slice_get-get_or names i name (omega (arith, within, same)) ∙ ap Some (sym is_name) in
      load-stops i names keepers kept name keeper fault same before named there cause
