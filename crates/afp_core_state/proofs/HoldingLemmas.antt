-- Keepers beside their volumes.
use Rattle.std.proofs.Common.{◌≡◌, ◌∙◌, ap, sym, refl, subst, ℕ, ◌+◌, ◌-◌, ◌<◌, Bool, List, [], ◌∷◌, length, get_or, drop, map, Option, Some, None, arith}
use Rattle.std.specs.Prelude.{IfSome, option_map, slice_get}
use Rattle.std.proofs.lemmas.List.{drop_all, drop_more}
use Rattle.afp_serial.specs.World.{volume_at, World}
use Rattle.record_keeper.specs.Records.{Records}
use Rattle.volume_keeper.specs.kept.Kept.{KeptState}
use Rattle.volume_keeper_records.specs.Image.{kept_image}
use Rattle.afp_core_state.proofs.KeeperLemmas.{list-get, volume_at-index}
use Rattle.afp_core_state.specs.Holding.{AreHeld, HoldEach}
use Rattle.afp_core_state.specs.KeptWorld.{KeptWorld, kept_world, volumes_of}
use Rattle.afp_core_state.specs.lemma.Holding.{AreBeside, IsBeside, StandBeside}

-- the volume of an id, among volumes beside their keepers
pub found-kept : (kept : List KeptState) (id index : ℕ) (d : KeptState) → id ≡ index + 1 → index < length kept → volume_at (volumes_of kept) id ≡ Some (get_or kept index d).state
found-kept kept id index d is within = volume_at-index (volumes_of kept) id index is ∙ list-get (λ k. k.state) kept index d within

-- what stands at the place of an id
pub placed-kept : {A : Type 0} → (f : KeptState → A) (kept : List KeptState) (id index : ℕ) (d : KeptState) → id ≡ index + 1 → index < length kept → slice_get (map f kept) (id - 1) ≡ Some (f (get_or kept index d))
placed-kept f kept id index d is within = ap (slice_get (map f kept)) place ∙ list-get f kept index d within
  where
    place : id - 1 ≡ index
    place = omega (arith, is)

-- what a keeper tells there
pub image-at : (told : Option Records) (kept : List KeptState) (id index : ℕ) (d : KeptState) → id ≡ index + 1 → index < length kept → IfSome told (λ held. held ≡ kept_image (get_or kept index d).state)
    → IfSome told (λ held. option_map kept_image (volume_at (volumes_of kept) id) ≡ Some held)
image-at None kept id index d is within image = tt
image-at (Some held) kept id index d is within image = ap (option_map kept_image) (found-kept kept id index d is within) ∙ ap Some (sym image)

-- none of them
pub beside-none : {K : Type 0} (records : K → Option Records) (sure : K → Bool) (faults : K → ℕ) (kept : List KeptState) → StandBeside records sure faults (drop (length kept) kept)
beside-none records sure faults kept = subst (λ (l : List KeptState). StandBeside records sure faults l) (sym (drop_all (length kept) kept (omega arith))) record { keepers = []; beside = tt }

-- one more before the others
pub beside-more : {K : Type 0} (records : K → Option Records) (sure : K → Bool) (faults : K → ℕ) (kept : List KeptState) (index : ℕ) (d : KeptState) (keeper : K) → index < length kept
    → IsBeside records sure faults keeper (get_or kept index d) → StandBeside records sure faults (drop (index + 1) kept) → StandBeside records sure faults (drop index kept)
beside-more records sure faults kept index d keeper within one rest =
    subst (λ (l : List KeptState). StandBeside records sure faults l) (sym (drop_more kept index d within)) record { keepers = keeper ∷ rest.keepers; beside = (one, rest.beside) }

-- so the keepers hold the volumes
module _ {K : Type 0} (records : K → Option Records) (sure : K → Bool) (faults : K → ℕ) where
  holds : (keepers : List K) (kept : List KeptState) → AreBeside records sure faults keepers kept → HoldEach records keepers (volumes_of kept)
  holds [] [] b = tt
  holds [] (one ∷ kept) b = absurd b
  holds (keeper ∷ keepers) [] b = absurd b
  holds (keeper ∷ keepers) (one ∷ kept) b = (b.0.image, holds keepers kept b.1)

  counts : (keepers : List K) (kept : List KeptState) → AreBeside records sure faults keepers kept → map faults keepers ≡ map (λ k. k.faults) kept
  counts [] [] b = refl
  counts [] (one ∷ kept) b = absurd b
  counts (keeper ∷ keepers) [] b = absurd b
  counts (keeper ∷ keepers) (one ∷ kept) b = let first = b.0.counted in let rest = counts keepers kept b.1 in λ i. first i ∷ rest i

  sures : (keepers : List K) (kept : List KeptState) → AreBeside records sure faults keepers kept → map sure keepers ≡ map (λ k. k.sure) kept
  sures [] [] b = refl
  sures [] (one ∷ kept) b = absurd b
  sures (keeper ∷ keepers) [] b = absurd b
  sures (keeper ∷ keepers) (one ∷ kept) b = let first = b.0.so_sure in let rest = sures keepers kept b.1 in λ i. first i ∷ rest i

  pub are-held : (w : World) (kept : List KeptState) (k : KeptWorld) → kept_world (record w { volumes = volumes_of kept }) kept ≡ k → StandBeside records sure faults kept
      → AreHeld records sure faults k.world.volumes k.faults k.sure
  are-held w kept k is s = subst (λ (x : KeptWorld). AreHeld records sure faults x.world.volumes x.faults x.sure) is record {
    keepers = s.keepers;
    hold = holds s.keepers kept s.beside;
    counted = counts s.keepers kept s.beside;
    so_sure = sures s.keepers kept s.beside;
  }
