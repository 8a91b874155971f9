-- A volume that was loaded.
use Rattle.std.proofs.Common.{Bool, true, false, ◌≡◌, ◌∙◌, refl, sym, ap, inl, inr, ℕ, List, [], ◌∷◌, length, Option, Some, None}
use Rattle.std.specs.Prelude.{Ok, IfSome, IsSome}
use Rattle.std.specs.FinMap as map
use Rattle.std.specs.Cmp.Lexicographic.{slice_cmp}
use Rattle.std.specs.Ordering.{nat_cmp}
use Rattle.volume_spec.specs.VolumeState.{fresh_volume}
use Rattle.volume_keeper.specs.kept.Loading.{IsLoadedFrom}
use Rattle.record_keeper.specs.Records.{Records, steady_records}
use Rattle.volume_keeper_records.specs.Image.{kept_in, records_in}
use Rattle.volume_keeper.specs.loading.Loading.{Becomes, IsLoad}
use Rattle.volume_keeper.proofs.OfLoading.Versions.{version_either}
use Rattle.volume_edits.specs.edits.Whole.{VolumeValue}

none_there : (entries : List (List ℕ × List ℕ)) → length entries ≡ 0 → entries ≡ []
none_there [] none = refl
none_there (entry ∷ entries) none = absurd (cc)

empty_has_none : (kept : Records) → kept ≡ map.empty → map.entries kept ≡ []
empty_has_none kept is = none_there (map.entries kept) (sym (map.len-entries kept) ∙ ap (λ (kept : Records). map.len kept) is ∙ map.len-empty (slice_cmp nat_cmp) (List ℕ))

told_no_more : IsSome {T = Records} None → ⊥
told_no_more there = absurd (cc)

-- where the keeper held nothing, it is one that nobody has used
pub fresh_where_empty : (name : List ℕ) (now : ℕ) (whole : VolumeValue) (old new : Option Records) → Becomes (IsLoad name now (Ok whole)) old new → (IsSome old → IsSome new)
    → IfSome old (λ (kept : Records). kept ≡ map.empty → whole.state ≡ fresh_volume name now)
fresh_where_empty name now whole None new becomes told = tt
fresh_where_empty name now whole (Some old) None becomes told = absurd (told_no_more (told refl))
fresh_where_empty name now whole (Some old) (Some new) becomes told = λ is. becomes.fresh (empty_has_none old is)

empty_of_none : (kept : Records) → map.entries kept ≡ [] → kept ≡ map.empty
empty_of_none kept none = map.empty_of_len kept (map.len-entries kept ∙ ap length none)

-- and where it held records, they are those of the volume in their version
pub loaded_from : (name : List ℕ) (now : ℕ) (whole : VolumeValue) (old new : Option Records) → Becomes (IsLoad name now (Ok whole)) old new → (IsSome old → IsSome new)
    → IfSome old (λ (kept : Records). IsLoadedFrom name kept whole.state)
loaded_from name now whole None new becomes told = tt
loaded_from name now whole (Some old) None becomes told = absurd (told_no_more (told refl))
loaded_from name now whole (Some old) (Some new) becomes told = record {
  good = becomes.good;
  image = λ some. elim (version_either (records_in old)) [
    | inl is ↦ ap (λ (n : ℕ). kept_in n whole.state) is ∙ becomes.image ∙ becomes.same (λ none. some (empty_of_none old none)) is
    | inr is ↦ ap (λ (n : ℕ). kept_in n whole.state) is ∙ (becomes.migrated is).1
  ];
  older = λ is. (becomes.migrated is).0;
}

-- the same of the records of a keeper that goes on telling them
pub fresh_where_steady : (steady : Bool) (name : List ℕ) (now : ℕ) (whole : VolumeValue) (old new : Option Records) → Becomes (IsLoad name now (Ok whole)) old new → (steady ≡ true → IsSome old → IsSome new)
    → IfSome (steady_records steady old) (λ (kept : Records). kept ≡ map.empty → whole.state ≡ fresh_volume name now)
fresh_where_steady true name now whole old new becomes told = fresh_where_empty name now whole old new becomes (told refl)
fresh_where_steady false name now whole old new becomes told = tt

pub loaded_steady : (steady : Bool) (name : List ℕ) (now : ℕ) (whole : VolumeValue) (old new : Option Records) → Becomes (IsLoad name now (Ok whole)) old new → (steady ≡ true → IsSome old → IsSome new)
    → IfSome (steady_records steady old) (λ (kept : Records). IsLoadedFrom name kept whole.state)
loaded_steady true name now whole old new becomes told = loaded_from name now whole old new becomes (told refl)
loaded_steady false name now whole old new becomes told = tt
