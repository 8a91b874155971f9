-- Worked examples of owners and rights, and what rights do to a walk.
use Rattle.std.proofs.Common.{◌≡◌, ◌∙◌, ap, refl, ℕ, [], ◌∷◌, Option, Some, None}
use Rattle.std.specs.Prelude.{Result, Ok}
use Rattle.afp_base.specs.declared.code.Code.{Code}
use Rattle.afp_base.specs.declared.code.Code.TheVariants.{ObjectNotFound}
use Rattle.afp_bitmap.specs.Bits.{is_asked}
use Rattle.afp_names.specs.declared.path.Step.TheVariants.{Up, Down}
use Rattle.volume_spec.proofs.Walks.{is-open}
use Rattle.volume_spec.specs.CreateDir.{create_dir_refusal}
use Rattle.volume_spec.specs.NodeValues.{told_rights}
use Rattle.volume_spec.specs.Rights.{rights_of, lacks, is_closed, is_owner}
use Rattle.volume_spec.specs.RightsExamples.{NewIsTold, OthersAreTold, OwnerTakes, OthersAreDenied, OthersSetNothing, ClosedIsDenied, RightsOnlyDeny}
use Rattle.volume_spec.specs.SetFileDirParms.{set_dir_parms_refusal, settings_in, field_in, with_settings, privileges_by, is_short_tail}
use Rattle.volume_spec.specs.Walk.{parent_at, row_at, child, failed_down, onward, unless_closed, walk, walk_from, new_place}

pub new-is-told : NewIsTold
unfolding told_rights rights_of
new-is-told = refl

pub others-are-told : OthersAreTold
unfolding told_rights rights_of
others-are-told = refl

pub owner-takes : OwnerTakes
unfolding settings_in field_in with_settings privileges_by is_asked
owner-takes = refl

pub others-are-denied : OthersAreDenied
unfolding create_dir_refusal rights_of lacks is_closed walk new_place
others-are-denied = refl

pub others-set-nothing : OthersSetNothing
unfolding set_dir_parms_refusal rights_of lacks is_closed is_owner is_short_tail walk parent_at row_at is_asked
others-set-nothing = refl

pub closed-is-denied : ClosedIsDenied
closed-is-denied rows user kind missing name steps here closed = ap (λ b. unless_closed b (onward (child rows kind here name) (failed_down missing steps) (walk_from rows user kind missing steps))) closed

-- on from the same node
on-too : (o : Option ℕ) (code : Code) (f g : ℕ → Result ℕ Code) (id : ℕ) → ((n : ℕ) → f n ≡ Ok id → g n ≡ Ok id) → onward o code f ≡ Ok id → onward o code g ≡ Ok id
on-too None code f g id gives h = h
on-too (Some n) code f g id gives h = gives n h

pub rights-only-deny : RightsOnlyDeny
rights-only-deny rows user other kind missing [] here id searches h = h
rights-only-deny rows user other kind missing (Up ∷ steps) here id searches h =
    on-too (parent_at rows here) ObjectNotFound (walk_from rows user kind missing steps) (walk_from rows other kind missing steps) id (λ n. rights-only-deny rows user other kind missing steps n id searches) h
rights-only-deny rows user other kind missing (Down name ∷ steps) here id searches h =
    ap (λ b. unless_closed b (onward (child rows kind here name) (failed_down missing steps) (walk_from rows other kind missing steps))) (searches here)
    ∙ on-too (child rows kind here name) (failed_down missing steps) (walk_from rows user kind missing steps) (walk_from rows other kind missing steps) id (λ n. rights-only-deny rows user other kind missing steps n id searches)
    (is-open (is_closed rows user here) _ id h)
