-- The walk over the fixed part, one field further.
use Rattle.std.proofs.Common.{◌≡◌, ℕ, List, [], ◌∷◌, Result, Ok, Err, refl, sym, ◌∙◌, subst}
use Rattle.afp_bitmap.specs.declared.params.ParamFault.{ParamFault}
use Rattle.afp_bitmap.specs.declared.params.ParamFault.TheVariants as faults
use Rattle.afp_bitmap.specs.declared.table.Slot.{Slot}
use Rattle.afp_bitmap.specs.lemma.Reading.{◌>>=◌, Fails, Walk, step, walked}

-- a step that failed is where all fails
pub bind_fails : {A B : Type 0} (e : ParamFault) (r : Result A ℕ) (f : A → Result B ℕ) → Fails e r → Fails e (r >>= f)
bind_fails faults.Memory r f h = tt
bind_fails (faults.Bad at) r f h = rw h refl

pub bind_ok : {A B : Type 0} (r : Result A ℕ) (f : A → Result B ℕ) (x : A) → r ≡ Ok x → (r >>= f) ≡ f x
bind_ok r f x h = rw h refl

pub bind_err : {A B : Type 0} (r : Result A ℕ) (f : A → Result B ℕ) (at : ℕ) → r ≡ Err at → (r >>= f) ≡ Err at
bind_err r f at h = rw h refl

pub walked_none : (bits first : ℕ) (w : Walk) → walked bits first [] w ≡ Ok w
unfolding walked
walked_none bits first w = refl

pub walked_more : (bits first : ℕ) (s : Slot) (ss : List Slot) (w : Walk) → walked bits first (s ∷ ss) w ≡ (step bits first s w >>= λ x. walked bits first ss x)
unfolding walked
walked_more bits first s ss w = refl

pub walk_goes_on : (bits first : ℕ) (s : Slot) (ss : List Slot) (w x : Walk) (total : Result Walk ℕ) → step bits first s w ≡ Ok x
    → walked bits first (s ∷ ss) w ≡ total → walked bits first ss x ≡ total
walk_goes_on bits first s ss w x total h all =
    sym (bind_ok (step bits first s w) (λ y. walked bits first ss y) x h) ∙ sym (walked_more bits first s ss w) ∙ all

pub walk_fails : (e : ParamFault) (bits first : ℕ) (s : Slot) (ss : List Slot) (w : Walk) (total : Result Walk ℕ) → Fails e (step bits first s w)
    → walked bits first (s ∷ ss) w ≡ total → Fails e total
walk_fails e bits first s ss w total h all =
    subst (Fails e) all (rw (walked_more bits first s ss w) (bind_fails e (step bits first s w) (λ y. walked bits first ss y) h))

pub walk_done : (bits first : ℕ) (w : Walk) (total : Result Walk ℕ) → walked bits first [] w ≡ total → total ≡ Ok w
walk_done bits first w total all = sym all ∙ walked_none bits first w
