-- The status of one note more.
use Rattle.std.proofs.Common.{◌≡◌, List, [], ◌∷◌, ◌++◌, refl, sym, subst, arith, rules}
use Rattle.afpcmd_lib.specs.declared.notes.Cause.{Cause}
use Rattle.afpcmd_lib.specs.declared.notes.Cause.TheVariants as causes
use Rattle.afpcmd_lib.specs.Status.{cause_status, status_of}

-- the status is the last note's
pub status_more : (causes : List Cause) (cause : Cause) → cause_status cause ≡ status_of (causes ++ cause ∷ [])
unfolding status_of
status_more [] cause = refl
status_more (first ∷ []) cause = refl
status_more (first ∷ next ∷ rest) cause = status_more (next ∷ rest) cause

-- it is 0 where no note was told
pub status_none : (told : List Cause) → told ≡ [] → 0 ≡ status_of told
unfolding status_of
status_none told e = subst (λ causes. 0 ≡ status_of causes) (sym e) refl

above-zero : (cause : Cause) → cause_status cause ≡ 0 → ⊥
above-zero causes.NotDone e = absurd (omega (arith, e))
above-zero causes.Words e = absurd (omega (arith, e))
above-zero causes.Output e = absurd (omega (arith, e))
above-zero causes.Memory e = absurd (omega (arith, e))
above-zero causes.NoServer e = absurd (omega (arith, e))
above-zero causes.Lost e = absurd (omega (arith, e))

cons-not-nil : {cause : Cause} {rest : List Cause} → cause ∷ rest ≡ [] → ⊥
cons-not-nil e = search rules

-- it is 0 where no note was told alone
pub status_zero : (told : List Cause) → status_of told ≡ 0 → told ≡ []
unfolding status_of
status_zero [] e = refl
status_zero (first ∷ []) e = absurd (above-zero first e)
status_zero (first ∷ next ∷ rest) e = absurd (cons-not-nil (status_zero (next ∷ rest) e))
