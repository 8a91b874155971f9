-- Whether bytes more would pass the total.
use Rattle.std.proofs.Common.{◌≡◌, ◌∙◌, ◌+◌, ◌≤◌, ℕ, ap, sym, arith, inl, inr, min}
use Rattle.std.specs.Prelude.{nat_lt}
use Rattle.std.proofs.lemmas.Bool.{cases_lt, lt-ltb}
use Rattle.afp_base.specs.Limits.{most_fork_bytes}
use Rattle.volume_spec.specs.ForkEffect.{would_pass}
use Rattle.volume_spec.specs.SoundVolume.{fork_bytes}
use Rattle.volume_spec.specs.VolumeState.{VolumeState}

-- a sum that ends at the most that 64 bits hold passes as the sum does
pub saturated : (v : VolumeState) (old new used sum : ℕ) → used ≡ fork_bytes v.rows → sum ≡ min (used + new) 18446744073709551615 → old ≤ most_fork_bytes → nat_lt (most_fork_bytes + old) sum ≡ would_pass v old new
unfolding would_pass
saturated v old new used sum used_is sum_is few = ap (nat_lt (most_fork_bytes + old)) sum_is ∙ both ∙ ap (λ n. nat_lt (most_fork_bytes + old) (n + new)) used_is
  where
    both : nat_lt (most_fork_bytes + old) (min (used + new) 18446744073709551615) ≡ nat_lt (most_fork_bytes + old) (used + new)
    both = elim (cases_lt 18446744073709551615 (used + new)) [
      | inl far ↦ lt-ltb (most_fork_bytes + old) (min (used + new) 18446744073709551615) (omega (arith, few, far)) ∙ sym (lt-ltb (most_fork_bytes + old) (used + new) (omega (arith, few, far)))
      | inr near ↦ let same : min (used + new) 18446744073709551615 ≡ used + new = omega (arith, near) in ap (nat_lt (most_fork_bytes + old)) same
    ]
