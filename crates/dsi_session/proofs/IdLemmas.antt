-- ids count requests, up to whole rounds
use Rattle.std.proofs.Common.{◌≡◌, ◌≢◌, ℕ, zero, suc, ◌+◌, ◌%◌, inl, inr, refl, ap, ◌∙◌, arith}
use Rattle.std.proofs.lemmas.Bool.Decides.{eqb_tells}
use Rattle.dsi_session.specs.RequestIds.{id_after, nth_id}

last_behind : (n : ℕ) → n % 65536 ≡ 65535 → 0 ≡ suc n % 65536
last_behind n e = omega arith

other_behind : (n : ℕ) → n % 65536 ≢ 65535 → n % 65536 + 1 ≡ suc n % 65536
other_behind n ne = omega arith

behind : (n : ℕ) → id_after (n % 65536) ≡ suc n % 65536
behind n = elim (eqb_tells (n % 65536) 65535) [
  | inl w ↦ rw w.0 (last_behind n w.1)
  | inr w ↦ rw w.0 (other_behind n w.1)
]

pub counts : (n : ℕ) → nth_id n ≡ n % 65536
counts zero = refl
counts (suc n) = ap id_after (counts n) ∙ behind n
