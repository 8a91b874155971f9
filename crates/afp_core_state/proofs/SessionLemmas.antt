-- What holds of a session that was found by its number.
use Rattle.std.proofs.Common.{◌≡◌, ◌∙◌, ap, sym, inl, inr, ◌⊎◌, ℕ, List, [], ◌∷◌, Option, Some}
use Rattle.std.specs.Prelude.{unwrap_or}
use Rattle.std.proofs.lemmas.Bool.{cases_eq, eq-eqb, ne_eqb}
use Rattle.std.proofs.lemmas.Option.{same_Some}
use Rattle.afp_serial.specs.World.{Session, user_of}
use Rattle.session_table.specs.Sessions.{session_of}
use Rattle.volume_spec.specs.VolumeState.{guest}

pub session_of-number : (sessions : List Session) (n : ℕ) (s : Session) → session_of sessions n ≡ Some s → s.number ≡ n
session_of-number [] n s h = cc
session_of-number (x ∷ xs) n s h = by (cases_eq x.number n) (session_of-number xs n s)
  where
    by : (x.number ≡ n) ⊎ (x.number ≡ n → ⊥) → (session_of xs n ≡ Some s → s.number ≡ n) → s.number ≡ n
    by (inl same) rest = ap (λ (t : Session). t.number) (sym (same_Some x s (rw (eq-eqb x.number n same) at h))) ∙ same
    by (inr ne) rest = rest (rw (ne_eqb x.number n ne) at h)

-- the user for whom it calls
pub user-is : (s : Session) (user : Option ℕ) (id : ℕ) → id ≡ unwrap_or user guest → user ≡ s.user → id ≡ user_of s
user-is s user id is same = is ∙ ap (λ (o : Option ℕ). unwrap_or o guest) same
