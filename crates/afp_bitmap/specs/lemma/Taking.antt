-- How the code takes a field, for its proofs; no public contract cites it.
use Rattle.std.specs.Prelude.{◌≡◌, ℕ, List}
use Rattle.afp_bitmap.specs.lemma.Reading.{piece, behind}

-- the bits that were asked, and the bytes that are not taken yet
pub record Untaken : Type 0 where
  pub bits : ℕ
  pub rest : List ℕ

-- the bytes that are taken
abbrev pub taken : Untaken → ℕ → ℕ → List ℕ
taken old bit n = piece old.bits bit n old.rest

-- the field of n bytes is taken where it is asked
pub record Took (old : Untaken) (bit n : ℕ) (new : Untaken) : Type 0 where
  pub rest : new.rest ≡ behind old.bits bit n old.rest
  pub bits : new.bits ≡ old.bits
