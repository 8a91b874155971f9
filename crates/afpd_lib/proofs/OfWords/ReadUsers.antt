-- Users are read pair by pair.
use Rattle.std.proofs.Common.{◌≡◌, ◌∙◌, ℕ, true, false, List, [], ◌∷◌, ◌++◌, length, refl, sym, append_assoc}
use Rattle.std.proofs.lemmas.Option.{none-some}
use Rattle.std.specs.Prelude.{Some, None}
use Rattle.std.specs.List.{list_any, before_first, after_first, position_or_len}
use Rattle.afpd_lib.specs.words.Users.{UserValue, AreUsers, colon, comma, user_in}
use Rattle.afpd_lib.proofs.OfWords.FirstParts.{none-passes}

-- a text without a colon is no user
pub unparted : (text : List ℕ) → position_or_len colon text ≡ length text → user_in text ≡ None
unparted text is_end = rw (none-passes colon text is_end) refl

-- a text was read up to the rest of it as these users
pub record Read (text rest : List ℕ) (got : List UserValue) : Type 0 where
  pub on : (tail : List UserValue) → AreUsers rest tail → AreUsers text (got ++ tail)
  pub back : (users : List UserValue) → AreUsers text users → (tail : List UserValue) × AreUsers rest tail

pub begun : (text : List ℕ) → Read text text []
begun text = record { on = λ tail at. at; back = λ users are. (users, are) }

with-first : (rest : List ℕ) (u : UserValue) (tail : List UserValue) → list_any comma rest ≡ true → user_in (before_first comma rest) ≡ Some u
    → AreUsers (after_first comma rest) tail → AreUsers rest (u ∷ tail)
with-first rest u [] parted is at = absurd at
with-first rest u (v ∷ us) parted is at = (parted, is, at)

-- the first pair, where a comma stands
first-of : (rest : List ℕ) (users : List UserValue) → list_any comma rest ≡ true → AreUsers rest users
    → (u : UserValue) × (tail : List UserValue) × (user_in (before_first comma rest) ≡ Some u) × AreUsers (after_first comma rest) tail
first-of rest [] parted at = absurd at
first-of rest (u ∷ []) parted at = let wrong : true ≡ false = sym parted ∙ at.0 in cc
first-of rest (u ∷ v ∷ us) parted at = (u, v ∷ us, at.1, at.2)

-- the last pair, where none stands
last-of : (rest : List ℕ) (users : List UserValue) → list_any comma rest ≡ false → AreUsers rest users → (u : UserValue) × (user_in rest ≡ Some u)
last-of rest [] whole at = absurd at
last-of rest (u ∷ []) whole at = (u, at.1)
last-of rest (u ∷ v ∷ us) whole at = let wrong : false ≡ true = sym whole ∙ at.0 in cc

pub more : (text rest : List ℕ) (got : List UserValue) (u : UserValue) → list_any comma rest ≡ true → user_in (before_first comma rest) ≡ Some u
    → Read text rest got → Read text (after_first comma rest) (got ++ u ∷ [])
more text rest got u parted is old = record {
  on = λ tail at. rw (append_assoc got (u ∷ []) tail) (old.on (u ∷ tail) (with-first rest u tail parted is at));
  back = λ users are.
      let before = old.back users are in
      let parts = first-of rest before.0 parted before.1 in
      (parts.1, parts.3);
}

pub refused : (text rest : List ℕ) (got : List UserValue) → list_any comma rest ≡ true → user_in (before_first comma rest) ≡ None
    → Read text rest got → (users : List UserValue) → AreUsers text users → ⊥
refused text rest got parted none old users are =
    let before = old.back users are in
    let parts = first-of rest before.0 parted before.1 in
    none-some parts.0 (sym none ∙ parts.2)

pub refused-last : (text rest : List ℕ) (got : List UserValue) → list_any comma rest ≡ false → user_in rest ≡ None
    → Read text rest got → (users : List UserValue) → AreUsers text users → ⊥
refused-last text rest got whole none old users are =
    let before = old.back users are in
    let last = last-of rest before.0 whole before.1 in
    none-some last.0 (sym none ∙ last.1)

pub ended : (text rest : List ℕ) (got : List UserValue) (u : UserValue) → list_any comma rest ≡ false → user_in rest ≡ Some u → Read text rest got → AreUsers text (got ++ u ∷ [])
ended text rest got u whole is old = old.on (u ∷ []) (whole, is)
