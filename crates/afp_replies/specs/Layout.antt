-- What it means that bytes have a layout, and where they stop having it.
use Rattle.std.specs.Prelude.{◌≡◌, ◌⊎◌, ℕ, ◌+◌, ◌<◌, List, [], ◌++◌, length}
use Rattle.afp_bitmap.specs.declared.params.Values.{Values}
use Rattle.afp_bitmap.specs.Params.{params, IsAnswer, IsBadAt}
use Rattle.afp_replies.specs.declared.reply.Reply.{Reply}
use Rattle.afp_replies.specs.Words.{ReplyWord, ReplyValue, SpellsWord, FaultAt}

-- A layout, field by field: the end, and the reply that it is; no reply at all; a field, and what follows it for each value; all that remains; the parameters of a kind that these bits ask for, up to the end.
pub data ReplyLayout : Type 0 where
  Is : Reply → ReplyLayout
  Never : ReplyLayout
  Then : (w : ReplyWord) → (ReplyValue w → ReplyLayout) → ReplyLayout
  Remaining : (List ℕ → Reply) → ReplyLayout
  Params : ℕ → ℕ → (Values → Reply) → ReplyLayout

-- the bytes begin with the field, and this holds of its value, its bytes and the bytes behind it
pub record BeginsField (w : ReplyWord) (Then : ReplyValue w → List ℕ → List ℕ → Type 0) (bytes : List ℕ) : Type 0 where
  pub value : ReplyValue w
  pub first : List ℕ
  pub rest : List ℕ
  pub spelt : SpellsWord w value first
  pub split : bytes ≡ first ++ rest
  pub behind : Then value first rest

-- the bytes do not begin with the field, whatever its value
abbrev pub Lacks : ReplyWord → List ℕ → Type 0
Lacks w bytes = (x : ReplyValue w) (first rest : List ℕ) → SpellsWord w x first → bytes ≡ first ++ rest → ⊥

-- the bytes have the layout, as this reply
abbrev pub Has : ReplyLayout → Reply → List ℕ → Type 0
Has (Is reply) r bytes = (r ≡ reply) × (bytes ≡ [])
Has Never r bytes = ⊥
Has (Then w next) r bytes = BeginsField w (λ x first rest. Has (next x) r rest) bytes
Has (Remaining reply) r bytes = r ≡ reply bytes
Has (Params kind bits reply) r bytes = (v : Values) × IsAnswer kind bits v × (bytes ≡ params bits v) × (r ≡ reply v)

-- The place where bytes that begin at `place` stop having the layout: that of the first field that they do not begin with, or that of the first byte behind the last field (this profile).
abbrev pub StopsAt : ReplyLayout → ℕ → List ℕ → ℕ → Type 0
StopsAt (Is reply) place bytes at = (0 < length bytes) × (at ≡ place)
StopsAt Never place bytes at = at ≡ place
StopsAt (Then w next) place bytes at =
    (Lacks w bytes × FaultAt w place bytes at) ⊎ BeginsField w (λ x first rest. StopsAt (next x) (place + length first) rest at) bytes
StopsAt (Remaining reply) place bytes at = ⊥
StopsAt (Params kind bits reply) place bytes at = (within : ℕ) × IsBadAt kind bits bytes within × (at ≡ place + within)
