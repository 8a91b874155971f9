-- How the fields of a request are put, one after the other.
use Rattle.std.specs.Prelude.{◌≡◌, ◌≢◌, ℕ, ◌-◌, List, [], ◌∷◌, ◌++◌, length, Option, Some, None, Result, OnOk, OnErr}
use Rattle.std.specs.List.{AllByRecursion}
use Rattle.afp_base.specs.Appended.{Keeps}
use Rattle.afp_base.specs.declared.bytes.OutOfMemory.{OutOfMemory}
use Rattle.afp_calls_grammar.specs.declared.grammar.call.Call.{Call}
use Rattle.afp_calls_grammar.specs.grammar.Call.{layout_of}
use Rattle.afp_calls_grammar.specs.grammar.Group.{Group, group_of}
use Rattle.afp_calls_grammar.specs.grammar.Words.{RequestField, IsTypedValue, canonical, canonical_fields}

-- the canonical bytes of the fields behind these bytes, field by field, in a block that begins at this place of the bytes
abbrev pub put_on : ℕ → List RequestField → List ℕ → List ℕ
put_on start [] bytes = bytes
put_on start (f ∷ fs) bytes = put_on start fs (bytes ++ canonical f.word f.value (length bytes - start))

-- The canonical bytes of the field are appended, in a block that begins at this place of the bytes. Its value is one of its type.
pub record PutsIn (start : ℕ) (f : RequestField) (old new : List ℕ) : Type 0 where
  pub typed : IsTypedValue f.word f.value
  pub bytes : new ≡ old ++ canonical f.word f.value (length old - start)

-- the same for a field that has the same bytes at each place
abbrev pub Puts : RequestField → List ℕ → List ℕ → Type 0
Puts f old new = PutsIn 0 f old new

-- The canonical bytes of the fields are appended, as a block that begins here. Each value is one of its type.
pub record PutsAll (fs : List RequestField) (old new : List ℕ) : Type 0 where
  pub typed : AllByRecursion (λ f. IsTypedValue f.word f.value) fs
  pub bytes : put_on (length old) fs old ≡ new

-- the law: what is put field by field is what the fields are together
abbrev pub PutTogether : Type 0
PutTogether = (fs : List RequestField) (bytes : List ℕ) → put_on (length bytes) fs bytes ≡ bytes ++ canonical_fields 0 fs

-- The request is of this group, and its canonical block is appended; an error keeps what stood there, and may leave some of the block behind it. None: it is of another group, and nothing is appended.
abbrev pub WritesCall : Group → Call → Option (Result (Unit {0}) OutOfMemory) → List ℕ → List ℕ → Type 0
WritesCall group call (Some result) old new = (group_of call ≡ group) × OnOk result (PutsAll (layout_of call).fields old new) × OnErr result (Keeps old new)
WritesCall group call None old new = (group_of call ≢ group) × (new ≡ old)
