-- What the groups read and write together.
use Rattle.std.proofs.Common.{◌≡◌, ℕ, ℤ, List, [], ◌++◌, length, Some, Result, Ok, Err, refl, sym, ◌∙◌}
use Rattle.afp_base.specs.declared.ids.ForkRef.{ForkRef}
use Rattle.afp_calls_grammar.specs.declared.grammar.call.Call.{Call}
use Rattle.afp_calls_grammar.specs.declared.grammar.call.Call.TheVariants.{Write, WriteExt, AddIcon}
use Rattle.afp_calls_grammar.specs.grammar.Call.{layout_of, canonical_call, canonical_piece}
use Rattle.afp_calls_grammar.specs.declared.grammar.call.ReadFault.{ReadFault}
use Rattle.afp_calls_grammar.specs.declared.grammar.call.ReadFault.TheVariants as faults
use Rattle.afp_calls_grammar.specs.grammar.Spelt.{readers}
use Rattle.afp_calls_grammar.specs.fields.Input.{Input, bytes_left}
use Rattle.afp_calls_grammar.specs.fields.Putting.{PutTogether, put_on}
use Rattle.afp_calls_grammar.specs.fields.Taking.{GivesBy}
use Rattle.afp_calls.specs.declared.group.Group.{Group}
use Rattle.afp_calls.specs.lemma.Known.{IsGroupWith, Knows, readers_of}

-- no piece comes with the other requests
pub no_piece : (call : Call) → ((flag : ℕ) (reference : ForkRef) (offset : ℤ) (count : ℕ) (piece : List ℕ) → call ≡ Write flag reference offset count piece → ⊥)
    → ((flag : ℕ) (reference : ForkRef) (offset count : ℤ) (piece : List ℕ) → call ≡ WriteExt flag reference offset count piece → ⊥)
    → ((dt : ℕ) (creator kind : List ℕ) (icon_kind tag size : ℕ) (piece : List ℕ) → call ≡ AddIcon dt creator kind icon_kind tag size piece → ⊥) → canonical_piece call ≡ []
unfolding canonical_piece
no_piece (Write flag reference offset count piece) a b c = absurd (a flag reference offset count piece refl)
no_piece (WriteExt flag reference offset count piece) a b c = absurd (b flag reference offset count piece refl)
no_piece (AddIcon dt creator kind icon_kind tag size piece) a b c = absurd (c dt creator kind icon_kind tag size piece refl)
no_piece call a b c = refl

-- the block that is put is the canonical one
pub block_is : PutTogether → (c : Call) (block new : List ℕ) → put_on (length block) (layout_of c).fields block ≡ new → new ≡ block ++ canonical_call c
unfolding canonical_call
block_is law c block new put = sym put ∙ law (layout_of c).fields block

-- what the reader of a group finds is what the reader of the number finds
pub group_knows : (n : ℕ) (group : Group) (f : Input) (result : Result Call ReadFault) → IsGroupWith n (Some group) → GivesBy (readers_of group) n f result → Knows readers n f result
group_knows n group f (Ok call) here found = (here.0, here.1 f.place f.enclosed (bytes_left f) ∙ found)
group_knows n group f (Err faults.Param) here found = (here.0, here.1 f.place f.enclosed (bytes_left f) ∙ found)
group_knows n group f (Err faults.NotSupported) here found = absurd found
group_knows n group f (Err faults.Memory) here found = tt
