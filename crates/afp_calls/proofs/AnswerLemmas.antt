-- What an answer of reading a request says.
use Rattle.std.proofs.Common.{◌≡◌, ◌==◌, ℕ, true, false, List, [], ◌∷◌, length, get_or, Option, Some, None, Result, Ok, Err, MatchResult, refl, subst, inl, inr, arith}
use Rattle.std.proofs.lemmas.Bool.{eqb-true}
use Rattle.afp_calls_grammar.specs.declared.grammar.call.Call.{Call}
use Rattle.afp_calls_grammar.specs.declared.grammar.call.ReadFault.{ReadFault}
use Rattle.afp_calls_grammar.specs.declared.grammar.call.ReadFault.TheVariants as faults
use Rattle.afp_base.specs.Bytes.{IsBytes}
use Rattle.afp_calls_grammar.specs.grammar.Laws.{BeginsWithNoCommand, BeginsWithCommand, IsFunction, SpeltCanBeWritten, UnknownIsNotSpelt}
use Rattle.afp_calls_grammar.specs.grammar.Spelt.{is_command, readers, spelt_call}
use Rattle.afp_calls_grammar.specs.fields.Input.{Input}
use Rattle.afp_calls.specs.Answer.{IsMisspelt, IsReadAnswer, IsReadRefusal}
use Rattle.afp_calls.specs.lemma.Known.{Knows}

pub answer_read : (block : List ℕ) (enclosed : Option (List ℕ)) (result : Result Call ReadFault) → IsReadAnswer block enclosed result → (call : Call) → spelt_call block enclosed ≡ Some call → MatchResult result (λ c. c ≡ call) (λ fault. fault ≡ faults.Memory)
answer_read block enclosed (Ok c) h call e = let spelt = h.spelt in cc
answer_read block enclosed (Err faults.NotSupported) h call e = let spelt = h.spelt in cc
answer_read block enclosed (Err faults.Param) h call e = let spelt = h.spelt in cc
answer_read block enclosed (Err faults.Memory) h call e = refl

not_both : (block : List ℕ) → BeginsWithNoCommand block → BeginsWithCommand block → ⊥
not_both [] unknown h = unknown
not_both (n ∷ bytes) unknown h = cc

pub answer_unknown : UnknownIsNotSpelt → (block : List ℕ) (enclosed : Option (List ℕ)) (result : Result Call ReadFault) → IsReadAnswer block enclosed result → BeginsWithNoCommand block → IsReadRefusal result faults.NotSupported
answer_unknown law block enclosed (Ok c) h first = let spelt = h.spelt in let none = law block enclosed first in cc
answer_unknown law block enclosed (Err faults.NotSupported) h first = inl refl
answer_unknown law block enclosed (Err faults.Param) h first = absurd (not_both block first h.first)
answer_unknown law block enclosed (Err faults.Memory) h first = inr refl

pub answer_misspelt : (block : List ℕ) (enclosed : Option (List ℕ)) (result : Result Call ReadFault) → IsReadAnswer block enclosed result → BeginsWithCommand block → spelt_call block enclosed ≡ None → IsReadRefusal result faults.Param
answer_misspelt block enclosed (Ok c) h first e = let spelt = h.spelt in cc
answer_misspelt block enclosed (Err faults.NotSupported) h first e = absurd (not_both block h.first first)
answer_misspelt block enclosed (Err faults.Param) h first e = inl refl
answer_misspelt block enclosed (Err faults.Memory) h first e = inr refl

pub empty_misspelt : (block : List ℕ) (enclosed : Option (List ℕ)) → (length block == 0) ≡ true → IsMisspelt block enclosed
unfolding spelt_call
empty_misspelt [] enclosed h = record { first = tt; spelt = refl }
empty_misspelt (n ∷ bytes) enclosed h = absurd (let none : length (n ∷ bytes) ≡ 0 = eqb-true (length (n ∷ bytes)) 0 h in omega arith)

-- what the reader of the block's first byte finds is what the block spells
knows_answer : IsFunction → SpeltCanBeWritten → UnknownIsNotSpelt → (n : ℕ) (bytes : List ℕ) (enclosed : Option (List ℕ)) (result : Result Call ReadFault) → IsBytes (n ∷ bytes)
    → Knows readers n (record { bytes = n ∷ bytes; place = 1; enclosed = enclosed }) result → IsReadAnswer (n ∷ bytes) enclosed result
unfolding spelt_call is_command
knows_answer function written unknown n bytes enclosed (Ok c) small h =
    let spells = (function (n ∷ bytes) enclosed c).0 h.1 in
    record { spells = spells; spelt = h.1; spellable = written c (n ∷ bytes) enclosed small spells }
knows_answer function written unknown n bytes enclosed (Err faults.Param) small h = record { first = h.0; spelt = h.1 }
knows_answer function written unknown n bytes enclosed (Err faults.NotSupported) small h = record { first = h; spelt = unknown (n ∷ bytes) enclosed h }
knows_answer function written unknown n bytes enclosed (Err faults.Memory) small h = tt

pub block_answer : IsFunction → SpeltCanBeWritten → UnknownIsNotSpelt → (block : List ℕ) (enclosed : Option (List ℕ)) (n : ℕ) (f : Input) (result : Result Call ReadFault) → IsBytes block → (length block == 0) ≡ false → n ≡ get_or block 0 0
    → f ≡ record { bytes = block; place = 1; enclosed = enclosed } → Knows readers n f result → IsReadAnswer block enclosed result
block_answer function written unknown [] enclosed n f result small some first at h = absurd cc
block_answer function written unknown (b ∷ bytes) enclosed n f result small some first at h =
    let here : Knows readers b (record { bytes = b ∷ bytes; place = 1; enclosed = enclosed }) result = subst (λ (m : ℕ). Knows readers m (record { bytes = b ∷ bytes; place = 1; enclosed = enclosed }) result) first (subst (λ (g : Input). Knows readers n g result) at h) in
    knows_answer function written unknown b bytes enclosed result small here
