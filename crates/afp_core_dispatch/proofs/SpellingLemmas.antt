-- What a request spells, by its block and enclosed bytes.
use Rattle.std.proofs.Common.{◌≡◌, ap, sym, refl, subst, ℕ, Bool, true, false, List, take, drop, Some, None}
use Rattle.std.specs.Prelude.{Result}
use Rattle.afp_calls_grammar.specs.declared.grammar.call.Call.{Call}
use Rattle.afp_serial.specs.Answer.{request}
use Rattle.afp_core_dispatch.specs.lemma.Spelling.{ComesToRow, IsJudged, IsSpelled}
use Rattle.afp_core_dispatch.specs.declared.spelling.Stop.{Stop}

-- a Write
pub spelled-write : (has_user write : Bool) (id offset : ℕ) (payload block enclosed : List ℕ) (result : Result Call Stop) → write ≡ true → block ≡ take offset payload → enclosed ≡ drop offset payload
    → IsJudged has_user block (Some enclosed) result → IsSpelled has_user (request id write offset payload) result
spelled-write has_user true id offset payload block enclosed result is front back judged = λ w s user.
    subst (λ (b : List ℕ). ComesToRow w s (request id true offset payload) b result) front
    (judged w s (request id true offset payload) user (sym front) (ap Some (sym back)))
spelled-write has_user false id offset payload block enclosed result is front back judged = cc

-- any other
pub spelled-plain : (has_user write : Bool) (id offset : ℕ) (payload block : List ℕ) (result : Result Call Stop) → write ≡ false → block ≡ payload
    → IsJudged has_user block None result → IsSpelled has_user (request id write offset payload) result
spelled-plain has_user false id offset payload block result is same judged = λ w s user.
    subst (λ (b : List ℕ). ComesToRow w s (request id false offset payload) b result) same (judged w s (request id false offset payload) user (sym same) refl)
spelled-plain has_user true id offset payload block result is same judged = cc
