-- What a request comes to before its call's row (this profile).
use Rattle.std.specs.Prelude.{◌≡◌, ℕ, Bool, List, Option, Result, Ok, Err, is_some}
use Rattle.afp_base.specs.Cached.{Request}
use Rattle.afp_calls_grammar.specs.declared.grammar.call.Call.{Call}
use Rattle.afp_core_dispatch.specs.declared.spelling.Stop.{Stop}
use Rattle.afp_core_dispatch.specs.declared.spelling.Stop.TheVariants.{Refused, Memory}
use Rattle.afp_serial.specs.World.{plain, World, Session}
use Rattle.afp_serial.specs.Rows.{refusal}
use Rattle.afp_serial.specs.Answer.{refused, verdict_of_block, verdict_of_row}
use Rattle.afp_serial.specs.KeptAnswers.{block_of, enclosed_of}

-- The request comes to the row of this call, or is refused before; want of memory may take the place of each.
abbrev pub ComesToRow : World → Session → Request → List ℕ → Result Call Stop → Type 0
ComesToRow w s r block (Ok call) = verdict_of_block w s r block ≡ verdict_of_row call (refusal w s call)
ComesToRow w s r block (Err (Refused code)) = verdict_of_block w s r block ≡ refused (plain code)
ComesToRow w s r block (Err Memory) = Unit {0}

-- that of every request with this block and these enclosed bytes, in a session that has a user or none
abbrev pub IsJudged : Bool → List ℕ → Option (List ℕ) → Result Call Stop → Type 0
IsJudged has_user block enclosed result =
    (w : World) (s : Session) (r : Request) → is_some s.user ≡ has_user → block_of r ≡ block → enclosed_of r ≡ enclosed
    → ComesToRow w s r block result

-- that of this request
abbrev pub IsSpelled : Bool → Request → Result Call Stop → Type 0
IsSpelled has_user r result = (w : World) (s : Session) → is_some s.user ≡ has_user → ComesToRow w s r (block_of r) result
