-- What a link can carry of a request and of an answer, so that it is read as it was written.
use Rattle.std.specs.Prelude.{◌≡◌, ℕ, ◌+◌, ◌≤◌, ◌<◌, nat_lt, Bool, true, false, ◌&&◌, List, [], length}
use Rattle.afp_base.specs.Limits.{payload_limit}
use Rattle.afp_base.specs.declared.code.Code.{Code}
use Rattle.afp_base.specs.declared.code.Code.TheVariants as code
use Rattle.volume_spec.specs.TypedVolume.{are_bytes}
use Rattle.once_across_breaks.specs.once.Messages.{Answer, Body, Does, Fine, Login, MiscErr, NoMemory, Refuses, Rejoin, Token, most_token}

-- a token of bytes that a request can carry
abbrev pub fits_token : List ℕ → Bool
fits_token token = nat_lt (length token) (most_token + 1) && are_bytes token

-- ids have 16 bits
abbrev pub IsId : ℕ → Type 0
IsId id = id < 65536

abbrev pub FitsBody : Body → Type 0
FitsBody Login = Unit {0}
FitsBody Token = Unit {0}
FitsBody (Rejoin token) = fits_token token ≡ true
FitsBody (Does call) = Unit {0}

-- codes of answers that are neither Fine, MiscErr nor NoMemory
abbrev pub is_refusal : Code → Bool
is_refusal code.Ok = false
is_refusal code.MiscErr = false
is_refusal code.NoMemory = false
is_refusal c = true

abbrev pub FitsAnswer : Answer → Type 0
FitsAnswer (Fine block) = length block ≤ payload_limit
FitsAnswer MiscErr = Unit {0}
FitsAnswer NoMemory = Unit {0}
FitsAnswer (Refuses code block) = (is_refusal code ≡ true) × (length block ≤ payload_limit)

-- the answer to OpenSession, which tells no block where it is Ok
abbrev pub FitsOpening : Answer → Type 0
FitsOpening (Fine block) = block ≡ []
FitsOpening MiscErr = Unit {0}
FitsOpening NoMemory = Unit {0}
FitsOpening (Refuses code block) = Unit {0}
