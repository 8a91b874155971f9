-- What may be told fits in a frame, and so in the buffer of whoever asks (this profile). In these the world's latest moment is already the ask's.
use Rattle.std.specs.Prelude.{◌≡◌, ◌≤◌, ℕ, true, length, Option, Some, None}
use Rattle.afp_base.specs.Cached.{Request, Answer, cached_answer}
use Rattle.afp_serial.specs.Answer.{answer_at, committed_at, committed_by, committed_in, is_legal_outcome, told_call, told_verdict, verdict_of_block}
use Rattle.afp_serial.specs.KeptAnswers.{block_of}
use Rattle.afp_serial.specs.Shown.{fits_frame}
use Rattle.afp_serial.specs.World.{session_at, World, Session}
use Rattle.afp_serial.specs.declared.ask.Ask.{Ask}
use Rattle.afp_serial.specs.declared.ask.Outcome.{Outcome}
use Rattle.afp_core_state.specs.KeptWorld.{KeptWorld}
use Rattle.session_table.specs.Sessions.{session_of}

-- what an ask may be told
abbrev pub AskFits : World → ℕ → Ask → Type 0
AskFits w link asked = (o : Outcome) → is_legal_outcome (committed_at w link asked) o ≡ true → fits_frame (answer_at w link asked o) ≡ true

-- what a call on a link may be told
abbrev pub CallFits : World → ℕ → Request → Type 0
CallFits w link q = (o : Outcome) → is_legal_outcome (committed_in w (session_at w link) q) o ≡ true → fits_frame (told_call w (session_at w link) q o) ≡ true

-- what a request of the session of a number may be told, where no answer is kept for it
abbrev pub VerdictFits : KeptWorld → ℕ → Request → Type 0
VerdictFits k n q =
    (s : Session) → session_of k.world.sessions n ≡ Some s
    → (o : Outcome) → is_legal_outcome (committed_by k.world s (verdict_of_block k.world s q (block_of q))) o ≡ true
    → fits_frame (told_verdict k.world s (verdict_of_block k.world s q (block_of q)) o) ≡ true

-- there is room for an answer, where one is kept
abbrev pub HasRoomFor : Option Answer → ℕ → Type 0
HasRoomFor (Some a) room = length a.block ≤ room
HasRoomFor None room = Unit {0}

-- there is room for what the session of a number keeps for a request
abbrev pub HasRoom : KeptWorld → ℕ → Request → ℕ → Type 0
HasRoom k n q room = (s : Session) → session_of k.world.sessions n ≡ Some s → HasRoomFor (cached_answer s.cache q) room
