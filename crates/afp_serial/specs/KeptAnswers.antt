-- What is kept for a session's requests that come again (this profile): each answer, refusals too, but for those of the calls that log in or
-- out or that concern tokens, and for what a fault or want of memory is told. The block's first byte decides, at whatever step the call was refused.
use Rattle.std.specs.Prelude.{ℕ, ◌==◌, map, Bool, true, false, not, ◌&&◌, if◌then◌else◌, List, [], ◌∷◌, Option, None, Some, take, drop}
use Rattle.std.specs.List.{list_any}
use Rattle.afp_base.specs.Cached.{Request, Answer, with_kept}
use Rattle.afp_base.specs.declared.code.Code.{Code}
use Rattle.afp_base.specs.declared.code.Code.TheVariants as code
use Rattle.afp_calls_grammar.specs.grammar.Commands.{disconnect_old_session_command, get_session_token_command, login_command, login_ext_command, logout_command}
use Rattle.afp_serial.specs.declared.ask.Told.{Told}
use Rattle.afp_serial.specs.declared.ask.Told.TheVariants as told
use Rattle.afp_serial.specs.World.{World, Session}

-- The block of a request: the whole payload, or in a Write what stands before the offset.
abbrev pub block_of : Request → List ℕ
block_of r = if r.write then take r.offset r.payload else r.payload

-- The bytes that a Write encloses: the rest of its payload.
abbrev pub enclosed_of : Request → Option (List ℕ)
enclosed_of r = if r.write then Some (drop r.offset r.payload) else None

-- the commands whose answers are not kept
abbrev pub commands_not_kept : List ℕ
commands_not_kept = login_command ∷ logout_command ∷ login_ext_command ∷ get_session_token_command ∷ disconnect_old_session_command ∷ []

abbrev pub is_kept_command : List ℕ → Bool
is_kept_command [] = true
is_kept_command (command ∷ fields) = not (list_any (λ other. other == command) commands_not_kept)

-- the codes that are not kept
abbrev pub is_kept_code : Code → Bool
is_kept_code code.MiscErr = false
is_kept_code code.NoMemory = false
is_kept_code other = true

-- whether what a request is told under a code is kept
abbrev pub is_kept : Request → Code → Bool
is_kept r c = is_kept_code c && is_kept_command (block_of r)

-- what a request is told, where it is kept
abbrev pub kept_answer : Request → Told → Option Answer
kept_answer r (told.Reply c block ends) = if is_kept r c then Some (record { code = c; block = block }) else None
kept_answer r (told.Opened link) = None
kept_answer r (told.Live drain) = None
kept_answer r told.Done = None
kept_answer r told.Displaced = None
kept_answer r told.Memory = None

-- the session with one more answer kept
abbrev pub with_answer : Request → Answer → Session → Session
with_answer r answer s = record s { cache = with_kept s.cache (record { request = r; answer = answer }) }

-- The world with that answer kept in the session of a number, which stays as it is there but for it.
abbrev pub kept_in : World → ℕ → Request → Answer → World
kept_in w number r answer = record w { sessions = map (λ s. if s.number == number then with_answer r answer s else s) w.sessions }

abbrev pub keeping : World → ℕ → Request → Option Answer → World
keeping w number r None = w
keeping w number r (Some answer) = kept_in w number r answer
