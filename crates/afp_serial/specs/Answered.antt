-- What an ask is told, out of a buffer of whoever asks (this profile).
use Rattle.std.specs.Prelude.{ℕ, Bool, true, false, List, [], take}
use Rattle.afp_serial.specs.declared.answered.Answered.{Answered}
use Rattle.afp_serial.specs.declared.answered.Answered.TheVariants.{Opened, Reply, Live, Done, Displaced, Memory}
use Rattle.afp_serial.specs.declared.ask.Ask.{Ask}
use Rattle.afp_serial.specs.declared.ask.Ask.TheVariants as ask
use Rattle.afp_serial.specs.declared.ask.Told.{Told}
use Rattle.afp_serial.specs.declared.ask.Told.TheVariants as told

-- what was told, where the buffer has these bytes
abbrev pub told_of : Answered → List ℕ → Told
told_of (Opened link) out = told.Opened link
told_of (Reply code size ends) out = told.Reply code (take size out) ends
told_of (Live drain) out = told.Live drain
told_of Done out = told.Done
told_of Displaced out = told.Displaced
told_of Memory out = told.Memory

-- the bytes of what is told
abbrev pub block_in : Told → List ℕ
block_in (told.Opened link) = []
block_in (told.Reply code block ends) = block
block_in (told.Live drain) = []
block_in told.Done = []
block_in told.Displaced = []
block_in told.Memory = []

-- the asks that may be told bytes
abbrev pub tells_bytes : Ask → Bool
tells_bytes (ask.Open attention) = true
tells_bytes (ask.Call id write offset payload) = true
tells_bytes ask.Pulse = false
tells_bytes ask.Bye = false
tells_bytes ask.Lost = false
tells_bytes ask.Drain = false
