-- What a teller shows of the history that it answers from, and what an ask adds to it (this profile).
use Rattle.std.specs.Prelude.{◌≡◌, ℕ, ◌+◌, ◌≤◌, nat_le, Bool, true, false, List, [], ◌∷◌, ◌++◌, length, take}
use Rattle.afp_base.specs.Limits.{payload_limit}
use Rattle.afp_base.specs.Counts.{Rises}
use Rattle.afp_base.specs.declared.ids.LinkNumber.{LinkNumber}
use Rattle.afp_serial.specs.declared.ask.Ask.{Ask}
use Rattle.afp_serial.specs.declared.ask.Ask.TheVariants as ask
use Rattle.afp_serial.specs.declared.ask.Entry.{Entry}
use Rattle.afp_serial.specs.declared.ask.Outcome.{Outcome}
use Rattle.afp_serial.specs.declared.ask.Told.{Told}
use Rattle.afp_serial.specs.declared.ask.Told.TheVariants.{Opened, Reply, Live, Done, Displaced, Memory}
use Rattle.afp_serial.specs.Answer.{answer}
use Rattle.afp_serial.specs.History.{entry, faults_in, is_lawful, stand}
use Rattle.afp_serial.specs.Sound.{IsSound}
use Rattle.afp_serial.specs.World.{World}

-- the places rise, from a first one, and lie below n
abbrev pub Rising : ℕ → List ℕ → ℕ → Type 0
Rising from [] n = from ≤ n
Rising from (k ∷ ks) n = (from ≤ k) × Rising (k + 1) ks n

-- The world at the start, the history, the places of the teller's own asks in it, and the keepers' count of faults.
pub record Shown : Type 0 where
  pub start : World
  pub history : List Entry
  pub mine : List ℕ
  pub faults : ℕ

-- The start is sound, the history is lawful, so that the world is sound at each of its places, and the teller's own places rise and lie in it.
pub record IsSoundShown (a : Shown) : Type 0 where
  pub start : IsSound a.start
  pub lawful : is_lawful a.start a.history ≡ true
  pub stands : (k : ℕ) → IsSound (stand a.start (take k a.history))
  pub within : Rising 0 a.mine (length a.history)

-- Others have added entries, and this ask is none.
pub record Stays (a b : Shown) : Type 0 where
  pub between : List Entry
  pub start : b.start ≡ a.start
  pub history : b.history ≡ a.history ++ between
  pub mine : b.mine ≡ a.mine
  pub faults : Rises (faults_in between) a.faults b.faults

-- Others have added entries, then this ask became the last one, and it is told the serial answer there. No fault of a keeper
-- gives leave for two entries.
pub record Adds (a : Shown) (now : ℕ) (link : LinkNumber) (ask : Ask) (told : Told) (b : Shown) : Type 0 where
  pub between : List Entry
  pub outcome : Outcome
  pub start : b.start ≡ a.start
  pub history : b.history ≡ (a.history ++ between) ++ entry now link ask outcome ∷ []
  pub mine : b.mine ≡ a.mine ++ length (a.history ++ between) ∷ []
  pub serial : told ≡ answer (stand a.start (a.history ++ between)) (entry now link ask outcome)
  pub faults : Rises (faults_in (between ++ entry now link ask outcome ∷ [])) a.faults b.faults

-- An ask, by what it was told.
abbrev pub Asked : Shown → ℕ → LinkNumber → Ask → Told → Shown → Type 0
Asked a now link ask (Opened l) b = Adds a now link ask (Opened l) b
Asked a now link ask (Reply code block ends) b = Adds a now link ask (Reply code block ends) b
Asked a now link ask (Live drain) b = Adds a now link ask (Live drain) b
Asked a now link ask Done b = Adds a now link ask Done b
Asked a now link ask Displaced b = Adds a now link ask Displaced b
Asked a now link ask Memory b = Stays a b

-- the answers to Bye and Lost
abbrev pub is_parting_answer : Told → Bool
is_parting_answer (Opened l) = false
is_parting_answer (Reply code block ends) = false
is_parting_answer (Live drain) = false
is_parting_answer Done = true
is_parting_answer Displaced = true
is_parting_answer Memory = true

-- which answers each ask may be told
abbrev pub is_answer_to : Ask → Told → Bool
is_answer_to (ask.Open attention) (Opened l) = true
is_answer_to (ask.Open attention) (Reply code block ends) = true
is_answer_to (ask.Open attention) (Live drain) = false
is_answer_to (ask.Open attention) Done = false
is_answer_to (ask.Open attention) Displaced = false
is_answer_to (ask.Open attention) Memory = true
is_answer_to (ask.Call id write offset payload) (Opened l) = false
is_answer_to (ask.Call id write offset payload) (Reply code block ends) = true
is_answer_to (ask.Call id write offset payload) (Live drain) = false
is_answer_to (ask.Call id write offset payload) Done = false
is_answer_to (ask.Call id write offset payload) Displaced = true
is_answer_to (ask.Call id write offset payload) Memory = true
is_answer_to ask.Pulse (Opened l) = false
is_answer_to ask.Pulse (Reply code block ends) = false
is_answer_to ask.Pulse (Live drain) = true
is_answer_to ask.Pulse Done = false
is_answer_to ask.Pulse Displaced = true
is_answer_to ask.Pulse Memory = true
is_answer_to ask.Bye told = is_parting_answer told
is_answer_to ask.Lost told = is_parting_answer told
is_answer_to ask.Drain (Opened l) = false
is_answer_to ask.Drain (Reply code block ends) = false
is_answer_to ask.Drain (Live drain) = false
is_answer_to ask.Drain Done = true
is_answer_to ask.Drain Displaced = false
is_answer_to ask.Drain Memory = true

-- the block of a reply fits in a frame
abbrev pub fits_frame : Told → Bool
fits_frame (Opened l) = true
fits_frame (Reply code block ends) = nat_le (length block) payload_limit
fits_frame (Live drain) = true
fits_frame Done = true
fits_frame Displaced = true
fits_frame Memory = true
