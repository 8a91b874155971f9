-- A history: the entries of all links in one order (this profile).
use Rattle.std.specs.Prelude.{ℕ, ◌+◌, Bool, true, false, ◌&&◌, List, [], ◌∷◌, take, count_by, Option, Some, None, slice_get}
use Rattle.afp_base.specs.declared.ids.LinkNumber.{LinkNumber}
use Rattle.afp_serial.specs.declared.ask.Ask.{Ask}
use Rattle.afp_serial.specs.declared.ask.Entry.{Entry}
use Rattle.afp_serial.specs.declared.ask.Outcome.{Outcome}
use Rattle.afp_serial.specs.declared.ask.Outcome.TheVariants.{Done, Fault}
use Rattle.afp_serial.specs.declared.ask.Told.{Told}
use Rattle.afp_serial.specs.declared.ask.Told.TheVariants as told_of
use Rattle.afp_serial.specs.declared.ask.Told.TheVariants.{Opened, Reply, Live, Displaced, Memory}
use Rattle.afp_serial.specs.Answer.{answer, after, is_legal}
use Rattle.afp_serial.specs.World.{World}

abbrev pub entry : ℕ → LinkNumber → Ask → Outcome → Entry
entry now link ask outcome = record { link = link; at = now; ask = ask; outcome = outcome }

-- the world after the entries, in order
abbrev pub stand : World → List Entry → World
stand w [] = w
stand w (e ∷ es) = stand (after w e) es

-- each entry is legal in the world before it
abbrev pub is_lawful : World → List Entry → Bool
is_lawful w [] = true
is_lawful w (e ∷ es) = is_legal w e && is_lawful (after w e) es

-- an entry with what it was told
abbrev pub Own : Type 0
Own = Entry × Told

-- what the entry at a place was told: the answer in the world before it
abbrev pub told_at : World → List Entry → ℕ → Entry → Told
told_at start history k e = answer (stand start (take k history)) e

abbrev pub own_at : World → List Entry → ℕ → Option Entry → List Own → List Own
own_at start history k None rest = rest
own_at start history k (Some e) rest = (e, told_at start history k e) ∷ rest

-- the entries at the places, each with what it was told there
abbrev pub own : World → List Entry → List ℕ → List Own
own start history [] = []
own start history (k ∷ ks) = own_at start history k (slice_get history k) (own start history ks)

-- what every entry was told, in order
abbrev pub answers : World → List Entry → List Told
answers w [] = []
answers w (e ∷ es) = answer w e ∷ answers (after w e) es

abbrev pub is_opened : Told → Bool
is_opened (Opened link) = true
is_opened (Reply code block ends) = false
is_opened (Live drain) = false
is_opened told_of.Done = false
is_opened Displaced = false
is_opened Memory = false

-- how many entries opened a session
abbrev pub opened_in : World → List Entry → ℕ
opened_in w history = count_by is_opened (answers w history)

abbrev pub fault_of : Outcome → ℕ
fault_of Done = 0
fault_of Fault = 1

-- how many entries met a fault
abbrev pub faults_in : List Entry → ℕ
faults_in [] = 0
faults_in (e ∷ es) = fault_of e.outcome + faults_in es
