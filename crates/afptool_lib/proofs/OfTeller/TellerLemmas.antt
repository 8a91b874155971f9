-- Asks of a core over sure keepers.
use Rattle.std.proofs.Common.{◌≡◌, refl, ℕ, ◌+◌, List, [], ◌∷◌, ◌++◌, arith}
use Rattle.afp_base.specs.declared.ids.LinkNumber.{LinkNumber}
use Rattle.afp_serial.specs.declared.ask.Ask.{Ask}
use Rattle.afp_serial.specs.declared.ask.Entry.{Entry}
use Rattle.afp_serial.specs.declared.ask.Outcome.{Outcome}
use Rattle.afp_serial.specs.declared.ask.Outcome.TheVariants as outcome
use Rattle.afp_serial.specs.declared.ask.Told.{Told}
use Rattle.afp_serial.specs.Answered.{told_of}
use Rattle.afp_serial.specs.declared.answered.Answered.{Answered}
use Rattle.afp_serial.specs.declared.answered.Answered.TheVariants as answered
use Rattle.afp_serial.specs.History.{entry, faults_in}
use Rattle.afp_serial.proofs.Grows.{faults-append}
use Rattle.afp_core.specs.turns.ServerState.{ServerState}
use Rattle.afp_core.specs.turns.Sureness.{AreSure, SureKept}
use Rattle.afp_core.specs.turns.Turn.{BecomesEntry, TakesTurn, Turned}
use Rattle.afp_core.proofs.OfTurns.TurnLemmas.{turn-faultless}

-- a turn that was not told Memory is an entry
pub becomes : (c d : ServerState) (now : ℕ) (link : LinkNumber) (ask : Ask) (a : Answered) (out : List ℕ) → TakesTurn c now link ask (told_of a out) d → (a ≡ answered.Memory → ⊥) → BecomesEntry c now link ask (told_of a out) d
becomes c d now link ask (answered.Opened l) out t other = t
becomes c d now link ask (answered.Reply code size ends) out t other = t
becomes c d now link ask (answered.Live drain) out t other = t
becomes c d now link ask answered.Done out t other = t
becomes c d now link ask answered.Displaced out t other = t
becomes c d now link ask answered.Memory out t other = absurd (other refl)

-- over sure keepers its outcome is Done
done-by : (start c d : ServerState) (h : List Entry) (now : ℕ) (link : LinkNumber) (ask : Ask) (told : Told) (o : Outcome) → AreSure start → SureKept start c → faults_in h ≡ 0
    → Turned c (entry now link ask o) told d → Turned c (entry now link ask outcome.Done) told d
done-by start c d h now link ask told outcome.Done sure kept none t = t
done-by start c d h now link ask told outcome.Fault sure kept none t =
    let all : faults_in (h ++ entry now link ask outcome.Fault ∷ []) ≡ 0 = turn-faultless start c d h (entry now link ask outcome.Fault) told t kept (λ s. none) sure in
    absurd (omega (arith, all, none, faults-append h (entry now link ask outcome.Fault ∷ [])))

pub turned_done : (start c d : ServerState) (h : List Entry) (now : ℕ) (link : LinkNumber) (ask : Ask) (told : Told) → AreSure start → SureKept start c → faults_in h ≡ 0
    → BecomesEntry c now link ask told d → Turned c (entry now link ask outcome.Done) told d
turned_done start c d h now link ask told sure kept none b = done-by start c d h now link ask told b.0 sure kept none b.1

pub still_faultless : (start c d : ServerState) (h : List Entry) (e : Entry) (told : Told) → AreSure start → SureKept start c → faults_in h ≡ 0 → Turned c e told d → faults_in (h ++ e ∷ []) ≡ 0
still_faultless start c d h e told sure kept none t = turn-faultless start c d h e told t kept (λ s. none) sure
