-- The rule of the desk: what holds of its words, its slot and all seats between any two steps (this profile).
use Rattle.std.specs.Prelude.{◌≡◌, ℕ, ◌+◌, ◌-◌, ◌/◌, ◌%◌, ◌^◌, ◌<◌, ◌==◌, ◌&&◌, ◌⊎◌, max, true, Option, Some, List, [], ◌∷◌, ◌++◌, length, nat_le, nat_lt, sum}
use mathlib.Core.Option.{Option as Maybe, none, some}
use lib.ListN.{get_elem?}
use Rattle.atomic_table.specs.Table.{State}
use Rattle.afp_base.specs.Counts.{Rises}
use Rattle.afp_serial.specs.declared.ask.Entry.{Entry}
use Rattle.afp_serial.specs.History.{is_lawful, faults_in}
use Rattle.afp_serial.specs.Shown.{Rising, Shown}
use Rattle.afp_core.specs.turns.ServerState.{ServerState}
use Rattle.afp_desk.specs.declared.desk.view.Stage.{Stage}
use Rattle.afp_desk.specs.declared.desk.view.Stage.TheVariants.{Idle, Waiting, Served}
use Rattle.afp_desk.specs.declared.desk.view.View.{View}
use Rattle.afp_desk.specs.desk.NoServer.{no_server}
use Rattle.afp_desk.specs.desk.StandsFor.{StandsFor}
use Rattle.afp_desk.specs.desk.Totals.{total, one_if, times, merge}

-- the share of the only pass
abbrev pub all_shares : ℕ
all_shares = 2 ^ 32

-- the first view
abbrev pub newcomer : ServerState → View
newcomer start = record { start = start; share = all_shares; seen = []; core = start; other = []; other_core = start; mine = []; stage = Idle; note = [] }

-- the rest of a share that is cut in halves
abbrev pub left_of : View → View
left_of v = record v { share = v.share - v.share / 2 }

-- the other half, with no places of its own
abbrev pub right_of : View → View
right_of v = record v { share = v.share / 2; mine = [] }

-- a spent seat that remembers
abbrev pub echo_of : View → View
echo_of v = record v { share = 0; mine = []; note = v.mine }

-- what two views know together
abbrev pub both_of : View → View → View
both_of v w = record v { share = v.share + w.share; other = w.seen; other_core = w.core; mine = merge v.mine w.mine }

-- a seat that was joined to another
abbrev pub spent : View
spent = record { start = no_server; share = 0; seen = []; core = no_server; other = []; other_core = no_server; mine = []; stage = Idle; note = [] }

-- the history that was seen, as a teller shows it
abbrev pub shown_of : View → Shown
shown_of v = record { start = v.start.world; history = v.seen; mine = v.mine; faults = sum v.core.faults }

-- whether a stage has a ticket
abbrev pub waits_in : Stage → ℕ
waits_in Idle = 0
waits_in (Waiting t) = 1
waits_in (Served t) = 1

-- whether it is this ticket
abbrev pub holds_in : ℕ → Stage → ℕ
holds_in t Idle = 0
holds_in t (Waiting u) = one_if (t == u)
holds_in t (Served u) = one_if (t == u)

-- the share of a view
abbrev pub share_of : View → ℕ
share_of v = v.share

-- whether a seat has a ticket
abbrev pub waits : View → ℕ
waits v = waits_in v.stage

-- whether the seat has the ticket
abbrev pub holds_ticket : ℕ → View → ℕ
holds_ticket t v = holds_in t v.stage

-- how often the seat has the place
abbrev pub has_place : ℕ → View → ℕ
has_place k v = times k v.mine

-- 1 where from ≤ k < to, and else 0
abbrev pub one_between : ℕ → ℕ → ℕ → ℕ
one_between from to k = one_if (nat_le from k && nat_lt k to)

-- The list begins the history, and the core was this one then.
pub record Knows (h : List Entry) (core : ServerState) (seen : List Entry) (then : ServerState) : Type 0 where
  pub rest : List Entry
  pub begins : h ≡ seen ++ rest
  pub rises : Rises (faults_in rest) (sum then.faults) (sum core.faults)
  pub latest : rest ≡ [] → then ≡ core

-- what is known of a seat that is not spent
pub record Fits (start : ServerState) (h : List Entry) (core : ServerState) (serving : ℕ) (v : View) : Type 0 where
  pub same_start : v.start ≡ start
  pub seen : Knows h core v.seen v.core
  pub other : Knows h core v.other v.other_core
  pub mine : Rising 0 v.mine (max (length v.seen) (length v.other))
  pub served : (t : ℕ) → v.stage ≡ Served t → (t ≡ serving) × (v.seen ≡ h) × (v.core ≡ core)

-- a seat without a share does nothing, and has no places
pub record IsSpent (v : View) : Type 0 where
  pub idle : v.stage ≡ Idle
  pub none : v.mine ≡ []

-- the core is out with a seat that is served
pub record IsOut (views : List View) (homes : List (Maybe (Option ServerState))) : Type 0 where
  pub seat : ℕ
  pub view : View
  pub ticket : ℕ
  pub there : get_elem? views seat ≡ some view
  pub served : view.stage ≡ Served ticket
  pub gone : homes ≡ none ∷ []

-- There is one history, in which each entry is of one seat that is not spent, and which each of these began to see. The shares are parted among
-- them, and each has at most one of the tickets that are out. The core stands for the history; it is in its slot, or out with a seat that is served.
pub record IsKept (start : ServerState) (s : State (Option ServerState) View) : Type 0 where
  pub history : List Entry
  pub core : ServerState
  pub serving : ℕ
  pub drawn : ℕ
  pub words : s.words ≡ (drawn % 2 ^ 64) ∷ (serving % 2 ^ 64) ∷ []
  pub lawful : is_lawful start.world history ≡ true
  pub stands : StandsFor start history core
  pub risen : Rises (faults_in history) (sum start.faults) (sum core.faults)
  pub begun : history ≡ [] → start ≡ core
  pub shares : total share_of s.views ≡ all_shares
  pub waiting : serving + total waits s.views ≡ drawn
  pub tickets : (t : ℕ) → total (holds_ticket t) s.views ≡ one_between serving drawn t
  pub places : (k : ℕ) → total (has_place k) s.views ≡ one_between 0 (length history) k
  pub seats : (j : ℕ) (v : View) → get_elem? s.views j ≡ some v → 0 < v.share → Fits start history core serving v
  pub spent : (j : ℕ) (v : View) → get_elem? s.views j ≡ some v → v.share ≡ 0 → IsSpent v
  pub home : (s.homes ≡ some (Some core) ∷ []) ⊎ IsOut s.views s.homes
