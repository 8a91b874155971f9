-- What passes show (this profile).
use Rattle.std.specs.Prelude.{◌≡◌, ℕ, ◌+◌, ◌-◌, ◌/◌, ◌<◌, ◌≤◌, ◌⊎◌, List, [], ◌∷◌, ◌++◌, length, sum}
use Rattle.afp_base.specs.Counts.{Rises}
use Rattle.afp_serial.specs.declared.ask.Entry.{Entry}
use Rattle.afp_serial.specs.History.{faults_in}
use Rattle.afp_serial.specs.Shown.{Shown}
use Rattle.afp_core.specs.turns.ServerState.{ServerState}
use Rattle.record_keeper.specs.declared.keeper.Keeper.{Ghosts}
use Rattle.afp_desk.specs.declared.desk.desk.Desk.{Desk}
use Rattle.afp_desk.specs.declared.desk.pass.Pass.{Pass}
use Rattle.afp_desk.specs.declared.desk.view.View.{View}
use Rattle.afp_desk.specs.desk.NoServer.{no_server}
use Rattle.afp_desk.specs.desk.StandsFor.{StandsFor}
use Rattle.afp_desk.specs.desk.Totals.{times, merge}
use Rattle.afp_desk.specs.desk.Rule.{all_shares, shown_of}

-- what a pass knows
abbrev pub view : {X : Type 0} {g : Ghosts X} → Pass X g → View
view p = p.seat.me.0

-- the history that a pass shows
abbrev pub shown : {X : Type 0} {g : Ghosts X} → Pass X g → Shown
shown p = shown_of p.seat.me.0

-- its part of the right to close the desk
abbrev pub share : {X : Type 0} {g : Ghosts X} → Pass X g → ℕ
share p = p.seat.me.0.share

-- a pass of this desk
abbrev pub IsOf : {X : Type 0} {g : Ghosts X} → Desk X → Pass X g → Type 0
IsOf d p = p.seat.table_id ≡ d.table.shared.table_id

-- the first pass has all shares, and shows the empty history from the core's world on
pub record IsFirst (core : ServerState) (p : View) : Type 0 where
  pub start : p.start ≡ core
  pub shows : shown_of p ≡ record { start = core.world; history = []; mine = []; faults = sum core.faults }
  pub shares : p.share ≡ all_shares

-- the pass was cut in two
pub record IsSplit (p p' q : View) : Type 0 where
  pub left : p'.share ≡ p.share - p.share / 2
  pub right : q.share ≡ p.share / 2
  pub starts : (p'.start ≡ p.start) × (q.start ≡ p.start)
  pub same : shown_of p' ≡ shown_of p
  pub as_much : shown_of q ≡ record { start = (shown_of p).start; history = (shown_of p).history; mine = []; faults = (shown_of p).faults }

-- one history begins the other
abbrev pub Begins : List Entry → List Entry → Type 0
Begins xs ys = (rest : List Entry) × (ys ≡ xs ++ rest)

-- what was seen is the same, and the core then
abbrev pub SameEnd : View → View → Type 0
SameEnd w v = (w.seen ≡ v.seen) × (w.core ≡ v.core)

-- one pass has what both had
pub record IsMet (p q r : View) : Type 0 where
  pub shares : r.share ≡ p.share + q.share
  pub start : r.start ≡ p.start
  pub one : Begins (shown_of p).history (shown_of r).history
  pub other : Begins (shown_of q).history (shown_of r).history
  pub longer : SameEnd r p ⊎ SameEnd r q
  pub mine : (shown_of r).mine ≡ merge (shown_of p).mine (shown_of q).mine
  pub apart : (k : ℕ) → times k (shown_of p).mine + times k (shown_of q).mine ≤ 1

-- the core stands for all that the pass shows, and each entry is its own
pub record IsClosed (p : View) (core : ServerState) : Type 0 where
  pub same : p.core ≡ core
  pub stands : StandsFor p.start (shown_of p).history core
  pub risen : Rises (faults_in (shown_of p).history) (sum p.start.faults) (sum core.faults)
  pub all_mine : (k : ℕ) → k < length (shown_of p).history → times k (shown_of p).mine ≡ 1

-- what a trace remembers, as a teller shows it
abbrev pub remembered : List View → Shown
remembered [] = record { start = no_server.world; history = []; mine = []; faults = 0 }
remembered (v ∷ vs) = record { start = v.start.world; history = v.seen; mine = v.note; faults = sum v.core.faults }

-- the core that it remembers, at the start
abbrev pub start_then : List View → ServerState
start_then [] = no_server
start_then (v ∷ vs) = v.start

-- and as it was at closing
abbrev pub core_then : List View → ServerState
core_then [] = no_server
core_then (v ∷ vs) = v.core
