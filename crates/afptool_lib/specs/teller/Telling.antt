-- A teller over sure keepers: the core at its start and as it is, its history, which proofs alone read, and what it shows as a teller (this profile).
use Rattle.std.specs.Prelude.{List, length, sum}
use Rattle.afp_serial.specs.Shown.{Shown}
use Rattle.afp_serial.specs.declared.ask.Entry.{Entry}
use Rattle.afp_core.specs.turns.Places.{upto}
use Rattle.afp_core.specs.turns.ServerState.{ServerState}
use Rattle.afptool_lib.specs.declared.teller.teller.SureTeller.{SureTeller}
use Rattle.record_keeper.specs.declared.keeper.Keeper.{Ghosts}

-- the core as it was at the start
abbrev pub start_of : {K : Type 0} {of : Ghosts K} → SureTeller K of → ServerState
start_of t = t.start.value

-- the core as it is
abbrev pub core_of : {K : Type 0} {of : Ghosts K} → SureTeller K of → ServerState
core_of t = t.core

-- every entry, in order
abbrev pub history_of : {K : Type 0} {of : Ghosts K} → SureTeller K of → List Entry
history_of t = t.log.items

-- What it shows: it begins at the start's world, each entry of its history is an ask of this teller, and its count of faults is the sum of the keepers' counts.
abbrev pub shown_of : {K : Type 0} {of : Ghosts K} → SureTeller K of → Shown
shown_of t = record { start = (start_of t).world; history = history_of t; mine = upto (length (history_of t)); faults = sum (core_of t).faults }
