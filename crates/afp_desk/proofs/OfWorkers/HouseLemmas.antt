-- A house served, from what its core served.
use Rattle.std.proofs.Common.{◌≡◌, ℕ, List, length, sym, ap, subst, ◌∙◌}
use Rattle.afp_base.specs.Counts.{counted}
use Rattle.afp_core.specs.turns.Loads.{IsLoadedServer}
use Rattle.afp_core.specs.turns.Retiring.{RetiresServer}
use Rattle.afp_core.specs.turns.ServerState.{ServerState}
use Rattle.afp_core_state.specs.Holding.{AreHeld}
use Rattle.afp_desk.specs.desk.Passes.{start_then}
use Rattle.afp_outside.specs.ends.Gate.{Passed}
use Rattle.afp_outside.specs.ends.Link.{LinkState}
use Rattle.afp_outside.specs.ends.Listener.{DoorState}
use Rattle.afp_serial.specs.History.{opened_in}
use Rattle.afp_serial.specs.Household.{Household}
use Rattle.afp_desk.specs.workers.Doors.{DoorsServed}
use Rattle.afp_desk.specs.workers.House.{ServesCore, ServesHouse, ended_of, history_of, run_end}
use Rattle.afp_desk.specs.workers.Keeping.{Keeping, steady_in}
use Rattle.afp_desk.specs.declared.workers.house.Closing.{Closing}

module _ {L P Y K : Type 0} (state : L → LinkState) (passed : P → Passed) (door : Y → DoorState L) (kept_by : Keeping K) (house : Household) (turns : ℕ) (start : ServerState) (doors : List Y) (f : Closing Y) where
  -- the core at closing is the one that the trace remembers
  pub core-served : (core : ServerState) → DoorsServed state passed door house turns start doors record { core = core; history = history_of f; started = start_then f.trace.last.views; ended = ended_of f; done = f.done.items }
      → f.counts.entries ≡ core.entries → f.counts.sessions ≡ core.opened → f.end ≡ run_end f.done.items
      → AreHeld kept_by.records kept_by.sure kept_by.faults core.world.volumes core.faults core.sure → RetiresServer kept_by.faults kept_by.sure kept_by.settles core f.retired
      → ServesCore state passed door kept_by house turns start doors f
  core-served core d entries sessions end held retires =
      let same : core ≡ ended_of f = sym d.traced.1 in
      record {
        serves = subst (λ (c : ServerState). DoorsServed state passed door house turns start doors record { core = c; history = history_of f; started = start_then f.trace.last.views; ended = ended_of f; done = f.done.items }) same d;
        entries = entries ∙ ap (λ (s : ServerState). s.entries) same;
        sessions = sessions ∙ ap (λ (s : ServerState). s.opened) same;
        end = end;
        held = subst (λ (s : ServerState). AreHeld kept_by.records kept_by.sure kept_by.faults s.world.volumes s.faults s.sure) same held;
        retires = subst (λ (s : ServerState). RetiresServer kept_by.faults kept_by.sure kept_by.settles s f.retired) same retires;
      }

  -- a core that was loaded has counted nothing yet
  pub house-served : (now : ℕ) (keepers : List K) → IsLoadedServer (steady_in kept_by) kept_by.sure kept_by.faults house now keepers start → ServesCore state passed door kept_by house turns start doors f
      → ServesHouse state passed door kept_by house turns now keepers doors f
  house-served now keepers loaded s = record {
    start = start;
    loaded = loaded;
    serves = s;
    entries = s.entries ∙ (s.serves.stands.counted.entries ∙ ap (λ (x : ServerState). counted (length (history_of f)) x.entries) loaded.start);
    sessions = s.sessions ∙ (s.serves.stands.counted.opened ∙ ap (λ (x : ServerState). counted (opened_in start.world (history_of f)) x.opened) loaded.start);
  }
