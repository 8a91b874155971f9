-- No ask of a served link met a fault.
use Rattle.std.proofs.Common.{◌≡◌, List, [], ◌∷◌, refl, arith}
use Rattle.std.proofs.lemmas.List.Elements.{All-cons, All-nil}
use Rattle.std.specs.Prelude.{All}
use Rattle.afp_outside.specs.ends.Gate.{Passed}
use Rattle.afp_outside.specs.ends.Link.{LinkState}
use Rattle.afp_outside.specs.ends.Listener.{DoorState}
use Rattle.afp_serial.specs.History.{faults_in, fault_of}
use Rattle.afp_serial.specs.declared.ask.Entry.{Entry}
use Rattle.afp_serial.specs.declared.ask.Outcome.{Outcome}
use Rattle.afp_serial.specs.declared.ask.Outcome.TheVariants.{Done, Fault}
use Rattle.afp_desk.specs.workers.House.{history_of}
use Rattle.afp_desk.specs.workers.Keeping.{Keeping}
use Rattle.afpd_lib.specs.server.Complete.{MeetsNoFault}

is_done : (o : Outcome) → fault_of o ≡ 0 → o ≡ Done
is_done Done none = refl
is_done Fault none = absurd (omega arith)

all_done : (h : List Entry) → faults_in h ≡ 0 → All (λ e. e.outcome ≡ Done) h
all_done [] none = All-nil (λ (e : Entry). e.outcome ≡ Done)
all_done (e ∷ es) none = All-cons (λ (x : Entry). x.outcome ≡ Done) e es (is_done e.outcome (omega arith)) (all_done es (omega arith))

pub meets_no_fault : {L P Y K : Type 0} (state : L → LinkState) (passed : P → Passed) (door : Y → DoorState L) (kept_by : Keeping K) → MeetsNoFault state passed door kept_by
meets_no_fault state passed door kept_by house keepers turns now doors f s same low =
    let risen = s.serves.serves.faults.1 in
    all_done (history_of f) (omega (arith, risen, same, low))
