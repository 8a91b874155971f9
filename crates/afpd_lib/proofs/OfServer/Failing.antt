-- Where some door failed, its count of faults rose.
use Rattle.std.proofs.Common.{◌≡◌, ℕ, zero, suc, ◌||◌, Bool, true, false, List, [], ◌∷◌, map, refl, sym, ap, ◌∙◌, subst, arith}
use Rattle.std.specs.Prelude.{cond}
use Rattle.std.specs.List.{list_any}
use mathlib.Core.Option.{some, some-ne-none, some-injective}
use lib.ListN.{get_elem?}
use Rattle.afp_outside.specs.ends.Gate.{Passed}
use Rattle.afp_outside.specs.ends.Link.{LinkState}
use Rattle.afp_outside.specs.ends.Listener.{DoorState}
use Rattle.afp_core.specs.turns.ServerState.{ServerState}
use Rattle.afp_serial.specs.Household.{Household}
use Rattle.afp_server.specs.doors.Served.{ServesDoor}
use Rattle.afp_server.specs.declared.doors.door.WorkerEnd.{WorkerEnd}
use Rattle.afp_server.specs.declared.doors.door.WorkerEnd.TheVariants as ends
use Rattle.afp_desk.specs.workers.Doors.{Account, DoorsServed}
use Rattle.afp_desk.specs.workers.House.{is_failed, is_memory, run_end}
use Rattle.afp_desk.specs.declared.workers.gather.Done.{Done}
use Rattle.afpd_lib.specs.server.Complete.{NoneFails}

failed-end : (w : WorkerEnd) → is_failed w ≡ true → w ≡ ends.Failed
failed-end ends.Closed e = cc
failed-end ends.Failed e = refl
failed-end ends.Memory e = cc

-- some worker's door failed
some-fails : (memory failed : Bool) → cond memory ends.Memory (cond failed ends.Failed ends.Closed) ≡ ends.Failed → failed ≡ true
some-fails true failed e = cc
some-fails false true e = refl
some-fails false false e = cc

-- it stands at a place
pub record Fails {Y : Type 0} (done : List (Done Y)) : Type 0 where
  pub place : ℕ
  pub worker : Done Y
  pub there : get_elem? done place ≡ some worker
  pub fails : is_failed worker.end ≡ true

later : {Y : Type 0} (d : Done Y) (done : List (Done Y)) → Fails done → Fails (d ∷ done)
later d done f = record { place = suc f.place; worker = f.worker; there = f.there; fails = f.fails }

one-fails : {Y : Type 0} (d : Done Y) (done : List (Done Y)) (fails : Bool) → is_failed d.end ≡ fails → (fails || list_any (λ x. is_failed x.end) done) ≡ true → (list_any (λ x. is_failed x.end) done ≡ true → Fails done) → Fails (d ∷ done)
one-fails d done true is any rest = record { place = 0; worker = d; there = refl; fails = is }
one-fails d done false is any rest = later d done (rest any)

fails-at : {Y : Type 0} (done : List (Done Y)) → list_any (λ x. is_failed x.end) done ≡ true → Fails done
fails-at [] any = absurd cc
fails-at (d ∷ done) any = one-fails d done (is_failed d.end) refl any (λ more. fails-at done more)

module _ {A : Type 0} where
  mapped : {B : Type 0} (f : A → B) (xs : List A) (i : ℕ) (x : A) → get_elem? xs i ≡ some x → get_elem? (map f xs) i ≡ some (f x)
  mapped f [] i x e = absurd (some-ne-none x (sym e))
  mapped f (y ∷ xs) zero x e = ap (λ (z : A). some (f z)) (some-injective y x e)
  mapped f (y ∷ xs) (suc i) x e = mapped f xs i x e

module _ {L P Y : Type 0} (state : L → LinkState) (passed : P → Passed) (door : Y → DoorState L) (house : Household) (turns : ℕ) (start : ServerState) (doors : List Y) (f : Account Y) (back : List Y) where
  -- so where none fails, the run does not end so
  pub not-failed : DoorsServed state passed door house turns start doors f → run_end f.done ≡ ends.Failed → back ≡ map (λ one. one.door) f.done → NoneFails door doors back → ⊥
  not-failed served failed comes none =
      let found = fails-at f.done (some-fails (list_any (λ x. is_memory x.end) f.done) (list_any (λ x. is_failed x.end) f.done) failed) in
      let w = found.worker in
      let k = served.each found.place w found.there in
      let is = failed-end w.end found.fails in
      let serves : ServesDoor state passed house turns start.world f.history (door k.0) k.1 ends.Failed (door w.door) =
      subst (λ (e : WorkerEnd). ServesDoor state passed house turns start.world f.history (door k.0) k.1 e (door w.door)) is k.4.serves in
      let there : get_elem? back found.place ≡ some w.door = ap (λ (l : List Y). get_elem? l found.place) comes ∙ mapped (λ (one : Done Y). one.door) f.done found.place w found.there in
      let stands = none found.place k.0 w.door k.2 there in
      absurd (omega (arith, serves.fault.2, stands.0, stands.1))
