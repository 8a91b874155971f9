-- What turns of a table keep.
use Rattle.std.proofs.Common.{◌≡◌, ◌≢◌, ℕ, ◌+◌, List, [], Option, Some, None, refl, sym, ap, subst, ◌∙◌, arith, ◌⊎◌, inl, inr}
use Rattle.std.proofs.lemmas.Bool.{cases_eq}
use Rattle.slab.specs.Slab.{Slab, get, slab_len, Updates}
use Rattle.afp_outside.specs.ends.Gate.{Passed}
use Rattle.afp_outside.specs.ends.Link.{LinkState}
use Rattle.afp_outside.specs.ends.Listener.{Closes, DoorState, FailsToAccept, HandsOut, TakesBack}
use Rattle.afp_serial.specs.Household.{Household}
use Rattle.afp_serial.specs.Shown.{Shown}
use Rattle.afp_serial.specs.StatusBlock.{status_block}
use Rattle.afp_server.specs.connection.Connection.{ConnectionState, IsParted, Stands, rest_of}
use Rattle.afp_server.specs.connection.Turn.{InTurn, shown_to}
use Rattle.afp_server.specs.link.Progress.{Start}
use Rattle.afp_server.specs.declared.connection.connection.Rest.{Rest}
use Rattle.afp_server.specs.declared.connection.connection.Rest.TheVariants as rests
use Rattle.afp_server.specs.declared.connection.standing.Standing.{Standing}
use Rattle.afp_server.specs.declared.connection.standing.Standing.TheVariants as stands
use Rattle.afp_server.specs.declared.doors.door.WorkerEnd.{WorkerEnd}
use Rattle.afp_server.specs.declared.doors.door.WorkerEnd.TheVariants as ends
use Rattle.afp_server.specs.declared.link.serve.LinkEnd.{LinkEnd}
use Rattle.afp_server.proofs.OfConnection.Turning.{in-turn-join}
use Rattle.afp_server_table.specs.lemma.Links.{KeepsLinks, LinksState, LinksStand, SeatState, TakesOn}
use Rattle.afp_server_table.proofs.Standing.{stand-closed, stand-failed, stand-part, stand-take, stand-turn}

-- a link that was said to have ended stands so
pub over-of_rest : (s : Standing) (answer : LinkEnd) → rests.Over answer ≡ rest_of s → s ≡ stands.Over answer
over-of_rest stands.Waits answer e = absurd (cc)
over-of_rest stands.More answer e = absurd (cc)
over-of_rest (stands.Sends unsent then called) answer e = absurd (cc)
over-of_rest (stands.Over end) answer e = cc

-- a value taken out and put back under its key
put-back : {T : Type 0} (old mid new : Slab T) (key : ℕ) (put : T) → Updates old mid key None → mid.vacant_key ≡ key → Updates mid new mid.vacant_key (Some put) → Updates old new key (Some put)
put-back old mid new key put u same v = record {
  changed = ap (get new) (sym same) ∙ v.changed;
  others = λ other d. v.others other (λ e. d (e ∙ same)) ∙ u.others other d;
}

module _ {L A : Type 0} (state : L → LinkState) (passed : A → Passed) where
  pub keeps-turn : (block : List ℕ) (turns : ℕ) (links mid after : LinksState L A) (key : ℕ) (found went : SeatState L A) (door : DoorState L) (a b : Shown) → get links.seats key ≡ Some found → Updates links.seats mid.seats key None
      → slab_len mid.seats + 1 ≡ slab_len links.seats → mid.seats.vacant_key ≡ key → mid.taken ≡ links.taken → went.number ≡ found.number
      → InTurn a b (Stands state passed block turns found.connection) (Stands state passed block turns went.connection)
      → Updates mid.seats after.seats mid.seats.vacant_key (Some went) → slab_len after.seats ≡ slab_len mid.seats + 1 → after.taken ≡ mid.taken → KeepsLinks state passed block turns links door a after door b
  keeps-turn block turns links mid after key found went door a b g u len next taken same t v more still = λ house old first end is s.
      subst (λ (n : ℕ). LinksStand state passed house turns old first end after.seats.slots n door b) (sym (still ∙ taken))
      (stand-turn state passed house turns old first end links.seats after.seats links.taken key found went door a b g same (put-back links.seats mid.seats after.seats key went u next v) (omega (arith, len, more))
      (subst (λ (x : List ℕ). InTurn a b (Stands state passed x turns found.connection) (Stands state passed x turns went.connection)) is t) s)

  pub keeps-part : (block more : List ℕ) (turns : ℕ) (links mid : LinksState L A) (key : ℕ) (found went : SeatState L A) (answer : LinkEnd) (link : L) (door new : DoorState L) (a b c : Shown) → get links.seats key ≡ Some found
      → Updates links.seats mid.seats key None → slab_len mid.seats + 1 ≡ slab_len links.seats → mid.taken ≡ links.taken
      → InTurn a b (Stands state passed block turns found.connection) (Stands state passed block turns went.connection) → rests.Over answer ≡ rest_of went.connection.standing → more ≡ block
      → InTurn b c (Stands state passed more turns went.connection) (λ start shown. IsParted passed start went.connection.standing (state link) went.connection.log shown)
      → TakesBack door link new → KeepsLinks state passed block turns links door a mid new c
  keeps-part block more turns links mid key found went answer link door new a b c g u len taken t rest same p back = λ house old first end is s.
      subst (λ (n : ℕ). LinksStand state passed house turns old first end mid.seats.slots n new c) (sym taken)
      (stand-part state passed house turns old first end links.seats mid.seats links.taken key found went.connection.standing answer link went.connection.log door new a c g u len (over-of_rest went.connection.standing answer rest) back
      (in-turn-join a b c _ _ _ (subst (λ (x : List ℕ). InTurn a b (Stands state passed x turns found.connection) (Stands state passed x turns went.connection)) is t)
      (subst (λ (x : List ℕ). InTurn b c (Stands state passed x turns went.connection) (λ start shown. IsParted passed start went.connection.standing (state link) went.connection.log shown)) (same ∙ is) p)) s)

  pub takes-same : (block : List ℕ) (turns : ℕ) (links after : LinksState L A) (door next : DoorState L) (a : Shown) → after.seats.slots ≡ links.seats.slots → after.taken ≡ links.taken → next ≡ door
      → TakesOn state passed block turns links door a None None after next
  takes-same block turns links after door next a slots taken same = λ house old first is s.
      subst (λ (d : DoorState L). LinksStand state passed house turns old first None after.seats.slots after.taken d a) (sym same)
      (subst (λ (n : ℕ). LinksStand state passed house turns old first None after.seats.slots n door a) (sym taken)
      (subst (λ (l : List (Option (SeatState L A))). LinksStand state passed house turns old first None l links.taken door a) (sym slots) s))

  pub takes-link : (block : List ℕ) (turns : ℕ) (links mid after : LinksState L A) (key : ℕ) (c : ConnectionState L A) (link : L) (door new : DoorState L) (a : Shown) → mid.seats.slots ≡ links.seats.slots → mid.taken ≡ links.taken
      → HandsOut state door link new → ((b : Shown) → Stands state passed block turns c (record { block = block; turns = turns; link = state link; shown = b }) b) → get mid.seats key ≡ None
      → Updates mid.seats after.seats key (Some (record { number = mid.taken; connection = c })) → slab_len after.seats ≡ slab_len mid.seats + 1 → after.taken ≡ mid.taken + 1 → TakesOn state passed block turns links door a None None after new
  takes-link block turns links mid after key c link door new a slots taken hands begins vacant u len more = λ house old first is s.
      subst (λ (n : ℕ). LinksStand state passed house turns old first None after.seats.slots n new a) (sym more)
      (stand-take state passed house turns old first mid.seats after.seats mid.taken key (record { number = mid.taken; connection = c }) link door new a vacant u len refl hands
      (subst (λ (x : List ℕ). Stands state passed x turns c (record { block = x; turns = turns; link = state link; shown = shown_to [] a }) (shown_to [] a)) is (begins (shown_to [] a)))
      (takes-same block turns links mid door door a slots taken refl house old first is s))

  pub takes-closed : (block : List ℕ) (turns : ℕ) (links mid : LinksState L A) (door new : DoorState L) (a : Shown) → mid.seats.slots ≡ links.seats.slots → mid.taken ≡ links.taken → Closes door new
      → TakesOn state passed block turns links door a None (Some ends.Closed) mid new
  takes-closed block turns links mid door new a slots taken closes = λ house old first is s.
      stand-closed state passed house turns old first mid.seats.slots mid.taken door new a closes (takes-same block turns links mid door door a slots taken refl house old first is s)

  pub takes-failed : (block : List ℕ) (turns : ℕ) (links mid : LinksState L A) (door new : DoorState L) (a : Shown) → mid.seats.slots ≡ links.seats.slots → mid.taken ≡ links.taken → FailsToAccept door new
      → TakesOn state passed block turns links door a None (Some ends.Failed) mid new
  takes-failed block turns links mid door new a slots taken fails = λ house old first is s.
      stand-failed state passed house turns old first mid.seats.slots mid.taken door new a fails (takes-same block turns links mid door door a slots taken refl house old first is s)
