-- Links are served one after the other.
use Rattle.std.proofs.Common.{◌≡◌, ℕ, ◌+◌, false, Some, List, [], ◌∷◌, ◌++◌, length, refl, sym, ap, ◌∙◌, subst, arith, append_assoc, append-nil, length-append}
use Rattle.afp_base.specs.Counts.{CountsOn}
use Rattle.afp_outside.specs.ends.Gate.{Passed}
use Rattle.afp_outside.specs.ends.Link.{LinkState}
use Rattle.afp_outside.specs.ends.Listener.{DoorState}
use Rattle.afp_serial.specs.History.{own}
use Rattle.afp_serial.specs.Household.{Household}
use Rattle.afp_serial.specs.Shown.{Shown}
use Rattle.afp_serial.specs.Answer.{link_number}
use Rattle.afp_serial.specs.declared.ask.Ask.TheVariants as ask
use Rattle.afp_serial.specs.Went.{step, steps_of, answered, Went}
use Rattle.afp_serial.specs.World.{World}
use Rattle.afp_serial.specs.declared.ask.Entry.{Entry}
use Rattle.afp_server.specs.doors.Served.{Grows, ServedLink, Served, Drains, ServesDoor}
use Rattle.afp_server.specs.doors.lemma.Next.{Leaves, ServesOne, ServesNext, ServedSoFar}
use Rattle.afp_server.specs.declared.doors.door.WorkerEnd.{WorkerEnd}
use Rattle.afp_server.specs.declared.doors.door.WorkerEnd.TheVariants as ends
use Rattle.afp_server.proofs.OfDoors.Growing.{grows-none, grows-went, grows-join, served-stays, served-snoc}

module _ {L P : Type 0} (state : L → LinkState) (passed : P → Passed) (house : Household) (turns : ℕ) where
  pub so_far-none : (door : DoorState L) (a : Shown) → door.closed ≡ false → ServedSoFar state passed house turns door a door a
  so_far-none door a still = record {
    links = [];
    places = [];
    grows = grows-none a;
    served = refl;
    handed = omega arith;
    back = sym (append-nil door.back);
    open_still = still;
    faults = refl;
  }

  pub so_far-more : (old mid new : DoorState L) (a b c : Shown) → ServedSoFar state passed house turns old a mid b → ServesOne state passed house turns mid b new c → ServedSoFar state passed house turns old a new c
  so_far-more old mid new a b c s one =
      let on : Served state passed house turns a.start c.history s.links s.places =
      subst (λ (h : List Entry). Served state passed house turns a.start h s.links s.places) (sym one.went.history) (served-stays state passed house turns a.start b.history one.went.between (length a.history) s.links s.places s.grows.within s.served) in
      let last : ServedLink state passed house turns a.start c.history one.link one.went.places = record {
        fresh = one.fresh;
        is_fresh = one.is_fresh;
        answer = one.answer;
        steps = one.steps;
        served = one.served;
        told = ap (λ (w : World). steps_of (own w c.history one.went.places)) (sym s.grows.start) ∙ one.went.told;
        passes = one.passes;
      } in
      record {
        links = s.links ++ one.link ∷ [];
        places = s.places ++ one.went.places;
        grows = grows-join a b c s.places one.went.places s.grows (grows-went b c one.steps one.went);
        served = served-snoc state passed house turns a.start c.history s.links s.places one.link one.went.places on last;
        handed = omega (arith, one.handed, s.handed, length-append s.links (one.link ∷ []));
        back = one.back ∙ ap (λ l. l ++ one.link ∷ []) s.back ∙ append_assoc old.back s.links (one.link ∷ []);
        open_still = one.closed ∙ s.open_still;
        faults = one.faults ∙ s.faults;
      }

  abbrev Ends : DoorState L → Shown → WorkerEnd → DoorState L → Shown → Type 0
  Ends old a end new c = (places : List ℕ) × Grows a places c × ServesDoor state passed house turns a.start c.history old places end new

  ends-closed : (old mid new : DoorState L) (a b c d : Shown) → ServedSoFar state passed house turns old a mid b → ServesNext state passed house turns mid b (Some ends.Closed) new c → Drains c d → Ends old a ends.Closed new d
  ends-closed old mid new a b c d s next drains =
      let w = subst (λ (x : Shown). Went x (step 0 (link_number 0) ask.Drain drains.0 ∷ []) d) next.3 drains.1 in (
        s.places ++ w.places,
        grows-join a b d s.places w.places s.grows (grows-went b d _ w),
        record {
          links = s.links;
          own_places = s.places;
          drain = w.places;
          all = refl;
          served = subst (λ (h : List Entry). Served state passed house turns a.start h s.links s.places) (sym w.history) (served-stays state passed house turns a.start b.history w.between (length a.history) s.links s.places s.grows.within s.served);
          drained = record { answer = drains.0; told = ap (λ (x : World). steps_of (own x d.history w.places)) (sym s.grows.start) ∙ w.told };
          handed = next.0.handed ∙ s.handed;
          back = next.0.back ∙ s.back;
          closed = next.1;
          faults = next.2 ∙ s.faults;
        },
      )

  ends-failed : (old mid new : DoorState L) (a b c : Shown) → ServedSoFar state passed house turns old a mid b → ServesNext state passed house turns mid b (Some ends.Failed) new c → Ends old a ends.Failed new c
  ends-failed old mid new a b c s next = (
    s.places,
    subst (λ (x : Shown). Grows a s.places x) (sym next.3) s.grows,
    record {
      links = s.links;
      served = subst (λ (x : Shown). Served state passed house turns a.start x.history s.links s.places) (sym next.3) s.served;
      handed = next.0.handed ∙ s.handed;
      back = next.0.back ∙ s.back;
      closed = next.1 ∙ s.open_still;
      fault = subst (λ (n : ℕ). CountsOn 1 n new.faults) s.faults next.2;
    },
  )

  ends-memory : (old mid new : DoorState L) (a b c : Shown) → ServedSoFar state passed house turns old a mid b → ServesNext state passed house turns mid b (Some ends.Memory) new c → Ends old a ends.Memory new c
  ends-memory old mid new a b c s next = (
    s.places,
    subst (λ (x : Shown). Grows a s.places x) (sym next.1) s.grows,
    record {
      links = s.links;
      last = next.0.link;
      unread = next.0.unread;
      served = subst (λ (x : Shown). Served state passed house turns a.start x.history s.links s.places) (sym next.1) s.served;
      handed = omega (arith, next.0.handed, s.handed);
      back = next.0.back ∙ ap (λ l. l ++ next.0.link ∷ []) s.back ∙ append_assoc old.back s.links (next.0.link ∷ []);
      closed = next.0.closed ∙ s.open_still;
      faults = next.0.faults ∙ s.faults;
    },
  )

  pub ends-by : (old mid new : DoorState L) (a b c d : Shown) (end : WorkerEnd) → ServedSoFar state passed house turns old a mid b → ServesNext state passed house turns mid b (Some end) new c → Leaves end c d → Ends old a end new d
  ends-by old mid new a b c d ends.Closed s next leaves = ends-closed old mid new a b c d s next leaves
  ends-by old mid new a b c d ends.Failed s next leaves = subst (λ (x : Shown). Ends old a ends.Failed new x) (sym leaves) (ends-failed old mid new a b c s next)
  ends-by old mid new a b c d ends.Memory s next leaves = subst (λ (x : Shown). Ends old a ends.Memory new x) (sym leaves) (ends-memory old mid new a b c s next)
