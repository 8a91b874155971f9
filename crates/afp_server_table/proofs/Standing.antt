-- The links of a table, as they come, have turns, and leave.
use Rattle.std.proofs.Common.{◌≡◌, ◌≢◌, ℕ, ◌+◌, ◌<◌, ◌≤◌, true, false, List, [], ◌∷◌, ◌++◌, length, Option, Some, None, is_some, count_by, refl, sym, ap, ◌∙◌, subst, arith, append_assoc, append-nil, length-append, ◌⊎◌, inl, inr}
use Rattle.std.specs.List.{AllZip}
use Rattle.std.proofs.lemmas.Bool.{cases_eq}
use Rattle.std.proofs.lemmas.List.{append_cancel_left}
use Rattle.slab.specs.Slab.{Slab, get, slab_len, Updates}
use Rattle.afp_base.specs.Counts.{CountsOn}
use Rattle.afp_outside.specs.ends.Gate.{Passed, none_passed}
use Rattle.afp_outside.specs.ends.Link.{LinkState, IsFresh}
use Rattle.afp_outside.specs.ends.Listener.{DoorState, HandsOut, Closes, FailsToAccept, TakesBack}
use Rattle.afp_serial.specs.Answer.{link_number}
use Rattle.afp_serial.specs.Household.{Household}
use Rattle.afp_serial.specs.Shown.{Rising, Shown}
use Rattle.afp_serial.specs.StatusBlock.{status_block}
use Rattle.afp_serial.specs.Went.{Step, step, steps_of, Went}
use Rattle.afp_serial.specs.History.{own}
use Rattle.afp_serial.specs.World.{World}
use Rattle.afp_serial.specs.declared.ask.Ask.TheVariants as ask
use Rattle.afp_serial.specs.declared.ask.Entry.{Entry}
use Rattle.afp_server.specs.connection.Connection.{ConnectionState, IsParted, Stands, WasServed}
use Rattle.afp_server.specs.connection.Standing.{StandsBy}
use Rattle.afp_server.specs.connection.Turn.{InTurn, places_of, all_of, shown_to}
use Rattle.afp_server.specs.doors.Served.{Drains, Grows}
use Rattle.afp_server.specs.doors.lemma.Next.{Leaves}
use Rattle.afp_server.specs.link.Progress.{Start, point}
use Rattle.afp_server.specs.declared.connection.standing.Standing.{Standing}
use Rattle.afp_server.specs.declared.connection.standing.Standing.TheVariants as stands
use Rattle.afp_server.specs.declared.doors.door.WorkerEnd.{WorkerEnd}
use Rattle.afp_server.specs.declared.doors.door.WorkerEnd.TheVariants as ends
use Rattle.afp_server.specs.declared.link.serve.LinkEnd.{LinkEnd}
use Rattle.afp_server.proofs.OfConnection.Places.{one_links_places}
use Rattle.afp_server.proofs.OfConnection.Turning.{others-leave}
use Rattle.afp_server.proofs.OfDoors.Growing.{grows-none, grows-went, grows-join}
use Rattle.afp_server_table.specs.AtOnce.{IsOneOf, ServedAtOnce, ServedInTurns, ServesPoll}
use Rattle.afp_server_table.specs.lemma.Links.{DoorAt, EachBelow, IsServing, LinksStand, SeatState, seat_at}
use Rattle.afp_server_table.proofs.Numbers.{one_of-more, one_of-last, one_of-cases, differ-more, below-more, below-append, below-all, below-new, each-known, no-places, zip-on, zip-more, none-some, same-some, none-at}
use Rattle.afp_server_table.proofs.Served.{served-stays, served-whole}

module _ {T : Type 0} where
  -- one that is in the table after another value was put under a key
  seat-put : (old new : Slab T) (key other : ℕ) (put x : T) → Updates old new key (Some put) → get new other ≡ Some x → ((other ≡ key) × (x ≡ put)) ⊎ ((other ≢ key) × (get old other ≡ Some x))
  seat-put old new key other put x u g = by_cases (cases_eq other key)
    where
      by_cases : (other ≡ key) ⊎ (other ≢ key) → ((other ≡ key) × (x ≡ put)) ⊎ ((other ≢ key) × (get old other ≡ Some x))
      by_cases (inl e) = inl (e, same-some x put (get new other) g (ap (get new) e ∙ u.changed))
      by_cases (inr d) = inr (d, sym (u.others other d) ∙ g)

  -- one that is in the table after a key was cleared
  seat-left : (old new : Slab T) (key other : ℕ) (x : T) → Updates old new key None → get new other ≡ Some x → (other ≢ key) × (get old other ≡ Some x)
  seat-left old new key other x u g = by_cases (cases_eq other key)
    where
      by_cases : (other ≡ key) ⊎ (other ≢ key) → (other ≢ key) × (get old other ≡ Some x)
      by_cases (inl e) = absurd (none-some x (get new other) g (ap (get new) e ∙ u.changed))
      by_cases (inr d) = (d, sym (u.others other d) ∙ g)

new-places : (b c : Shown) (here goes : Start → Shown → Type 0) → (t : InTurn b c here goes) → t.places ≡ t.went.places
new-places b c here goes t = append_cancel_left b.mine t.places t.went.places (sym t.mine ∙ t.went.mine)

turn-grows : (a b c : Shown) (places : List ℕ) (here goes : Start → Shown → Type 0) → Grows a places b → (t : InTurn b c here goes) → Grows a (places ++ t.places) c
turn-grows a b c places here goes g t =
    subst (λ (l : List ℕ). Grows a (places ++ l) c) (sym (new-places b c here goes t)) (grows-join a b c places t.went.places g (grows-went b c t.steps t.went))

module _ {L A : Type 0} (state : L → LinkState) (passed : A → Passed) (house : Household) (turns : ℕ) where
  -- those that were handed back stay served in another link's turn
  turn-served : (a b c : Shown) (between : List Entry) (n : ℕ) (owners places new numbers : List ℕ) (links : List L) → c.history ≡ b.history ++ between → length owners ≡ length places → Rising (length a.history) places (length b.history)
      → (IsOneOf n numbers → ⊥) → AllZip (λ m link. ServedInTurns state passed house turns a.start b.history link (places_of m owners places)) numbers links
      → AllZip (λ m link. ServedInTurns state passed house turns a.start c.history link (places_of m (owners ++ all_of n new) (places ++ new))) numbers links
  turn-served a b c between n owners places new numbers links history each rising fresh served =
      let p = one_links_places n owners places new each in
      zip-on _ _ numbers links
      (λ m link at s.
      subst (λ (ks : List ℕ). ServedInTurns state passed house turns a.start c.history link ks) (sym (p.2 m (λ e. fresh (subst (λ (k : ℕ). IsOneOf k numbers) e at))))
      (subst (λ (h : List Entry). ServedInTurns state passed house turns a.start h link (places_of m owners places)) (sym history)
      (served-stays state passed house turns a.start b.history between (length a.history) link (places_of m owners places) (p.3 (length a.history) (length b.history) m rising) s)))
      served

  -- one stands in another link's turn
  turn-other : (block : List ℕ) (b c : Shown) (steps : List Step) (n : ℕ) (owners places new : List ℕ) (seat : SeatState L A) → length owners ≡ length places → Went b steps c → seat.number ≢ n
      → IsServing state passed block turns owners places b seat → IsServing state passed block turns (owners ++ all_of n new) (places ++ new) c seat
  turn-other block b c steps n owners places new seat each w d s =
      let p = one_links_places n owners places new each in
      let o = seat.connection in (
        s.0,
        s.1,
        s.2,
        (
          s.3.0,
          subst (λ (ks : List ℕ). StandsBy s.0 o.cost o.standing (point o.held o.stage o.requests (state o.link) (shown_to ks c) (passed o.log))) (sym (p.2 seat.number d))
              (others-leave s.0 o.cost o.standing o.held o.stage o.requests (state o.link) (passed o.log) (places_of seat.number owners places) b c steps w s.3.1),
        ),
      )

  module _ (old : DoorState L) (a : Shown) where
    pub stand-none : (slots : List (Option (SeatState L A))) (count : ℕ) → slots ≡ [] → count ≡ 0 → old.closed ≡ false → LinksStand state passed house turns old a None slots count old a
    stand-none slots count none begun open_still =
        subst (λ (l : List (Option (SeatState L A))). LinksStand state passed house turns old a None l count old a) (sym none)
        record {
          owners = [];
          places = [];
          numbers = [];
          links = [];
          grows = grows-none a;
          each = refl;
          owned = tt;
          differ = tt;
          ended = tt;
          served = tt;
          known = λ n l. absurd (omega (arith, l, begun));
          taken = λ key seat g. absurd (none-some seat None g refl);
          alive = λ key seat g at. none-some seat None g refl;
          apart = λ key other seat one g h e. absurd (none-some seat None g refl);
          serving = λ key seat g. absurd (none-some seat None g refl);
          handed = omega arith;
          back = sym (append-nil old.back);
          door = (open_still, refl);
        }

    -- a link has a turn, and goes on
    pub stand-turn : (end : Option WorkerEnd) (slots next : Slab (SeatState L A)) (count key : ℕ) (seat after : SeatState L A) (door : DoorState L) (b c : Shown) → get slots key ≡ Some seat → after.number ≡ seat.number
        → Updates slots next key (Some after) → slab_len next ≡ slab_len slots
        → InTurn b c (Stands state passed (status_block house) turns seat.connection) (Stands state passed (status_block house) turns after.connection)
        → LinksStand state passed house turns old a end slots.slots count door b → LinksStand state passed house turns old a end next.slots count door c
    stand-turn end slots next count key seat after door b c g same u len t s = record {
      owners = s.owners ++ all_of seat.number t.places;
      places = s.places ++ t.places;
      numbers = s.numbers;
      links = s.links;
      grows = turn-grows a b c s.places _ _ s.grows t;
      each = (one_links_places seat.number s.owners s.places t.places s.each).0;
      owned = below-append count s.owners (all_of seat.number t.places) s.owned (below-all count seat.number t.places (s.taken key seat g));
      differ = s.differ;
      ended = s.ended;
      served = turn-served a b c t.went.between seat.number s.owners s.places t.places s.numbers s.links t.went.history s.each s.grows.within (s.alive key seat g) s.served;
      known = λ n l. knows n (s.known n l);
      taken = λ k x h. let w = was k x h in let l = s.taken k w.0 w.1 in subst (λ (n : ℕ). n < count) w.2 l;
      alive = λ k x h at. let w = was k x h in s.alive k w.0 w.1 (subst (λ (n : ℕ). IsOneOf n s.numbers) (sym w.2) at);
      apart = λ k j x y h i e. let w = was k x h in let v = was j y i in s.apart k j w.0 v.0 w.1 v.1 (w.2 ∙ e ∙ sym v.2);
      serving = λ k x h. serves k x h (seat-put slots next key k after x u h);
      handed = s.handed ∙ ap (λ (n : ℕ). old.handed + length s.links + n) (sym len);
      back = s.back;
      door = s.door;
    }
      where
        was : (k : ℕ) (x : SeatState L A) → get next k ≡ Some x → (y : SeatState L A) × (get slots k ≡ Some y) × (y.number ≡ x.number)
        was k x h = by_cases (seat-put slots next key k after x u h)
          where
            by_cases : ((k ≡ key) × (x ≡ after)) ⊎ ((k ≢ key) × (get slots k ≡ Some x)) → (y : SeatState L A) × (get slots k ≡ Some y) × (y.number ≡ x.number)
            by_cases (inl e) = (seat, ap (get slots) e.0 ∙ g, sym same ∙ ap (λ (y : SeatState L A). y.number) (sym e.1))
            by_cases (inr d) = (x, d.1, refl)

        knows : (n : ℕ) → IsOneOf n s.numbers ⊎ ((k : ℕ) × (x : SeatState L A) × (get slots k ≡ Some x) × (x.number ≡ n)) → IsOneOf n s.numbers ⊎ ((k : ℕ) × (x : SeatState L A) × (get next k ≡ Some x) × (x.number ≡ n))
        knows n (inl at) = inl at
        knows n (inr w) = inr (by_cases (cases_eq w.0 key))
          where
            by_cases : (w.0 ≡ key) ⊎ (w.0 ≢ key) → (k : ℕ) × (x : SeatState L A) × (get next k ≡ Some x) × (x.number ≡ n)
            by_cases (inl e) = (key, after, u.changed, same ∙ ap (λ (y : SeatState L A). y.number) (same-some seat w.1 (get slots key) g (ap (get slots) (sym e) ∙ w.2)) ∙ w.3)
            by_cases (inr d) = (w.0, w.1, u.others w.0 d ∙ w.2, w.3)

        own-turn : IsServing state passed (status_block house) turns (s.owners ++ all_of seat.number t.places) (s.places ++ t.places) c after
        own-turn =
            let v = s.serving key seat g in (
              v.0,
              v.1,
              v.2,
              subst (λ (ks : List ℕ). Stands state passed (status_block house) turns after.connection v.0 (shown_to ks c))
                  (sym (ap (λ (n : ℕ). places_of n (s.owners ++ all_of seat.number t.places) (s.places ++ t.places)) same ∙ (one_links_places seat.number s.owners s.places t.places s.each).1))
                  (t.comes v.0 (places_of seat.number s.owners s.places) v.3),
            )

        serves : (k : ℕ) (x : SeatState L A) → get next k ≡ Some x → ((k ≡ key) × (x ≡ after)) ⊎ ((k ≢ key) × (get slots k ≡ Some x))
            → IsServing state passed (status_block house) turns (s.owners ++ all_of seat.number t.places) (s.places ++ t.places) c x
        serves k x h (inl e) = subst (λ (y : SeatState L A). IsServing state passed (status_block house) turns (s.owners ++ all_of seat.number t.places) (s.places ++ t.places) c y) (sym e.1) own-turn
        serves k x h (inr d) =
            turn-other (status_block house) b c t.steps seat.number s.owners s.places t.places x s.each t.went (λ e. d.0 (s.apart k key x seat d.1 g e)) (s.serving k x d.1)

    -- a link has its last turn, and is handed back
    pub stand-part : (end : Option WorkerEnd) (slots next : Slab (SeatState L A)) (count key : ℕ) (seat : SeatState L A) (standing : Standing) (answer : LinkEnd) (link : L) (log : A) (door new : DoorState L) (b c : Shown) → get slots key ≡ Some seat
        → Updates slots next key None → slab_len next + 1 ≡ slab_len slots → standing ≡ stands.Over answer → TakesBack door link new
        → InTurn b c (Stands state passed (status_block house) turns seat.connection) (λ start shown. IsParted passed start standing (state link) log shown)
        → LinksStand state passed house turns old a end slots.slots count door b → LinksStand state passed house turns old a end next.slots count new c
    stand-part end slots next count key seat standing answer link log door new b c g u len over back t s = record {
      owners = s.owners ++ all_of seat.number t.places;
      places = s.places ++ t.places;
      numbers = s.numbers ++ seat.number ∷ [];
      links = s.links ++ link ∷ [];
      grows = grown;
      each = (one_links_places seat.number s.owners s.places t.places s.each).0;
      owned = below-append count s.owners (all_of seat.number t.places) s.owned (below-all count seat.number t.places (s.taken key seat g));
      differ = differ-more s.numbers seat.number s.differ (s.alive key seat g);
      ended = below-append count s.numbers (seat.number ∷ []) s.ended (s.taken key seat g, tt);
      served = zip-more _ s.numbers s.links seat.number link
          (turn-served a b c t.went.between seat.number s.owners s.places t.places s.numbers s.links t.went.history s.each s.grows.within (s.alive key seat g) s.served) last;
      known = λ n l. knows n (s.known n l);
      taken = λ k x h. s.taken k x (seat-left slots next key k x u h).1;
      alive = λ k x h at. let w = seat-left slots next key k x u h in lives k x w.0 w.1 (one_of-cases x.number s.numbers seat.number at);
      apart = λ k j x y h i e. s.apart k j x y (seat-left slots next key k x u h).1 (seat-left slots next key j y u i).1 e;
      serving = λ k x h.
          let w = seat-left slots next key k x u h in
          turn-other (status_block house) b c t.steps seat.number s.owners s.places t.places x s.each t.went (λ e. w.0 (s.apart k key x seat w.1 g e)) (s.serving k x w.1);
      handed = omega (arith, back.handed, s.handed, len, length-append s.links (link ∷ []));
      back = back.back ∙ ap (λ (l : List L). l ++ link ∷ []) s.back ∙ append_assoc old.back s.links (link ∷ []);
      door = door-back end s.door;
    }
      where
        grown : Grows a (s.places ++ t.places) c
        grown = turn-grows a b c s.places _ _ s.grows t

        last : ServedInTurns state passed house turns a.start c.history link (places_of seat.number (s.owners ++ all_of seat.number t.places) (s.places ++ t.places))
        last =
            let v = s.serving key seat g in
            let ks = places_of seat.number s.owners s.places ++ t.places in
            subst (λ (l : List ℕ). ServedInTurns state passed house turns a.start c.history link l) (sym (one_links_places seat.number s.owners s.places t.places s.each).1)
            (served-whole state passed house turns a.start c v.0 link log answer ks grown.start v.3.0.0 v.3.0.1 v.1 v.2
            (subst (λ (x : Standing). IsParted passed v.0 x (state link) log (shown_to ks c)) over (t.comes v.0 (places_of seat.number s.owners s.places) v.3)))

        knows : (n : ℕ) → IsOneOf n s.numbers ⊎ ((k : ℕ) × (x : SeatState L A) × (get slots k ≡ Some x) × (x.number ≡ n))
            → IsOneOf n (s.numbers ++ seat.number ∷ []) ⊎ ((k : ℕ) × (x : SeatState L A) × (get next k ≡ Some x) × (x.number ≡ n))
        knows n (inl at) = inl (one_of-more n s.numbers seat.number at)
        knows n (inr w) = by_cases (cases_eq w.0 key)
          where
            by_cases : (w.0 ≡ key) ⊎ (w.0 ≢ key) → IsOneOf n (s.numbers ++ seat.number ∷ []) ⊎ ((k : ℕ) × (x : SeatState L A) × (get next k ≡ Some x) × (x.number ≡ n))
            by_cases (inl e) = inl (subst (λ (m : ℕ). IsOneOf m (s.numbers ++ seat.number ∷ []))
                (ap (λ (y : SeatState L A). y.number) (same-some seat w.1 (get slots key) g (ap (get slots) (sym e) ∙ w.2)) ∙ w.3) (one_of-last s.numbers seat.number))
            by_cases (inr d) = inr (w.0, w.1, u.others w.0 d ∙ w.2, w.3)

        lives : (k : ℕ) (x : SeatState L A) → k ≢ key → get slots k ≡ Some x → IsOneOf x.number s.numbers ⊎ (x.number ≡ seat.number) → ⊥
        lives k x d h (inl at) = s.alive k x h at
        lives k x d h (inr e) = d (s.apart k key x seat h g e)

        door-back : (e : Option WorkerEnd) → DoorAt old e door → DoorAt old e new
        door-back None d = (back.closed ∙ d.0, back.faults ∙ d.1)
        door-back (Some ends.Closed) d = (back.closed ∙ d.0, back.faults ∙ d.1)
        door-back (Some ends.Failed) d = (back.closed ∙ d.0, subst (λ (n : ℕ). CountsOn 1 old.faults n) (sym back.faults) d.1)
        door-back (Some ends.Memory) d = absurd d

    -- a link is taken
    pub stand-take : (slots next : Slab (SeatState L A)) (count key : ℕ) (seat : SeatState L A) (link : L) (door new : DoorState L) (b : Shown) → get slots key ≡ None → Updates slots next key (Some seat) → slab_len next ≡ slab_len slots + 1
        → seat.number ≡ count → HandsOut state door link new
        → Stands state passed (status_block house) turns seat.connection (record { block = status_block house; turns = turns; link = state link; shown = shown_to [] b }) (shown_to [] b)
        → LinksStand state passed house turns old a None slots.slots count door b → LinksStand state passed house turns old a None next.slots (count + 1) new b
    stand-take slots next count key seat link door new b g u len number hands begins s = record {
      owners = s.owners;
      places = s.places;
      numbers = s.numbers;
      links = s.links;
      grows = s.grows;
      each = s.each;
      owned = below-more count (count + 1) s.owners (omega arith) s.owned;
      differ = s.differ;
      ended = below-more count (count + 1) s.numbers (omega arith) s.ended;
      served = s.served;
      known = λ n l. knows n l (cases_eq n count);
      taken = λ k x h. takes k x (seat-put slots next key k seat x u h);
      alive = λ k x h at. lives k x at (seat-put slots next key k seat x u h);
      apart = λ k j x y h i e. parts k j x y e (seat-put slots next key k seat x u h) (seat-put slots next key j seat y u i);
      serving = λ k x h. serves k x (seat-put slots next key k seat x u h);
      handed = omega (arith, hands.handed, s.handed, len);
      back = hands.back ∙ s.back;
      door = (hands.closed ∙ s.door.0, hands.faults ∙ s.door.1);
    }
      where
        knows : (n : ℕ) → n < count + 1 → (n ≡ count) ⊎ (n ≢ count) → IsOneOf n s.numbers ⊎ ((k : ℕ) × (x : SeatState L A) × (get next k ≡ Some x) × (x.number ≡ n))
        knows n l (inl e) = inr (key, seat, u.changed, number ∙ sym e)
        knows n l (inr d) = by_cases (s.known n (omega (arith, l, d)))
          where
            by_cases : IsOneOf n s.numbers ⊎ ((k : ℕ) × (x : SeatState L A) × (get slots k ≡ Some x) × (x.number ≡ n)) → IsOneOf n s.numbers ⊎ ((k : ℕ) × (x : SeatState L A) × (get next k ≡ Some x) × (x.number ≡ n))
            by_cases (inl at) = inl at
            by_cases (inr w) = inr (w.0, w.1, u.others w.0 (λ e. none-some w.1 (get slots w.0) w.2 (ap (get slots) e ∙ g)) ∙ w.2, w.3)

        takes : (k : ℕ) (x : SeatState L A) → ((k ≡ key) × (x ≡ seat)) ⊎ ((k ≢ key) × (get slots k ≡ Some x)) → x.number < count + 1
        takes k x (inl e) = let f = ap (λ (y : SeatState L A). y.number) e.1 in omega (arith, f, number)
        takes k x (inr d) = let l = s.taken k x d.1 in omega (arith, l)

        lives : (k : ℕ) (x : SeatState L A) → IsOneOf x.number s.numbers → ((k ≡ key) × (x ≡ seat)) ⊎ ((k ≢ key) × (get slots k ≡ Some x)) → ⊥
        lives k x at (inl e) = below-new count s.numbers s.ended (subst (λ (n : ℕ). IsOneOf n s.numbers) (ap (λ (y : SeatState L A). y.number) e.1 ∙ number) at)
        lives k x at (inr d) = s.alive k x d.1 at

        parts : (k j : ℕ) (x y : SeatState L A) → x.number ≡ y.number → ((k ≡ key) × (x ≡ seat)) ⊎ ((k ≢ key) × (get slots k ≡ Some x)) → ((j ≡ key) × (y ≡ seat)) ⊎ ((j ≢ key) × (get slots j ≡ Some y)) → k ≡ j
        parts k j x y same (inl e) (inl f) = e.0 ∙ sym f.0
        parts k j x y same (inl e) (inr f) =
            let l = s.taken j y f.1 in
            let n = ap (λ (z : SeatState L A). z.number) e.1 in absurd (omega (arith, l, n, same, number))
        parts k j x y same (inr e) (inl f) =
            let l = s.taken k x e.1 in
            let n = ap (λ (z : SeatState L A). z.number) f.1 in absurd (omega (arith, l, n, same, number))
        parts k j x y same (inr e) (inr f) = s.apart k j x y e.1 f.1 same

        own-turn : IsServing state passed (status_block house) turns s.owners s.places b seat
        own-turn = (
          record { block = status_block house; turns = turns; link = state link; shown = shown_to [] b },
          hands.fresh,
          refl,
          subst (λ (ks : List ℕ). Stands state passed (status_block house) turns seat.connection (record { block = status_block house; turns = turns; link = state link; shown = shown_to [] b }) (shown_to ks b))
              (sym (ap (λ (n : ℕ). places_of n s.owners s.places) number ∙ no-places count s.owners s.places s.owned)) begins,
        )

        serves : (k : ℕ) (x : SeatState L A) → ((k ≡ key) × (x ≡ seat)) ⊎ ((k ≢ key) × (get slots k ≡ Some x)) → IsServing state passed (status_block house) turns s.owners s.places b x
        serves k x (inl e) = subst (λ (y : SeatState L A). IsServing state passed (status_block house) turns s.owners s.places b y) (sym e.1) own-turn
        serves k x (inr d) = s.serving k x d.1

    -- the door goes on, and nothing else
    stand-door : (end : Option WorkerEnd) (slots : List (Option (SeatState L A))) (count : ℕ) (door new : DoorState L) (b : Shown) → new.handed ≡ door.handed → new.back ≡ door.back → DoorAt old end new
        → LinksStand state passed house turns old a None slots count door b → LinksStand state passed house turns old a end slots count new b
    stand-door end slots count door new b handed back at s = record {
      owners = s.owners;
      places = s.places;
      numbers = s.numbers;
      links = s.links;
      grows = s.grows;
      each = s.each;
      owned = s.owned;
      differ = s.differ;
      ended = s.ended;
      served = s.served;
      known = s.known;
      taken = s.taken;
      alive = s.alive;
      apart = s.apart;
      serving = s.serving;
      handed = handed ∙ s.handed;
      back = back ∙ s.back;
      door = at;
    }

    pub stand-closed : (slots : List (Option (SeatState L A))) (count : ℕ) (door new : DoorState L) (b : Shown) → Closes door new → LinksStand state passed house turns old a None slots count door b
        → LinksStand state passed house turns old a (Some ends.Closed) slots count new b
    stand-closed slots count door new b d s = stand-door (Some ends.Closed) slots count door new b d.handed d.back (d.closed, d.faults ∙ s.door.1) s

    pub stand-failed : (slots : List (Option (SeatState L A))) (count : ℕ) (door new : DoorState L) (b : Shown) → FailsToAccept door new → LinksStand state passed house turns old a None slots count door b
        → LinksStand state passed house turns old a (Some ends.Failed) slots count new b
    stand-failed slots count door new b d s =
        stand-door (Some ends.Failed) slots count door new b d.handed d.back (d.closed ∙ s.door.0, subst (λ (n : ℕ). CountsOn 1 n new.faults) s.door.1 d.faults) s

    -- none is left in the table
    served-at-once : (end : Option WorkerEnd) (slots : List (Option (SeatState L A))) (count : ℕ) (door : DoorState L) (b c : Shown) (between : List Entry) → count_by is_some slots ≡ 0 → c.history ≡ b.history ++ between
        → (s : LinksStand state passed house turns old a end slots count door b) → ServedAtOnce state passed house turns a.start c.history s.links s.places
    served-at-once end slots count door b c between none history s = record {
      numbers = s.numbers;
      differ = s.differ;
      owners = s.owners;
      each = s.each;
      owned = each-known count s.owners s.numbers s.owned (λ n l. by_cases n (s.known n l));
      served = zip-on _ _ s.numbers s.links
          (λ m link at one.
          subst (λ (h : List Entry). ServedInTurns state passed house turns a.start h link (places_of m s.owners s.places)) (sym history)
          (served-stays state passed house turns a.start b.history between (length a.history) link (places_of m s.owners s.places)
          ((one_links_places m s.owners s.places [] s.each).3 (length a.history) (length b.history) m s.grows.within) one))
          s.served;
    }
      where
        by_cases : (n : ℕ) → IsOneOf n s.numbers ⊎ ((k : ℕ) × (x : SeatState L A) × (seat_at slots k ≡ Some x) × (x.number ≡ n)) → IsOneOf n s.numbers
        by_cases n (inl at) = at
        by_cases n (inr w) = absurd (none-some w.1 (seat_at slots w.0) w.2 (none-at slots w.0 none))

    pub ends-by : (end : WorkerEnd) (slots : List (Option (SeatState L A))) (count : ℕ) (door : DoorState L) (b c : Shown) → count_by is_some slots ≡ 0 → Leaves end b c
        → LinksStand state passed house turns old a (Some end) slots count door b → (places : List ℕ) × Grows a places c × ServesPoll state passed house turns a.start c.history old places end door
    ends-by ends.Closed slots count door b c none drains s =
        let w = drains.1 in (
          s.places ++ w.places,
          grows-join a b c s.places w.places s.grows (grows-went b c _ w),
          record {
            links = s.links;
            own_places = s.places;
            drain = w.places;
            all = refl;
            served = served-at-once (Some ends.Closed) slots count door b c w.between none w.history s;
            drained = record { answer = drains.0; told = ap (λ (x : World). steps_of (own x c.history w.places)) (sym s.grows.start) ∙ w.told };
            handed = s.handed ∙ ap (λ (n : ℕ). old.handed + length s.links + n) none ∙ omega arith;
            back = s.back;
            closed = s.door.0;
            faults = s.door.1;
          },
        )
    ends-by ends.Failed slots count door b c none same s = (
      s.places,
      subst (λ (x : Shown). Grows a s.places x) (sym same) s.grows,
      record {
        links = s.links;
        served = served-at-once (Some ends.Failed) slots count door b c [] none (ap (λ (x : Shown). x.history) same ∙ sym (append-nil b.history)) s;
        handed = s.handed ∙ ap (λ (n : ℕ). old.handed + length s.links + n) none ∙ omega arith;
        back = s.back;
        closed = s.door.0;
        fault = s.door.1;
      },
    )
    ends-by ends.Memory slots count door b c none same s = absurd s.door

    pub ends-where : (at : Option WorkerEnd) (end : WorkerEnd) (slots : List (Option (SeatState L A))) (count : ℕ) (door : DoorState L) (b c : Shown) → (at ≡ Some end) × (count_by is_some slots ≡ 0) → Leaves end b c
        → LinksStand state passed house turns old a at slots count door b → (places : List ℕ) × Grows a places c × ServesPoll state passed house turns a.start c.history old places end door
    ends-where at end slots count door b c over leaves s =
        ends-by end slots count door b c over.1 leaves (subst (λ (e : Option WorkerEnd). LinksStand state passed house turns old a e slots count door b) over.0 s)

    pub stand-door-at : (end : Option WorkerEnd) (slots : List (Option (SeatState L A))) (count : ℕ) (door new : DoorState L) (b : Shown) → new ≡ door → LinksStand state passed house turns old a end slots count door b
        → LinksStand state passed house turns old a end slots count new b
    stand-door-at end slots count door new b same s = subst (λ (d : DoorState L). LinksStand state passed house turns old a end slots count d b) (sym same) s
