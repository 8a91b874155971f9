-- Any number of doors and the one history.
use Rattle.std.proofs.Common.{◌≡◌, ℕ, zero, suc, ◌+◌, ◌<◌, ◌≤◌, true, List, [], ◌∷◌, ◌++◌, length, get_or, map, take, drop, refl, sym, ap, ◌∙◌, subst, arith, length-append}
use Rattle.std.specs.Prelude.{sum}
use mathlib.Core.Option.{some, some-ne-none, some-injective}
use lib.ListN.{get_elem?}
use Rattle.atomic_table.proofs.Lists.{at_map}
use Rattle.afp_outside.specs.ends.Gate.{Passed}
use Rattle.afp_outside.specs.ends.Link.{LinkState}
use Rattle.afp_outside.specs.ends.Listener.{DoorState}
use Rattle.afp_base.specs.Counts.{Rises}
use Rattle.afp_serial.specs.declared.ask.Entry.{Entry}
use Rattle.afp_serial.specs.World.{World}
use Rattle.afp_serial.specs.History.{is_lawful, faults_in, stand}
use Rattle.afp_serial.specs.Household.{Household}
use Rattle.afp_serial.specs.Shown.{Rising, Shown}
use Rattle.afp_serial.specs.Sound.{IsSound}
use Rattle.afp_core.specs.turns.ServerState.{ServerState}
use Rattle.record_keeper.specs.declared.keeper.Keeper.{Ghosts}
use Rattle.afp_desk.specs.declared.desk.view.View.{View}
use Rattle.afp_desk.specs.desk.StandsFor.{StandsFor}
use Rattle.afp_desk.specs.desk.Totals.{total, times}
use Rattle.afp_desk.specs.desk.Rule.{share_of, has_place, all_shares}
use Rattle.afp_desk.specs.desk.Passes.{IsFirst, IsClosed, shown}
use Rattle.afp_server.specs.doors.Served.{ServesDoor}
use Rattle.afp_server.proofs.OfDoors.Growing.{door-stays}
use Rattle.afp_desk.specs.declared.workers.worker.Worker.{Worker}
use Rattle.afp_desk.specs.declared.workers.gather.Done.{Done}
use Rattle.afp_desk.specs.workers.Workers.{Worked}
use Rattle.afp_desk.specs.workers.Gathers.{Gathered, pass_view, done_of}
use Rattle.afp_desk.specs.workers.Staffs.{Staffed, fresh, door_of}
use Rattle.afp_desk.specs.workers.Doors.{DoorServed, DoorsServed}

-- places that rise below a number rise below a greater one
rising-on : (from : ℕ) (ks : List ℕ) (n m : ℕ) → n ≤ m → Rising from ks n → Rising from ks m
rising-on from [] n m l r = omega arith
rising-on from (k ∷ ks) n m l r = (r.0, rising-on (k + 1) ks n m l r.1)

module _ {A : Type 0} where
  unmapped : {B : Type 0} (f : A → B) (xs : List A) (i : ℕ) (b : B) → get_elem? (map f xs) i ≡ some b → (a : A) × (get_elem? xs i ≡ some a) × (f a ≡ b)
  unmapped f [] i b e = absurd (some-ne-none b (sym e))
  unmapped f (x ∷ xs) zero b e = (x, refl, some-injective _ _ e)
  unmapped f (x ∷ xs) (suc i) b e = unmapped f xs i b e

  inside : (xs : List A) (i : ℕ) (a : A) → get_elem? xs i ≡ some a → i < length xs
  inside [] i a e = absurd (some-ne-none a (sym e))
  inside (x ∷ xs) zero a e = omega arith
  inside (x ∷ xs) (suc i) a e = let k = inside xs i a e in omega arith

  pub got : (xs : List A) (i : ℕ) (d : A) → i < length xs → get_elem? xs i ≡ some (get_or xs i d)
  got [] i d l = absurd (omega arith)
  got (x ∷ xs) zero d l = refl
  got (x ∷ xs) (suc i) d l = got xs i d (omega arith)

  length-of : {B : Type 0} (f : A → B) (xs : List A) → length (map f xs) ≡ length xs
  length-of f [] = refl
  length-of f (x ∷ xs) = ap suc (length-of f xs)

  -- what a slice's call wrote back into its vector
  fronts : (xs ys : List A) → take (length xs) (xs ++ ys) ≡ xs
  fronts [] ys = refl
  fronts (x ∷ xs) ys = ap (λ l. x ∷ l) (fronts xs ys)

  pub written : (n : ℕ) (new old : List A) → length new ≡ length old → n ≡ length old → take n (new ++ drop (length new) old) ≡ new
  written n new old e f = ap (λ k. take k (new ++ drop (length new) old)) (f ∙ sym e) ∙ fronts new _

  -- what holds of the images at each place
  pub each-of : {B : Type 0} (f : A → B) (P : B → Type 0) (xs : List A) → ((i : ℕ) (d : B) → i < length (map f xs) → P (get_or (map f xs) i d)) → (i : ℕ) (d : A) → i < length xs → P (f (get_or xs i d))
  each-of f P [] h i d l = absurd (omega arith)
  each-of f P (x ∷ xs) h zero d l = h 0 (f d) (omega arith)
  each-of f P (x ∷ xs) h (suc i) d l = each-of f P xs (λ j e k. h (suc j) e (omega arith)) i d (omega arith)

module _ {L P : Type 0} (state : L → LinkState) (passed : P → Passed) (house : Household) (turns : ℕ) (X Y : Type 0) (g : Ghosts X) (door : Y → DoorState L) where
  abbrev W : Type 0
  W = Worker X Y g

  abbrev mine_of : W → List ℕ
  mine_of w = w.pass.seat.me.0.mine

  total-shares : (xs ys : List W) → length ys ≡ length xs → ((i : ℕ) (d : W) → i < length xs → share_of (pass_view (get_or ys i d)) ≡ share_of (pass_view (get_or xs i d))) → total share_of (map pass_view ys) ≡ total share_of (map pass_view xs)
  total-shares [] [] e h = refl
  total-shares [] (y ∷ ys) e h = absurd (omega arith)
  total-shares (x ∷ xs) [] e h = absurd (omega arith)
  total-shares (x ∷ xs) (y ∷ ys) e h = let here = h 0 x (omega arith) in let rest = total-shares xs ys (omega arith) (λ i d l. h (suc i) d (omega arith)) in omega arith

  total-places : (k : ℕ) (xs : List W) → total (times k) (map mine_of xs) ≡ total (has_place k) (map pass_view xs)
  total-places k [] = refl
  total-places k (x ∷ xs) = ap (λ n. times k (mine_of x) + n) (total-places k xs)

  module _ (core : ServerState) (v0 v1 v2 : View) (doors : List Y) (ws ws' : List W) (first : IsFirst core v0) (st : Staffed v0 v1 (map pass_view ws)) (ds : map door_of ws ≡ doors)
      (len : length ws' ≡ length ws) (wk : (i : ℕ) (d : W) → i < length ws → Worked state passed door house turns (get_or ws i d) (get_or ws' i d)) (ga : Gathered v1 (map pass_view ws') v2) where
    pub whole-share : v2.share ≡ all_shares
    whole-share = let a = ga.shares in let b = total-shares ws ws' len (λ i d l. (wk i d l).share) in let c = st.shares in let d = first.shares in omega arith

    start0 : v2.start ≡ core
    start0 = ga.start ∙ st.start ∙ first.start

    -- each worker began with nothing of its own
    began : (i : ℕ) (w : W) → get_elem? ws i ≡ some w → shown w.pass ≡ record { start = core.world; history = []; mine = []; faults = sum core.faults }
    began i w e = st.each i (pass_view w) (at_map pass_view ws i w e) ∙ ap fresh first.shows

    partner : (i : ℕ) (w' : W) → get_elem? ws' i ≡ some w' → (w : W) × (get_elem? ws i ≡ some w) × Worked state passed door house turns w w'
    partner i w' e =
        let l : i < length ws = let k = inside ws' i w' e in omega arith in
        let same : get_or ws' i w' ≡ w' = some-injective _ _ (sym (got ws' i w' (inside ws' i w' e)) ∙ e) in
        (get_or ws i w', got ws i w' l, subst (Worked state passed door house turns (get_or ws i w')) same (wk i w' l))

    module _ (done0 done : List (Done Y)) (d0 : done0 ≡ []) (dn : done ≡ done0 ++ map done_of ws') (core' : ServerState) (history : List Entry) (sh : history ≡ v2.seen) (started ended : ServerState) (s0 : started ≡ v2.start) (s1 : ended ≡ v2.core)
        (law : is_lawful v2.start.world v2.seen ≡ true) (sound : (k : ℕ) → IsSound (stand v2.start.world (take k v2.seen))) (cl : IsClosed v2 core') where
      done-is : done ≡ map done_of ws'
      done-is = dn ∙ ap (λ (l : List (Done Y)). l ++ map done_of ws') d0

      one-door : (i : ℕ) (w' : W) → get_elem? ws' i ≡ some w' → (old : Y) × (mine : List ℕ) × (get_elem? doors i ≡ some old) × (get_elem? (map mine_of ws') i ≡ some mine)
          × DoorServed state passed door house turns core.world v2.seen old mine (done_of w')
      one-door i w' e =
          let p = partner i w' e in
          let w = p.0 in
          let b = began i w p.1 in
          let k = p.2 in
          let on = ga.each i (pass_view w') (at_map pass_view ws' i w' e) in
          let mine : (shown w'.pass).mine ≡ k.places = k.grows.mine ∙ ap (λ (x : Shown). x.mine ++ k.places) b in
          let few : length (shown w'.pass).history ≤ length v2.seen = let t = length-append (shown w'.pass).history on.0 in let e = ap length on.1 in omega arith in
          let rises : Rising 0 k.places (length (shown w'.pass).history) = subst (λ (x : Shown). Rising (length x.history) k.places (length (shown w'.pass).history)) b k.grows.within in
          let stays = door-stays state passed house turns (shown w.pass).start (shown w'.pass).history on.0 (length (shown w.pass).history) (door w.door) (door w'.door) k.places w'.end k.grows.within k.serves in (
            w.door,
            mine_of w',
            subst (λ (l : List Y). get_elem? l i ≡ some w.door) ds (at_map door_of ws i w p.1),
            at_map mine_of ws' i w' e,
            record {
              rising = subst (λ (l : List ℕ). Rising 0 l (length v2.seen)) (sym mine) (rising-on 0 k.places (length (shown w'.pass).history) (length v2.seen) few rises);
              serves = subst (λ (x : World × List Entry × List ℕ). ServesDoor state passed house turns x.0 x.1 (door w.door) x.2 w'.end (door w'.door)) (λ j. (ap (λ (y : Shown). y.start) b j, sym on.1 j, sym mine j)) stays;
            },
          )

      pub served : DoorsServed state passed door house turns core doors record { core = core'; history = history; started = started; ended = ended; done = done }
      served = record {
        places = map mine_of ws';
        traced = (s0 ∙ start0, s1 ∙ cl.same);
        lawful = subst (λ (x : ServerState × List Entry). is_lawful x.0.world x.1 ≡ true) (λ i. (start0 i, sym sh i)) law;
        sound = subst (λ (x : ServerState × List Entry). (k : ℕ) → IsSound (stand x.0.world (take k x.1))) (λ i. (start0 i, sym sh i)) sound;
        stands = subst (λ (x : ServerState × List Entry). StandsFor x.0 x.1 core') (λ i. (start0 i, sym sh i)) cl.stands;
        faults = subst (λ (x : ServerState × List Entry). Rises (faults_in x.1) (sum x.0.faults) (sum core'.faults)) (λ i. (start0 i, sym sh i)) cl.risen;
        parted = λ k l. let a = ga.places k in let none : times k v1.mine ≡ 0 = ap (λ (x : Shown). times k x.mine) (st.same ∙ first.shows) in let one = cl.all_mine k (subst (λ (h : List Entry). k < length h) sh l) in let t = total-places k ws' in omega arith;
        lists = length-of mine_of ws' ∙ len ∙ sym (length-of door_of ws) ∙ ap length ds;
        whole = ap length done-is ∙ length-of done_of ws' ∙ len ∙ sym (length-of door_of ws) ∙ ap length ds;
        each = λ i d e. let m = unmapped done_of ws' i d (subst (λ (l : List (Done Y)). get_elem? l i ≡ some d) done-is e) in let k = one-door i m.0 m.1 in
            (k.0, k.1, k.2, k.3, subst (λ (x : List Entry × Done Y). DoorServed state passed door house turns core.world x.0 k.0 k.1 x.1) (λ j. (sym sh j, m.2 j)) k.4);
      }
