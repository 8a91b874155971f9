-- Places that a teller's history went on by, and what was told there as the history goes on.
use Rattle.std.proofs.Common.{◌≡◌, ℕ, ◌+◌, ◌≤◌, List, [], ◌∷◌, ◌++◌, length, refl, sym, ap, ◌∙◌, subst, arith, append_assoc, append-nil}
use Rattle.afp_base.specs.Counts.{Rises}
use Rattle.afp_outside.specs.ends.Gate.{Passed}
use Rattle.afp_outside.specs.ends.Link.{LinkState}
use Rattle.afp_outside.specs.ends.Listener.{DoorState}
use Rattle.afp_serial.specs.History.{faults_in, own, Own}
use Rattle.afp_serial.specs.Household.{Household}
use Rattle.afp_serial.specs.Shown.{Rising, Shown}
use Rattle.afp_serial.specs.Went.{Step, steps_of, answered, Went}
use Rattle.afp_serial.specs.World.{World}
use Rattle.afp_serial.specs.declared.ask.Entry.{Entry}
use Rattle.afp_serial.proofs.Grows.{faults-append, own-stable, rises-more, rises-none, rising-bound, rising-join}
use Rattle.afp_server.specs.doors.Served.{Grows, ServedLink, Served, IsDrain, EndsClosed, EndsFailed, EndsWithoutRoom, ServesDoor}
use Rattle.afp_server.specs.declared.doors.door.WorkerEnd.{WorkerEnd}
use Rattle.afp_server.specs.declared.doors.door.WorkerEnd.TheVariants as ends

pub grows-none : (a : Shown) → Grows a [] a
grows-none a = record { between = []; start = refl; history = sym (append-nil a.history); mine = sym (append-nil a.mine); within = omega arith; faults = rises-none a.faults }

pub grows-went : (a b : Shown) (steps : List Step) (w : Went a steps b) → Grows a w.places b
grows-went a b steps w = record { between = w.between; start = w.start; history = w.history; mine = w.mine; within = w.within; faults = w.faults }

pub grows-join : (a b c : Shown) (ps qs : List ℕ) → Grows a ps b → Grows b qs c → Grows a (ps ++ qs) c
grows-join a b c ps qs v w = record {
  between = v.between ++ w.between;
  start = w.start ∙ v.start;
  history = w.history ∙ ap (λ (l : List Entry). l ++ w.between) v.history ∙ append_assoc a.history v.between w.between;
  mine = w.mine ∙ ap (λ (l : List ℕ). l ++ qs) v.mine ∙ append_assoc a.mine ps qs;
  within = rising-join (length a.history) ps (length b.history) qs (length c.history) v.within w.within;
  faults = subst (λ n. Rises n a.faults c.faults) (sym (faults-append v.between w.between)) (rises-more a.faults (faults_in v.between) b.faults (faults_in w.between) c.faults v.faults w.faults);
}

-- rising places in two parts
pub rising-first : (from : ℕ) (ps qs : List ℕ) (n : ℕ) → Rising from (ps ++ qs) n → Rising from ps n
rising-first from [] qs n r = rising-bound from qs n r
rising-first from (p ∷ ps) qs n r = (r.0, rising-first (p + 1) ps qs n r.1)

pub rising-second : (from : ℕ) (ps qs : List ℕ) (n : ℕ) → Rising from (ps ++ qs) n → Rising from qs n
rising-second from [] qs n r = r
rising-second from (p ∷ ps) qs n r = lower from (p + 1) qs n (let k = r.0 in omega arith) (rising-second (p + 1) ps qs n r.1)
  where
    lower : (low high : ℕ) (ks : List ℕ) (n : ℕ) → low ≤ high → Rising high ks n → Rising low ks n
    lower low high [] n l r = omega arith
    lower low high (k ∷ ks) n l r = (omega arith, r.1)

-- what stands at places of a history stands there as it goes on
pub told-stays : (start : World) (h x : List Entry) (from : ℕ) (ks : List ℕ) (ss : List Step) → Rising from ks (length h) → steps_of (own start h ks) ≡ ss → steps_of (own start (h ++ x) ks) ≡ ss
told-stays start h x from ks ss r e = ap steps_of (own-stable start h x from ks r) ∙ e

module _ {L P : Type 0} (state : L → LinkState) (passed : P → Passed) (house : Household) (turns : ℕ) where
  link-stays : (start : World) (h x : List Entry) (from : ℕ) (link : L) (ks : List ℕ) → Rising from ks (length h) → ServedLink state passed house turns start h link ks → ServedLink state passed house turns start (h ++ x) link ks
  link-stays start h x from link ks r s = record {
    fresh = s.fresh;
    is_fresh = s.is_fresh;
    answer = s.answer;
    steps = s.steps;
    served = s.served;
    told = told-stays start h x from ks (answered s.steps) r s.told;
    passes = s.passes;
  }

  -- the links stay served as the history goes on
  pub served-stays : (start : World) (h x : List Entry) (from : ℕ) (links : List L) (ks : List ℕ) → Rising from ks (length h) → Served state passed house turns start h links ks → Served state passed house turns start (h ++ x) links ks
  served-stays start h x from [] ks r s = s
  served-stays start h x from (link ∷ links) ks r s =
      let whole : Rising from (s.0 ++ s.1) (length h) = subst (λ (l : List ℕ). Rising from l (length h)) s.2 r in
      (s.0, s.1, s.2, link-stays start h x from link s.0 (rising-first from s.0 s.1 (length h) whole) s.3, served-stays start h x from links s.1 (rising-second from s.0 s.1 (length h) whole) s.4)

  -- one link more
  pub served-snoc : (start : World) (h : List Entry) (links : List L) (ks : List ℕ) (link : L) (js : List ℕ) → Served state passed house turns start h links ks → ServedLink state passed house turns start h link js
      → Served state passed house turns start h (links ++ link ∷ []) (ks ++ js)
  served-snoc start h [] ks link js s one = (js, [], ap (λ (l : List ℕ). l ++ js) s ∙ sym (append-nil js), one, refl)
  served-snoc start h (y ∷ ys) ks link js s one =
      (s.0, s.1 ++ js, ap (λ (l : List ℕ). l ++ js) s.2 ∙ append_assoc s.0 s.1 js, s.3, served-snoc start h ys s.1 link js s.4 one)

  -- the links of a door stay served
  pub door-stays : (start : World) (h x : List Entry) (from : ℕ) (old new : DoorState L) (ks : List ℕ) (end : WorkerEnd) → Rising from ks (length h)
      → ServesDoor state passed house turns start h old ks end new → ServesDoor state passed house turns start (h ++ x) old ks end new
  door-stays start h x from old new ks ends.Closed r d =
      let whole : Rising from (d.own_places ++ d.drain) (length h) = subst (λ (l : List ℕ). Rising from l (length h)) d.all r in
      record {
        links = d.links;
        own_places = d.own_places;
        drain = d.drain;
        all = d.all;
        served = served-stays start h x from d.links d.own_places (rising-first from d.own_places d.drain (length h) whole) d.served;
        drained = record { answer = d.drained.answer; told = told-stays start h x from d.drain _ (rising-second from d.own_places d.drain (length h) whole) d.drained.told };
        handed = d.handed;
        back = d.back;
        closed = d.closed;
        faults = d.faults;
      }
  door-stays start h x from old new ks ends.Failed r d = record {
    links = d.links;
    served = served-stays start h x from d.links ks r d.served;
    handed = d.handed;
    back = d.back;
    closed = d.closed;
    fault = d.fault;
  }
  door-stays start h x from old new ks ends.Memory r d = record {
    links = d.links;
    last = d.last;
    unread = d.unread;
    served = served-stays start h x from d.links ks r d.served;
    handed = d.handed;
    back = d.back;
    closed = d.closed;
    faults = d.faults;
  }
