-- Serving a house over keepers, from serving its core.
use Rattle.std.proofs.Common.{◌≡◌, ◌∙◌, ap, sym, refl, subst, ℕ, zero, suc, ◌<◌, Bool, true, inl, inr, List, [], ◌∷◌, length, map, Some, arith}
use Rattle.std.specs.Prelude.{IfSome, Option, None, slice_get, sum}
use Rattle.std.specs.List.{list_all}
use Rattle.std.proofs.lemmas.Bool.{and_from, and_parts}
use Rattle.std.proofs.lemmas.List.{length-map}
use Rattle.std.proofs.lemmas.Option.{same_Some}
use Rattle.afp_core.specs.turns.Loads.{IsLoadedServer}
use Rattle.afp_core.specs.keepers.Loads.{LoadEach}
use Rattle.afp_core.specs.turns.ServerState.{ServerState}
use Rattle.afp_core.specs.turns.Sureness.{AreSure, SureKept}
use Rattle.afp_desk.specs.desk.StandsFor.{StandsFor}
use Rattle.afp_desk.specs.declared.desk.desk.Trace.{Trace}
use Rattle.afp_outside.specs.ends.Gate.{Passed}
use Rattle.afp_outside.specs.ends.Link.{LinkState}
use Rattle.afp_outside.specs.ends.Listener.{DoorState}
use Rattle.afp_serial.specs.Household.{Household}
use Rattle.afp_serial.specs.World.{World}
use Rattle.afp_core_state.specs.Holding.{HoldEach}
use Rattle.afp_server.specs.declared.doors.door.WorkerEnd.{WorkerEnd}
use Rattle.afp_server.specs.declared.doors.door.WorkerEnd.TheVariants as ends
use Rattle.afp_desk.specs.workers.House.{ServesHouse, ended_of, history_of}
use Rattle.afp_desk.specs.workers.Keeping.{Keeping, steady_in}
use Rattle.afp_desk.specs.declared.workers.house.Closing.{Closing}
use Rattle.volume_keeper.specs.kept.Kept.{KeptState}
use Rattle.afpd_lib.proofs.OfServer.OneHouse.{one_house, one_workers}
use Rattle.afpd_lib.specs.server.AskedHouse.{Asks, house_of}
use Rattle.afpd_lib.specs.server.Run.{ComesBack, EndsRun, ServesAll, ServesNone}
use Rattle.afpd_lib.specs.server.lemma.Run.{EndsCore, EndsHouse, EndsUnread, ServesLoaded, end_of}
use Rattle.afpd_lib.specs.words.Words.{SaysWords, WordValues}
use Rattle.afpd_lib.specs.declared.server.ends.RunEnd.{RunEnd}
use Rattle.afpd_lib.specs.declared.server.ends.RunEnd.TheVariants as run

-- where all are sure, no count has moved
all-stand : (sure : List Bool) (xs ys : List ℕ) → length ys ≡ length xs → length sure ≡ length xs → list_all (λ b. b) sure ≡ true
    → ((index : ℕ) → slice_get sure index ≡ Some true → slice_get ys index ≡ slice_get xs index) → ys ≡ xs
all-stand sure [] [] many same all stand = refl
all-stand sure [] (y ∷ ys) many same all stand = absurd (omega (arith, many))
all-stand sure (x ∷ xs) [] many same all stand = absurd (omega (arith, many))
all-stand [] (x ∷ xs) (y ∷ ys) many same all stand = absurd (omega (arith, same))
all-stand (s ∷ sure) (x ∷ xs) (y ∷ ys) many same all stand =
    let both = and_parts s (list_all (λ b. b) sure) all in
    let first = same_Some y x (stand 0 (ap Some both.0)) in
    let rest = all-stand sure xs ys (omega (arith, many)) (omega (arith, same)) both.1 (λ index h. stand (suc index) h) in
    λ i. first i ∷ rest i

module _ {K : Type 0} (kept_by : Keeping K) (now : ℕ) where
  all-kept : (names : List (List ℕ)) (keepers : List K) (kept : List KeptState) → LoadEach (steady_in kept_by) kept_by.sure kept_by.faults now names keepers kept → list_all kept_by.sure keepers ≡ true
      → list_all (λ b. b) (map (λ k. k.sure) kept) ≡ true
  all-kept [] [] [] loads all = refl
  all-kept [] [] (one ∷ kept) loads all = absurd loads
  all-kept [] (keeper ∷ keepers) kept loads all = absurd loads
  all-kept (name ∷ names) [] kept loads all = absurd loads
  all-kept (name ∷ names) (keeper ∷ keepers) [] loads all = absurd loads
  all-kept (name ∷ names) (keeper ∷ keepers) (one ∷ kept) loads all =
      let both = and_parts (kept_by.sure keeper) (list_all kept_by.sure keepers) all in
      and_from one.sure (list_all (λ b. b) (map (λ k. k.sure) kept)) (loads.0.0.sure_is ∙ both.0) (all-kept names keepers kept loads.1 both.1)

-- volumes are loaded beside keepers that are so sure
sures-kept : {K : Type 0} (kept_by : Keeping K) (now : ℕ) (names : List (List ℕ)) (keepers : List K) (kept : List KeptState) → LoadEach (steady_in kept_by) kept_by.sure kept_by.faults now names keepers kept
    → map (λ k. k.sure) kept ≡ map kept_by.sure keepers
sures-kept kept_by now [] [] [] loads = refl
sures-kept kept_by now [] [] (one ∷ kept) loads = absurd loads
sures-kept kept_by now [] (keeper ∷ keepers) kept loads = absurd loads
sures-kept kept_by now (name ∷ names) [] kept loads = absurd loads
sures-kept kept_by now (name ∷ names) (keeper ∷ keepers) [] loads = absurd loads
sures-kept kept_by now (name ∷ names) (keeper ∷ keepers) (one ∷ kept) loads =
    let first = loads.0.0.sure_is in
    let rest = sures-kept kept_by now names keepers kept loads.1 in
    λ i. first i ∷ rest i

-- where all are, each is
each-sure : (sure : List Bool) (counts : List ℕ) → length sure ≡ length counts → list_all (λ b. b) sure ≡ true → (index : ℕ) → index < length counts → slice_get sure index ≡ Some true
each-sure [] [] many all index less = absurd (omega (arith, less))
each-sure [] (n ∷ counts) many all index less = absurd (omega (arith, many))
each-sure (s ∷ sure) [] many all index less = absurd (omega (arith, less))
each-sure (s ∷ sure) (n ∷ counts) many all zero less = ap Some (and_parts s (list_all (λ b. b) sure) all).0
each-sure (s ∷ sure) (n ∷ counts) many all (suc index) less = each-sure sure counts (omega (arith, many)) (and_parts s (list_all (λ b. b) sure) all).1 index (omega (arith, less))

module _ {K : Type 0} (kept_by : Keeping K) (house : Household) (now : ℕ) (keepers : List K) (start : ServerState) (l : IsLoadedServer (steady_in kept_by) kept_by.sure kept_by.faults house now keepers start) where
  as-many : length start.sure ≡ length start.faults
  as-many =
      let faults : start.faults ≡ map (λ k. k.faults) l.kept = ap (λ (c : ServerState). c.faults) l.start in
      let sure : start.sure ≡ map (λ k. k.sure) l.kept = ap (λ (c : ServerState). c.sure) l.start in
      ap length sure ∙ length-map l.kept (λ k. k.sure) ∙ sym (length-map l.kept (λ k. k.faults)) ∙ sym (ap length faults)

  all-start : list_all kept_by.sure keepers ≡ true → list_all (λ b. b) start.sure ≡ true
  all-start all = ap (list_all (λ b. b)) (ap (λ (c : ServerState). c.sure) l.start) ∙ all-kept kept_by now house.volumes keepers l.kept l.loaded all

  -- where all keepers are sure, a core's are
  are-sure : list_all kept_by.sure keepers ≡ true → AreSure start
  are-sure all = each-sure start.sure start.faults as-many (all-start all)

  -- and their counts stand
  stands : (done : ServerState) → SureKept start done → list_all kept_by.sure keepers ≡ true → sum done.faults ≡ sum start.faults
  stands done k all = ap sum (all-stand start.sure start.faults done.faults k.many as-many (all-start all) k.stand)

module _ {L P Y K : Type 0} (state : L → LinkState) (passed : P → Passed) (door : Y → DoorState L) (kept_by : Keeping K) (house : Household) (keepers : List K) (many turns : ℕ) (clock : Option ℕ) (doors : List Y) where
  serves-all : (now : ℕ) → IfSome clock (λ moment. now ≡ moment) → (f : Closing Y) → ServesHouse state passed door kept_by house turns now keepers doors f → ServesAll state passed door kept_by house keepers turns clock doors f
  serves-all now told f s =
      let ended : StandsFor s.start (history_of f) (ended_of f) = s.serves.serves.stands in
      record {
        now = now;
        told = told;
        serves = s;
        faultless = λ all. (ended.faultless (are-sure kept_by house now keepers s.start s.loaded all), stands kept_by house now keepers s.start s.loaded (ended_of f) ended.keepers all);
        last = s.serves.held.keepers;
        hold = subst (λ (w : World). HoldEach kept_by.records s.serves.held.keepers w.volumes) ended.world s.serves.held.hold;
        counted = s.serves.held.counted;
        so_sure = s.serves.held.so_sure ∙ ended.keepers.sure ∙ ap (λ (c : ServerState). c.sure) s.loaded.start ∙ sures-kept kept_by now house.volumes keepers s.loaded.kept s.loaded.loaded;
      }

  -- by how the workers ended
  served-ends : (f : Closing Y) (end : WorkerEnd) (trace : Option Trace) (back : List Y) → length doors ≡ many → ServesAll state passed door kept_by house keepers turns clock doors f → ComesBack f end trace back
      → EndsHouse state passed door kept_by house keepers many turns clock doors (end_of end f.counts) trace back
  served-ends f ends.Closed trace back as_many s comes = (record { many = as_many; closing = f; serves = s; comes = comes }, refl)
  served-ends f ends.Failed trace back as_many s comes = (record { many = as_many; closing = f; serves = s; comes = comes }, refl)
  served-ends f ends.Memory trace back as_many s comes = inr record { many = as_many; closing = f; serves = s; comes = comes }

  loaded-ends : (now : ℕ) → IfSome clock (λ moment. now ≡ moment) → (core : ServerState) → IsLoadedServer (steady_in kept_by) kept_by.sure kept_by.faults house now keepers core → length doors ≡ many
      → (end : RunEnd) (trace : Option Trace) (back : List Y) → ServesLoaded state passed door kept_by house core turns doors end trace back → EndsHouse state passed door kept_by house keepers many turns clock doors end trace back
  loaded-ends now told core loaded as_many end trace back s =
      subst (λ (e : RunEnd). EndsHouse state passed door kept_by house keepers many turns clock doors e trace back) (sym s.so)
      (served-ends s.closing s.closing.end trace back as_many (serves-all now told s.closing (s.serves now keepers loaded)) record { so = refl; shown = s.shown; doors = s.comes })

  no-memory : (end : RunEnd) (trace : Option Trace) (back : List Y) → ServesNone doors trace back → end ≡ run.Memory → EndsHouse state passed door kept_by house keepers many turns clock doors end trace back
  no-memory end trace back none is = subst (λ (e : RunEnd). EndsHouse state passed door kept_by house keepers many turns clock doors e trace back) (sym is) (inl none)

  pub core-ends : (now : ℕ) → IfSome clock (λ moment. now ≡ moment) → (core : ServerState) → IsLoadedServer (steady_in kept_by) kept_by.sure kept_by.faults house now keepers core → length doors ≡ many
      → (end : RunEnd) (trace : Option Trace) (back : List Y) → EndsCore state passed door kept_by house core turns doors end trace back → EndsHouse state passed door kept_by house keepers many turns clock doors end trace back
  core-ends now told core loaded as_many end trace back (inl none) = no-memory end trace back none.0 none.1
  core-ends now told core loaded as_many end trace back (inr s) = loaded-ends now told core loaded as_many end trace back s

-- the same for the words
pub words-end : {L P Y K : Type 0} → (state : L → LinkState) (passed : P → Passed) (door : Y → DoorState L) (kept_by : Keeping K) (words : List (List ℕ)) (keepers : List K) (key : List ℕ) (clock : Option ℕ) (doors : List Y) (values : WordValues) (end : RunEnd) (trace : Option Trace) (back : List Y)
    → Asks words key values → EndsHouse state passed door kept_by (house_of values key) keepers values.workers values.turns clock doors end trace back → EndsRun state passed door kept_by words keepers key clock doors end trace back
words-end state passed door kept_by words keepers key clock doors values run.Refused trace back asks e =
    (λ other others same as_many. e.0 (same ∙ ap (λ (h : Household). length h.volumes) (one_house words key other values others.words_are asks.words_are)) (as_many ∙ one_workers words other values others.words_are asks.words_are), e.1)
words-end state passed door kept_by words keepers key clock doors values (run.Helped text) trace back asks e = absurd e
words-end state passed door kept_by words keepers key clock doors values run.Memory trace back asks (inl none) = inl none
words-end state passed door kept_by words keepers key clock doors values run.Memory trace back asks (inr s) = inr record { values = values; asks = asks; many = s.many; closing = s.closing; serves = s.serves; comes = s.comes }
words-end state passed door kept_by words keepers key clock doors values (run.BadRecord index hex reason) trace back asks e = (e.0, (e.1.0, e.1.1, record { values = values; asks = asks; kept = e.1.2.kept; many = e.1.2.many; fails = e.1.2.fails }))
words-end state passed door kept_by words keepers key clock doors values (run.LoadFailed index) trace back asks e = (e.0, record { values = values; asks = asks; kept = e.1.kept; many = e.1.many; fails = e.1.fails })
words-end state passed door kept_by words keepers key clock doors values (run.DoorFailed counts) trace back asks e =
    (record { values = values; asks = asks; many = e.0.many; closing = e.0.closing; serves = e.0.serves; comes = e.0.comes }, e.1)
words-end state passed door kept_by words keepers key clock doors values (run.Served counts) trace back asks e =
    (record { values = values; asks = asks; many = e.0.many; closing = e.0.closing; serves = e.0.serves; comes = e.0.comes }, e.1)

-- the same where they say nothing
pub unread-end : {L P Y K : Type 0} → (state : L → LinkState) (passed : P → Passed) (door : Y → DoorState L) (kept_by : Keeping K) (words : List (List ℕ)) (keepers : List K) (key : List ℕ) (clock : Option ℕ) (doors : List Y) (end : RunEnd)
    → ((values : WordValues) → SaysWords words values → ⊥) → EndsUnread words end → EndsRun state passed door kept_by words keepers key clock doors end None doors
unread-end state passed door kept_by words keepers key clock doors (run.Helped text) none e = (e, λ values asks many as_many. none values asks.words_are, record { none = refl; same = refl })
unread-end state passed door kept_by words keepers key clock doors run.Refused none e = (λ values asks many as_many. none values asks.words_are, record { none = refl; same = refl })
unread-end state passed door kept_by words keepers key clock doors run.Memory none e = inl record { none = refl; same = refl }
unread-end state passed door kept_by words keepers key clock doors (run.BadRecord index hex reason) none e = absurd e
unread-end state passed door kept_by words keepers key clock doors (run.LoadFailed index) none e = absurd e
unread-end state passed door kept_by words keepers key clock doors (run.DoorFailed counts) none e = absurd e
unread-end state passed door kept_by words keepers key clock doors (run.Served counts) none e = absurd e
