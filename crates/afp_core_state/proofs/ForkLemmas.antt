-- Open forks and locks, in worlds that are ready for a turn.
use Rattle.std.proofs.Common.{◌≡◌, ◌⊎◌, inl, inr, ◌∙◌, ap, sym, refl, subst, ℕ, zero, suc, ◌==◌, ◌+◌, ◌<◌, length, arith, Bool, true, false, not, ◌&&◌, ◌||◌, cond, List, [], ◌∷◌, filter, Option, Some, None}
use Rattle.std.specs.List.{list_all}
use Rattle.std.specs.Prelude.{find, slice_get}
use Rattle.std.proofs.lemmas.Bool.{and_parts, cases_eq, eq-eqb, eqb-true, ne_eqb}
use Rattle.afp_serial.specs.Answer.{new_session}
use Rattle.afp_serial.specs.OnFork.{open_file, own_fork}
use Rattle.afp_serial.specs.World.{closing, has_opened, has_session, is_open, volume_at, without_session, World, Session, OpenFork, Lock}
use Rattle.afp_serial.specs.Sound.{has_lawful_locks, has_lawful_opens, has_volume_open, is_file_of, is_lawful_open}
use Rattle.volume_spec.specs.SoundVolume.{has_file}
use Rattle.volume_spec.specs.VolumeState.{Row, VolumeState}
use Rattle.volume_spec.specs.Walk.{row_at}
use Rattle.afp_core_state.specs.OnForks.{IsFork, IsForkAt}
use Rattle.afp_core_state.specs.KeptWorld.{KeptWorld}
use Rattle.afp_core_state.specs.lemma.KeptWorld.{forks_in, with_forks, with_sessions}
use Rattle.afp_core_state.specs.declared.on_fork.OwnFork.{OwnFork}
use Rattle.afp_core_state.proofs.KeeperLemmas.{volume_at-index}
use Rattle.afp_core_state.specs.Forks.{Forks, HasForks, left_of}
use Rattle.afp_base.proofs.ListFacts.{all-weaker, filter-all, find-all, find-passes}

-- a world has its own open forks and locks
pub has-forks : (w : World) (f : Forks) → f ≡ forks_in w → HasForks w f
has-forks w f is = record { opens = ap (λ (x : Forks). x.opens) (sym is); locks = ap (λ (x : Forks). x.locks) (sym is) }

-- what a lawful world's tests say
pub opens-stand : (w : World) → has_lawful_opens w ≡ true → list_all (is_lawful_open w) w.opens ≡ true
unfolding has_lawful_opens
opens-stand w h = (and_parts _ _ (and_parts _ _ h).1).0

pub locks-held : (w : World) → has_lawful_locks w ≡ true → list_all (λ lock. is_open w.opens lock.reference) w.locks ≡ true
unfolding has_lawful_locks
locks-held w h = (and_parts _ _ h).0

some-session : (xs : List Session) (number volume : ℕ) → has_volume_open xs number volume ≡ true → has_session xs number ≡ true
some-session [] number volume h = h
some-session (x ∷ xs) number volume h = by (x.number == number) h (some-session xs number volume)
  where
    by : (b : Bool) → ((b && has_opened x volume) || has_volume_open xs number volume) ≡ true → (has_volume_open xs number volume ≡ true → has_session xs number ≡ true) → (b || has_session xs number) ≡ true
    by true h rest = refl
    by false h rest = rest h

sessions-stand : (w : World) → has_lawful_opens w ≡ true → list_all (λ o. has_session w.sessions o.session) w.opens ≡ true
sessions-stand w h = all-weaker (is_lawful_open w) (λ (o : OpenFork). has_session w.sessions o.session) w.opens
    (λ o lawful. some-session w.sessions o.session o.fork.volume (and_parts _ _ lawful).0) (opens-stand w h)

-- tests that agree, and a test that all pass
filter-agree : {A : Type 0} (p q t : A → Bool) (xs : List A) → ((x : A) → t x ≡ true → p x ≡ q x) → list_all t xs ≡ true → filter p xs ≡ filter q xs
filter-agree p q t [] agree h = refl
filter-agree p q t (x ∷ xs) agree h =
    let both = and_parts (t x) (list_all t xs) h in
    let rest = filter-agree p q t xs agree both.1 in
    λ i. cond (agree x both.0 i) (x ∷ rest i) (rest i)

-- closing none
pub closing-none : (w : World) (stays : OpenFork → Bool) → list_all stays w.opens ≡ true → list_all (λ lock. is_open w.opens lock.reference) w.locks ≡ true → closing w stays ≡ w
closing-none w stays all held =
    let e : filter stays w.opens ≡ w.opens = filter-all stays w.opens all in
    let f : filter (λ (lock : Lock). is_open w.opens lock.reference) w.locks ≡ w.locks = filter-all (λ (lock : Lock). is_open w.opens lock.reference) w.locks held in
    (λ i. record w { opens = e i; locks = filter (λ (lock : Lock). is_open (e i) lock.reference) w.locks })
    ∙ (λ i. record w { locks = f i })

-- Where all sessions stay, their forks do.
pub staying : (w : World) (left : List Session) → left ≡ w.sessions → has_lawful_opens w ≡ true → has_lawful_locks w ≡ true
    → closing (record w { sessions = left }) (λ o. has_session left o.session) ≡ record w { sessions = left }
staying w left same opens locks =
    closing-none (record w { sessions = left }) (λ o. has_session left o.session)
    (subst (λ (xs : List Session). list_all (λ (o : OpenFork). has_session xs o.session) w.opens ≡ true) (sym same) (sessions-stand w opens)) (locks-held w locks)

-- Where one session ends, the forks of the others stay.
has-gone : (xs : List Session) (n : ℕ) → has_session (filter (λ s. not (s.number == n)) xs) n ≡ false
has-gone [] n = refl
has-gone (x ∷ xs) n = by (cases_eq x.number n) (has-gone xs n)
  where
    by : (x.number ≡ n) ⊎ (x.number ≡ n → ⊥) → has_session (filter (λ s. not (s.number == n)) xs) n ≡ false → has_session (filter (λ s. not (s.number == n)) (x ∷ xs)) n ≡ false
    by (inl same) rest = rw (eq-eqb x.number n same) rest
    by (inr ne) rest = rw (ne_eqb x.number n ne) (rw (ne_eqb x.number n ne) rest)

has-other : (xs : List Session) (n m : ℕ) → (m ≡ n → ⊥) → has_session (filter (λ s. not (s.number == n)) xs) m ≡ has_session xs m
has-other [] n m other = refl
has-other (x ∷ xs) n m other = by (cases_eq x.number n) (has-other xs n m other)
  where
    by : (x.number ≡ n) ⊎ (x.number ≡ n → ⊥) → has_session (filter (λ s. not (s.number == n)) xs) m ≡ has_session xs m → has_session (filter (λ s. not (s.number == n)) (x ∷ xs)) m ≡ has_session (x ∷ xs) m
    by (inl same) rest = rw (eq-eqb x.number n same, ne_eqb x.number m (λ q. other (sym q ∙ same))) rest
    by (inr ne) rest = rw (ne_eqb x.number n ne) (ap (λ (b : Bool). (x.number == m) || b) rest)

has-left : (xs : List Session) (n m : ℕ) → has_session xs m ≡ true → not (m == n) ≡ has_session (filter (λ s. not (s.number == n)) xs) m
has-left xs n m there = by (cases_eq m n)
  where
    by : (m ≡ n) ⊎ (m ≡ n → ⊥) → not (m == n) ≡ has_session (filter (λ s. not (s.number == n)) xs) m
    by (inl same) = rw (eq-eqb m n same) (sym (subst (λ (k : ℕ). has_session (filter (λ s. not (s.number == n)) xs) k ≡ false) (sym same) (has-gone xs n)))
    by (inr ne) = rw (ne_eqb m n ne) (sym (has-other xs n m ne ∙ there))

pub session-ends : (w : World) (n : ℕ) (sessions : List Session) (forks : Forks) → has_lawful_opens w ≡ true → sessions ≡ filter (λ s. not (s.number == n)) w.sessions
    → forks ≡ left_of (λ o. not (o.session == n)) (forks_in w) → record w { sessions = sessions; opens = forks.opens; locks = forks.locks } ≡ without_session w n
session-ends w n sessions forks lawful left closes =
    let rest : List Session = filter (λ s. not (s.number == n)) w.sessions in
    let e : filter (λ o. not (o.session == n)) w.opens ≡ filter (λ o. has_session rest o.session) w.opens =
    filter-agree (λ (o : OpenFork). not (o.session == n)) (λ (o : OpenFork). has_session rest o.session) (λ (o : OpenFork). has_session w.sessions o.session) w.opens
    (λ o there. has-left w.sessions n o.session there) (sessions-stand w lawful) in
    (λ i. record w { sessions = left i; opens = (closes i).opens; locks = (closes i).locks })
    ∙ (λ i. record w { sessions = rest; opens = e i; locks = filter (λ (lock : Lock). is_open (e i) lock.reference) w.locks })

pub end-runs : (k new : KeptWorld) (n : ℕ) (sessions : List Session) (forks : Forks) → has_lawful_opens k.world ≡ true → new ≡ with_forks (with_sessions k sessions) forks
    → sessions ≡ filter (λ s. not (s.number == n)) k.world.sessions → forks ≡ left_of (λ o. not (o.session == n)) (forks_in k.world) → new ≡ record k { world = without_session k.world n }
end-runs k new n sessions forks lawful is left closes = is ∙ ap (λ (w : World). record k { world = w }) (session-ends k.world n sessions forks lawful left closes)

-- the open fork of a reference
module _ (k : KeptWorld) (number reference : ℕ) where
  pub fork-none : ((s : Session) → s.number ≡ number → own_fork k.world s reference ≡ None) → IsFork k number reference None
  unfolding open_file
  fork-none none = λ s same. rw (none s same) refl

  pub fork-unfound : (o : OpenFork) → ((s : Session) → s.number ≡ number → own_fork k.world s reference ≡ Some o) → volume_at k.world.volumes o.fork.volume ≡ None → IsFork k number reference None
  unfolding open_file
  fork-unfound o own none = λ s same. rw (own s same, none) refl

  on-row : (o : OpenFork) (v : VolumeState) (file : Row) (s : Session) → own_fork k.world s reference ≡ Some o → volume_at k.world.volumes o.fork.volume ≡ Some v → row_at v.rows o.fork.node ≡ Some file
      → open_file k.world s reference ≡ Some (record { fork = o; volume = v; file = file })
  unfolding open_file
  on-row o v file s own there row = rw (own, there, row) refl

row-of : (rows : List Row) (node : ℕ) → has_file rows node ≡ true → (file : Row) × (row_at rows node ≡ Some file)
unfolding row_at
row-of [] node h = absurd cc
row-of (row ∷ rows) node h = by (row.id == node) h (row-of rows node)
  where
    by : (b : Bool) → ((b && not row.dir) || has_file rows node) ≡ true → (has_file rows node ≡ true → (file : Row) × (find (λ r. r.id == node) rows ≡ Some file))
        → (file : Row) × (cond b (Some row) (find (λ r. r.id == node) rows) ≡ Some file)
    by true h rest = (row, refl)
    by false h rest = rest h

pub state-in : (volumes : List VolumeState) (index : ℕ) → index < length volumes → (v : VolumeState) × (slice_get volumes index ≡ Some v)
state-in [] index within = absurd (omega (arith, within))
state-in (v ∷ volumes) zero within = (v, refl)
state-in (v ∷ volumes) (suc index) within = state-in volumes index (omega (arith, within))

pub fork-found : (k : KeptWorld) (number reference : ℕ) (o : OpenFork) (own : OwnFork) → has_lawful_opens k.world ≡ true
    → ((s : Session) → s.number ≡ number → own_fork k.world s reference ≡ Some o) → is_open k.world.opens reference ≡ true → o.fork ≡ own.fork → o.access ≡ own.mode
    → o.fork.volume ≡ own.index + 1 → own.index < length k.world.volumes → IsForkAt k number reference own
fork-found k number reference o own lawful is held fork access id within =
    let w = k.world in
    let state = state-in w.volumes own.index within in
    let there : volume_at w.volumes o.fork.volume ≡ Some state.0 = volume_at-index w.volumes o.fork.volume own.index id ∙ state.1 in
    let one = is (new_session number) refl in
    let test : OpenFork → Bool = λ x. (x.reference == reference) && (x.session == number) in
    let passes = and_parts (o.reference == reference) (o.session == number) (find-passes test w.opens o one) in
    let stands : is_lawful_open w o ≡ true = find-all test (is_lawful_open w) w.opens o one (opens-stand w lawful) in
    let file : has_file state.0.rows o.fork.node ≡ true = ap (λ (q : Option VolumeState). is_file_of q o.fork.node) (sym there) ∙ (and_parts (has_volume_open w.sessions o.session o.fork.volume) (is_file_of (volume_at w.volumes o.fork.volume) o.fork.node) stands).1 in
    let row = row-of state.0.rows o.fork.node file in
    record {
      file = record { fork = o; volume = state.0; file = row.0 };
      found = λ s same. on-row k number reference o state.0 row.0 s (is s same) there row.1;
      within = within;
      volume = state.1;
      id = ap (λ f. f.volume) (sym fork) ∙ id;
      node = ap (λ f. row_at state.0.rows f.node) (sym fork) ∙ row.1;
      is_file = ap (λ f. has_file state.0.rows f.node) (sym fork) ∙ file;
      reference_is = eqb-true o.reference reference passes.0;
      session_is = eqb-true o.session number passes.1;
      fork_is = fork;
      access_is = access;
      is_open = held;
    }
