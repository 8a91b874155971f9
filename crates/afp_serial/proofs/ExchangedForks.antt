-- Open forks whose files change their forks with one another: which fork has which bytes is turned one to one, so that opens stay lawful and apart, and locks meet as before.
use Rattle.std.proofs.Common.{◌==◌, ◌≡◌, ◌∙◌, ap, sym, refl, ℕ, ◌+◌, Bool, true, false, ◌&&◌, cond, List, [], ◌∷◌, map, Some}
use Rattle.std.specs.Prelude.{count_by, nat_le}
use Rattle.std.specs.List.{list_any}
use Rattle.std.proofs.lemmas.Bool.{and_from, and_parts, both_ways, cond_both, eq-eqb, eqb-true, false_from_ne_true}
use Rattle.std.proofs.lemmas.List.Sums.{sum_by-cons}
use Rattle.afp_base.proofs.DefinitionLaws.{one_fork}
use Rattle.afp_base.proofs.ListFacts.{all-map-where, all-weaker, any-map, any-same, apart-map, apart-weaker}
use Rattle.afp_base.specs.DenyMode.{Fork, is_clash, is_one_fork}
use Rattle.afp_base.specs.Limits.{most_forks}
use Rattle.afp_base.specs.Overlap.{do_meet}
use Rattle.afp_serial.proofs.SoundParts.{KeptLimits, LawfulLocks, LawfulOpens, do_clash, do_overlap, keeps_forks, keeps_locks, limits-parts, limits-whole, locks-parts, locks-whole, opens-parts, opens-whole, same_reference}
use Rattle.afp_serial.specs.ExchangeFiles.{in_exchange, opens_exchanged}
use Rattle.afp_serial.specs.Sound.{IsSound, has_apart_sessions, has_known_users, has_lawful_caches, has_typed_fields, has_volume_open, is_file_of, is_lawful_open, share_fork}
use Rattle.afp_serial.specs.World.{is_open, volume_at, World, OpenFork, Lock}
use Rattle.volume_spec.specs.ExchangeFiles.{Pair}

-- the fork that gets the bytes, by cases

pub exchanged-first : (volume : ℕ) (pair : Pair) (fork : Fork) → (fork.volume == volume) ≡ true → (fork.node == pair.first) ≡ true → in_exchange volume pair fork ≡ record fork { node = pair.second }
exchanged-first volume pair fork here first = λ i. cond (here i && first i) (record fork { node = pair.second }) (cond (here i && (fork.node == pair.second)) (record fork { node = pair.first }) fork)

pub exchanged-second : (volume : ℕ) (pair : Pair) (fork : Fork) → (fork.volume == volume) ≡ true → (fork.node == pair.first) ≡ false → (fork.node == pair.second) ≡ true → in_exchange volume pair fork ≡ record fork { node = pair.first }
exchanged-second volume pair fork here first second = λ i. cond (here i && first i) (record fork { node = pair.second }) (cond (here i && second i) (record fork { node = pair.first }) fork)

pub exchanged-neither : (volume : ℕ) (pair : Pair) (fork : Fork) → (fork.volume == volume) ≡ true → (fork.node == pair.first) ≡ false → (fork.node == pair.second) ≡ false → in_exchange volume pair fork ≡ fork
exchanged-neither volume pair fork here first second = λ i. cond (here i && first i) (record fork { node = pair.second }) (cond (here i && second i) (record fork { node = pair.first }) fork)

pub exchanged-elsewhere : (volume : ℕ) (pair : Pair) (fork : Fork) → (fork.volume == volume) ≡ false → in_exchange volume pair fork ≡ fork
exchanged-elsewhere volume pair fork other = λ i. cond (other i && (fork.node == pair.first)) (record fork { node = pair.second }) (cond (other i && (fork.node == pair.second)) (record fork { node = pair.first }) fork)

-- exchanged twice is as before
pub exchanged-twice : (volume : ℕ) (pair : Pair) (fork : Fork) → in_exchange volume pair (in_exchange volume pair fork) ≡ fork
exchanged-twice volume pair fork = by-volume (fork.volume == volume) refl
  where
    back : (n : ℕ) → n ≡ fork.node → record fork { node = n } ≡ fork
    back n is = ap (λ k. record fork { node = k }) is

    from-second : (fork.volume == volume) ≡ true → (fork.node == pair.first) ≡ true → (b : Bool) → (pair.second == pair.first) ≡ b → in_exchange volume pair (record fork { node = pair.second }) ≡ fork
    from-second here first true one =
        exchanged-first volume pair (record fork { node = pair.second }) here one ∙ back pair.second (eqb-true pair.second pair.first one ∙ sym (eqb-true fork.node pair.first first))
    from-second here first false two =
        exchanged-second volume pair (record fork { node = pair.second }) here two (eq-eqb pair.second pair.second refl) ∙ back pair.first (sym (eqb-true fork.node pair.first first))

    by-second : (fork.volume == volume) ≡ true → (fork.node == pair.first) ≡ false → (b : Bool) → (fork.node == pair.second) ≡ b → in_exchange volume pair (in_exchange volume pair fork) ≡ fork
    by-second here first true second =
        ap (in_exchange volume pair) (exchanged-second volume pair fork here first second)
        ∙ exchanged-first volume pair (record fork { node = pair.first }) here (eq-eqb pair.first pair.first refl)
        ∙ back pair.second (sym (eqb-true fork.node pair.second second))
    by-second here first false second = let stays = exchanged-neither volume pair fork here first second in ap (in_exchange volume pair) stays ∙ stays

    by-first : (fork.volume == volume) ≡ true → (b : Bool) → (fork.node == pair.first) ≡ b → in_exchange volume pair (in_exchange volume pair fork) ≡ fork
    by-first here true first = ap (in_exchange volume pair) (exchanged-first volume pair fork here first) ∙ from-second here first (pair.second == pair.first) refl
    by-first here false first = by-second here first (fork.node == pair.second) refl

    by-volume : (b : Bool) → (fork.volume == volume) ≡ b → in_exchange volume pair (in_exchange volume pair fork) ≡ fork
    by-volume true here = by-first here (fork.node == pair.first) refl
    by-volume false other = let stays = exchanged-elsewhere volume pair fork other in ap (in_exchange volume pair) stays ∙ stays

-- so two forks are one just where they were
pub exchanged-one : (volume : ℕ) (pair : Pair) (a b : Fork) → is_one_fork (in_exchange volume pair a) (in_exchange volume pair b) ≡ is_one_fork a b
exchanged-one volume pair a b = by (is_one_fork a b) refl
  where
    by : (t : Bool) → is_one_fork a b ≡ t → is_one_fork (in_exchange volume pair a) (in_exchange volume pair b) ≡ is_one_fork a b
    by true one = (one_fork (in_exchange volume pair a) (in_exchange volume pair b)).1 (ap (in_exchange volume pair) ((one_fork a b).0 one)) ∙ sym one
    by false two = false_from_ne_true (is_one_fork (in_exchange volume pair a) (in_exchange volume pair b)) (λ one.
        let same : a ≡ b = sym (exchanged-twice volume pair a) ∙ ap (in_exchange volume pair) ((one_fork (in_exchange volume pair a) (in_exchange volume pair b)).0 one) ∙ exchanged-twice volume pair b in
        both_ways (is_one_fork a b) two ((one_fork a b).1 same)) ∙ sym two

-- open forks

module _ (volume : ℕ) (pair : Pair) where
  abbrev turned : OpenFork → OpenFork
  turned o = record o { fork = in_exchange volume pair o.fork }

  clash-turned : (a b : OpenFork) → do_clash (turned a) (turned b) ≡ do_clash a b
  clash-turned a b = ap (λ t. t && is_clash a.access b.access) (exchanged-one volume pair a.fork b.fork)

  share-turned : (opens : List OpenFork) (m n : ℕ) → share_fork (map turned opens) m n ≡ share_fork opens m n
  share-turned opens m n =
      any-map (λ (x : OpenFork). (x.reference == m) && list_any (λ (y : OpenFork). (y.reference == n) && is_one_fork x.fork y.fork) (map turned opens)) turned opens
      ∙ any-same (λ (x : OpenFork). (x.reference == m) && list_any (λ (y : OpenFork). (y.reference == n) && is_one_fork (in_exchange volume pair x.fork) y.fork) (map turned opens))
      (λ (x : OpenFork). (x.reference == m) && list_any (λ (y : OpenFork). (y.reference == n) && is_one_fork x.fork y.fork) opens) opens
      (λ x. ap (λ t. (x.reference == m) && t) (inner x))
    where
      inner : (x : OpenFork) → list_any (λ (y : OpenFork). (y.reference == n) && is_one_fork (in_exchange volume pair x.fork) y.fork) (map turned opens) ≡ list_any (λ (y : OpenFork). (y.reference == n) && is_one_fork x.fork y.fork) opens
      inner x =
          any-map (λ (y : OpenFork). (y.reference == n) && is_one_fork (in_exchange volume pair x.fork) y.fork) turned opens
          ∙ any-same (λ (y : OpenFork). (y.reference == n) && is_one_fork (in_exchange volume pair x.fork) (in_exchange volume pair y.fork)) (λ (y : OpenFork). (y.reference == n) && is_one_fork x.fork y.fork) opens
          (λ y. ap (λ t. (y.reference == n) && t) (exchanged-one volume pair x.fork y.fork))

  count-turned : (number : ℕ) (opens : List OpenFork) → count_by (λ (o : OpenFork). o.session == number) (map turned opens) ≡ count_by (λ (o : OpenFork). o.session == number) opens
  count-turned number [] = refl
  count-turned number (o ∷ os) =
      sum_by-cons (λ (x : OpenFork). cond (x.session == number) 1 0) (turned o) (map turned os)
      ∙ ap (λ n. cond (o.session == number) 1 0 + n) (count-turned number os)
      ∙ sym (sum_by-cons (λ (x : OpenFork). cond (x.session == number) 1 0) o os)

  module _ (w : World) (first : is_file_of (volume_at w.volumes volume) pair.first ≡ true) (second : is_file_of (volume_at w.volumes volume) pair.second ≡ true) where
    -- the other file is there too
    file-turned : (fork : Fork) → is_file_of (volume_at w.volumes fork.volume) fork.node ≡ true → is_file_of (volume_at w.volumes (in_exchange volume pair fork).volume) (in_exchange volume pair fork).node ≡ true
    file-turned fork file = by-volume (fork.volume == volume) refl
      where
        of : Fork → Bool
        of f = is_file_of (volume_at w.volumes f.volume) f.node

        on : (fork.volume == volume) ≡ true → (n : ℕ) → is_file_of (volume_at w.volumes volume) n ≡ true → of (record fork { node = n }) ≡ true
        on here n h = ap (λ k. is_file_of (volume_at w.volumes k) n) (eqb-true fork.volume volume here) ∙ h

        by-second : (fork.volume == volume) ≡ true → (fork.node == pair.first) ≡ false → (b : Bool) → (fork.node == pair.second) ≡ b → of (in_exchange volume pair fork) ≡ true
        by-second here one true two = ap of (exchanged-second volume pair fork here one two) ∙ on here pair.first first
        by-second here one false two = ap of (exchanged-neither volume pair fork here one two) ∙ file

        by-first : (fork.volume == volume) ≡ true → (b : Bool) → (fork.node == pair.first) ≡ b → of (in_exchange volume pair fork) ≡ true
        by-first here true one = ap of (exchanged-first volume pair fork here one) ∙ on here pair.second second
        by-first here false one = by-second here one (fork.node == pair.second) refl

        by-volume : (b : Bool) → (fork.volume == volume) ≡ b → of (in_exchange volume pair fork) ≡ true
        by-volume true here = by-first here (fork.node == pair.first) refl
        by-volume false other = ap of (exchanged-elsewhere volume pair fork other) ∙ file

    pub volume-turned : (fork : Fork) → (in_exchange volume pair fork).volume ≡ fork.volume
    volume-turned fork =
        cond_both ((fork.volume == volume) && (fork.node == pair.first)) (record fork { node = pair.second }) (cond ((fork.volume == volume) && (fork.node == pair.second)) (record fork { node = pair.first }) fork) (λ f. f.volume ≡ fork.volume)
        (λ one. refl)
        (λ other. cond_both ((fork.volume == volume) && (fork.node == pair.second)) (record fork { node = pair.first }) fork (λ f. f.volume ≡ fork.volume) (λ two. refl) (λ neither. refl))

    open-turned : (o : OpenFork) → is_lawful_open w o ≡ true → is_lawful_open (record w { opens = map turned w.opens }) (turned o) ≡ true
    open-turned o stands =
        let e = and_parts (has_volume_open w.sessions o.session o.fork.volume) (is_file_of (volume_at w.volumes o.fork.volume) o.fork.node) stands in
        and_from (has_volume_open w.sessions o.session (in_exchange volume pair o.fork).volume) (is_file_of (volume_at w.volumes (in_exchange volume pair o.fork).volume) (in_exchange volume pair o.fork).node)
        (ap (has_volume_open w.sessions o.session) (volume-turned o.fork) ∙ e.0) (file-turned o.fork e.1)

    opens-turned : LawfulOpens w → LawfulOpens (record w { opens = map turned w.opens })
    opens-turned p = record {
      references = apart-map same_reference turned w.opens ∙ p.references;
      stand = all-map-where (is_lawful_open w) (is_lawful_open (record w { opens = map turned w.opens })) turned w.opens open-turned p.stand;
      clashes = apart-map do_clash turned w.opens ∙ apart-weaker do_clash (λ a b. do_clash (turned a) (turned b)) w.opens (λ a b h. sym (clash-turned a b) ∙ h) p.clashes;
    }

    locks-turned : LawfulLocks w → LawfulLocks (record w { opens = map turned w.opens })
    locks-turned p = record {
      held = all-weaker (λ (lock : Lock). is_open w.opens lock.reference) (λ (lock : Lock). is_open (map turned w.opens) lock.reference) w.locks (λ lock h. any-map (λ (o : OpenFork). o.reference == lock.reference) turned w.opens ∙ h) p.held;
      overlaps = apart-weaker (do_overlap w.opens) (do_overlap (map turned w.opens)) w.locks (λ a b h. sym (ap (λ t. t && do_meet a.range b.range) (share-turned w.opens a.reference b.reference)) ∙ h) p.overlaps;
    }

    limits-turned : KeptLimits w → KeptLimits (record w { opens = map turned w.opens })
    limits-turned p = record {
      users = p.users;
      volumes = p.volumes;
      sessions = p.sessions;
      forks = all-weaker (keeps_forks w.opens) (keeps_forks (map turned w.opens)) w.sessions (λ s h. ap (λ n. nat_le n most_forks) (count-turned s.number w.opens) ∙ h) p.forks;
      locks = all-map-where (keeps_locks w.locks) (keeps_locks w.locks) turned w.opens (λ o h. h) p.locks;
    }

    pub turned-sound : IsSound w → IsSound (record w { opens = opens_exchanged volume (Some pair) w.opens })
    unfolding has_apart_sessions has_known_users has_lawful_caches has_typed_fields
    turned-sound h = record {
      house = h.house;
      typed = h.typed;
      volumes = h.volumes;
      sessions = h.sessions;
      users = h.users;
      opens = opens-whole (record w { opens = map turned w.opens }) (opens-turned (opens-parts w h.opens));
      locks = locks-whole (record w { opens = map turned w.opens }) (locks-turned (locks-parts w h.locks));
      caches = h.caches;
      limits = limits-whole (record w { opens = map turned w.opens }) (limits-turned (limits-parts w h.limits));
    }
