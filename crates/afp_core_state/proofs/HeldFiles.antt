-- Files that are open to be written, or whose opens deny reading.
use Rattle.std.proofs.Common.{◌≡◌, ◌∙◌, ap, sym, refl, ℕ, ◌==◌, Bool, true, false, not, ◌&&◌, ◌||◌, List, [], ◌∷◌, map}
use Rattle.std.specs.Bool.{beq}
use Rattle.std.specs.List.{list_any}
use Rattle.afp_base.specs.DenyMode.{Access, Fork, is_clash, is_one_fork}
use Rattle.afp_serial.specs.CopyFile.{is_held}
use Rattle.afp_serial.specs.World.{OpenFork, World}
use Rattle.afp_core_state.specs.Forks.{Forks, HasForks, open_of}
use Rattle.deny_modes.specs.Opens.{has_conflict}
use Rattle.fork_table.specs.ForkTable.{plain_opens}
use Rattle.fork_table.specs.declared.open_fork.OpenFork as held

-- an open that writes or denies reading
abbrev pub denies : Access → Bool
denies access = access.write || access.deny_read

-- it is what conflicts with one that reads and denies writing
clash : (read write deny_read deny_write : Bool)
    → is_clash (record { read = read; write = write; deny_read = deny_read; deny_write = deny_write }) (record { read = true; write = false; deny_read = false; deny_write = true }) ≡ (write || deny_read)
clash true true true d = refl
clash true true false d = refl
clash true false true d = refl
clash true false false d = refl
clash false true true d = refl
clash false true false d = refl
clash false false true d = refl
clash false false false d = refl

pub denied : (rows : List (ℕ × held.OpenFork)) (fork : Fork)
    → has_conflict (plain_opens rows) fork (record { read = true; write = false; deny_read = false; deny_write = true }) ≡ list_any (λ (o : OpenFork). is_one_fork o.fork fork && (o.access.write || o.access.deny_read)) (map (λ (row : ℕ × held.OpenFork). open_of row.0 row.1) rows)
denied [] fork = refl
denied (row ∷ rows) fork =
    let m = row.1.mode in
    let one = clash m.read m.write m.deny_read m.deny_write in
    let rest = denied rows fork in
    λ i. (is_one_fork row.1.fork fork && one i) || rest i

-- either fork of a file
held-one : (x y r c : Bool) → (((x && (y && beq r false)) && c) || ((x && (y && beq r true)) && c)) ≡ ((x && y) && c)
held-one false y r c = refl
held-one true false r c = refl
held-one true true true c = refl
held-one true true false true = refl
held-one true true false false = refl

or-swap : (a b c d : Bool) → ((a || b) || (c || d)) ≡ ((a || c) || (b || d))
or-swap true b c d = refl
or-swap false true true d = refl
or-swap false true false d = refl
or-swap false false c d = refl

pub held-either : (opens : List OpenFork) (v n : ℕ)
    → (list_any (λ (o : OpenFork). is_one_fork o.fork (record { volume = v; node = n; resource = false }) && (o.access.write || o.access.deny_read)) opens
    || list_any (λ (o : OpenFork). is_one_fork o.fork (record { volume = v; node = n; resource = true }) && (o.access.write || o.access.deny_read)) opens)
    ≡ list_any (λ (o : OpenFork). ((o.fork.volume == v) && (o.fork.node == n)) && (o.access.write || o.access.deny_read)) opens
held-either [] v n = refl
held-either (o ∷ opens) v n =
    or-swap (is_one_fork o.fork (record { volume = v; node = n; resource = false }) && (o.access.write || o.access.deny_read))
    (list_any (λ (o : OpenFork). is_one_fork o.fork (record { volume = v; node = n; resource = false }) && (o.access.write || o.access.deny_read)) opens)
    (is_one_fork o.fork (record { volume = v; node = n; resource = true }) && (o.access.write || o.access.deny_read))
    (list_any (λ (o : OpenFork). is_one_fork o.fork (record { volume = v; node = n; resource = true }) && (o.access.write || o.access.deny_read)) opens)
    ∙ (λ i. held-one (o.fork.volume == v) (o.fork.node == n) o.fork.resource (o.access.write || o.access.deny_read) i || held-either opens v n i)

pub held-in : (w : World) (f : Forks) (v n : ℕ) → HasForks w f → list_any (λ (o : OpenFork). ((o.fork.volume == v) && (o.fork.node == n)) && (o.access.write || o.access.deny_read)) f.opens ≡ is_held w v n
unfolding is_held
held-in w f v n has = ap (list_any (λ (o : OpenFork). ((o.fork.volume == v) && (o.fork.node == n)) && (o.access.write || o.access.deny_read))) (sym has.opens)

pub not-not : (b : Bool) → not (not b) ≡ b
not-not true = refl
not-not false = refl
