-- The lowest number that is no reference, and how many forks are open.
use Rattle.std.proofs.Common.{◌==◌, ◌≡◌, ◌∙◌, ap, sym, refl, ℕ, zero, suc, ◌+◌, ◌*◌, ◌<◌, ◌≤◌, arith, inl, inr, Bool, true, false, not, ◌&&◌, cond, List, [], ◌∷◌, length, add-one}
use Rattle.std.specs.Prelude.{count_by, filter, nat_le}
use Rattle.std.specs.List.{list_all}
use Rattle.std.proofs.lemmas.Bool.{and_parts, cases_Bool, cond_both, eq-eqb, eqb-false, eqb-true, false_from_ne_true, le-leb, leb-true}
use Rattle.std.proofs.lemmas.List.Sums.{sum_by-cons}
use Rattle.afp_base.specs.Limits.{most_forks}
use Rattle.afp_serial.proofs.Closed.{within}
use Rattle.afp_serial.proofs.PlacedLists.{one_if}
use Rattle.afp_serial.proofs.SoundParts.{keeps_forks, limits-parts, opens-parts}
use Rattle.afp_serial.specs.Fork.{free_from, lowest_free}
use Rattle.afp_serial.specs.Limits.{most_sessions}
use Rattle.afp_serial.specs.World.{has_opened, has_session, is_open, volume_at, World, Session, OpenFork}
use Rattle.afp_serial.specs.Sound.{IsSound, has_volume_open, is_file_of, is_lawful_open}
use Rattle.afp_base.proofs.Facts.{either}
use Rattle.afp_base.proofs.ListFacts.{all-both, all-filter, all-kept, all-weaker, any-weaker, count-filter}

-- how many references are a number or above it
abbrev above : ℕ → List OpenFork → ℕ
above n opens = count_by (λ (o : OpenFork). nat_le n o.reference) opens

above-cons : (n : ℕ) (o : OpenFork) (os : List OpenFork) → above n (o ∷ os) ≡ one_if (nat_le n o.reference) + above n os
above-cons n o os = sum_by-cons (λ (x : OpenFork). one_if (nat_le n x.reference)) o os

one-fewer : (n r : ℕ) → one_if (nat_le (suc n) r) ≤ one_if (nat_le n r)
one-fewer n r =
    cond_both (nat_le (suc n) r) 1 0 (λ m. m ≤ one_if (nat_le n r))
    (λ high. let low = leb-true (suc n) r high in let is : one_if (nat_le n r) ≡ 1 = ap one_if (le-leb n r (omega (arith, low))) in omega (arith, is))
    (λ other. omega arith)

one-gone : (n r : ℕ) → (r == n) ≡ true → one_if (nat_le (suc n) r) + 1 ≤ one_if (nat_le n r)
one-gone n r same =
    let is : r ≡ n = eqb-true r n same in
    let now : one_if (nat_le n r) ≡ 1 = ap one_if (le-leb n r (omega (arith, is))) in
    let later : one_if (nat_le (suc n) r) ≡ 0 = ap one_if (false_from_ne_true (nat_le (suc n) r) (λ high. let low = leb-true (suc n) r high in absurd (omega (arith, low, is)))) in
    omega (arith, now, later)

fewer-above : (n : ℕ) (opens : List OpenFork) → above (suc n) opens ≤ above n opens
fewer-above n [] = omega arith
fewer-above n (o ∷ os) =
    let rest = fewer-above n os in
    let one = one-fewer n o.reference in
    let a = above-cons (suc n) o os in
    let b = above-cons n o os in
    omega (arith, rest, one, a, b)

gone-above : (n : ℕ) (opens : List OpenFork) → is_open opens n ≡ true → above (suc n) opens + 1 ≤ above n opens
gone-above n [] h = absurd (cc)
gone-above n (o ∷ os) h =
    let a = above-cons (suc n) o os in
    let b = above-cons n o os in
    either (o.reference == n) (is_open os n) h
    (λ here. let rest = fewer-above n os in let one = one-gone n o.reference here in omega (arith, rest, one, a, b))
    (λ later. let rest = gone-above n os later in let one = one-fewer n o.reference in omega (arith, rest, one, a, b))

free-is : (opens : List OpenFork) (n more : ℕ) → above n opens ≤ more → is_open opens (free_from opens n more) ≡ false
free-is opens n zero few = false_from_ne_true (is_open opens n) (λ taken. let gone = gone-above n opens taken in absurd (omega (arith, gone, few)))
free-is opens n (suc more) few =
    cond_both (is_open opens n) (free_from opens (n + 1) more) n (λ r. is_open opens r ≡ false)
    (λ taken.
    let gone = gone-above n opens taken in
    let same : above (n + 1) opens ≡ above (suc n) opens = ap (λ k. above k opens) (add-one n) in
    free-is opens (n + 1) more (omega (arith, gone, few, same)))
    (λ free. free)

above-all : (n : ℕ) (opens : List OpenFork) → above n opens ≤ length opens
above-all n [] = omega arith
above-all n (o ∷ os) =
    let rest = above-all n os in
    let b = above-cons n o os in
    let one : one_if (nat_le n o.reference) ≤ 1 = cond_both (nat_le n o.reference) 1 0 (λ m. m ≤ 1) (λ yes. omega arith) (λ no_. omega arith) in
    omega (arith, rest, b, one)

pub lowest-free : (opens : List OpenFork) → is_open opens (lowest_free opens) ≡ false
unfolding lowest_free
lowest-free opens = free-is opens 1 (length opens) (above-all 1 opens)

free-within : (opens : List OpenFork) (n more : ℕ) → (n ≤ free_from opens n more) × (free_from opens n more ≤ n + more)
free-within opens n zero = (omega arith, omega arith)
free-within opens n (suc more) =
    cond_both (is_open opens n) (free_from opens (n + 1) more) n (λ r. (n ≤ r) × (r ≤ n + suc more))
    (λ taken. let rest = free-within opens (n + 1) more in (omega (arith, rest.0), omega (arith, rest.1)))
    (λ free. (omega arith, omega arith))

pub lowest-within : (opens : List OpenFork) → (1 ≤ lowest_free opens) × (lowest_free opens ≤ 1 + length opens)
unfolding lowest_free
lowest-within opens = free-within opens 1 (length opens)

above-it : (n k : ℕ) → n ≤ k → (n == k) ≡ false → n + 1 ≤ k
above-it n k from other = let apart = eqb-false n k other in omega (arith, from, apart)

free-lower : (opens : List OpenFork) (n more k : ℕ) → n ≤ k → k < free_from opens n more → is_open opens k ≡ true
free-lower opens n zero k from below = absurd (omega (arith, from, below))
free-lower opens n (suc more) k from below =
    cond_both (is_open opens n) (free_from opens (n + 1) more) n (λ r. k < r → is_open opens k ≡ true)
    (λ taken low. elim (cases_Bool (n == k)) [
      | inl same ↦ ap (is_open opens) (sym (eqb-true n k same)) ∙ taken
      | inr other ↦ free-lower opens (n + 1) more k (above-it n k from other) low
    ])
    (λ free low. absurd (omega (arith, from, low)))
    below

pub lowest-lower : (opens : List OpenFork) (k : ℕ) → 1 ≤ k → k < lowest_free opens → is_open opens k ≡ true
unfolding lowest_free
lowest-lower opens k from below = free-lower opens 1 (length opens) k from below

-- how many forks are open

count-split : (p : OpenFork → Bool) (xs : List OpenFork) → length xs ≡ count_by p xs + length (filter (λ x. not (p x)) xs)
count-split p [] = refl
count-split p (x ∷ xs) =
    let rest = count-split p xs in
    let whole : count_by p (x ∷ xs) ≡ one_if (p x) + count_by p xs = sum_by-cons (λ y. one_if (p y)) x xs in
    by (p x) refl rest whole
  where
    by : (b : Bool) → p x ≡ b → length xs ≡ count_by p xs + length (filter (λ y. not (p y)) xs) → count_by p (x ∷ xs) ≡ one_if (p x) + count_by p xs → suc (length xs) ≡ count_by p (x ∷ xs) + length (cond (not (p x)) (x ∷ filter (λ y. not (p y)) xs) (filter (λ y. not (p y)) xs))
    by true is rest whole =
        let one : one_if (p x) ≡ 1 = ap one_if is in
        let left : length (cond (not (p x)) (x ∷ filter (λ y. not (p y)) xs) (filter (λ y. not (p y)) xs)) ≡ length (filter (λ y. not (p y)) xs) = ap (λ b. length (cond (not b) (x ∷ filter (λ y. not (p y)) xs) (filter (λ y. not (p y)) xs))) is in
        omega (arith, rest, whole, one, left)
    by false is rest whole =
        let one : one_if (p x) ≡ 0 = ap one_if is in
        let left : length (cond (not (p x)) (x ∷ filter (λ y. not (p y)) xs) (filter (λ y. not (p y)) xs)) ≡ suc (length (filter (λ y. not (p y)) xs)) = ap (λ b. length (cond (not b) (x ∷ filter (λ y. not (p y)) xs) (filter (λ y. not (p y)) xs))) is in
        omega (arith, rest, whole, one, left)

few-of : (sessions : List Session) (opens : List OpenFork) → list_all (λ (o : OpenFork). has_session sessions o.session) opens ≡ true → list_all (keeps_forks opens) sessions ≡ true → length opens ≤ most_forks * length sessions
few-of [] [] all kept = omega arith
few-of [] (o ∷ os) all kept = absurd (cc)
few-of (s ∷ ss) opens all kept =
    let own : OpenFork → Bool = λ o. o.session == s.number in
    let rest : List OpenFork = filter (λ o. not (own o)) opens in
    let e = and_parts (keeps_forks opens s) (list_all (keeps_forks opens) ss) kept in
    let one : count_by own opens ≤ most_forks = leb-true (count_by own opens) most_forks e.0 in
    let others : length rest ≤ most_forks * length ss = few-of ss rest
    (all-both (λ o. has_session (s ∷ ss) o.session) (λ o. not (own o)) (λ o. has_session ss o.session) rest (λ o has other. later o has other)
    (all-filter (λ (o : OpenFork). has_session (s ∷ ss) o.session) (λ o. not (own o)) opens all) (all-kept (λ o. not (own o)) opens))
    (all-weaker (keeps_forks opens) (keeps_forks rest) ss
    (λ x. within (count_by (λ o. o.session == x.number) rest) (count_by (λ o. o.session == x.number) opens) most_forks (count-filter (λ (o : OpenFork). o.session == x.number) (λ o. not (own o)) opens)) e.1) in
    let split = count-split own opens in
    omega (arith, one, others, split)
  where
    later : (o : OpenFork) → has_session (s ∷ ss) o.session ≡ true → not (o.session == s.number) ≡ true → has_session ss o.session ≡ true
    later o has other =
        either (s.number == o.session) (has_session ss o.session) has
        (λ here. let bad : not (o.session == s.number) ≡ false = ap not (eq-eqb o.session s.number (sym (eqb-true s.number o.session here))) in absurd (cc))
        (λ there. there)

-- as many as 64 sessions with 256 forks each
pub opens-few : (w : World) → IsSound w → length w.opens ≤ 16384
opens-few w h =
    let p = limits-parts w h.limits in
    let some : list_all (λ (o : OpenFork). has_session w.sessions o.session) w.opens ≡ true = all-weaker (is_lawful_open w) (λ (o : OpenFork). has_session w.sessions o.session) w.opens
    (λ o stood. any-weaker (λ (s : Session). (s.number == o.session) && has_opened s o.fork.volume) (λ (s : Session). s.number == o.session) w.sessions
    (λ s both. (and_parts (s.number == o.session) (has_opened s o.fork.volume) both).0)
    (and_parts (has_volume_open w.sessions o.session o.fork.volume) (is_file_of (volume_at w.volumes o.fork.volume) o.fork.node) stood).0)
    (opens-parts w h.opens).stand in
    let few = few-of w.sessions w.opens some p.forks in
    let sessions = leb-true (length w.sessions) most_sessions p.sessions in
    omega (arith, few, sessions)
