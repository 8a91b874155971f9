-- Places, by their owners.
use Rattle.std.proofs.Common.{◌≡◌, ◌≢◌, ℕ, ◌+◌, ◌≤◌, ◌==◌, Bool, true, false, if◌then◌else◌, List, [], ◌∷◌, ◌++◌, length, refl, sym, ap, ◌∙◌, arith, append-nil, length-append, ◌⊎◌, inl, inr}
use Rattle.std.proofs.lemmas.Bool.Decides.{eqb_tells}
use Rattle.afp_serial.specs.Shown.{Rising}
use Rattle.afp_serial.proofs.Grows.{rising-bound}
use Rattle.afp_server.specs.connection.Turn.{places_of, all_of, OneLinksPlaces}

one-more : (b : Bool) (k : ℕ) (x y : List ℕ) → (if b then k ∷ (x ++ y) else (x ++ y)) ≡ (if b then k ∷ x else x) ++ y
one-more true k x y = refl
one-more false k x y = refl

pub places_of-append : (n : ℕ) (owners places more new : List ℕ) → length owners ≡ length places → places_of n (owners ++ more) (places ++ new) ≡ places_of n owners places ++ places_of n more new
places_of-append n [] [] more new e = refl
places_of-append n [] (k ∷ places) more new e = absurd (omega (arith, e))
places_of-append n (who ∷ owners) [] more new e = absurd (omega (arith, e))
places_of-append n (who ∷ owners) (k ∷ places) more new e =
    ap (λ (l : List ℕ). if who == n then k ∷ l else l) (places_of-append n owners places more new (omega (arith, e)))
    ∙ one-more (who == n) k (places_of n owners places) (places_of n more new)

same-owner : (n : ℕ) → (n == n) ≡ true
same-owner n = by_cases (eqb_tells n n)
  where
    by_cases : ((n == n) ≡ true) × (n ≡ n) ⊎ ((n == n) ≡ false) × (n ≢ n) → (n == n) ≡ true
    by_cases (inl p) = p.0
    by_cases (inr q) = absurd (q.1 refl)

other-owner : (n m : ℕ) → m ≢ n → (n == m) ≡ false
other-owner n m d = by_cases (eqb_tells n m)
  where
    by_cases : ((n == m) ≡ true) × (n ≡ m) ⊎ ((n == m) ≡ false) × (n ≢ m) → (n == m) ≡ false
    by_cases (inl p) = absurd (d (sym p.1))
    by_cases (inr q) = q.0

pub all_of-own : (n : ℕ) (new : List ℕ) → places_of n (all_of n new) new ≡ new
all_of-own n [] = refl
all_of-own n (k ∷ new) =
    ap (λ (b : Bool). if b then k ∷ places_of n (all_of n new) new else places_of n (all_of n new) new) (same-owner n) ∙ ap (λ (l : List ℕ). k ∷ l) (all_of-own n new)

pub all_of-other : (n m : ℕ) (new : List ℕ) → m ≢ n → places_of m (all_of n new) new ≡ []
all_of-other n m [] d = refl
all_of-other n m (k ∷ new) d =
    ap (λ (b : Bool). if b then k ∷ places_of m (all_of n new) new else places_of m (all_of n new) new) (other-owner n m d) ∙ all_of-other n m new d

all_of-size : (n : ℕ) (new : List ℕ) → length (all_of n new) ≡ length new
all_of-size n [] = refl
all_of-size n (k ∷ new) = omega (arith, all_of-size n new)

pub all_of-length : (n : ℕ) (owners places new : List ℕ) → length owners ≡ length places → length (owners ++ all_of n new) ≡ length (places ++ new)
all_of-length n owners places new e = omega (arith, e, length-append owners (all_of n new), length-append places new, all_of-size n new)

lower : (low high : ℕ) (ks : List ℕ) (n : ℕ) → low ≤ high → Rising high ks n → Rising low ks n
lower low high [] n l r = omega arith
lower low high (k ∷ ks) n l r = (omega arith, r.1)

-- the places of one link rise, as all do
pub places_of-rise : (m : ℕ) (owners places : List ℕ) (from to : ℕ) → Rising from places to → Rising from (places_of m owners places) to
places_of-rise m [] places from to r = rising-bound from places to r
places_of-rise m (who ∷ owners) [] from to r = r
places_of-rise m (who ∷ owners) (k ∷ places) from to r = by_cases (who == m) (places_of-rise m owners places (k + 1) to r.1)
  where
    by_cases : (b : Bool) → Rising (k + 1) (places_of m owners places) to → Rising from (if b then k ∷ places_of m owners places else places_of m owners places) to
    by_cases true rest = (r.0, rest)
    by_cases false rest = lower from (k + 1) (places_of m owners places) to (let l = r.0 in omega arith) rest

pub one_links_places : OneLinksPlaces
one_links_places n owners places new e = (
  all_of-length n owners places new e,
  places_of-append n owners places (all_of n new) new e ∙ ap (λ (l : List ℕ). places_of n owners places ++ l) (all_of-own n new),
  λ m d. places_of-append m owners places (all_of n new) new e ∙ ap (λ (l : List ℕ). places_of m owners places ++ l) (all_of-other n m new d) ∙ append-nil (places_of m owners places),
  λ from to m r. places_of-rise m owners places from to r,
)
