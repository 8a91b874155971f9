-- Numbers of links, and lists that go along with them.
use Rattle.std.proofs.Common.{◌≡◌, ◌≢◌, ℕ, zero, suc, ◌+◌, ◌<◌, ◌≤◌, ◌==◌, Bool, true, false, if◌then◌else◌, List, [], ◌∷◌, ◌++◌, length, Option, Some, None, is_some, count_by, refl, sym, ap, ◌∙◌, arith, ◌⊎◌, inl, inr}
use Rattle.std.specs.List.{AllZip}
use Rattle.std.proofs.lemmas.Bool.Decides.{eqb_tells}
use Rattle.std.proofs.lemmas.List.Sums.{sum_by-cons}
use Rattle.afp_server.specs.connection.Turn.{places_of, all_of}
use Rattle.afp_server_table.specs.AtOnce.{IsOneOf, EachIsOneOf, Differ}
use Rattle.afp_server_table.specs.lemma.Links.{EachBelow, seat_at}

pub one_of-more : (n : ℕ) (ms : List ℕ) (m : ℕ) → IsOneOf n ms → IsOneOf n (ms ++ m ∷ [])
one_of-more n [] m at = absurd at
one_of-more n (k ∷ ks) m (inl e) = inl e
one_of-more n (k ∷ ks) m (inr at) = inr (one_of-more n ks m at)

pub one_of-last : (ms : List ℕ) (n : ℕ) → IsOneOf n (ms ++ n ∷ [])
one_of-last [] n = inl refl
one_of-last (k ∷ ks) n = inr (one_of-last ks n)

-- one of them all is one of the first, or the last
pub one_of-cases : (k : ℕ) (ms : List ℕ) (m : ℕ) → IsOneOf k (ms ++ m ∷ []) → IsOneOf k ms ⊎ (k ≡ m)
one_of-cases k [] m (inl e) = inr e
one_of-cases k [] m (inr none) = absurd none
one_of-cases k (j ∷ js) m (inl e) = inl (inl e)
one_of-cases k (j ∷ js) m (inr at) = by_cases (one_of-cases k js m at)
  where
    by_cases : IsOneOf k js ⊎ (k ≡ m) → IsOneOf k (j ∷ js) ⊎ (k ≡ m)
    by_cases (inl a) = inl (inr a)
    by_cases (inr e) = inr e

pub differ-more : (ns : List ℕ) (m : ℕ) → Differ ns → (IsOneOf m ns → ⊥) → Differ (ns ++ m ∷ [])
differ-more [] m d new = (by_cases, tt)
  where
    by_cases : IsOneOf m [] → ⊥
    by_cases none = absurd none
differ-more (n ∷ ns) m d new = ((λ at. by_cases (one_of-cases n ns m at)), differ-more ns m d.1 (λ at. new (inr at)))
  where
    by_cases : IsOneOf n ns ⊎ (n ≡ m) → ⊥
    by_cases (inl a) = d.0 a
    by_cases (inr e) = new (inl (sym e))

pub below-more : (n m : ℕ) (ks : List ℕ) → n ≤ m → EachBelow n ks → EachBelow m ks
below-more n m [] l b = tt
below-more n m (k ∷ ks) l b = ((let at = b.0 in omega (arith, at, l)), below-more n m ks l b.1)

pub below-append : (n : ℕ) (ks js : List ℕ) → EachBelow n ks → EachBelow n js → EachBelow n (ks ++ js)
below-append n [] js a b = b
below-append n (k ∷ ks) js a b = (a.0, below-append n ks js a.1 b)

pub below-all : (n m : ℕ) (ks : List ℕ) → m < n → EachBelow n (all_of m ks)
below-all n m [] l = tt
below-all n m (k ∷ ks) l = (l, below-all n m ks l)

pub below-new : (n : ℕ) (ks : List ℕ) → EachBelow n ks → IsOneOf n ks → ⊥
below-new n [] b at = at
below-new n (k ∷ ks) b (inl e) = let at = b.0 in absurd (omega (arith, at, e))
below-new n (k ∷ ks) b (inr at) = below-new n ks b.1 at

-- where each number below n is one of these, so is each of the numbers that are below n
pub each-known : (n : ℕ) (ks numbers : List ℕ) → EachBelow n ks → ((k : ℕ) → k < n → IsOneOf k numbers) → EachIsOneOf ks numbers
each-known n [] numbers b known = tt
each-known n (k ∷ ks) numbers b known = (known k b.0, each-known n ks numbers b.1 known)

other-owner : (n m : ℕ) → m < n → (m == n) ≡ false
other-owner n m l = by_cases (eqb_tells m n)
  where
    by_cases : ((m == n) ≡ true) × (m ≡ n) ⊎ ((m == n) ≡ false) × (m ≢ n) → (m == n) ≡ false
    by_cases (inl p) = let e = p.1 in absurd (omega (arith, e, l))
    by_cases (inr q) = q.0

-- a link that was just taken owns no place
pub no-places : (n : ℕ) (owners places : List ℕ) → EachBelow n owners → places_of n owners places ≡ []
no-places n [] places b = refl
no-places n (who ∷ owners) [] b = refl
no-places n (who ∷ owners) (k ∷ places) b =
    ap (λ (t : Bool). if t then k ∷ places_of n owners places else places_of n owners places) (other-owner n who b.0) ∙ no-places n owners places b.1

module _ {L : Type 0} where
  -- what holds of each number and its link, and follows for it
  pub zip-on : (R S : ℕ → L → Type 0) (ns : List ℕ) (links : List L) → ((n : ℕ) (link : L) → IsOneOf n ns → R n link → S n link) → AllZip R ns links → AllZip S ns links
  zip-on R S [] [] on z = z
  zip-on R S [] (y ∷ ys) on z = z
  zip-on R S (n ∷ ns) [] on z = z
  zip-on R S (n ∷ ns) (y ∷ ys) on z = (on n y (inl refl) z.0, zip-on R S ns ys (λ m link at. on m link (inr at)) z.1)

  -- one link more
  pub zip-more : (R : ℕ → L → Type 0) (ns : List ℕ) (links : List L) (n : ℕ) (link : L) → AllZip R ns links → R n link → AllZip R (ns ++ n ∷ []) (links ++ link ∷ [])
  zip-more R [] [] n link z r = (r, tt)
  zip-more R [] (y ∷ ys) n link z r = absurd z
  zip-more R (m ∷ ns) [] n link z r = absurd z
  zip-more R (m ∷ ns) (y ∷ ys) n link z r = (z.0, zip-more R ns ys n link z.1 r)

module _ {T : Type 0} where
  pub none-some : (x : T) (o : Option T) → o ≡ Some x → o ≡ None → ⊥
  none-some x o e n = absurd (cc)

  pub same-some : (x y : T) (o : Option T) → o ≡ Some x → o ≡ Some y → x ≡ y
  same-some x y o e f = cc

  -- where no slot has a value, no key has
  pub none-at : (slots : List (Option T)) (key : ℕ) → count_by is_some slots ≡ 0 → seat_at slots key ≡ None
  none-at [] key e = refl
  none-at (None ∷ slots) zero e = refl
  none-at (None ∷ slots) (suc key) e = none-at slots key (omega (arith, e, sum_by-cons))
  none-at (Some x ∷ slots) key e = absurd (omega (arith, e, sum_by-cons))
