-- Looking a block up by halving.
use Rattle.std.proofs.Common.{◌≡◌, ◌≢◌, ◌∙◌, ◌==◌, refl, ℕ, zero, suc, ◌<◌, ◌≤◌, Bool, true, false, ◌&&◌, not, List, [], ◌∷◌, length, get_or, arith, nat_lt}
use Rattle.std.proofs.lemmas.Bool.{cond-true, cond-false, eq-eqb, ne_eqb, ltb-true, ltb-false, lt-ltb, not-true}
use Rattle.std.specs.List.{list_all}
use Rattle.std.specs.List.Sorted.{IsPartitionedBy}
use Rattle.fork_bytes.specs.declared.block.Block.{Block}
use Rattle.fork_bytes.specs.Kept.{bytes_in, is_empty, are_rising}
use Rattle.fork_bytes.specs.lemma.Kept.{IsPlace}
use Rattle.fork_bytes.proofs.Blocks.{parts}

-- the parts of what rises
pub record Rises (b : Block) (bs : List Block) : Type 0 where
  pub filled : is_empty b.bytes ≡ false
  pub above : list_all (λ c. nat_lt b.index c.index) bs ≡ true
  pub rest : are_rising bs ≡ true

pub rises : (b : Block) (bs : List Block) → are_rising (b ∷ bs) ≡ true → Rises b bs
rises b bs h =
    let first = parts (not (is_empty b.bytes)) (list_all (λ c. nat_lt b.index c.index) bs && are_rising bs) h in
    let second = parts (list_all (λ c. nat_lt b.index c.index) bs) (are_rising bs) first.1 in
    record { filled = not-true (is_empty b.bytes) first.0; above = second.0; rest = second.1 }

pub all-at : (p : Block → Bool) (bs : List Block) → list_all p bs ≡ true → (k : ℕ) (d : Block) → k < length bs → p (get_or bs k d) ≡ true
all-at p [] h k d within = absurd (omega arith)
all-at p (b ∷ bs) h zero d within = (parts (p b) (list_all p bs) h).0
all-at p (b ∷ bs) h (suc k) d within = all-at p bs (parts (p b) (list_all p bs) h).1 k d (omega arith)

pub is_partitioned : (bs : List Block) (index : ℕ) → are_rising bs ≡ true → IsPartitionedBy (λ b. nat_lt b.index index) bs
is_partitioned [] index rising i j d below within h = absurd (omega arith)
is_partitioned (b ∷ bs) index rising zero zero d below within h = h
is_partitioned (b ∷ bs) index rising (suc i) zero d below within h = absurd (omega arith)
is_partitioned (b ∷ bs) index rising zero (suc j) d below within h =
    let up = ltb-true _ _ (all-at (λ c. nat_lt b.index c.index) bs (rises b bs rising).above j d (omega arith)) in
    lt-ltb b.index index (omega (arith, up, ltb-true _ _ h))
is_partitioned (b ∷ bs) index rising (suc i) (suc j) d below within h = is_partitioned bs index (rises b bs rising).rest i j d (omega arith) (omega arith) h

-- a block further behind has a higher index
pub strictly : (bs : List Block) → are_rising bs ≡ true → (i j : ℕ) (d : Block) → i < j → j < length bs → (get_or bs i d).index < (get_or bs j d).index
strictly [] rising i j d low within = absurd (omega arith)
strictly (b ∷ bs) rising zero zero d low within = absurd (omega arith)
strictly (b ∷ bs) rising (suc i) zero d low within = absurd (omega arith)
strictly (b ∷ bs) rising zero (suc j) d low within = ltb-true _ _ (all-at (λ c. nat_lt b.index c.index) bs (rises b bs rising).above j d (omega arith))
strictly (b ∷ bs) rising (suc i) (suc j) d low within = strictly bs (rises b bs rising).rest i j d (omega arith) (omega arith)

-- a block stands at the place of its index
pub at-its-index : (bs : List Block) (index p : ℕ) → are_rising bs ≡ true → p < length bs → ((d : Block) → (get_or bs p d).index ≡ index) → IsPlace bs index p
at-its-index bs index p rising within is = (
  λ k d low high. let up = strictly bs rising k p d high within in lt-ltb (get_or bs k d).index index (omega (arith, up, is d)),
  λ k d low high. by k d low high (nat_lt (get_or bs k d).index index) refl,
)
  where
    by : (k : ℕ) (d : Block) → p ≤ k → k < length bs → (under : Bool) → nat_lt (get_or bs k d).index index ≡ under → nat_lt (get_or bs k d).index index ≡ false
    by k d low high false at = at
    by k d low high true at =
        let own = ltb-true (get_or bs p d).index index (is_partitioned bs index rising p k d low high at) in
        absurd (omega (arith, own, is d))

pub behind-place : (b : Block) (bs : List Block) (index p : ℕ) → IsPlace (b ∷ bs) index (suc p) → IsPlace bs index p
behind-place b bs index p place = (λ k d low high. place.0 (suc k) d (omega arith) (omega arith), λ k d low high. place.1 (suc k) d (omega arith) (omega arith))

-- above all of these there is none
pub none-above : (bs : List Block) (index low : ℕ) → index ≤ low → list_all (λ c. nat_lt low c.index) bs ≡ true → bytes_in bs index ≡ []
none-above [] index low below all = refl
none-above (b ∷ bs) index low below all =
    let both = parts (nat_lt low b.index) (list_all (λ c. nat_lt low c.index) bs) all in
    let over = ltb-true low b.index both.0 in
    cond-false (b.index == index) b.bytes (bytes_in bs index) (ne_eqb b.index index (λ is. omega (arith, is, over))) ∙ none-above bs index low below both.1

pub found-at : (bs : List Block) (index p : ℕ) (d : Block) → IsPlace bs index p → p < length bs → (get_or bs p d).index ≡ index → bytes_in bs index ≡ (get_or bs p d).bytes
found-at [] index p d place within is = absurd (omega arith)
found-at (b ∷ bs) index zero d place within is = cond-true (b.index == index) b.bytes (bytes_in bs index) (eq-eqb b.index index is)
found-at (b ∷ bs) index (suc p) d place within is =
    let under = ltb-true b.index index (place.0 0 d (omega arith) (omega arith)) in
    cond-false (b.index == index) b.bytes (bytes_in bs index) (ne_eqb b.index index (λ same. omega (arith, same, under)))
    ∙ found-at bs index p d (behind-place b bs index p place) (omega arith) is

pub not-at : (bs : List Block) (index p : ℕ) (d : Block) → are_rising bs ≡ true → IsPlace bs index p → (p < length bs → (get_or bs p d).index ≢ index) → bytes_in bs index ≡ []
not-at [] index p d rising place other = refl
not-at (b ∷ bs) index zero d rising place other =
    cond-false (b.index == index) b.bytes (bytes_in bs index) (ne_eqb b.index index (other (omega arith)))
    ∙ none-above bs index b.index (ltb-false b.index index (place.1 0 d (omega arith) (omega arith))) (rises b bs rising).above
not-at (b ∷ bs) index (suc p) d rising place other =
    let under = ltb-true b.index index (place.0 0 d (omega arith) (omega arith)) in
    cond-false (b.index == index) b.bytes (bytes_in bs index) (ne_eqb b.index index (λ same. omega (arith, same, under)))
    ∙ not-at bs index p d (rises b bs rising).rest (behind-place b bs index p place) (λ within. other (omega arith))
