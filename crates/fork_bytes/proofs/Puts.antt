-- A block put among blocks by rising index.
use Rattle.std.proofs.Common.{◌≡◌, ◌≢◌, ◌∙◌, ◌==◌, refl, sym, ap, subst, ℕ, zero, suc, ◌+◌, ◌<◌, ◌≤◌, Bool, true, false, ◌&&◌, not, if◌then◌else◌, List, [], ◌∷◌, ◌++◌, length, get_or, set, take, drop, length-append, add-one, arith, nat_lt}
use Rattle.std.proofs.lemmas.Bool.{cond_both, cond-true, cond-false, eqb-true, eq-eqb, ne_eqb, eqb-false, ltb-true, ltb-false, lt-ltb}
use Rattle.std.proofs.lemmas.List.{length-take, length-drop}
use Rattle.std.specs.List.{list_all}
use Rattle.fork_bytes.specs.declared.block.Block.{Block}
use Rattle.fork_bytes.specs.Kept.{bytes_in, is_empty, are_rising}
use Rattle.fork_bytes.specs.lemma.Kept.{in_front, behind, with_put, IsPlace}
use Rattle.fork_bytes.proofs.Blocks.{parts, whole}
use Rattle.fork_bytes.proofs.Places.{rises, none-above, behind-place}
use Rattle.afp_base.proofs.Facts.{cases}

no_bytes : (bytes : List ℕ) → is_empty bytes ≡ true → bytes ≡ []
no_bytes [] h = refl
no_bytes (b ∷ bs) h = absurd (cc h)

-- what is found behind a block in front of others, where the others have none with its index
bytes_in-front : (c : Block) (bs : List Block) (i : ℕ) → bytes_in bs c.index ≡ [] → bytes_in (in_front c bs) i ≡ (if c.index == i then c.bytes else bytes_in bs i)
bytes_in-front c bs i free = cases (is_empty c.bytes)
    (λ none. ap (λ l. bytes_in l i) (cond-true (is_empty c.bytes) bs (c ∷ bs) none)
    ∙ cases (c.index == i)
    (λ is. ap (bytes_in bs) (sym (eqb-true c.index i is)) ∙ free ∙ sym (no_bytes c.bytes none) ∙ sym (cond-true (c.index == i) c.bytes (bytes_in bs i) is))
    (λ other. sym (cond-false (c.index == i) c.bytes (bytes_in bs i) other)))
    (λ some. ap (λ l. bytes_in l i) (cond-false (is_empty c.bytes) bs (c ∷ bs) some))

-- what is found among blocks with one put in its place
pub bytes_in-put : (c : Block) (bs : List Block) (i : ℕ) → are_rising bs ≡ true → bytes_in (with_put c bs) i ≡ (if c.index == i then c.bytes else bytes_in bs i)
bytes_in-put c [] i rising = bytes_in-front c [] i refl
bytes_in-put c (b ∷ bs) i rising = cases (nat_lt b.index c.index)
    (λ under. ap (λ l. bytes_in l i) (cond-true (nat_lt b.index c.index) (b ∷ with_put c bs) (in_front c (behind c.index b bs)) under)
    ∙ cases (b.index == i)
    (λ is. cond-true (b.index == i) b.bytes (bytes_in (with_put c bs) i) is ∙ sym (cond-true (b.index == i) b.bytes (bytes_in bs i) is)
    ∙ sym (cond-false (c.index == i) c.bytes (bytes_in (b ∷ bs) i) (ne_eqb c.index i (λ same. omega (arith, same, eqb-true b.index i is, ltb-true b.index c.index under)))))
    (λ other. cond-false (b.index == i) b.bytes (bytes_in (with_put c bs) i) other ∙ bytes_in-put c bs i (rises b bs rising).rest
    ∙ ap (λ l. if c.index == i then c.bytes else l) (sym (cond-false (b.index == i) b.bytes (bytes_in bs i) other))))
    (λ over. ap (λ l. bytes_in l i) (cond-false (nat_lt b.index c.index) (b ∷ with_put c bs) (in_front c (behind c.index b bs)) over)
    ∙ cases (b.index == c.index)
    (λ is. ap (λ l. bytes_in (in_front c l) i) (cond-true (b.index == c.index) bs (b ∷ bs) is)
    ∙ bytes_in-front c bs i (none-above bs c.index b.index (ltb-false b.index c.index over) (rises b bs rising).above)
    ∙ cases (c.index == i)
    (λ here. cond-true (c.index == i) c.bytes (bytes_in bs i) here ∙ sym (cond-true (c.index == i) c.bytes (bytes_in (b ∷ bs) i) here))
    (λ there. cond-false (c.index == i) c.bytes (bytes_in bs i) there
    ∙ sym (cond-false (b.index == i) b.bytes (bytes_in bs i) (ap (λ n. n == i) (eqb-true b.index c.index is) ∙ there))
    ∙ sym (cond-false (c.index == i) c.bytes (bytes_in (b ∷ bs) i) there)))
    (λ other. ap (λ l. bytes_in (in_front c l) i) (cond-false (b.index == c.index) bs (b ∷ bs) other)
    ∙ bytes_in-front c (b ∷ bs) i (cond-false (b.index == c.index) b.bytes (bytes_in bs c.index) other
    ∙ none-above bs c.index b.index (ltb-false b.index c.index over) (rises b bs rising).above)))

all-front : (p : Block → Bool) (c : Block) (bs : List Block) → p c ≡ true → list_all p bs ≡ true → list_all p (in_front c bs) ≡ true
all-front p c bs one rest = cond_both (is_empty c.bytes) bs (c ∷ bs) (λ l. list_all p l ≡ true) (λ none. rest) (λ some. whole (p c) (list_all p bs) one rest)

all-behind : (p : Block → Bool) (index : ℕ) (b : Block) (bs : List Block) → list_all p (b ∷ bs) ≡ true → list_all p (behind index b bs) ≡ true
all-behind p index b bs all = cond_both (b.index == index) bs (b ∷ bs) (λ l. list_all p l ≡ true) (λ is. (parts (p b) (list_all p bs) all).1) (λ other. all)

all-put : (p : Block → Bool) (c : Block) (bs : List Block) → p c ≡ true → list_all p bs ≡ true → list_all p (with_put c bs) ≡ true
all-put p c [] one rest = all-front p c [] one rest
all-put p c (b ∷ bs) one rest = cond_both (nat_lt b.index c.index) (b ∷ with_put c bs) (in_front c (behind c.index b bs)) (λ l. list_all p l ≡ true)
    (λ under. whole (p b) (list_all p (with_put c bs)) (parts (p b) (list_all p bs) rest).0 (all-put p c bs one (parts (p b) (list_all p bs) rest).1))
    (λ over. all-front p c (behind c.index b bs) one (all-behind p c.index b bs rest))

all-higher : (low high : ℕ) (bs : List Block) → low ≤ high → list_all (λ c. nat_lt high c.index) bs ≡ true → list_all (λ c. nat_lt low c.index) bs ≡ true
all-higher low high [] up all = refl
all-higher low high (b ∷ bs) up all =
    let both = parts (nat_lt high b.index) (list_all (λ c. nat_lt high c.index) bs) all in
    whole (nat_lt low b.index) (list_all (λ c. nat_lt low c.index) bs) (lt-ltb low b.index (omega (arith, up, ltb-true high b.index both.0))) (all-higher low high bs up both.1)

rising-front : (c : Block) (bs : List Block) → are_rising bs ≡ true → list_all (λ b. nat_lt c.index b.index) bs ≡ true → are_rising (in_front c bs) ≡ true
rising-front c bs rising above = cond_both (is_empty c.bytes) bs (c ∷ bs) (λ l. are_rising l ≡ true) (λ none. rising)
    (λ some. whole (not (is_empty c.bytes)) (list_all (λ b. nat_lt c.index b.index) bs && are_rising bs) (ap not some) (whole (list_all (λ b. nat_lt c.index b.index) bs) (are_rising bs) above rising))

pub rising-put : (c : Block) (bs : List Block) → are_rising bs ≡ true → are_rising (with_put c bs) ≡ true
rising-put c [] rising = rising-front c [] refl refl
rising-put c (b ∷ bs) rising =
    let r = rises b bs rising in
    cond_both (nat_lt b.index c.index) (b ∷ with_put c bs) (in_front c (behind c.index b bs)) (λ l. are_rising l ≡ true)
    (λ under. whole (not (is_empty b.bytes)) (list_all (λ a. nat_lt b.index a.index) (with_put c bs) && are_rising (with_put c bs)) (ap not r.filled)
    (whole (list_all (λ a. nat_lt b.index a.index) (with_put c bs)) (are_rising (with_put c bs)) (all-put (λ a. nat_lt b.index a.index) c bs under r.above) (rising-put c bs r.rest)))
    (λ over. cond_both (b.index == c.index) bs (b ∷ bs) (λ l. are_rising (in_front c l) ≡ true)
    (λ is. rising-front c bs r.rest (all-higher c.index b.index bs (ltb-false b.index c.index over) r.above))
    (λ other. rising-front c (b ∷ bs) rising
    (whole (nat_lt c.index b.index) (list_all (λ a. nat_lt c.index a.index) bs)
    (lt-ltb c.index b.index (omega (arith, ltb-false b.index c.index over, eqb-false b.index c.index other)))
    (all-higher c.index b.index bs (ltb-false b.index c.index over) r.above))))

-- what the code does at the block's place
pub put-gone : (c : Block) (bs : List Block) (p : ℕ) (d : Block) → IsPlace bs c.index p → p < length bs → (get_or bs p d).index ≡ c.index → is_empty c.bytes ≡ true → with_put c bs ≡ take p bs ++ drop (suc p) bs
put-gone c [] p d place within is none = absurd (omega arith)
put-gone c (b ∷ bs) zero d place within is none =
    cond-false (nat_lt b.index c.index) (b ∷ with_put c bs) (in_front c (behind c.index b bs)) (place.1 0 d (omega arith) (omega arith))
    ∙ cond-true (is_empty c.bytes) (behind c.index b bs) (c ∷ behind c.index b bs) none ∙ cond-true (b.index == c.index) bs (b ∷ bs) (eq-eqb b.index c.index is)
put-gone c (b ∷ bs) (suc p) d place within is none =
    cond-true (nat_lt b.index c.index) (b ∷ with_put c bs) (in_front c (behind c.index b bs)) (place.0 0 d (omega arith) (omega arith))
    ∙ ap (λ l. b ∷ l) (put-gone c bs p d (behind-place b bs c.index p place) (omega arith) is none)

pub put-over : (c : Block) (bs : List Block) (p : ℕ) (d : Block) → IsPlace bs c.index p → p < length bs → (get_or bs p d).index ≡ c.index → is_empty c.bytes ≡ false → with_put c bs ≡ set bs p c
put-over c [] p d place within is some = absurd (omega arith)
put-over c (b ∷ bs) zero d place within is some =
    cond-false (nat_lt b.index c.index) (b ∷ with_put c bs) (in_front c (behind c.index b bs)) (place.1 0 d (omega arith) (omega arith))
    ∙ cond-false (is_empty c.bytes) (behind c.index b bs) (c ∷ behind c.index b bs) some ∙ ap (λ l. c ∷ l) (cond-true (b.index == c.index) bs (b ∷ bs) (eq-eqb b.index c.index is))
put-over c (b ∷ bs) (suc p) d place within is some =
    cond-true (nat_lt b.index c.index) (b ∷ with_put c bs) (in_front c (behind c.index b bs)) (place.0 0 d (omega arith) (omega arith))
    ∙ ap (λ l. b ∷ l) (put-over c bs p d (behind-place b bs c.index p place) (omega arith) is some)

pub put-between : (c : Block) (bs : List Block) (p : ℕ) (d : Block) → IsPlace bs c.index p → p ≤ length bs → (p < length bs → (get_or bs p d).index ≢ c.index) → with_put c bs ≡ take p bs ++ in_front c (drop p bs)
put-between c [] zero d place within other = refl
put-between c [] (suc p) d place within other = absurd (omega arith)
put-between c (b ∷ bs) zero d place within other =
    cond-false (nat_lt b.index c.index) (b ∷ with_put c bs) (in_front c (behind c.index b bs)) (place.1 0 d (omega arith) (omega arith))
    ∙ ap (in_front c) (cond-false (b.index == c.index) bs (b ∷ bs) (ne_eqb b.index c.index (other (omega arith))))
put-between c (b ∷ bs) (suc p) d place within other =
    cond-true (nat_lt b.index c.index) (b ∷ with_put c bs) (in_front c (behind c.index b bs)) (place.0 0 d (omega arith) (omega arith))
    ∙ ap (λ l. b ∷ l) (put-between c bs p d (behind-place b bs c.index p place) (omega arith) (λ inside. other (omega arith)))

-- the same as the code has it
pub put-there : (c : Block) (bs : List Block) (p : ℕ) → IsPlace bs c.index p → p < length bs → ((d : Block) → (get_or bs p d).index ≡ c.index)
    → (if is_empty c.bytes then take p bs ++ drop (p + 1) bs else set bs p c) ≡ with_put c bs
put-there c bs p place within is = cond_both (is_empty c.bytes) (take p bs ++ drop (p + 1) bs) (set bs p c) (λ l. l ≡ with_put c bs)
    (λ none. ap (λ n. take p bs ++ drop n bs) (add-one p) ∙ sym (put-gone c bs p c place within (is c) none))
    (λ some. sym (put-over c bs p c place within (is c) some))

pub put-new : (c : Block) (bs : List Block) (p : ℕ) → IsPlace bs c.index p → p ≤ length bs → ((d : Block) → p < length bs → (get_or bs p d).index ≢ c.index)
    → take p bs ++ in_front c (drop p bs) ≡ with_put c bs
put-new c bs p place within other = sym (put-between c bs p c place within (other c))

pub room-new : (c : Block) (bs : List Block) (p capacity : ℕ) → IsPlace bs c.index p → p ≤ length bs → ((d : Block) → p < length bs → (get_or bs p d).index ≢ c.index)
    → length (with_put c bs) ≤ capacity → length (in_front c bs) ≤ capacity
room-new c bs p capacity place within other room =
    let is : length (take p bs ++ in_front c (drop p bs)) ≡ length (with_put c bs) = ap length (put-new c bs p place within other) in
    let joined = length-append (take p bs) (in_front c (drop p bs)) in
    cases (is_empty c.bytes)
    (λ none. subst (λ l. length l ≤ capacity) (sym (cond-true (is_empty c.bytes) bs (c ∷ bs) none))
    (omega (arith, is, joined, ap length (cond-true (is_empty c.bytes) (drop p bs) (c ∷ drop p bs) none), length-take p bs, length-drop p bs)))
    (λ some. subst (λ l. length l ≤ capacity) (sym (cond-false (is_empty c.bytes) bs (c ∷ bs) some))
    (omega (arith, is, joined, ap length (cond-false (is_empty c.bytes) (drop p bs) (c ∷ drop p bs) some), length-take p bs, length-drop p bs)))

-- one more where the first holds and the second does not
abbrev pub one_more : Bool → Bool → ℕ
one_more free none = if free && not none then 1 else 0

length-front : (c : Block) (bs : List Block) → length (in_front c bs) ≤ suc (length bs)
length-front c bs = cond_both (is_empty c.bytes) bs (c ∷ bs) (λ l. length l ≤ suc (length bs)) (λ none. omega arith) (λ some. omega arith)

front-free : (c : Block) (bs : List Block) → length (in_front c bs) ≤ length bs + one_more true (is_empty c.bytes)
front-free c bs = cases (is_empty c.bytes) (λ none. rw none (omega arith)) (λ some. rw some (omega arith))

-- a block more at most, and that only where one with bytes comes to a place that has none
pub length-put : (c : Block) (bs : List Block) → are_rising bs ≡ true → length (with_put c bs) ≤ length bs + one_more (is_empty (bytes_in bs c.index)) (is_empty c.bytes)
length-put c [] rising = front-free c []
length-put c (b ∷ bs) rising =
    let r = rises b bs rising in
    cond_both (nat_lt b.index c.index) (b ∷ with_put c bs) (in_front c (behind c.index b bs)) (λ l. length l ≤ suc (length bs) + one_more (is_empty (bytes_in (b ∷ bs) c.index)) (is_empty c.bytes))
    (λ under.
    let same : bytes_in (b ∷ bs) c.index ≡ bytes_in bs c.index =
    cond-false (b.index == c.index) b.bytes (bytes_in bs c.index) (ne_eqb b.index c.index (λ is. omega (arith, is, ltb-true b.index c.index under))) in
    let rest = length-put c bs r.rest in
    subst (λ l. suc (length (with_put c bs)) ≤ suc (length bs) + one_more (is_empty l) (is_empty c.bytes)) (sym same) (omega (arith, rest)))
    (λ over. cond_both (b.index == c.index) bs (b ∷ bs) (λ l. length (in_front c l) ≤ suc (length bs) + one_more (is_empty (bytes_in (b ∷ bs) c.index)) (is_empty c.bytes))
    (λ is. omega (arith, length-front c bs))
    (λ other.
    let free : bytes_in (b ∷ bs) c.index ≡ [] = cond-false (b.index == c.index) b.bytes (bytes_in bs c.index) other ∙ none-above bs c.index b.index (ltb-false b.index c.index over) r.above in
    subst (λ l. length (in_front c (b ∷ bs)) ≤ suc (length bs) + one_more (is_empty l) (is_empty c.bytes)) (sym free) (front-free c (b ∷ bs))))
