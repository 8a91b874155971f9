-- No kept request has the next id.
use Rattle.std.proofs.Common.{◌≡◌, ◌∙◌, refl, sym, ℕ, zero, suc, ◌+◌, ◌*◌, ◌<◌, ◌≤◌, false, eqb, List, [], ◌∷◌, length, take, Some, None, arith}
use Rattle.std.specs.Prelude.{◌&&◌, Bool, true, nat_eq, ◌%◌}
use Rattle.std.specs.Cmp.Lexicographic.{pointwise}
use Rattle.afp_base.specs.Cached.{Request, is_repeat, is_same_frame}
use Rattle.std.proofs.lemmas.Bool.{cond-false, cond-true, and_left, ne_eqb, eq-eqb}
use Rattle.once_across_breaks.specs.once.Messages.{Sent, request_of, Kept, Answer, cached, store}
use Rattle.once_across_breaks.specs.once.Run.{id_of}
use Rattle.once_across_breaks.proofs.OfOnce.Scene.{Spaced, Fits}

-- two ids that were drawn within 65,536 draws of each other differ
ids-differ : (first p q : ℕ) → p < q → q < p + 65536 → id_of first p ≡ id_of first q % 65536 → ⊥
ids-differ first p q less within same = omega arith

spaced-none : (first : ℕ) (ks : List Kept) (p q m : ℕ) (sent : Sent) → Spaced first p ks → p ≤ q → q ≤ p + 1900 * m → length ks + m ≤ 33 → cached ks (request_of (id_of first q) sent) ≡ None
spaced-none first [] p q m sent s less within short = refl
spaced-none first (k ∷ ks) p q m sent (r, below, gap, id, rest) less within short =
    let x : Request = request_of (id_of first q) sent in
    let other : eqb k.request.id x.id ≡ false = ne_eqb k.request.id x.id (λ same. ids-differ first r q (omega arith) (omega arith) (sym id ∙ same)) in
    cond-false (is_repeat k.request x) (Some k.answer) (cached ks x) (and_left (eqb k.request.id x.id) (is_same_frame k.request.write x.write k.request.offset x.offset && pointwise nat_eq k.request.payload x.payload) other)
    ∙ spaced-none first ks r q (suc m) sent rest (omega arith) (omega arith) (omega arith)

pub spaced-fits : (first q row : ℕ) (ks : List Kept) → Fits first q row ks → row < 1900 → Spaced first q ks
spaced-fits first q row [] f less = tt
spaced-fits first q row (k ∷ ks) (p, below, gap, id, rest) less = (p, below, omega arith, id, rest)

pub next-is-new : (first q row : ℕ) (ks : List Kept) (sent : Sent) → Fits first q row ks → row < 1900 → length ks ≤ 32 → cached ks (request_of (id_of first q) sent) ≡ None
next-is-new first q row ks sent f less short = spaced-none first ks q q 0 sent (spaced-fits first q row ks f less) (omega arith) (omega arith) (omega arith)

-- the first of them stay so
spaced-take : (first q n : ℕ) (ks : List Kept) → Spaced first q ks → Spaced first q (take n ks)
spaced-take first q zero ks s = tt
spaced-take first q (suc n) [] s = tt
spaced-take first q (suc n) (k ∷ ks) (p, below, gap, id, rest) = (p, below, gap, id, spaced-take first p n ks rest)

pub fits-stored : (first q id : ℕ) (sent : Sent) (a : Answer) (ks : List Kept) → Spaced first q ks → id ≡ id_of first q → Fits first (suc q) 0 (store ks (request_of id sent) a)
fits-stored first q id sent a ks s is = (q, omega arith, omega arith, (let e : id ≡ (first + q) % 65536 = is in let f : id % 65536 ≡ (first + q) % 65536 = omega arith in f), spaced-take first q 31 ks s)

same-frame : (write : Bool) (offset : ℕ) → is_same_frame write write offset offset ≡ true
same-frame true offset = eq-eqb offset offset refl
same-frame false offset = refl

same-bytes : (bytes : List ℕ) → pointwise nat_eq bytes bytes ≡ true
same-bytes [] = refl
same-bytes (b ∷ bytes) = (λ i. eq-eqb b b refl i && pointwise nat_eq bytes bytes) ∙ same-bytes bytes

-- a request is its own repeat
repeats-itself : (r : Request) → is_repeat r r ≡ true
repeats-itself r = (λ i. eq-eqb r.id r.id refl i && (same-frame r.write r.offset i && same-bytes r.payload i))

pub found-stored : (ks : List Kept) (r : Request) (a : Answer) → cached (store ks r a) r ≡ Some a
found-stored ks r a = cond-true (is_repeat r r) (Some a) (cached (take 31 ks) r) (repeats-itself r)

length-of-take : (n : ℕ) (ks : List Kept) → length (take n ks) ≤ n
length-of-take zero ks = omega arith
length-of-take (suc n) [] = omega arith
length-of-take (suc n) (k ∷ ks) = let e = length-of-take n ks in omega arith

pub short-stored : (ks : List Kept) (r : Request) (a : Answer) → length (store ks r a) ≤ 32
short-stored ks r a = let e = length-of-take 31 ks in omega arith

-- more draws that were misses
pub fits-more : (first q row : ℕ) (ks : List Kept) → Fits first q row ks → Fits first (suc q) (suc row) ks
fits-more first q row [] f = tt
fits-more first q row (k ∷ ks) (p, below, gap, id, rest) = (p, omega arith, omega arith, id, rest)
