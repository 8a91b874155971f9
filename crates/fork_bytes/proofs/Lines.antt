-- Reading up to a character.
use Rattle.std.proofs.Common.{◌≡◌, ◌≢◌, ◌∙◌, ◌==◌, refl, sym, ap, subst, ℕ, zero, suc, ◌+◌, ◌-◌, ◌<◌, ◌≤◌, true, false, List, [], ◌∷◌, ◌++◌, length, get_or, take, drop, bit_and, append-nil, append_assoc, arith}
use Rattle.std.proofs.lemmas.Bool.{cond-true, cond-false, eq-eqb, ne_eqb}
use Rattle.std.proofs.Math.Seq.{take-append-add, drop-append_seam}
use Rattle.afp_base.specs.ForkBytes.{taken}
use Rattle.fork_bytes.specs.Line.{Line, with_first, line_of}
use Rattle.fork_bytes.proofs.Writes.{taken-join}

-- no byte of these is the character
pub passes : (mask end : ℕ) (xs ys : List ℕ) → ((k : ℕ) → k < length xs → bit_and (get_or xs k 0) mask ≢ end)
    → line_of mask end (xs ++ ys) ≡ record { bytes = xs ++ (line_of mask end ys).bytes; stopped = (line_of mask end ys).stopped }
passes mask end [] ys none = refl
passes mask end (x ∷ xs) ys none =
    cond-false (bit_and x mask == end) (record { bytes = x ∷ []; stopped = true }) (with_first x (line_of mask end (xs ++ ys))) (ne_eqb (bit_and x mask) end (none 0 (omega arith)))
    ∙ ap (with_first x) (passes mask end xs ys (λ k within. none (suc k) (omega arith)))

-- the first that is, is the last of the line
pub stops : (mask end : ℕ) (xs ys : List ℕ) (k : ℕ) → k < length xs → bit_and (get_or xs k 0) mask ≡ end → ((j : ℕ) → j < k → bit_and (get_or xs j 0) mask ≢ end)
    → line_of mask end (xs ++ ys) ≡ record { bytes = take (suc k) xs; stopped = true }
stops mask end [] ys k within is before = absurd (omega arith)
stops mask end (x ∷ xs) ys zero within is before = cond-true (bit_and x mask == end) (record { bytes = x ∷ []; stopped = true }) (with_first x (line_of mask end (xs ++ ys))) (eq-eqb (bit_and x mask) end is)
stops mask end (x ∷ xs) ys (suc k) within is before =
    cond-false (bit_and x mask == end) (record { bytes = x ∷ []; stopped = true }) (with_first x (line_of mask end (xs ++ ys))) (ne_eqb (bit_and x mask) end (before 0 (omega arith)))
    ∙ ap (with_first x) (stops mask end xs ys k (omega arith) is (λ j below. before (suc j) (omega arith)))

-- what was read has no such byte
abbrev pub NoneIn : ℕ → ℕ → List ℕ → Type 0
NoneIn mask end xs = (k : ℕ) → k < length xs → bit_and (get_or xs k 0) mask ≢ end

none-append : (mask end : ℕ) (xs ys : List ℕ) → NoneIn mask end xs → NoneIn mask end ys → NoneIn mask end (xs ++ ys)
none-append mask end [] ys x y k within = y k within
none-append mask end (a ∷ xs) ys x y zero within = x 0 (omega arith)
none-append mask end (a ∷ xs) ys x y (suc k) within = none-append mask end xs ys (λ j below. x (suc j) (omega arith)) y k (omega arith)

-- one block more is read
pub record Step (bytes first old new : List ℕ) (mask end from at stop last : ℕ) : Type 0 where
  pub begun : from ≤ at
  pub on : at ≤ stop
  pub within : stop ≤ last
  pub old_is : old ≡ first ++ taken bytes from (at - from)
  pub new_is : new ≡ old ++ taken bytes at (stop - at)
  pub none : NoneIn mask end (taken bytes from (at - from))

pub part_is : {bytes first old new : List ℕ} {mask end from at stop last : ℕ} → Step bytes first old new mask end from at stop last → drop (length old) new ≡ taken bytes at (stop - at)
part_is {bytes = bytes} {old = old} {at = at} {stop = stop} s = ap (drop (length old)) s.new_is ∙ drop-append_seam old (taken bytes at (stop - at))

whole_is : {bytes first old new : List ℕ} {mask end from at stop last : ℕ} → Step bytes first old new mask end from at stop last
    → taken bytes from (at - from) ++ (taken bytes at (stop - at) ++ taken bytes stop (last - stop)) ≡ taken bytes from (last - from)
whole_is {bytes = bytes} {from = from} {at = at} {stop = stop} {last = last} s =
    ap (λ l. taken bytes from (at - from) ++ l) (taken-join bytes at (stop - at) (last - stop) stop (last - at) (omega (arith, s.on)) (omega (arith, s.on, s.within)))
    ∙ taken-join bytes from (at - from) (last - at) at (last - from) (omega (arith, s.begun)) (omega (arith, s.begun, s.on, s.within))

-- the line ends in this block
pub found : {bytes first old new : List ℕ} {mask end from at stop last : ℕ} → Step bytes first old new mask end from at stop last → (part : List ℕ) → part ≡ drop (length old) new → (k : ℕ)
    → k < length part → bit_and (get_or part k 0) mask ≡ end → ((j : ℕ) → j < k → bit_and (get_or part j 0) mask ≢ end)
    → line_of mask end (taken bytes from (last - from)) ≡ record { bytes = taken bytes from (at - from) ++ take (suc k) part; stopped = true }
found {bytes = bytes} {mask = mask} {end = end} {from = from} {at = at} {stop = stop} {last = last} s part is k within here before =
    let t : part ≡ taken bytes at (stop - at) = is ∙ part_is s in
    ap (line_of mask end) (sym (whole_is s))
    ∙ passes mask end (taken bytes from (at - from)) (taken bytes at (stop - at) ++ taken bytes stop (last - stop)) s.none
    ∙ ap (λ (l : Line). record { bytes = taken bytes from (at - from) ++ l.bytes; stopped = l.stopped })
    (ap (λ l. line_of mask end (l ++ taken bytes stop (last - stop))) (sym t) ∙ stops mask end part (taken bytes stop (last - stop)) k within here before)

pub found_bytes : {bytes first old new : List ℕ} {mask end from at stop last : ℕ} → Step bytes first old new mask end from at stop last → (part : List ℕ) → part ≡ drop (length old) new → (k n : ℕ)
    → n ≡ length old + suc k → take n new ≡ first ++ (taken bytes from (at - from) ++ take (suc k) part)
found_bytes {bytes = bytes} {first = first} {old = old} {new = new} {from = from} {at = at} {stop = stop} s part is k n n_is =
    ap (λ m. take m new) n_is ∙ ap (take (length old + suc k)) s.new_is ∙ take-append-add old (taken bytes at (stop - at)) (suc k)
    ∙ ap (λ l. l ++ take (suc k) (taken bytes at (stop - at))) s.old_is ∙ append_assoc first (taken bytes from (at - from)) (take (suc k) (taken bytes at (stop - at)))
    ∙ ap (λ l. first ++ (taken bytes from (at - from) ++ take (suc k) l)) (sym (is ∙ part_is s))

-- it does not, so the next block is read
pub none_on : {bytes first old new : List ℕ} {mask end from at stop last : ℕ} → Step bytes first old new mask end from at stop last → (part : List ℕ) → part ≡ drop (length old) new → NoneIn mask end part
    → NoneIn mask end (taken bytes from (stop - from))
none_on {bytes = bytes} {mask = mask} {end = end} {from = from} {at = at} {stop = stop} s part is none =
    subst (NoneIn mask end) (taken-join bytes from (at - from) (stop - at) at (stop - from) (omega (arith, s.begun)) (omega (arith, s.begun, s.on)))
    (none-append mask end (taken bytes from (at - from)) (taken bytes at (stop - at)) s.none (subst (NoneIn mask end) (is ∙ part_is s) none))

-- all is read, and there was none
pub not_found : (mask end : ℕ) (xs : List ℕ) → NoneIn mask end xs → line_of mask end xs ≡ record { bytes = xs; stopped = false }
not_found mask end xs none =
    ap (line_of mask end) (sym (append-nil xs)) ∙ passes mask end xs [] none ∙ ap (λ l. record { bytes = l; stopped = false }) (append-nil xs)
