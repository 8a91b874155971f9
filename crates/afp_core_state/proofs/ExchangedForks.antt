-- Open forks of two files that are exchanged.
use Rattle.std.proofs.Common.{◌≡◌, ◌⊎◌, inl, inr, ◌∙◌, ap, sym, refl, subst, ℕ, ◌==◌, Bool, true, false, ◌&&◌, List, [], ◌∷◌, map, Some, if◌then◌else◌}
use Rattle.std.specs.Bool.{beq}
use Rattle.std.specs.List.{list_all}
use Rattle.std.proofs.lemmas.Bool.{cases_eq, eq-eqb, ne_eqb}
use Rattle.afp_base.specs.DenyMode.{Fork, is_one_fork}
use Rattle.afp_serial.specs.ExchangeFiles.{opens_exchanged, in_exchange as exchanged}
use Rattle.afp_serial.specs.ForkLaws.{is_lock_range}
use Rattle.afp_serial.specs.World.{OpenFork, Lock}
use Rattle.afp_core_state.specs.Forks.{forks_of, lock_of, open_of, with_opens}
use Rattle.afp_core_state.specs.lemma.LockRanges.{AreInRange}
use Rattle.deny_modes.specs.Opens.{in_exchange}
use Rattle.fork_table.specs.ForkTable as table
use Rattle.fork_table.specs.declared.open_fork.OpenFork as held
use Rattle.range_locks.specs.Locks.{ForkLock, exchanged_locks}

-- a fork of a file of a volume
abbrev pub fork_key : ℕ → ℕ → Bool → Fork
fork_key volume node resource = record { volume = volume; node = node; resource = resource }

-- which forks are one
and-none : (x : Bool) → (x && false) ≡ false
and-none true = refl
and-none false = refl

beq-same : (x : Bool) → beq x x ≡ true
beq-same true = refl
beq-same false = refl

is-one : (v n : ℕ) (r : Bool) → is_one_fork (fork_key v n r) (fork_key v n r) ≡ true
is-one v n r = (λ i. eq-eqb v v refl i && (eq-eqb n n refl i && beq-same r i))

other-volume : (v w n m : ℕ) (r s : Bool) → (v ≡ w → ⊥) → is_one_fork (fork_key v n r) (fork_key w m s) ≡ false
other-volume v w n m r s ne = ap (λ (t : Bool). t && ((n == m) && beq r s)) (ne_eqb v w ne)

other-node : (v w n m : ℕ) (r s : Bool) → (n ≡ m → ⊥) → is_one_fork (fork_key v n r) (fork_key w m s) ≡ false
other-node v w n m r s ne = ap (λ (t : Bool). (v == w) && (t && beq r s)) (ne_eqb n m ne) ∙ and-none (v == w)

other-kind : (v w n m : ℕ) (r s : Bool) → beq r s ≡ false → is_one_fork (fork_key v n r) (fork_key w m s) ≡ false
other-kind v w n m r s ne = ap (λ (t : Bool). (v == w) && ((n == m) && t)) ne ∙ ap (λ (t : Bool). (v == w) && t) (and-none (n == m)) ∙ and-none (v == w)

-- a fork in one exchange
stays : (a b f : Fork) → is_one_fork a f ≡ false → is_one_fork b f ≡ false → in_exchange a b f ≡ f
stays a b f first second = (λ i. if first i then b else if second i then a else f)

becomes-second : (a b f : Fork) → is_one_fork a f ≡ true → in_exchange a b f ≡ b
becomes-second a b f first = ap (λ (t : Bool). if t then b else if is_one_fork b f then a else f) first

becomes-first : (a b f : Fork) → is_one_fork a f ≡ false → is_one_fork b f ≡ true → in_exchange a b f ≡ a
becomes-first a b f first second = (λ i. if first i then b else if second i then a else f)

-- a fork in the exchange of both kinds
module _ (v a b : ℕ) where
  both-other : (w n : ℕ) (r : Bool) → (v ≡ w → ⊥) → in_exchange (fork_key v a true) (fork_key v b true) (in_exchange (fork_key v a false) (fork_key v b false) (fork_key w n r)) ≡ exchanged v (record { first = a; second = b }) (fork_key w n r)
  both-other w n r ne =
      ap (in_exchange (fork_key v a true) (fork_key v b true)) (stays (fork_key v a false) (fork_key v b false) (fork_key w n r) (other-volume v w a n false r ne) (other-volume v w b n false r ne))
      ∙ stays (fork_key v a true) (fork_key v b true) (fork_key w n r) (other-volume v w a n true r ne) (other-volume v w b n true r ne)
      ∙ sym (λ i. if ne_eqb w v (λ e. ne (sym e)) i && (n == a) then fork_key w b r else if ne_eqb w v (λ e. ne (sym e)) i && (n == b) then fork_key w a r else fork_key w n r)

  both-first : (r : Bool) → in_exchange (fork_key v a true) (fork_key v b true) (in_exchange (fork_key v a false) (fork_key v b false) (fork_key v a r)) ≡ exchanged v (record { first = a; second = b }) (fork_key v a r)
  both-first r = by r ∙ sym (λ i. if eq-eqb v v refl i && eq-eqb a a refl i then fork_key v b r else if (v == v) && (a == b) then fork_key v a r else fork_key v a r)
    where
      by : (s : Bool) → in_exchange (fork_key v a true) (fork_key v b true) (in_exchange (fork_key v a false) (fork_key v b false) (fork_key v a s)) ≡ fork_key v b s
      by false =
          ap (in_exchange (fork_key v a true) (fork_key v b true)) (becomes-second (fork_key v a false) (fork_key v b false) (fork_key v a false) (is-one v a false))
          ∙ stays (fork_key v a true) (fork_key v b true) (fork_key v b false) (other-kind v v a b true false refl) (other-kind v v b b true false refl)
      by true =
          ap (in_exchange (fork_key v a true) (fork_key v b true)) (stays (fork_key v a false) (fork_key v b false) (fork_key v a true) (other-kind v v a a false true refl) (other-kind v v b a false true refl))
          ∙ becomes-second (fork_key v a true) (fork_key v b true) (fork_key v a true) (is-one v a true)

  both-second : (r : Bool) → (a ≡ b → ⊥) → in_exchange (fork_key v a true) (fork_key v b true) (in_exchange (fork_key v a false) (fork_key v b false) (fork_key v b r)) ≡ exchanged v (record { first = a; second = b }) (fork_key v b r)
  both-second r ne = by r ∙ sym (λ i. if eq-eqb v v refl i && ne_eqb b a (λ e. ne (sym e)) i then fork_key v b r else if eq-eqb v v refl i && eq-eqb b b refl i then fork_key v a r else fork_key v b r)
    where
      by : (s : Bool) → in_exchange (fork_key v a true) (fork_key v b true) (in_exchange (fork_key v a false) (fork_key v b false) (fork_key v b s)) ≡ fork_key v a s
      by false =
          ap (in_exchange (fork_key v a true) (fork_key v b true)) (becomes-first (fork_key v a false) (fork_key v b false) (fork_key v b false) (other-node v v a b false false ne) (is-one v b false))
          ∙ stays (fork_key v a true) (fork_key v b true) (fork_key v a false) (other-kind v v a a true false refl) (other-kind v v b a true false refl)
      by true =
          ap (in_exchange (fork_key v a true) (fork_key v b true)) (stays (fork_key v a false) (fork_key v b false) (fork_key v b true) (other-kind v v a b false true refl) (other-kind v v b b false true refl))
          ∙ becomes-first (fork_key v a true) (fork_key v b true) (fork_key v b true) (other-node v v a b true true ne) (is-one v b true)

  both-none : (n : ℕ) (r : Bool) → (a ≡ n → ⊥) → (b ≡ n → ⊥) → in_exchange (fork_key v a true) (fork_key v b true) (in_exchange (fork_key v a false) (fork_key v b false) (fork_key v n r)) ≡ exchanged v (record { first = a; second = b }) (fork_key v n r)
  both-none n r first second =
      ap (in_exchange (fork_key v a true) (fork_key v b true)) (stays (fork_key v a false) (fork_key v b false) (fork_key v n r) (other-node v v a n false r first) (other-node v v b n false r second))
      ∙ stays (fork_key v a true) (fork_key v b true) (fork_key v n r) (other-node v v a n true r first) (other-node v v b n true r second)
      ∙ sym (λ i. if eq-eqb v v refl i && ne_eqb n a (λ e. first (sym e)) i then fork_key v b r else if eq-eqb v v refl i && ne_eqb n b (λ e. second (sym e)) i then fork_key v a r else fork_key v n r)

  fork-exchanged : (w n : ℕ) (r : Bool) → in_exchange (fork_key v a true) (fork_key v b true) (in_exchange (fork_key v a false) (fork_key v b false) (fork_key w n r)) ≡ exchanged v (record { first = a; second = b }) (fork_key w n r)
  fork-exchanged w n r = by (cases_eq v w)
    where
      node : (a ≡ n) ⊎ (a ≡ n → ⊥) → (b ≡ n) ⊎ (b ≡ n → ⊥) → in_exchange (fork_key v a true) (fork_key v b true) (in_exchange (fork_key v a false) (fork_key v b false) (fork_key v n r)) ≡ exchanged v (record { first = a; second = b }) (fork_key v n r)
      node (inl same) second =
          subst (λ (m : ℕ). in_exchange (fork_key v a true) (fork_key v b true) (in_exchange (fork_key v a false) (fork_key v b false) (fork_key v m r)) ≡ exchanged v (record { first = a; second = b }) (fork_key v m r)) same (both-first r)
      node (inr ne) (inl same) =
          subst (λ (m : ℕ). in_exchange (fork_key v a true) (fork_key v b true) (in_exchange (fork_key v a false) (fork_key v b false) (fork_key v m r)) ≡ exchanged v (record { first = a; second = b }) (fork_key v m r)) same (both-second r (λ e. ne (e ∙ same)))
      node (inr ne) (inr other) = both-none n r ne other

      by : (v ≡ w) ⊎ (v ≡ w → ⊥) → in_exchange (fork_key v a true) (fork_key v b true) (in_exchange (fork_key v a false) (fork_key v b false) (fork_key w n r)) ≡ exchanged v (record { first = a; second = b }) (fork_key w n r)
      by (inl same) =
          subst (λ (x : ℕ). in_exchange (fork_key v a true) (fork_key v b true) (in_exchange (fork_key v a false) (fork_key v b false) (fork_key x n r)) ≡ exchanged v (record { first = a; second = b }) (fork_key x n r)) same (node (cases_eq a n) (cases_eq b n))
      by (inr ne) = both-other w n r ne

  -- the open forks, and the locks
  opens-swapped : (rows : List (ℕ × held.OpenFork))
      → map (λ (row : ℕ × held.OpenFork). open_of row.0 row.1) (map (table.exchange_row (fork_key v a true) (fork_key v b true)) (map (table.exchange_row (fork_key v a false) (fork_key v b false)) rows))
      ≡ opens_exchanged v (Some (record { first = a; second = b })) (map (λ (row : ℕ × held.OpenFork). open_of row.0 row.1) rows)
  opens-swapped [] = refl
  opens-swapped (row ∷ rows) =
      let one = fork-exchanged row.1.fork.volume row.1.fork.node row.1.fork.resource in
      let rest = opens-swapped rows in
      λ i. record { reference = row.0; session = row.1.session.0; fork = one i; access = row.1.mode } ∷ rest i

  locks-swapped : (locks : List ForkLock) → map lock_of (exchanged_locks (fork_key v a true) (fork_key v b true) (exchanged_locks (fork_key v a false) (fork_key v b false) locks)) ≡ map lock_of locks
  locks-swapped [] = refl
  locks-swapped (l ∷ locks) = ap (λ (rest : List Lock). lock_of l ∷ rest) (locks-swapped locks)

  pub forks-swapped : (t one two : table.Table) (c d e f : Fork) → c ≡ fork_key v a false → d ≡ fork_key v b false → e ≡ fork_key v a true → f ≡ fork_key v b true
      → one.opens ≡ map (table.exchange_row c d) t.opens → one.locks ≡ exchanged_locks c d t.locks → two.opens ≡ map (table.exchange_row e f) one.opens → two.locks ≡ exchanged_locks e f one.locks
      → forks_of two ≡ with_opens (forks_of t) (opens_exchanged v (Some (record { first = a; second = b })) (forks_of t).opens)
  forks-swapped t one two c d e f c_is d_is e_is f_is opens locks more_opens more_locks =
      let o = ap (λ (rows : List (ℕ × held.OpenFork)). map (λ (row : ℕ × held.OpenFork). open_of row.0 row.1) rows)
      (more_opens ∙ ap (map (table.exchange_row e f)) opens ∙ (λ i. map (table.exchange_row (e_is i) (f_is i)) (map (table.exchange_row (c_is i) (d_is i)) t.opens))) ∙ opens-swapped t.opens in
      let l = ap (map lock_of) (more_locks ∙ ap (exchanged_locks e f) locks ∙ (λ i. exchanged_locks (e_is i) (f_is i) (exchanged_locks (c_is i) (d_is i) t.locks))) ∙ locks-swapped t.locks in
      λ i. record { opens = o i; locks = l i }

-- locks that change their forks stay in their ranges
pub swapped-in-range : (a b : Fork) (locks : List ForkLock) → AreInRange locks → AreInRange (exchanged_locks a b locks)
swapped-in-range a b locks all = same locks ∙ all
  where
    same : (ls : List ForkLock) → list_all (λ (l : ForkLock). is_lock_range l.range) (exchanged_locks a b ls) ≡ list_all (λ (l : ForkLock). is_lock_range l.range) ls
    same [] = refl
    same (l ∷ ls) = ap (λ (t : Bool). is_lock_range l.range && t) (same ls)
