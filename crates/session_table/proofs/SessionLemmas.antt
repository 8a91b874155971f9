-- Sessions that are kept under their numbers, as a list of sessions.
use Rattle.std.proofs.Common.{◌≡◌, ◌⊎◌, inl, inr, ℕ, zero, suc, ◌+◌, ◌≤◌, ◌<◌, ◌^◌, length, Bool, true, false, cond, not, List, [], ◌∷◌, ◌++◌, map, filter, Option, Some, None, refl, sym, ap, ◌∙◌, subst, arith}
use Rattle.std.specs.Prelude.{nat_le, nat_lt, OnErr, Result, Ok, Err, find, option_map, nat_eq, slice_get, position}
use Rattle.std.specs.List.{AllByRecursion, IsDistinct, list_all, position_or_len}
use Rattle.std.specs.Map.{keys_of, values_of, lookup, remove_entry, set_value}
use Rattle.std.proofs.lemmas.Bool.{leb-true, false_from_ne_true, and_parts, cases_eq, eq-eqb, ltb-true, ne_eqb, eqb-false, ltb-false, true≢false}
use Rattle.afp_serial.specs.World.{has_session, is_expired, is_on_link, Session}
use Rattle.afp_serial.specs.declared.attachment.Attachment.{Attachment}
use Rattle.afp_serial.specs.Answer.{new_session}
use Rattle.session_table.specs.Sessions.{Table, is_full, AreBelow, ended, session_of, replaced, with_sessions, IsAt, IsGone}
use Rattle.session_table.specs.declared.sessions.Open.{Open}
use Rattle.session_table.specs.lemma.Kept.{seen, shown}

some_none : {X : Type 0} (x : X) → Some x ≡ None → ⊥
some_none x e = cc

unsome : {X : Type 0} (x y : X) → Some x ≡ Some y → x ≡ y
unsome x y e = cc

pub on_err : {A E P : Type 0} (r : Result A E) → P → OnErr r P
on_err (Ok a) p = tt
on_err (Err e) p = p

eqb-flip : (m n : ℕ) → nat_eq m n ≡ false → nat_eq n m ≡ false
eqb-flip m n h = ne_eqb n m (λ e. eqb-false m n h (sym e))

-- found by its number
found_step : (n k : ℕ) (x : Open) (a : Option Session) (b : Option Open) → a ≡ option_map (seen n) b
    → cond (nat_eq k n) (Some (seen k x)) a ≡ option_map (seen n) (cond (nat_eq n k) (Some x) b)
found_step n k x a b h = by (cases_eq k n)
  where
    by : (k ≡ n) ⊎ (k ≡ n → ⊥) → cond (nat_eq k n) (Some (seen k x)) a ≡ option_map (seen n) (cond (nat_eq n k) (Some x) b)
    by (inl e) = rw (eq-eqb k n e, eq-eqb n k (sym e)) (ap (λ j. Some (seen j x)) e)
    by (inr ne) = rw (ne_eqb k n ne, ne_eqb n k (λ e. ne (sym e))) h

pub session_of-shown : (es : List (ℕ × Open)) (n : ℕ) → session_of (shown es) n ≡ option_map (seen n) (lookup (nat_eq n) es)
session_of-shown [] n = refl
session_of-shown (e ∷ es) n = found_step n e.0 e.1 _ _ (session_of-shown es n)

-- a number that no session has
pub replaced-absent : (es : List (ℕ × Open)) (s : Session) → AllByRecursion (λ y. nat_eq s.number y ≡ false) (keys_of es) → replaced (shown es) s ≡ shown es
replaced-absent [] s h = refl
replaced-absent (e ∷ es) s h = rw (eqb-flip s.number e.0 h.0) (ap (λ (l : List Session). seen e.0 e.1 ∷ l) (replaced-absent es s h.1))

pub filter-absent : (es : List (ℕ × Open)) (n : ℕ) → lookup (nat_eq n) es ≡ None → filter (λ s. not (nat_eq s.number n)) (shown es) ≡ shown es
filter-absent [] n h = refl
filter-absent (e ∷ es) n h = by (cases_eq n e.0) (filter-absent es n)
  where
    by : (n ≡ e.0) ⊎ (n ≡ e.0 → ⊥) → (lookup (nat_eq n) es ≡ None → filter (λ s. not (nat_eq s.number n)) (shown es) ≡ shown es) → filter (λ s. not (nat_eq s.number n)) (shown (e ∷ es)) ≡ shown (e ∷ es)
    by (inl same) rest = absurd (some_none e.1 (rw (eq-eqb n e.0 same) at h))
    by (inr ne) rest = rw (ne_eqb e.0 n (λ q. ne (sym q))) (ap (λ (l : List Session). seen e.0 e.1 ∷ l) (rest (rw (ne_eqb n e.0 ne) at h)))

-- another value under a number
pub shown-set_value : (es : List (ℕ × Open)) (n : ℕ) (w : Open) → IsDistinct nat_eq (keys_of es) → shown (set_value (nat_eq n) es w) ≡ replaced (shown es) (seen n w)
unfolding IsDistinct
shown-set_value [] n w u = refl
shown-set_value (e ∷ es) n w u = by (cases_eq n e.0) (shown-set_value es n w u.1)
  where
    by : (n ≡ e.0) ⊎ (n ≡ e.0 → ⊥) → shown (set_value (nat_eq n) es w) ≡ replaced (shown es) (seen n w) → shown (set_value (nat_eq n) (e ∷ es) w) ≡ replaced (shown (e ∷ es)) (seen n w)
    by (inl same) rest = rw (eq-eqb n e.0 same, eq-eqb e.0 n (sym same))
        (λ i. seen (sym same i) w ∷ sym (replaced-absent es (seen n w) (subst (λ k. AllByRecursion (λ y. nat_eq k y ≡ false) (keys_of es)) (sym same) u.0)) i)
    by (inr ne) rest = rw (ne_eqb n e.0 ne, ne_eqb e.0 n (λ q. ne (sym q))) (ap (λ (l : List Session). seen e.0 e.1 ∷ l) rest)

-- without a number
pub shown-remove_entry : (es : List (ℕ × Open)) (n : ℕ) → lookup (nat_eq n) (remove_entry (nat_eq n) es) ≡ None
    → shown (remove_entry (nat_eq n) es) ≡ filter (λ s. not (nat_eq s.number n)) (shown es)
shown-remove_entry [] n h = refl
shown-remove_entry (e ∷ es) n h = by (cases_eq n e.0) (shown-remove_entry es n)
  where
    by : (n ≡ e.0) ⊎ (n ≡ e.0 → ⊥)
        → (lookup (nat_eq n) (remove_entry (nat_eq n) es) ≡ None → shown (remove_entry (nat_eq n) es) ≡ filter (λ s. not (nat_eq s.number n)) (shown es))
        → shown (remove_entry (nat_eq n) (e ∷ es)) ≡ filter (λ s. not (nat_eq s.number n)) (shown (e ∷ es))
    by (inl same) rest = rw (eq-eqb n e.0 same, eq-eqb e.0 n (sym same)) (sym (filter-absent es n (rw (eq-eqb n e.0 same) at h)))
    by (inr ne) rest = rw (ne_eqb n e.0 ne, ne_eqb e.0 n (λ q. ne (sym q))) (ap (λ (l : List Session). seen e.0 e.1 ∷ l) (rest (rw (ne_eqb n e.0 ne) at (rw (ne_eqb n e.0 ne) at h))))

-- the same value under a number
pub set_value-same : (es : List (ℕ × Open)) (n : ℕ) (x : Open) → lookup (nat_eq n) es ≡ Some x → set_value (nat_eq n) es x ≡ es
set_value-same [] n x h = refl
set_value-same (e ∷ es) n x h = by (nat_eq n e.0) h (set_value-same es n x)
  where
    by : (b : Bool) → cond b (Some e.1) (lookup (nat_eq n) es) ≡ Some x → (lookup (nat_eq n) es ≡ Some x → set_value (nat_eq n) es x ≡ es)
        → cond b ((e.0, x) ∷ es) (e ∷ set_value (nat_eq n) es x) ≡ e ∷ es
    by true h rest = ap (λ (y : Open). (e.0, y) ∷ es) (unsome x e.1 (sym h))
    by false h rest = ap (λ (l : List (ℕ × Open)). e ∷ l) (rest h)

-- a number that no session has is under no entry
pub lookup-new : (es : List (ℕ × Open)) (n : ℕ) → has_session (shown es) n ≡ false → lookup (nat_eq n) es ≡ None
lookup-new [] n h = refl
lookup-new (e ∷ es) n h = by (cases_eq n e.0) (lookup-new es n)
  where
    by : (n ≡ e.0) ⊎ (n ≡ e.0 → ⊥) → (has_session (shown es) n ≡ false → lookup (nat_eq n) es ≡ None) → lookup (nat_eq n) (e ∷ es) ≡ None
    by (inl same) rest = absurd (true≢false (rw (eq-eqb e.0 n (sym same)) at h))
    by (inr ne) rest = rw (ne_eqb n e.0 ne) (rest (rw (ne_eqb e.0 n (λ q. ne (sym q))) at h))

pub shown-append : (es fs : List (ℕ × Open)) → shown (es ++ fs) ≡ shown es ++ shown fs
shown-append [] fs = refl
shown-append (e ∷ es) fs = ap (λ (l : List Session). seen e.0 e.1 ∷ l) (shown-append es fs)

-- a list of sessions that these entries show
module _ (old : List Session) (es : List (ℕ × Open)) (is : shown es ≡ old) (n : ℕ) (s : Session) (at : session_of old n ≡ Some s) where
  -- what the entry of the session's number shows is the session
  pub entry_of : Some s ≡ option_map (seen n) (lookup (nat_eq n) es)
  entry_of = sym at ∙ ap (λ (l : List Session). session_of l n) (sym is) ∙ session_of-shown es n

  pub there : lookup (nat_eq n) es ≡ None → ⊥
  there none = some_none s (entry_of ∙ ap (option_map (seen n)) none)

  pub session_at_entry : (x : Open) → Some x ≡ lookup (nat_eq n) es → s ≡ seen n x
  session_at_entry x found = unsome s (seen n x) (entry_of ∙ ap (option_map (seen n)) (sym found))

  -- the entry takes another value
  pub replaced_entry : IsDistinct nat_eq (keys_of es) → (x w : Open) (new : List (ℕ × Open)) → Some x ≡ lookup (nat_eq n) es → new ≡ set_value (nat_eq n) es w
      → (t : Session) → (s ≡ seen n x → t ≡ seen n w) → shown new ≡ replaced old t
  replaced_entry unique x w new found set t same =
      ap shown set ∙ shown-set_value es n w unique ∙ (λ i. replaced (is i) (sym (same (session_at_entry x found)) i))

-- the first session whose place passes a test, by the entry's place
module _ (test : Attachment → Bool) where
  find-prefix : (es : List (ℕ × Open)) → find (λ s. test s.place) (shown es) ≡ option_map (λ e. seen e.0 e.1) (slice_get es (position_or_len (λ x. test x.place) (values_of es)))
  find-prefix [] = refl
  find-prefix (e ∷ es) = by (test e.1.place) (position_or_len (λ x. test x.place) (values_of es)) (find-prefix es)
    where
      by : (b : Bool) (n : ℕ) → find (λ s. test s.place) (shown es) ≡ option_map (λ e. seen e.0 e.1) (slice_get es n)
          → cond b (Some (seen e.0 e.1)) (find (λ s. test s.place) (shown es)) ≡ option_map (λ e. seen e.0 e.1) (slice_get (e ∷ es) (cond (not b) (1 + n) 0))
      by true n rest = refl
      by false n rest = let one : 1 + n ≡ suc n = omega arith in rw one rest

get-past : (es : List (ℕ × Open)) (i : ℕ) → length (values_of es) ≤ i → slice_get es i ≡ None
get-past [] i h = refl
get-past (e ∷ es) zero h = absurd (omega arith)
get-past (e ∷ es) (suc i) h = get-past es i (omega arith)

some_place : (b : Bool) (n i : ℕ) → cond b (Some n) None ≡ Some i → n ≡ i
some_place true n i h = unsome n i h
some_place false n i h = cc

no_place : (b : Bool) (n : ℕ) → cond b (Some n) None ≡ None → b ≡ false
no_place true n h = cc
no_place false n h = refl

module _ (test : Attachment → Bool) (es : List (ℕ × Open)) where
  pub find-placed : (i : ℕ) → position (λ x. test x.place) (values_of es) ≡ Some i → find (λ s. test s.place) (shown es) ≡ option_map (λ e. seen e.0 e.1) (slice_get es i)
  find-placed i h = find-prefix test es ∙ ap (λ j. option_map (λ e. seen e.0 e.1) (slice_get es j)) (some_place _ _ i h)

  pub find-unplaced : position (λ x. test x.place) (values_of es) ≡ None → find (λ s. test s.place) (shown es) ≡ None
  find-unplaced h = find-prefix test es ∙ ap (option_map (λ e. seen e.0 e.1)) (get-past es _ (ltb-false _ _ (no_place _ _ h)))

pub is_at : (old : List Session) (es : List (ℕ × Open)) → shown es ≡ old → (link i n : ℕ) (x : Open)
    → position (λ y. is_on_link link y.place) (values_of es) ≡ Some i → Some (n, x) ≡ slice_get es i → lookup (nat_eq n) es ≡ Some x → IsAt old link n
is_at old es is link i n x place entry under = subst (λ (l : List Session). IsAt l link n) is record {
  session = seen n x;
  linked = find-placed (is_on_link link) es i place ∙ ap (option_map (λ e. seen e.0 e.1)) (sym entry);
  numbered = session_of-shown es n ∙ ap (option_map (seen n)) under;
  same = refl;
}

pub is_gone : (old : List Session) (es : List (ℕ × Open)) → shown es ≡ old → (now i n : ℕ) (x : Open)
    → position (λ y. is_expired now y.place) (values_of es) ≡ Some i → Some (n, x) ≡ slice_get es i → IsGone old now n
is_gone old es is now i n x place entry = subst (λ (l : List Session). IsGone l now n) is record {
  session = seen n x;
  first = find-placed (is_expired now) es i place ∙ ap (option_map (λ e. seen e.0 e.1)) (sym entry);
  same = refl;
}

pub session_of-number : (sessions : List Session) (n : ℕ) (s : Session) → session_of sessions n ≡ Some s → s.number ≡ n
session_of-number [] n s h = cc
session_of-number (x ∷ xs) n s h = by (cases_eq x.number n) (session_of-number xs n s)
  where
    by : (x.number ≡ n) ⊎ (x.number ≡ n → ⊥) → (session_of xs n ≡ Some s → s.number ≡ n) → s.number ≡ n
    by (inl same) rest = ap (λ (t : Session). t.number) (sym (unsome x s (rw (eq-eqb x.number n same) at h))) ∙ same
    by (inr ne) rest = rest (rw (ne_eqb x.number n ne) at h)

-- the next number is none of those below it
pub next-absent : (es : List (ℕ × Open)) (next : ℕ) → list_all (λ (s : Session). nat_lt s.number next) (shown es) ≡ true → lookup (nat_eq next) es ≡ None
next-absent [] next h = refl
next-absent (e ∷ es) next h =
    let both = and_parts (nat_lt e.0 next) (list_all (λ (s : Session). nat_lt s.number next) (shown es)) h in
    let first : e.0 < next = ltb-true e.0 next both.0 in
    rw (ne_eqb next e.0 (λ same. let e2 : next ≡ e.0 = same in absurd (omega arith))) (next-absent es next both.1)

le_false : (m n : ℕ) → n < m → nat_le m n ≡ false
le_false m n h = false_from_ne_true (nat_le m n) (λ e. let x : m ≤ n = leb-true m n e in omega arith)

-- how many there are
pub length-shown : (es : List (ℕ × Open)) → length (shown es) ≡ length es
length-shown [] = refl
length-shown (e ∷ es) = ap suc (length-shown es)

-- the table that entries show

abbrev pub table : List (ℕ × Open) → ℕ → List ℕ → Table
table es next key = record { sessions = shown es; next_link = next; token_key = key }

module _ (old : Table) (es : List (ℕ × Open)) (next : ℕ) (key : List ℕ) (is : table es next key ≡ old) where
  pub listed : shown es ≡ old.sessions
  listed = ap (λ (t : Table). t.sessions) is

  -- one session comes to be another
  pub becomes : (new : List (ℕ × Open)) (n : ℕ) (change : Session → Session) → IsDistinct nat_eq (keys_of es) → (x w : Open) → Some x ≡ lookup (nat_eq n) es → new ≡ set_value (nat_eq n) es w → change (seen n x) ≡ seen n w
      → (s : Session) → session_of old.sessions n ≡ Some s → table new next key ≡ with_sessions old (replaced old.sessions (change s))
  becomes new n change unique x w found set same s at =
      let all = replaced_entry old.sessions es listed n s at unique x w new found set (change s) (λ e. ap change e ∙ same) in
      (λ i. record { sessions = all i; next_link = (is i).next_link; token_key = (is i).token_key })

  pub ends : (new : List (ℕ × Open)) (n : ℕ) → new ≡ remove_entry (nat_eq n) es → lookup (nat_eq n) (remove_entry (nat_eq n) es) ≡ None → table new next key ≡ with_sessions old (ended old.sessions n)
  ends new n left none =
      let all = ap shown left ∙ shown-remove_entry es n none ∙ ap (λ (l : List Session). ended l n) listed in
      (λ i. record { sessions = all i; next_link = (is i).next_link; token_key = (is i).token_key })

-- a session is opened on the next link
pub opened : (old : Table) (es new : List (ℕ × Open)) (next : ℕ) (key : List ℕ) → table es next key ≡ old → AreBelow old → (x : Open) → seen next x ≡ new_session next
    → (lookup (nat_eq next) es ≡ None → new ≡ es ++ (next, x) ∷ []) → (link after_it : ℕ) → link ≡ next → after_it ≡ next + 1
    → table new after_it key ≡ record old { next_link = old.next_link + 1; sessions = old.sessions ++ new_session old.next_link ∷ [] }
opened old es new next key is below x same inserts link after_it l a =
    let none : lookup (nat_eq next) es ≡ None = next-absent es next (subst AreBelow (sym is) below) in
    let listed : shown new ≡ shown es ++ new_session next ∷ [] = ap shown (inserts none) ∙ shown-append es ((next, x) ∷ []) ∙ ap (λ (s : Session). shown es ++ s ∷ []) same in
    subst (λ (t : Table). table new after_it key ≡ record t { next_link = t.next_link + 1; sessions = t.sessions ++ new_session t.next_link ∷ [] }) is
    (λ i. record { sessions = listed i; next_link = a i; token_key = key })

pub not-full : (old : Table) (es : List (ℕ × Open)) (next : ℕ) (key : List ℕ) → table es next key ≡ old → length es < 64 → next < 2 ^ 64 → is_full old ≡ false
not-full old es next key is few room =
    subst (λ (t : Table). is_full t ≡ false) is
    (let l : length (shown es) ≡ length es = length-shown es in
    rw (le_false 64 (length (shown es)) (omega arith)) (le_false (2 ^ 64) next room))

-- a change of the session of a number, as a map over all

abbrev changed : (Session → Session) → ℕ → List Session → List Session
changed f n sessions = map (λ (s : Session). cond (nat_eq s.number n) (f s) s) sessions

changed-absent : (es : List (ℕ × Open)) (n : ℕ) (f : Session → Session) → AllByRecursion (λ y. nat_eq n y ≡ false) (keys_of es) → changed f n (shown es) ≡ shown es
changed-absent [] n f h = refl
changed-absent (e ∷ es) n f h = rw (eqb-flip n e.0 h.0) (ap (λ (l : List Session). seen e.0 e.1 ∷ l) (changed-absent es n f h.1))

pub changed-unfound : (es : List (ℕ × Open)) (n : ℕ) (f : Session → Session) → lookup (nat_eq n) es ≡ None → changed f n (shown es) ≡ shown es
changed-unfound [] n f h = refl
changed-unfound (e ∷ es) n f h = by (cases_eq n e.0) (changed-unfound es n f)
  where
    by : (n ≡ e.0) ⊎ (n ≡ e.0 → ⊥) → (lookup (nat_eq n) es ≡ None → changed f n (shown es) ≡ shown es) → changed f n (shown (e ∷ es)) ≡ shown (e ∷ es)
    by (inl same) rest = absurd (some_none e.1 (rw (eq-eqb n e.0 same) at h))
    by (inr ne) rest = rw (ne_eqb e.0 n (λ q. ne (sym q))) (ap (λ (l : List Session). seen e.0 e.1 ∷ l) (rest (rw (ne_eqb n e.0 ne) at h)))

pub changed-set_value : (es : List (ℕ × Open)) (n : ℕ) (f : Session → Session) (x w : Open) → IsDistinct nat_eq (keys_of es) → Some x ≡ lookup (nat_eq n) es → f (seen n x) ≡ seen n w → shown (set_value (nat_eq n) es w) ≡ changed f n (shown es)
unfolding IsDistinct
changed-set_value [] n f x w u found same = refl
changed-set_value (e ∷ es) n f x w u found same = by (cases_eq n e.0) (changed-set_value es n f x w u.1)
  where
    by : (n ≡ e.0) ⊎ (n ≡ e.0 → ⊥) → (Some x ≡ lookup (nat_eq n) es → f (seen n x) ≡ seen n w → shown (set_value (nat_eq n) es w) ≡ changed f n (shown es)) → shown (set_value (nat_eq n) (e ∷ es) w) ≡ changed f n (shown (e ∷ es))
    by (inl is) rest =
        let first : x ≡ e.1 = unsome x e.1 (rw (eq-eqb n e.0 is) at found) in
        rw (eq-eqb n e.0 is, eq-eqb e.0 n (sym is))
        (ap (λ (k : ℕ). seen k w ∷ shown es) (sym is) ∙ ap (λ (s : Session). s ∷ shown es) (sym same) ∙ (λ i. f (seen (is i) (first i)) ∷ sym (changed-absent es n f (subst (λ k. AllByRecursion (λ y. nat_eq k y ≡ false) (keys_of es)) (sym is) u.0)) i))
    by (inr ne) rest = rw (ne_eqb n e.0 ne, ne_eqb e.0 n (λ q. ne (sym q))) (ap (λ (l : List Session). seen e.0 e.1 ∷ l) (rest (rw (ne_eqb n e.0 ne) at found) same))

module _ (old : Table) (es : List (ℕ × Open)) (next : ℕ) (key : List ℕ) (is : table es next key ≡ old) where
  pub changes : (new : List (ℕ × Open)) (n : ℕ) (f : Session → Session) → shown new ≡ changed f n (shown es) → table new next key ≡ with_sessions old (changed f n old.sessions)
  changes new n f all = (λ i. record { sessions = (all ∙ ap (changed f n) (ap (λ (t : Table). t.sessions) is)) i; next_link = (is i).next_link; token_key = (is i).token_key })
