-- The session of a token, by the number that the token begins with.
use Rattle.std.proofs.Common.{◌≡◌, ◌∙◌, ap, sym, refl, subst, inl, inr, ◌⊎◌, ℕ, ◌<◌, ◌≤◌, ◌^◌, arith, Bool, true, false, not, ◌&&◌, cond, List, [], ◌∷◌, length, Option, Some, None}
use Rattle.std.specs.Prelude.{find, nat_eq, nat_lt, bytes_eq, ◌==◌}
use Rattle.std.specs.List.{AllByRecursion, IsDistinct, list_all}
use Rattle.std.specs.Map.{keys_of, lookup}
use Rattle.std.specs.Cmp.Lexicographic.{bytes_decides}
use Rattle.std.proofs.lemmas.Bool.{and_parts, and_from, cases_eq, eq-eqb, eqb-true, ltb-true, ne_eqb, false_from_ne_true}
use Rattle.afp_serial.proofs.Tokens.{token-number}
use Rattle.byteorder.specs.Endian.{big_number}
use Rattle.afp_base.specs.Choice.{first_holding}
use Rattle.afp_base.specs.declared.code.Code.TheVariants.{AccessDenied, ItemNotFound, ParamErr}
use Rattle.afp_serial.specs.SessionToken.{is_of_another, is_old_session, old_session_refusals}
use Rattle.afp_serial.specs.Token.{session_token}
use Rattle.afp_serial.specs.World.{is_expired, plain, Session}
use Rattle.session_table.specs.Sessions.{ended, session_of}
use Rattle.session_table.specs.declared.sessions.Open.{Open}
use Rattle.session_table.specs.lemma.Kept.{seen, shown}

token-length : (key : List ℕ) (number : ℕ) → length (session_token key number) ≡ 16
unfolding session_token
token-length key number = refl

module _ (key : List ℕ) (now own : ℕ) (token : List ℕ) where
  abbrev pub is_old : Session → Bool
  is_old = is_old_session key now own token

  -- whose token it is has the number that the token begins with
  old-token : (s : Session) → is_old s ≡ true → session_token key s.number ≡ token
  old-token s h =
      let a = and_parts (not (s.number == own)) (not (is_expired now s.place) && bytes_eq (session_token key s.number) token) h in
      (bytes_decides (session_token key s.number) token).0 (and_parts (not (is_expired now s.place)) (bytes_eq (session_token key s.number) token) a.1).1

  old-number : (s : Session) → s.number < 2 ^ 64 → is_old s ≡ true → s.number ≡ big_number 8 token
  old-number s small h = sym (token-number key s.number small) ∙ ap (big_number 8) (old-token s h)

  -- none where the token has another length
  pub none-of-size : (es : List (ℕ × Open)) → (length token ≡ 16 → ⊥) → find is_old (shown es) ≡ None
  none-of-size [] other = refl
  none-of-size (e ∷ es) other =
      rw (false_from_ne_true (is_old (seen e.0 e.1)) (λ h. other (ap length (sym (old-token (seen e.0 e.1) h)) ∙ token-length key e.0))) (none-of-size es other)

  abbrev pub chosen : ℕ → Option Open → Option Session
  chosen n None = None
  chosen n (Some x) = cond (is_old (seen n x)) (Some (seen n x)) None

  none-behind : (es : List (ℕ × Open)) (next : ℕ) → next ≤ 2 ^ 64 → list_all (λ s. nat_lt s.number next) (shown es) ≡ true
      → AllByRecursion (λ y. nat_eq (big_number 8 token) y ≡ false) (keys_of es) → find is_old (shown es) ≡ None
  none-behind [] next few below differ = refl
  none-behind (e ∷ es) next few below differ =
      let b = and_parts (nat_lt e.0 next) (list_all (λ (s : Session). nat_lt s.number next) (shown es)) below in
      let small : e.0 < next = ltb-true e.0 next b.0 in
      rw (false_from_ne_true (is_old (seen e.0 e.1)) (λ h. cc (differ.0, eq-eqb (big_number 8 token) e.0 (sym (old-number (seen e.0 e.1) (omega arith) h))))) (none-behind es next few b.1 differ.1)

  -- so it is looked for under that number alone
  pub old-found : (es : List (ℕ × Open)) (next : ℕ) → next ≤ 2 ^ 64 → list_all (λ s. nat_lt s.number next) (shown es) ≡ true → IsDistinct nat_eq (keys_of es)
      → find is_old (shown es) ≡ chosen (big_number 8 token) (lookup (nat_eq (big_number 8 token)) es)
  unfolding IsDistinct
  old-found [] next few below unique = refl
  old-found (e ∷ es) next few below unique =
      let b = and_parts (nat_lt e.0 next) (list_all (λ (s : Session). nat_lt s.number next) (shown es)) below in
      let small : e.0 < next = ltb-true e.0 next b.0 in
      by (cases_eq (big_number 8 token) e.0) (old-found es next few b.1 unique.1) (omega arith) (none-behind es next few b.1)
    where
      by : (big_number 8 token ≡ e.0) ⊎ (big_number 8 token ≡ e.0 → ⊥)
          → find is_old (shown es) ≡ chosen (big_number 8 token) (lookup (nat_eq (big_number 8 token)) es)
          → e.0 < 2 ^ 64
          → (AllByRecursion (λ y. nat_eq (big_number 8 token) y ≡ false) (keys_of es) → find is_old (shown es) ≡ None)
          → find is_old (shown (e ∷ es)) ≡ chosen (big_number 8 token) (lookup (nat_eq (big_number 8 token)) (e ∷ es))
      by (inl same) rest small none =
          rw (eq-eqb (big_number 8 token) e.0 same)
          (ap (λ (l : Option Session). cond (is_old (seen e.0 e.1)) (Some (seen e.0 e.1)) l) (none (subst (λ k. AllByRecursion (λ y. nat_eq k y ≡ false) (keys_of es)) (sym same) unique.0))
          ∙ ap (λ n. cond (is_old (seen n e.1)) (Some (seen n e.1)) None) (sym same))
      by (inr ne) rest small none =
          rw (ne_eqb (big_number 8 token) e.0 ne, false_from_ne_true (is_old (seen e.0 e.1)) (λ h. ne (sym (old-number (seen e.0 e.1) small h)))) rest

  -- the parts of the test
  pub old-parts : (s : Session) → is_old s ≡ true → (not (s.number == own) ≡ true) × (not (is_expired now s.place) ≡ true) × (bytes_eq (session_token key s.number) token ≡ true)
  old-parts s h =
      let a = and_parts (not (s.number == own)) (not (is_expired now s.place) && bytes_eq (session_token key s.number) token) h in
      let b = and_parts (not (is_expired now s.place)) (bytes_eq (session_token key s.number) token) a.1 in
      (a.0, b.0, b.1)

  pub old-whole : (s : Session) → (s.number == own) ≡ false → is_expired now s.place ≡ false → bytes_eq (session_token key s.number) token ≡ true → is_old s ≡ true
  old-whole s a b d = and_from (not (s.number == own)) (not (is_expired now s.place) && bytes_eq (session_token key s.number) token) (ap not a) (and_from (not (is_expired now s.place)) (bytes_eq (session_token key s.number) token) (ap not b) d)

  module _ (es : List (ℕ × Open)) (next : ℕ) (few : next ≤ 2 ^ 64) (below : list_all (λ s. nat_lt s.number next) (shown es) ≡ true) (unique : IsDistinct nat_eq (keys_of es)) (n : ℕ) (is : n ≡ big_number 8 token) where
    old-at : (q : Option Open) → q ≡ lookup (nat_eq n) es → find is_old (shown es) ≡ chosen n q
    old-at q found = old-found es next few below unique ∙ (λ i. chosen (sym is i) (lookup (nat_eq (sym is i)) es)) ∙ ap (chosen n) (sym found)

    pub none-under : None ≡ lookup (nat_eq n) es → find is_old (shown es) ≡ None
    none-under found = old-at None found

    pub none-at : (x : Open) → Some x ≡ lookup (nat_eq n) es → (is_old (seen n x) ≡ true → ⊥) → find is_old (shown es) ≡ None
    none-at x found other = old-at (Some x) found ∙ ap (λ b. cond b (Some (seen n x)) None) (false_from_ne_true (is_old (seen n x)) other)

    pub some-at : (x : Open) → Some x ≡ lookup (nat_eq n) es → is_old (seen n x) ≡ true → find is_old (shown es) ≡ Some (seen n x)
    some-at x found same = old-at (Some x) found ∙ ap (λ b. cond b (Some (seen n x)) None) same

-- why an old session does not come back

pub refuses-none : (x : Session) → first_holding (old_session_refusals x None) ≡ Some (plain ItemNotFound)
refuses-none x = refl

pub refuses-another : (x o : Session) → is_of_another x (Some o) ≡ true → first_holding (old_session_refusals x (Some o)) ≡ Some (plain AccessDenied)
refuses-another x o h = ap (λ b. cond b (Some (plain AccessDenied)) (cond (not (length x.volumes == 0)) (Some (plain ParamErr)) None)) h

pub refuses-open : (x o : Session) → is_of_another x (Some o) ≡ false → not (length x.volumes == 0) ≡ true → first_holding (old_session_refusals x (Some o)) ≡ Some (plain ParamErr)
refuses-open x o h k = (λ i. cond (h i) (Some (plain AccessDenied)) (cond (k i) (Some (plain ParamErr)) None))

pub refuses-not : (x o : Session) → is_of_another x (Some o) ≡ false → not (length x.volumes == 0) ≡ false → first_holding (old_session_refusals x (Some o)) ≡ None
refuses-not x o h k = (λ i. cond (h i) (Some (plain AccessDenied)) (cond (k i) (Some (plain ParamErr)) None))

-- another session is still there, once one has ended
pub found-ended : (sessions : List Session) (n m : ℕ) (o : Session) → nat_eq m n ≡ false → session_of sessions m ≡ Some o → session_of (ended sessions n) m ≡ Some o
found-ended [] n m o differ found = absurd (cc)
found-ended (x ∷ xs) n m o differ found = by (nat_eq x.number n) (nat_eq x.number m) refl refl found (found-ended xs n m o differ)
  where
    by : (a b : Bool) → nat_eq x.number n ≡ a → nat_eq x.number m ≡ b → cond b (Some x) (session_of xs m) ≡ Some o → (session_of xs m ≡ Some o → session_of (ended xs n) m ≡ Some o)
        → session_of (cond (not a) (x ∷ ended xs n) (ended xs n)) m ≡ Some o
    by true true isa isb f rest = absurd (let p : x.number ≡ n = eqb-true x.number n isa in let q : x.number ≡ m = eqb-true x.number m isb in cc (sym differ ∙ eq-eqb m n (sym q ∙ p)))
    by true false isa isb f rest = rest f
    by false true isa isb f rest = rw isb f
    by false false isa isb f rest = rw isb (rest f)
