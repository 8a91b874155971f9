-- Names, read from the front.
use Rattle.std.proofs.Common.{◌≡◌, ◌<◌, ◌≤◌, ℕ, Bool, true, false, List, [], ◌∷◌, ◌++◌, length, drop, slice_index, refl, ap, sym, ◌∙◌, arith, append_assoc, append-nil}
use Rattle.std.proofs.lemmas.Bool.{eqb-true, ne_eqb}
use Rattle.std.specs.Prelude.{◌==◌, ◌&&◌, ◌||◌, if◌then◌else◌}
use Rattle.afp_base.proofs.Facts.{and-false, left_true, never_both, right_true}
use Rattle.client_files.specs.Names.{begins, begins_dotted, begins_hidden, begins_pair, behind_25, is_dot_at, is_hidden, is_nil, is_colon, is_dot, local_byte, local_bytes, local_name, server_bytes, server_name, unescaped}
use Rattle.client_files.proofs.NameLemmas.{local_first, local_second, name_escape, plain_back, server_cons, server_escape, server_plain}

pub pair_here : (x y : ℕ) (xs : List ℕ) → begins_pair x y xs ≡ (begins x xs && begins y (drop 1 xs))
pair_here x y [] = refl
pair_here x y (a ∷ rest) = refl

one_left : (a : ℕ) (rest : List ℕ) → is_nil rest ≡ (length (a ∷ rest) == 1)
one_left a [] = refl
one_left a (b ∷ rest) = sym (ne_eqb (length (a ∷ b ∷ rest)) 1 (λ e. omega (arith, e)))

pub hidden_here : (xs : List ℕ) → 0 < length xs → is_hidden xs ≡ (begins 95 xs || (begins 46 xs && (length xs == 1)))
hidden_here [] h = absurd (omega (arith, h))
hidden_here (a ∷ rest) h = ap (λ (t : Bool). (a == 95) || ((a == 46) && t)) (one_left a rest)

no_pair : (p q : Bool) → ((p && false) && q) ≡ false
no_pair true q = refl
no_pair false q = refl

pub dot_here : (xs : List ℕ) → is_dot_at xs ≡ (begins_pair 50 69 xs && is_hidden (drop 2 xs))
dot_here [] = refl
dot_here (a ∷ []) = sym (no_pair (a == 50) (is_hidden []))
dot_here (a ∷ b ∷ rest) = refl

pub behind_step : (xs : List ℕ) → begins_pair 50 53 xs ≡ true → behind_25 xs ≡ behind_25 (drop 2 xs)
unfolding behind_25
behind_step [] h = refl
behind_step (a ∷ []) h = absurd (never_both ((a == 50) && false) h (and-false (a == 50)))
behind_step (a ∷ b ∷ rest) h = ap (λ (t : Bool). if t then behind_25 rest else a ∷ b ∷ rest) h

pub local_step : (xs : List ℕ) → 0 < length xs → local_bytes xs ≡ local_byte (slice_index xs 0) (drop 1 xs) ++ local_bytes (drop 1 xs)
unfolding local_bytes
local_step [] h = absurd (omega (arith, h))
local_step (a ∷ rest) h = refl

pub pair_some : (x y : ℕ) (xs : List ℕ) → begins_pair x y xs ≡ true → 0 < length xs
pair_some x y [] h = absurd (never_both false h refl)
pair_some x y (a ∷ rest) h = omega arith

pub locals_more : (old out new name rest more : List ℕ) → old ++ local_bytes name ≡ out ++ local_bytes rest → 0 < length rest → more ≡ drop 1 rest → new ≡ out ++ local_byte (slice_index rest 0) more
    → old ++ local_bytes name ≡ new ++ local_bytes more
locals_more old out new name rest more h some is put =
    h ∙ ap (λ (l : List ℕ). out ++ l) (local_step rest some) ∙ ap (λ (l : List ℕ). out ++ (local_byte (slice_index rest 0) l ++ local_bytes l)) (sym is)
    ∙ sym (append_assoc out (local_byte (slice_index rest 0) more) (local_bytes more)) ∙ ap (λ (l : List ℕ). l ++ local_bytes more) (sym put)

pub locals_end : (old out : List ℕ) (name rest : List ℕ) → old ++ local_bytes name ≡ out ++ local_bytes rest → length rest ≡ 0 → out ≡ old ++ local_bytes name
unfolding local_bytes
locals_end old out name [] h none = sym (append-nil out) ∙ sym h
locals_end old out name (a ∷ rest) h none = absurd (omega (arith, none))

pub servers_end : (old out : List ℕ) (name rest : List ℕ) → old ++ server_bytes name ≡ out ++ server_bytes rest → length rest ≡ 0 → out ≡ old ++ server_bytes name
unfolding server_bytes
servers_end old out name [] h none = sym (append-nil out) ∙ sym h
servers_end old out name (a ∷ rest) h none = absurd (omega (arith, none))

-- the first byte of the server's name, by the local one
pub server_colon : (out name : List ℕ) → 0 < length name → slice_index name 0 ≡ 58 → out ++ server_bytes name ≡ (out ++ 47 ∷ []) ++ server_bytes (drop 1 name)
server_colon out [] some e = absurd (omega (arith, some))
server_colon out (b ∷ rest) some e =
    ap (λ (x : ℕ). out ++ server_bytes (x ∷ rest)) e ∙ ap (λ (l : List ℕ). out ++ l) (server_plain 58 rest refl) ∙ sym (append_assoc out (47 ∷ []) (server_bytes rest))

pub server_percent : (out name : List ℕ) → 0 < length name → slice_index name 0 ≡ 37 → is_colon (drop 1 name) ≡ false → out ++ server_bytes name ≡ (out ++ 37 ∷ []) ++ server_bytes (drop 1 name)
server_percent out [] some e h = absurd (omega (arith, some))
server_percent out (b ∷ rest) some e h =
    ap (λ (x : ℕ). out ++ server_bytes (x ∷ rest)) e ∙ ap (λ (l : List ℕ). out ++ l) (server_plain 37 rest h) ∙ sym (append_assoc out (37 ∷ []) (server_bytes rest))

pub server_other : (out name : List ℕ) → 0 < length name → (slice_index name 0 ≡ 58 → ⊥) → (slice_index name 0 ≡ 37 → ⊥) → out ++ server_bytes name ≡ (out ++ slice_index name 0 ∷ []) ++ server_bytes (drop 1 name)
server_other out [] some e h = absurd (omega (arith, some))
server_other out (b ∷ rest) some e h =
    ap (λ (l : List ℕ). out ++ l) (server_cons b rest (ne_eqb b 58 e) (ne_eqb b 37 h)) ∙ sym (append_assoc out (b ∷ []) (server_bytes rest))

short_colon : (rest : List ℕ) → is_colon rest ≡ true → 2 ≤ length rest
unfolding behind_25
short_colon [] h = absurd (never_both false h refl)
short_colon (c ∷ []) h = absurd (never_both ((c == 51) && false) h (and-false (c == 51)))
short_colon (c ∷ d ∷ rest) h = omega arith

pub server_escaped : (out name : List ℕ) (u : ℕ) → 0 < length name → slice_index name 0 ≡ 37 → is_colon (drop 1 name) ≡ true
    → ((c d : ℕ) (rest : List ℕ) → drop 1 name ≡ c ∷ d ∷ rest → u ≡ unescaped c d) → out ++ server_bytes name ≡ (out ++ u ∷ []) ++ server_bytes (drop 2 (drop 1 name))
server_escaped out [] u some e h is = absurd (omega (arith, some))
server_escaped out (b ∷ []) u some e h is = absurd (omega (arith, short_colon [] h))
server_escaped out (b ∷ c ∷ []) u some e h is = absurd (omega (arith, short_colon (c ∷ []) h))
server_escaped out (b ∷ c ∷ d ∷ rest) u some e h is =
    ap (λ (x : ℕ). out ++ server_bytes (x ∷ c ∷ d ∷ rest)) e ∙ ap (λ (l : List ℕ). out ++ l) (server_escape c d rest h)
    ∙ ap (λ (x : ℕ). out ++ x ∷ server_bytes rest) (sym (is c d rest refl)) ∙ sym (append_assoc out (u ∷ []) (server_bytes rest))

-- ---- whole names

pub hidden_begins : (xs : List ℕ) → begins_hidden xs ≡ (begins 46 xs && is_hidden (drop 1 xs))
hidden_begins [] = refl
hidden_begins (b ∷ rest) = refl

pub dotted_begins : (xs : List ℕ) → begins_dotted xs ≡ (begins 37 xs && is_dot (drop 1 xs))
dotted_begins [] = refl
dotted_begins (b ∷ rest) = refl

pub hidden_is : (name : List ℕ) → begins_hidden name ≡ true → local_name name ≡ 37 ∷ 50 ∷ 69 ∷ local_bytes (drop 1 name)
hidden_is [] h = absurd (never_both false h refl)
hidden_is (b ∷ name) h = local_first b name h

pub dotted_is : (name : List ℕ) → begins_hidden name ≡ false → begins_dotted name ≡ true → local_name name ≡ 37 ∷ 50 ∷ 53 ∷ local_bytes (drop 1 name)
dotted_is [] h k = absurd (never_both false k refl)
dotted_is (b ∷ name) h k = local_second b name h k

pub other_is : (name : List ℕ) → begins_hidden name ≡ false → begins_dotted name ≡ false → local_name name ≡ local_bytes name
other_is name h k = plain_back name h k

short_dot : (rest : List ℕ) → is_dot rest ≡ true → 2 ≤ length rest
unfolding behind_25
short_dot [] h = absurd (never_both false h refl)
short_dot (c ∷ []) h = absurd (never_both false h refl)
short_dot (c ∷ d ∷ rest) h = omega arith

pub put_coded : (old name first rest mid end : List ℕ) (u : ℕ) → first ≡ drop 1 name → ((c d : ℕ) (more : List ℕ) → first ≡ c ∷ d ∷ more → u ≡ unescaped c d) → mid ≡ old ++ u ∷ [] → rest ≡ drop 2 first → end ≡ mid ++ server_bytes rest
    → begins_dotted name ≡ true → end ≡ old ++ server_name name
put_coded old [] first rest mid end u f is m r e h = absurd (never_both false h refl)
put_coded old (b ∷ []) first rest mid end u f is m r e h = absurd (omega (arith, short_dot [] (right_true (b == 37) (is_dot []) h)))
put_coded old (b ∷ c ∷ []) first rest mid end u f is m r e h = absurd (omega (arith, short_dot (c ∷ []) (right_true (b == 37) (is_dot (c ∷ [])) h)))
put_coded old (b ∷ c ∷ d ∷ more) first rest mid end u f is m r e h =
    e ∙ ap (λ (l : List ℕ). l ++ server_bytes rest) m ∙ append_assoc old (u ∷ []) (server_bytes rest) ∙ ap (λ (l : List ℕ). old ++ u ∷ server_bytes l) (r ∙ ap (λ (l : List ℕ). drop 2 l) f)
    ∙ ap (λ (x : ℕ). old ++ x ∷ server_bytes more) (is c d more f) ∙ ap (λ (l : List ℕ). old ++ l) (sym (name_escape c d more (right_true (b == 37) (is_dot (c ∷ d ∷ more)) h)))
    ∙ ap (λ (x : ℕ). old ++ server_name (x ∷ c ∷ d ∷ more)) (sym (eqb-true b 37 (left_true (b == 37) (is_dot (c ∷ d ∷ more)) h)))
