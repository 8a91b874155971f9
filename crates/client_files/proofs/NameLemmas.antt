-- Names, there and back.
use Rattle.std.proofs.Common.{◌≡◌, ℕ, Bool, true, false, List, [], ◌∷◌, ◌++◌, inl, inr, refl, ap, sym, subst, ◌∙◌}
use Rattle.std.specs.Prelude.{◌==◌, ◌&&◌, ◌||◌, if◌then◌else◌}
use Rattle.std.proofs.lemmas.Bool.{and_parts, cases_Bool, eqb-true}
use Rattle.afp_base.proofs.Facts.{left_false, right_false, never_both}
use Rattle.client_files.specs.Names.{IsLocal, begins, begins_dotted, begins_hidden, begins_pair, behind_25, has_slash, is_colon, is_dot, is_dot_at, is_hidden, is_nil, local_bytes, local_name, server_byte, server_bytes, server_name, unescaped}

-- ---- bytes by their kind

by_test : (P : Bool → Type 0) → P true → P false → (b : Bool) → P b
by_test P here there true = here
by_test P here there false = there

by_is : (P : ℕ → Type 0) (x : ℕ) → P x → ((b : ℕ) → (b == x) ≡ false → P b) → (b : ℕ) → P b
by_is P x same other b = elim (cases_Bool (b == x)) as (λ _. P b) [ inl e ↦ subst P (sym (eqb-true b x e)) same | inr e ↦ other b e ]

by_byte : (P : ℕ → Type 0) → P 47 → P 58 → P 37 → ((b : ℕ) → (b == 47) ≡ false → (b == 58) ≡ false → (b == 37) ≡ false → P b) → (b : ℕ) → P b
by_byte P slash colon percent other =
    by_is P 47 slash (λ b e.
    by_is (λ b. (b == 47) ≡ false → P b) 58 (λ _. colon) (λ b f e.
    by_is (λ b. (b == 47) ≡ false → (b == 58) ≡ false → P b) 37 (λ _ _. percent) (λ b g e f. other b e f g) b e f) b e)

by_pair : (P : ℕ → ℕ → Type 0) (x y : ℕ) → P x y → ((a b : ℕ) → ((a == x) && (b == y)) ≡ false → P a b) → (a b : ℕ) → P a b
by_pair P x y same other a b =
    elim (cases_Bool ((a == x) && (b == y))) as (λ _. P a b) [
      | inl e ↦ let h = and_parts (a == x) (b == y) e in subst (λ (c : ℕ). P c b) (sym (eqb-true a x h.0)) (subst (λ (d : ℕ). P x d) (sym (eqb-true b y h.1)) same)
      | inr e ↦ other a b e
    ]

and_no : (p q r s : Bool) → p ≡ false → q ≡ false → (p && r) ≡ (q && s)
and_no p q r s e f = ap (λ (t : Bool). t && r) e ∙ sym (ap (λ (t : Bool). t && s) f)

and_none : (a : Bool) → (a && false) ≡ false
and_none true = refl
and_none false = refl

-- a byte that no name is changed into, and that stays as it is
record Letter (y : ℕ) : Type 0 where
  pub colon : (58 == y) ≡ false
  pub percent : (37 == y) ≡ false
  pub slash : (47 == y) ≡ false

two : Letter 50
two = record { colon = refl; percent = refl; slash = refl }

three : Letter 51
three = record { colon = refl; percent = refl; slash = refl }

five : Letter 53
five = record { colon = refl; percent = refl; slash = refl }

big_a : Letter 65
big_a = record { colon = refl; percent = refl; slash = refl }

big_e : Letter 69
big_e = record { colon = refl; percent = refl; slash = refl }

pub behind_stays : (ys : List ℕ) → begins_pair 50 53 ys ≡ false → behind_25 ys ≡ ys
unfolding behind_25
behind_stays [] h = refl
behind_stays (a ∷ []) h = refl
behind_stays (a ∷ b ∷ rest) h = ap (λ (t : Bool). if t then behind_25 rest else a ∷ b ∷ rest) h

dot_at_no : (ys : List ℕ) → begins_pair 50 69 ys ≡ false → is_dot_at ys ≡ false
dot_at_no [] h = refl
dot_at_no (a ∷ []) h = refl
dot_at_no (a ∷ b ∷ rest) h = ap (λ (t : Bool). t && is_hidden rest) h

-- ---- local bytes

local_cons : (b : ℕ) (rest : List ℕ) → (b == 47) ≡ false → (b == 58) ≡ false → (b == 37) ≡ false → local_bytes (b ∷ rest) ≡ b ∷ local_bytes rest
unfolding local_bytes
local_cons b rest e f g = rw e (rw f (rw g refl))

local_escape : (rest : List ℕ) → is_colon rest ≡ true → local_bytes (37 ∷ rest) ≡ 37 ∷ 50 ∷ 53 ∷ local_bytes rest
unfolding local_bytes
local_escape rest e = ap (λ (t : Bool). (if t then 37 ∷ 50 ∷ 53 ∷ [] else 37 ∷ []) ++ local_bytes rest) e

local_percent : (rest : List ℕ) → is_colon rest ≡ false → local_bytes (37 ∷ rest) ≡ 37 ∷ local_bytes rest
unfolding local_bytes
local_percent rest e = ap (λ (t : Bool). (if t then 37 ∷ 50 ∷ 53 ∷ [] else 37 ∷ []) ++ local_bytes rest) e

begins_local : (y : ℕ) → Letter y → (xs : List ℕ) → begins y (local_bytes xs) ≡ begins y xs
unfolding local_bytes
begins_local y l [] = refl
begins_local y l (a ∷ rest) =
    by_byte (λ (b : ℕ). begins y (local_bytes (b ∷ rest)) ≡ (b == y)) (l.colon ∙ sym l.slash) (l.percent ∙ sym l.colon)
    (by_test (λ (t : Bool). begins y ((if t then 37 ∷ 50 ∷ 53 ∷ [] else 37 ∷ []) ++ local_bytes rest) ≡ (37 == y)) refl refl (is_colon rest))
    (λ b e f g. ap (λ (l : List ℕ). begins y l) (local_cons b rest e f g)) a

pair_local : (x y : ℕ) → Letter x → Letter y → (xs : List ℕ) → begins_pair x y (local_bytes xs) ≡ begins_pair x y xs
unfolding local_bytes
pair_local x y k l [] = refl
pair_local x y k l (a ∷ rest) =
    by_byte (λ (b : ℕ). begins_pair x y (local_bytes (b ∷ rest)) ≡ ((b == x) && begins y rest)) (and_no _ _ _ _ k.colon k.slash) (and_no _ _ _ _ k.percent k.colon)
    (by_test (λ (t : Bool). begins_pair x y ((if t then 37 ∷ 50 ∷ 53 ∷ [] else 37 ∷ []) ++ local_bytes rest) ≡ ((37 == x) && begins y rest))
    (and_no _ _ _ _ k.percent k.percent) (and_no _ _ _ _ k.percent k.percent) (is_colon rest))
    (λ b e f g. ap (λ (l : List ℕ). begins_pair x y l) (local_cons b rest e f g) ∙ ap (λ (t : Bool). (b == x) && t) (begins_local y l rest)) a

nil_local : (xs : List ℕ) → is_nil (local_bytes xs) ≡ is_nil xs
unfolding local_bytes
nil_local [] = refl
nil_local (a ∷ rest) =
    by_byte (λ (b : ℕ). is_nil (local_bytes (b ∷ rest)) ≡ false) refl refl
    (by_test (λ (t : Bool). is_nil ((if t then 37 ∷ 50 ∷ 53 ∷ [] else 37 ∷ []) ++ local_bytes rest) ≡ false) refl refl (is_colon rest))
    (λ b e f g. ap is_nil (local_cons b rest e f g)) a

hidden_local : (xs : List ℕ) → is_hidden (local_bytes xs) ≡ is_hidden xs
unfolding local_bytes
hidden_local [] = refl
hidden_local (a ∷ rest) =
    by_byte (λ (b : ℕ). is_hidden (local_bytes (b ∷ rest)) ≡ ((b == 95) || ((b == 46) && is_nil rest))) refl refl
    (by_test (λ (t : Bool). is_hidden ((if t then 37 ∷ 50 ∷ 53 ∷ [] else 37 ∷ []) ++ local_bytes rest) ≡ false) refl refl (is_colon rest))
    (λ b e f g. ap is_hidden (local_cons b rest e f g) ∙ ap (λ (t : Bool). (b == 95) || ((b == 46) && t)) (nil_local rest)) a

behind_local : (xs : List ℕ) → behind_25 (local_bytes xs) ≡ local_bytes (behind_25 xs)
unfolding behind_25 local_bytes
behind_local [] = refl
behind_local (a ∷ []) = behind_stays (local_bytes (a ∷ [])) (pair_local 50 53 two five (a ∷ []) ∙ and_none (a == 50))
behind_local (a ∷ b ∷ rest) =
    by_pair (λ (a b : ℕ). behind_25 (local_bytes (a ∷ b ∷ rest)) ≡ local_bytes (if (a == 50) && (b == 53) then behind_25 rest else a ∷ b ∷ rest)) 50 53 (behind_local rest)
    (λ a b e. behind_stays (local_bytes (a ∷ b ∷ rest)) (pair_local 50 53 two five (a ∷ b ∷ rest) ∙ e) ∙ sym (ap (λ (t : Bool). local_bytes (if t then behind_25 rest else a ∷ b ∷ rest)) e)) a b

colon_local : (xs : List ℕ) → is_colon (local_bytes xs) ≡ is_colon xs
colon_local xs = ap (λ (l : List ℕ). begins_pair 51 65 l) (behind_local xs) ∙ pair_local 51 65 three big_a (behind_25 xs)

dot_at_local : (ys : List ℕ) → is_dot_at (local_bytes ys) ≡ is_dot_at ys
unfolding local_bytes
dot_at_local [] = refl
dot_at_local (a ∷ []) = dot_at_no (local_bytes (a ∷ [])) (pair_local 50 69 two big_e (a ∷ []) ∙ and_none (a == 50))
dot_at_local (a ∷ b ∷ rest) =
    by_pair (λ (a b : ℕ). is_dot_at (local_bytes (a ∷ b ∷ rest)) ≡ (((a == 50) && (b == 69)) && is_hidden rest)) 50 69 (hidden_local rest)
    (λ a b e. dot_at_no (local_bytes (a ∷ b ∷ rest)) (pair_local 50 69 two big_e (a ∷ b ∷ rest) ∙ e) ∙ sym (ap (λ (t : Bool). t && is_hidden rest) e)) a b

dot_local : (xs : List ℕ) → is_dot (local_bytes xs) ≡ is_dot xs
dot_local xs = ap is_dot_at (behind_local xs) ∙ dot_at_local (behind_25 xs)

-- ---- the server's bytes

pub server_plain : (b : ℕ) (ys : List ℕ) → ((b == 37) && is_colon ys) ≡ false → server_bytes (b ∷ ys) ≡ server_byte b ∷ server_bytes ys
unfolding server_bytes
server_plain b [] h = refl
server_plain b (c ∷ []) h = refl
server_plain b (c ∷ d ∷ rest) h = ap (λ (t : Bool). if t then unescaped c d ∷ server_bytes rest else server_byte b ∷ server_bytes (c ∷ d ∷ rest)) h

pub server_escape : (c d : ℕ) (rest : List ℕ) → is_colon (c ∷ d ∷ rest) ≡ true → server_bytes (37 ∷ c ∷ d ∷ rest) ≡ unescaped c d ∷ server_bytes rest
unfolding server_bytes
server_escape c d rest h = ap (λ (t : Bool). if t then unescaped c d ∷ server_bytes rest else 37 ∷ server_bytes (c ∷ d ∷ rest)) h

server_same : (b : ℕ) → (b == 58) ≡ false → server_byte b ≡ b
server_same b f = ap (λ (t : Bool). if t then 47 else b) f

pub server_cons : (b : ℕ) (rest : List ℕ) → (b == 58) ≡ false → (b == 37) ≡ false → server_bytes (b ∷ rest) ≡ b ∷ server_bytes rest
server_cons b rest f g = server_plain b rest (ap (λ (t : Bool). t && is_colon rest) g) ∙ ap (λ (c : ℕ). c ∷ server_bytes rest) (server_same b f)

-- what goes there comes back
server_local : (xs : List ℕ) → server_bytes (local_bytes xs) ≡ xs
unfolding behind_25 local_bytes server_bytes
server_local [] = refl
server_local (a ∷ rest) =
    let back = server_local rest in
    by_byte (λ (b : ℕ). server_bytes (local_bytes (b ∷ rest)) ≡ b ∷ rest)
    (server_plain 58 (local_bytes rest) refl ∙ ap (λ (l : List ℕ). 47 ∷ l) back)
    (server_escape 51 65 (local_bytes rest) refl ∙ ap (λ (l : List ℕ). 58 ∷ l) back)
    (elim (cases_Bool (is_colon rest)) as (λ _. server_bytes (local_bytes (37 ∷ rest)) ≡ 37 ∷ rest) [
      | inl e ↦ ap server_bytes (local_escape rest e) ∙ server_escape 50 53 (local_bytes rest) (colon_local rest ∙ e) ∙ ap (λ (l : List ℕ). 37 ∷ l) back
      | inr e ↦ ap server_bytes (local_percent rest e) ∙ server_plain 37 (local_bytes rest) (colon_local rest ∙ e) ∙ ap (λ (l : List ℕ). 37 ∷ l) back
    ])
    (λ b e f g. ap server_bytes (local_cons b rest e f g) ∙ server_cons b (local_bytes rest) f g ∙ ap (λ (l : List ℕ). b ∷ l) back) a

pub name_plain : (ys : List ℕ) → begins_dotted ys ≡ false → server_name ys ≡ server_bytes ys
unfolding server_name server_bytes
name_plain [] h = refl
name_plain (b ∷ []) h = refl
name_plain (b ∷ c ∷ []) h = refl
name_plain (b ∷ c ∷ d ∷ rest) h = ap (λ (t : Bool). if t then unescaped c d ∷ server_bytes rest else server_bytes (b ∷ c ∷ d ∷ rest)) h

pub name_escape : (c d : ℕ) (rest : List ℕ) → is_dot (c ∷ d ∷ rest) ≡ true → server_name (37 ∷ c ∷ d ∷ rest) ≡ unescaped c d ∷ server_bytes rest
unfolding server_name
name_escape c d rest h = ap (λ (t : Bool). if t then unescaped c d ∷ server_bytes rest else server_bytes (37 ∷ c ∷ d ∷ rest)) h

dotted_local : (b : ℕ) (rest : List ℕ) → ((b == 37) && is_dot rest) ≡ false → begins_dotted (local_bytes (b ∷ rest)) ≡ false
unfolding behind_25 local_bytes
dotted_local a rest =
    by_byte (λ (b : ℕ). ((b == 37) && is_dot rest) ≡ false → begins_dotted (local_bytes (b ∷ rest)) ≡ false) (λ _. refl) (λ _. refl)
    (λ h. elim (cases_Bool (is_colon rest)) as (λ _. begins_dotted (local_bytes (37 ∷ rest)) ≡ false)
    [ inl e ↦ ap begins_dotted (local_escape rest e) ∙ (dot_local rest ∙ h) | inr e ↦ ap begins_dotted (local_percent rest e) ∙ (dot_local rest ∙ h) ])
    (λ b e f g _. ap begins_dotted (local_cons b rest e f g) ∙ ap (λ (t : Bool). t && is_dot (local_bytes rest)) g) a

-- the three ways of a local name
pub local_first : (b : ℕ) (rest : List ℕ) → ((b == 46) && is_hidden rest) ≡ true → local_name (b ∷ rest) ≡ 37 ∷ 50 ∷ 69 ∷ local_bytes rest
unfolding local_name
local_first b rest h = ap (λ (t : Bool). if t then 37 ∷ 50 ∷ 69 ∷ local_bytes rest else if (b == 37) && is_dot rest then 37 ∷ 50 ∷ 53 ∷ local_bytes rest else local_bytes (b ∷ rest)) h

pub local_second : (b : ℕ) (rest : List ℕ) → ((b == 46) && is_hidden rest) ≡ false → ((b == 37) && is_dot rest) ≡ true → local_name (b ∷ rest) ≡ 37 ∷ 50 ∷ 53 ∷ local_bytes rest
unfolding local_name
local_second b rest h k =
    ap (λ (t : Bool). if t then 37 ∷ 50 ∷ 69 ∷ local_bytes rest else if (b == 37) && is_dot rest then 37 ∷ 50 ∷ 53 ∷ local_bytes rest else local_bytes (b ∷ rest)) h
    ∙ ap (λ (t : Bool). if t then 37 ∷ 50 ∷ 53 ∷ local_bytes rest else local_bytes (b ∷ rest)) k

local_third : (b : ℕ) (rest : List ℕ) → ((b == 46) && is_hidden rest) ≡ false → ((b == 37) && is_dot rest) ≡ false → local_name (b ∷ rest) ≡ local_bytes (b ∷ rest)
unfolding local_name
local_third b rest h k =
    ap (λ (t : Bool). if t then 37 ∷ 50 ∷ 69 ∷ local_bytes rest else if (b == 37) && is_dot rest then 37 ∷ 50 ∷ 53 ∷ local_bytes rest else local_bytes (b ∷ rest)) h
    ∙ ap (λ (t : Bool). if t then 37 ∷ 50 ∷ 53 ∷ local_bytes rest else local_bytes (b ∷ rest)) k

pub server_back : (name : List ℕ) → server_name (local_name name) ≡ name
unfolding behind_25 local_name server_name
server_back [] = refl
server_back (b ∷ rest) =
    elim (cases_Bool ((b == 46) && is_hidden rest)) as (λ _. server_name (local_name (b ∷ rest)) ≡ b ∷ rest) [
      | inl h ↦
          let parts = and_parts (b == 46) (is_hidden rest) h in
          ap server_name (local_first b rest h) ∙ name_escape 50 69 (local_bytes rest) (hidden_local rest ∙ parts.1) ∙ ap (λ (l : List ℕ). 46 ∷ l) (server_local rest)
          ∙ ap (λ (c : ℕ). c ∷ rest) (sym (eqb-true b 46 parts.0))
      | inr h ↦ elim (cases_Bool ((b == 37) && is_dot rest)) as (λ _. server_name (local_name (b ∷ rest)) ≡ b ∷ rest) [
        | inl k ↦
            let parts = and_parts (b == 37) (is_dot rest) k in
            ap server_name (local_second b rest h k) ∙ name_escape 50 53 (local_bytes rest) (dot_local rest ∙ parts.1) ∙ ap (λ (l : List ℕ). 37 ∷ l) (server_local rest)
            ∙ ap (λ (c : ℕ). c ∷ rest) (sym (eqb-true b 37 parts.0))
        | inr k ↦ ap server_name (local_third b rest h k) ∙ name_plain (local_bytes (b ∷ rest)) (dotted_local b rest k) ∙ server_local (b ∷ rest)
      ]
    ]

-- ---- what stands locally

slashless : (xs : List ℕ) → has_slash (local_bytes xs) ≡ false
unfolding local_bytes
slashless [] = refl
slashless (a ∷ rest) =
    let none = slashless rest in
    by_byte (λ (b : ℕ). has_slash (local_bytes (b ∷ rest)) ≡ false) none none
    (by_test (λ (t : Bool). has_slash ((if t then 37 ∷ 50 ∷ 53 ∷ [] else 37 ∷ []) ++ local_bytes rest) ≡ false) none none (is_colon rest))
    (λ b e f g. ap has_slash (local_cons b rest e f g) ∙ ap (λ (t : Bool). t || has_slash (local_bytes rest)) e ∙ none) a

seen_local : (b : ℕ) (rest : List ℕ) → ((b == 46) && is_hidden rest) ≡ false → begins_hidden (local_bytes (b ∷ rest)) ≡ false
unfolding local_bytes
seen_local a rest =
    by_byte (λ (b : ℕ). ((b == 46) && is_hidden rest) ≡ false → begins_hidden (local_bytes (b ∷ rest)) ≡ false) (λ _. refl) (λ _. refl)
    (λ _. by_test (λ (t : Bool). begins_hidden ((if t then 37 ∷ 50 ∷ 53 ∷ [] else 37 ∷ []) ++ local_bytes rest) ≡ false) refl refl (is_colon rest))
    (λ b e f g h. ap begins_hidden (local_cons b rest e f g) ∙ ap (λ (t : Bool). (b == 46) && t) (hidden_local rest) ∙ h) a

pub local_stands : (name : List ℕ) → IsLocal (local_name name)
unfolding local_name
local_stands [] = record { no_slash = refl; in_sight = refl }
local_stands (b ∷ rest) =
    elim (cases_Bool ((b == 46) && is_hidden rest)) as (λ _. IsLocal (local_name (b ∷ rest))) [
      | inl h ↦ subst IsLocal (sym (local_first b rest h)) (record { no_slash = slashless rest; in_sight = refl })
      | inr h ↦ elim (cases_Bool ((b == 37) && is_dot rest)) as (λ _. IsLocal (local_name (b ∷ rest))) [
        | inl k ↦ subst IsLocal (sym (local_second b rest h k)) (record { no_slash = slashless rest; in_sight = refl })
        | inr k ↦ subst IsLocal (sym (local_third b rest h k)) (record { no_slash = slashless (b ∷ rest); in_sight = seen_local b rest h })
      ]
    ]

-- ---- and the other way

by_colon : (P : List ℕ → Type 0) → ((more : List ℕ) → P (51 ∷ 65 ∷ more)) → ((more : List ℕ) → is_colon more ≡ true → P (50 ∷ 53 ∷ more)) → ((rest : List ℕ) → is_colon rest ≡ false → P rest) → (rest : List ℕ) → P rest
unfolding behind_25
by_colon P colon percent other [] = other [] refl
by_colon P colon percent other (a ∷ []) = other (a ∷ []) (and_none (a == 51))
by_colon P colon percent other (a ∷ b ∷ more) =
    by_pair (λ (a b : ℕ). P (a ∷ b ∷ more)) 50 53
    (elim (cases_Bool (is_colon more)) as (λ _. P (50 ∷ 53 ∷ more)) [ inl e ↦ percent more e | inr e ↦ other (50 ∷ 53 ∷ more) e ])
    (λ a b e. by_pair (λ (a b : ℕ). ((a == 50) && (b == 53)) ≡ false → P (a ∷ b ∷ more)) 51 65 (λ _. colon more)
    (λ a b f e. other (a ∷ b ∷ more) (ap (λ (t : Bool). begins_pair 51 65 (if t then behind_25 more else a ∷ b ∷ more)) e ∙ f)) a b e) a b

-- a law of what stands first in the server's bytes, by the local byte that stands first
by_first : (P : ℕ → List ℕ → List ℕ → Type 0)
    → ((rest : List ℕ) → P 58 rest (47 ∷ server_bytes rest))
    → ((more : List ℕ) → P 37 (51 ∷ 65 ∷ more) (58 ∷ server_bytes more))
    → ((more : List ℕ) → P 37 (50 ∷ 53 ∷ more) (37 ∷ server_bytes more))
    → ((rest : List ℕ) → P 37 rest (37 ∷ server_bytes rest))
    → ((b : ℕ) (rest : List ℕ) → P b rest (b ∷ server_bytes rest))
    → (b : ℕ) (rest : List ℕ) → P b rest (server_bytes (b ∷ rest))
unfolding behind_25
by_first P colon coded escaped percent other a rest =
    by_is (λ (b : ℕ). P b rest (server_bytes (b ∷ rest))) 58 (subst (λ (l : List ℕ). P 58 rest l) (sym (server_plain 58 rest refl)) (colon rest))
    (λ b f. by_is (λ (b : ℕ). (b == 58) ≡ false → P b rest (server_bytes (b ∷ rest))) 37
    (λ _. by_colon (λ (rest : List ℕ). P 37 rest (server_bytes (37 ∷ rest)))
    (λ more. subst (λ (l : List ℕ). P 37 (51 ∷ 65 ∷ more) l) (sym (server_escape 51 65 more refl)) (coded more))
    (λ more e. subst (λ (l : List ℕ). P 37 (50 ∷ 53 ∷ more) l) (sym (server_escape 50 53 more e)) (escaped more))
    (λ rest e. subst (λ (l : List ℕ). P 37 rest l) (sym (server_plain 37 rest e)) (percent rest)) rest)
    (λ b g f. subst (λ (l : List ℕ). P b rest l) (sym (server_cons b rest f g)) (other b rest)) b f) a

begins_server : (y : ℕ) → Letter y → (xs : List ℕ) → begins y (server_bytes xs) ≡ begins y xs
unfolding server_bytes
begins_server y l [] = refl
begins_server y l (a ∷ rest) =
    by_first (λ (b : ℕ) (rest s : List ℕ). begins y s ≡ (b == y)) (λ rest. l.slash ∙ sym l.colon) (λ more. l.colon ∙ sym l.percent) (λ more. refl) (λ rest. refl) (λ b rest. refl) a rest

pair_server : (x y : ℕ) → Letter x → Letter y → (xs : List ℕ) → begins_pair x y (server_bytes xs) ≡ begins_pair x y xs
unfolding server_bytes
pair_server x y k l [] = refl
pair_server x y k l (a ∷ rest) =
    by_first (λ (b : ℕ) (rest s : List ℕ). begins_pair x y s ≡ ((b == x) && begins y rest)) (λ rest. and_no _ _ _ _ k.slash k.colon) (λ more. and_no _ _ _ _ k.colon k.percent)
    (λ more. and_no _ _ _ _ k.percent k.percent) (λ rest. and_no _ _ _ _ k.percent k.percent) (λ b rest. ap (λ (t : Bool). (b == x) && t) (begins_server y l rest)) a rest

nil_server : (xs : List ℕ) → is_nil (server_bytes xs) ≡ is_nil xs
unfolding server_bytes
nil_server [] = refl
nil_server (a ∷ rest) = by_first (λ (b : ℕ) (rest s : List ℕ). is_nil s ≡ false) (λ rest. refl) (λ more. refl) (λ more. refl) (λ rest. refl) (λ b rest. refl) a rest

hidden_server : (xs : List ℕ) → is_hidden (server_bytes xs) ≡ is_hidden xs
unfolding server_bytes
hidden_server [] = refl
hidden_server (a ∷ rest) =
    by_first (λ (b : ℕ) (rest s : List ℕ). is_hidden s ≡ ((b == 95) || ((b == 46) && is_nil rest))) (λ rest. refl) (λ more. refl) (λ more. refl) (λ rest. refl)
    (λ b rest. ap (λ (t : Bool). (b == 95) || ((b == 46) && t)) (nil_server rest)) a rest

pair_stays : (a b : ℕ) (rest : List ℕ) → (a == 58) ≡ false → (a == 37) ≡ false → (b == 58) ≡ false → (b == 37) ≡ false → server_bytes (a ∷ b ∷ rest) ≡ a ∷ b ∷ server_bytes rest
pair_stays a b rest e f g h = server_cons a (b ∷ rest) e f ∙ ap (λ (l : List ℕ). a ∷ l) (server_cons b rest g h)

behind_server : (xs : List ℕ) → behind_25 (server_bytes xs) ≡ server_bytes (behind_25 xs)
unfolding behind_25 server_bytes
behind_server [] = refl
behind_server (a ∷ []) = behind_stays (server_bytes (a ∷ [])) (pair_server 50 53 two five (a ∷ []) ∙ and_none (a == 50))
behind_server (a ∷ b ∷ rest) =
    by_pair (λ (a b : ℕ). behind_25 (server_bytes (a ∷ b ∷ rest)) ≡ server_bytes (if (a == 50) && (b == 53) then behind_25 rest else a ∷ b ∷ rest)) 50 53
    (ap behind_25 (pair_stays 50 53 rest refl refl refl refl) ∙ behind_server rest)
    (λ a b e. behind_stays (server_bytes (a ∷ b ∷ rest)) (pair_server 50 53 two five (a ∷ b ∷ rest) ∙ e) ∙ sym (ap (λ (t : Bool). server_bytes (if t then behind_25 rest else a ∷ b ∷ rest)) e)) a b

colon_server : (xs : List ℕ) → is_colon (server_bytes xs) ≡ is_colon xs
colon_server xs = ap (λ (l : List ℕ). begins_pair 51 65 l) (behind_server xs) ∙ pair_server 51 65 three big_a (behind_25 xs)

dot_at_server : (ys : List ℕ) → is_dot_at (server_bytes ys) ≡ is_dot_at ys
unfolding server_bytes
dot_at_server [] = refl
dot_at_server (a ∷ []) = refl
dot_at_server (a ∷ b ∷ rest) =
    by_pair (λ (a b : ℕ). is_dot_at (server_bytes (a ∷ b ∷ rest)) ≡ (((a == 50) && (b == 69)) && is_hidden rest)) 50 69
    (ap is_dot_at (pair_stays 50 69 rest refl refl refl refl) ∙ hidden_server rest)
    (λ a b e. dot_at_no (server_bytes (a ∷ b ∷ rest)) (pair_server 50 69 two big_e (a ∷ b ∷ rest) ∙ e) ∙ sym (ap (λ (t : Bool). t && is_hidden rest) e)) a b

dot_server : (xs : List ℕ) → is_dot (server_bytes xs) ≡ is_dot xs
dot_server xs = ap is_dot_at (behind_server xs) ∙ dot_at_server (behind_25 xs)

-- one byte and what follows it come back
cons_back : (ys : List ℕ) → local_bytes (server_bytes ys) ≡ ys → (b : ℕ) → (b == 47) ≡ false → ((b == 37) && is_colon ys) ≡ false → local_bytes (server_byte b ∷ server_bytes ys) ≡ b ∷ ys
unfolding local_bytes
cons_back ys back a =
    by_byte (λ (b : ℕ). (b == 47) ≡ false → ((b == 37) && is_colon ys) ≡ false → local_bytes (server_byte b ∷ server_bytes ys) ≡ b ∷ ys)
    (λ h k. absurd (never_both true refl h))
    (λ h k. ap (λ (l : List ℕ). 58 ∷ l) back)
    (λ h k. local_percent (server_bytes ys) (colon_server ys ∙ k) ∙ ap (λ (l : List ℕ). 37 ∷ l) back)
    (λ b e f g h k. ap (λ (c : ℕ). local_bytes (c ∷ server_bytes ys)) (server_same b f) ∙ local_cons b (server_bytes ys) e f g ∙ ap (λ (l : List ℕ). b ∷ l) back) a

escape_back : (rest : List ℕ) → local_bytes (server_bytes rest) ≡ rest → (c d : ℕ) → is_colon (c ∷ d ∷ rest) ≡ true → local_bytes (unescaped c d ∷ server_bytes rest) ≡ 37 ∷ c ∷ d ∷ rest
unfolding behind_25 local_bytes
escape_back rest back =
    by_pair (λ (c d : ℕ). is_colon (c ∷ d ∷ rest) ≡ true → local_bytes (unescaped c d ∷ server_bytes rest) ≡ 37 ∷ c ∷ d ∷ rest) 50 53
    (λ h. local_escape (server_bytes rest) (colon_server rest ∙ h) ∙ ap (λ (l : List ℕ). 37 ∷ 50 ∷ 53 ∷ l) back)
    (λ c d e. by_pair (λ (c d : ℕ). ((c == 50) && (d == 53)) ≡ false → is_colon (c ∷ d ∷ rest) ≡ true → local_bytes (unescaped c d ∷ server_bytes rest) ≡ 37 ∷ c ∷ d ∷ rest) 51 65
    (λ _ _. ap (λ (l : List ℕ). 37 ∷ 51 ∷ 65 ∷ l) back)
    (λ c d f e h. absurd (never_both (is_colon (c ∷ d ∷ rest)) h (ap (λ (t : Bool). begins_pair 51 65 (if t then behind_25 rest else c ∷ d ∷ rest)) e ∙ f))) c d e)

local_server : (l : List ℕ) → has_slash l ≡ false → local_bytes (server_bytes l) ≡ l
unfolding behind_25 local_bytes server_bytes
local_server [] h = refl
local_server (b ∷ []) h = cons_back [] refl b (left_false (b == 47) false h) (and_none (b == 37))
local_server (b ∷ c ∷ []) h =
    cons_back (c ∷ []) (local_server (c ∷ []) (right_false (b == 47) (has_slash (c ∷ [])) h)) b (left_false (b == 47) (has_slash (c ∷ [])) h)
    (ap (λ (t : Bool). (b == 37) && t) (and_none (c == 51)) ∙ and_none (b == 37))
local_server (b ∷ c ∷ d ∷ rest) h =
    let all : has_slash (c ∷ d ∷ rest) ≡ false = right_false (b == 47) (has_slash (c ∷ d ∷ rest)) h in
    let few : has_slash rest ≡ false = right_false (d == 47) (has_slash rest) (right_false (c == 47) (has_slash (d ∷ rest)) all) in
    elim (cases_Bool ((b == 37) && is_colon (c ∷ d ∷ rest))) as (λ _. local_bytes (server_bytes (b ∷ c ∷ d ∷ rest)) ≡ b ∷ c ∷ d ∷ rest) [
      | inl e ↦
          let parts = and_parts (b == 37) (is_colon (c ∷ d ∷ rest)) e in
          ap (λ (x : ℕ). local_bytes (server_bytes (x ∷ c ∷ d ∷ rest))) (eqb-true b 37 parts.0) ∙ ap local_bytes (server_escape c d rest parts.1)
          ∙ escape_back rest (local_server rest few) c d parts.1 ∙ ap (λ (x : ℕ). x ∷ c ∷ d ∷ rest) (sym (eqb-true b 37 parts.0))
      | inr e ↦ ap local_bytes (server_plain b (c ∷ d ∷ rest) e) ∙ cons_back (c ∷ d ∷ rest) (local_server (c ∷ d ∷ rest) all) b (left_false (b == 47) (has_slash (c ∷ d ∷ rest)) h) e
    ]

seen_server : (l : List ℕ) → begins_hidden (server_bytes l) ≡ begins_hidden l
unfolding server_bytes
seen_server [] = refl
seen_server (a ∷ rest) =
    by_first (λ (b : ℕ) (rest s : List ℕ). begins_hidden s ≡ ((b == 46) && is_hidden rest)) (λ rest. refl) (λ more. refl) (λ more. refl) (λ rest. refl)
    (λ b rest. ap (λ (t : Bool). (b == 46) && t) (hidden_server rest)) a rest

dotted_server : (l : List ℕ) → begins_dotted l ≡ false → begins_dotted (server_bytes l) ≡ false
unfolding behind_25 server_bytes
dotted_server [] h = refl
dotted_server (a ∷ rest) h =
    by_first (λ (b : ℕ) (rest s : List ℕ). ((b == 37) && is_dot rest) ≡ false → begins_dotted s ≡ false) (λ rest _. refl) (λ more _. refl)
    (λ more h. dot_server more ∙ h) (λ rest h. dot_server rest ∙ h) (λ b rest h. ap (λ (t : Bool). (b == 37) && t) (dot_server rest) ∙ h) a rest h

pub plain_back : (s : List ℕ) → begins_hidden s ≡ false → begins_dotted s ≡ false → local_name s ≡ local_bytes s
unfolding local_name local_bytes
plain_back [] h k = refl
plain_back (b ∷ rest) h k = local_third b rest h k

-- a name with a first dot, or with a first % that must be written so
dot_back : (rest : List ℕ) → local_bytes (server_bytes rest) ≡ rest → (c d : ℕ) → is_dot (c ∷ d ∷ rest) ≡ true → local_name (unescaped c d ∷ server_bytes rest) ≡ 37 ∷ c ∷ d ∷ rest
unfolding behind_25
dot_back rest back =
    by_pair (λ (c d : ℕ). is_dot (c ∷ d ∷ rest) ≡ true → local_name (unescaped c d ∷ server_bytes rest) ≡ 37 ∷ c ∷ d ∷ rest) 50 53
    (λ h. local_second 37 (server_bytes rest) refl (dot_server rest ∙ h) ∙ ap (λ (l : List ℕ). 37 ∷ 50 ∷ 53 ∷ l) back)
    (λ c d e. by_pair (λ (c d : ℕ). ((c == 50) && (d == 53)) ≡ false → is_dot (c ∷ d ∷ rest) ≡ true → local_name (unescaped c d ∷ server_bytes rest) ≡ 37 ∷ c ∷ d ∷ rest) 50 69
    (λ _ h. local_first 46 (server_bytes rest) (hidden_server rest ∙ h) ∙ ap (λ (l : List ℕ). 37 ∷ 50 ∷ 69 ∷ l) back)
    (λ c d f e h. absurd (never_both (is_dot (c ∷ d ∷ rest)) h (ap (λ (t : Bool). is_dot_at (if t then behind_25 rest else c ∷ d ∷ rest)) e ∙ ap (λ (t : Bool). t && is_hidden rest) f))) c d e)

undotted_back : (l : List ℕ) → IsLocal l → begins_dotted l ≡ false → local_name (server_name l) ≡ l
undotted_back l h e = ap local_name (name_plain l e) ∙ plain_back (server_bytes l) (seen_server l ∙ h.in_sight) (dotted_server l e) ∙ local_server l h.no_slash

pub local_back : (l : List ℕ) → IsLocal l → local_name (server_name l) ≡ l
unfolding behind_25
local_back [] h = undotted_back [] h refl
local_back (b ∷ []) h = undotted_back (b ∷ []) h (and_none (b == 37))
local_back (b ∷ c ∷ []) h = undotted_back (b ∷ c ∷ []) h (and_none (b == 37))
local_back (b ∷ c ∷ d ∷ rest) h =
    let all : has_slash (c ∷ d ∷ rest) ≡ false = right_false (b == 47) (has_slash (c ∷ d ∷ rest)) h.no_slash in
    let few : has_slash rest ≡ false = right_false (d == 47) (has_slash rest) (right_false (c == 47) (has_slash (d ∷ rest)) all) in
    elim (cases_Bool ((b == 37) && is_dot (c ∷ d ∷ rest))) as (λ _. local_name (server_name (b ∷ c ∷ d ∷ rest)) ≡ b ∷ c ∷ d ∷ rest) [
      | inl e ↦
          let parts = and_parts (b == 37) (is_dot (c ∷ d ∷ rest)) e in
          ap (λ (x : ℕ). local_name (server_name (x ∷ c ∷ d ∷ rest))) (eqb-true b 37 parts.0) ∙ ap local_name (name_escape c d rest parts.1)
          ∙ dot_back rest (local_server rest few) c d parts.1 ∙ ap (λ (x : ℕ). x ∷ c ∷ d ∷ rest) (sym (eqb-true b 37 parts.0))
      | inr e ↦ undotted_back (b ∷ c ∷ d ∷ rest) h e
    ]
