-- Small facts on tests, numbers, bytes and options that std does not have. `search (facts, ..)` applies those of `facts` with no name given.
use Rattle.std.proofs.Common.{◌≡◌, ◌∙◌, ℕ, ◌<◌, ◌≤◌, ℤ, pos, Bool, true, false, cond, not, List, [], ◌∷◌, ◌++◌, refl, sym, ap, arith, append_assoc, append-nil, inl, inr, Ordering, Less, Equal, Greater}
use Rattle.std.specs.Prelude.{Option, Some, None, is_none, ◌&&◌, ◌||◌, ◌==◌, bytes_eq, option_map, T}
use Rattle.std.specs.Bool.{beq}
use Rattle.std.specs.Int.{is_negative}
use Rattle.std.specs.Ordering.{is_lt, nat_cmp}
use Rattle.std.proofs.lemmas.Bool.{and_from, or_from, or_left, or_right, not-true, not-false, not_from_true, not_from_false, ltb-true, ltb-false, leb-true, leb-false, eqb-true, lt-ltb, le-ltb, le-leb, lt-leb, eq-eqb, ne_eqb, false_from_ne_true, cases_Bool}
use Rattle.std.proofs.lemmas.Bool.Decides.{nat_tests}
use Rattle.std.proofs.lemmas.Slice.Eq.{bytes_eq-Decides}

-- ---- tests

pub left_true : (a b : Bool) → (a && b) ≡ true → a ≡ true
left_true true b e = refl
left_true false b e = absurd (cc)

pub right_true : (a b : Bool) → (a && b) ≡ true → b ≡ true
right_true true b e = e
right_true false b e = absurd (cc)

pub left_false : (a b : Bool) → (a || b) ≡ false → a ≡ false
left_false true b e = absurd (cc)
left_false false b e = refl

pub right_false : (a b : Bool) → (a || b) ≡ false → b ≡ false
right_false true b e = absurd (cc)
right_false false b e = e

-- one of two holds, so the other does not
pub rest_false : (a b : Bool) → a ≡ true → (a && b) ≡ false → b ≡ false
rest_false true b e h = h
rest_false false b e h = absurd (cc)

-- a test and its denial
pub never : (b : Bool) → b ≡ true → not b ≡ true → ⊥
never b holds denied = cc (ap not holds)

pub never_both : (b : Bool) → b ≡ true → b ≡ false → ⊥
never_both b holds fails = cc

-- where c gives b, what is not b is not c
pub contra : (b c : Bool) → (c ≡ true → b ≡ true) → not b ≡ true → not c ≡ true
contra true c gives h = cc
contra false true gives h = gives refl
contra false false gives h = refl

pub and-true : (a : Bool) → a ≡ (a && true)
and-true true = refl
and-true false = refl

pub and-false : (a : Bool) → (a && false) ≡ false
and-false true = refl
and-false false = refl

pub or-true : (a : Bool) → (a || true) ≡ true
or-true true = refl
or-true false = refl

pub or-false : (a : Bool) → (a || false) ≡ a
or-false true = refl
or-false false = refl

pub or_without : (a b : Bool) → b ≡ false → (a || b) ≡ a
or_without true b e = refl
or_without false b e = e

pub or_swap : (a b c : Bool) → (a || (b || c)) ≡ (b || (a || c))
or_swap true true c = refl
or_swap true false c = refl
or_swap false true c = refl
or_swap false false c = refl

pub or_twice : (a b c : Bool) → a ≡ b → (a || c) ≡ (b || (a || c))
or_twice true true c same = refl
or_twice false false c same = refl
or_twice true false c same = absurd (cc)
or_twice false true c same = absurd (cc)

pub beq-itself : (b : Bool) → beq b b ≡ true
beq-itself true = refl
beq-itself false = refl

pub T_left : (a b : Bool) → T (a && b) → T a
T_left true b p = tt
T_left false b p = p

pub T_right : (a b : Bool) → T (a && b) → T b
T_right true b p = p
T_right false b p = absurd p

pub T_both : (a b : Bool) → T a → T b → T (a && b)
T_both true b p q = q
T_both false b p q = p

-- ---- choices

pub cases : {P : Type 0} → (t : Bool) → (t ≡ true → P) → (t ≡ false → P) → P
cases true yes_ no_ = yes_ refl
cases false yes_ no_ = no_ refl

pub either : {P : Type 0} (a b : Bool) → (a || b) ≡ true → (a ≡ true → P) → (b ≡ true → P) → P
either true b e f g = f refl
either false b e f g = g e

pub pick : (b x y : Bool) → (b ≡ true → x ≡ true) → (b ≡ false → y ≡ true) → (cond b x y) ≡ true
pick true x y f g = f refl
pick false x y f g = g refl

pub then_of : (b x y : Bool) → b ≡ true → (cond b x y) ≡ true → x ≡ true
then_of true x y e h = h
then_of false x y e h = absurd (cc)

pub else_of : (b x y : Bool) → b ≡ false → (cond b x y) ≡ true → y ≡ true
else_of true x y e h = absurd (cc)
else_of false x y e h = h

-- ---- numbers

pub eqb-itself : (n : ℕ) → (n == n) ≡ true
eqb-itself n = eq-eqb n n refl

pub eqb_turn : (a b : ℕ) → (a == b) ≡ (b == a)
eqb_turn a b = grind (arith, nat_tests)

pub nat_cmp_less : (a b : ℕ) → nat_cmp a b ≡ Less → a < b
nat_cmp_less a b e = grind (arith, nat_tests, e)

pub nat_cmp_equal : (a b : ℕ) → nat_cmp a b ≡ Equal → a ≡ b
nat_cmp_equal a b e = grind (arith, nat_tests, e)

pub nat_cmp_greater : (a b : ℕ) → nat_cmp a b ≡ Greater → b < a
nat_cmp_greater a b e = grind (arith, nat_tests, e)

pub is_lt_less : (o : Ordering) → is_lt o ≡ true → o ≡ Less
is_lt_less Less e = refl
is_lt_less Equal e = absurd (cc)
is_lt_less Greater e = absurd (cc)

pub T_is_lt_less : (o : Ordering) → T (is_lt o) → o ≡ Less
T_is_lt_less Less p = refl
T_is_lt_less Equal p = absurd p
T_is_lt_less Greater p = absurd p

pub is_negative-pos : (n : ℕ) → is_negative (pos n) ≡ false
is_negative-pos n = grind arith

-- ---- bytes

pub bytes_same : (a b : List ℕ) → bytes_eq a b ≡ true → a ≡ b
bytes_same a b e = (bytes_eq-Decides a b).0 e

pub bytes_true : (a b : List ℕ) → a ≡ b → bytes_eq a b ≡ true
bytes_true a b e = (bytes_eq-Decides a b).1 e

pub bytes_differ_turn : (a b : List ℕ) → not (bytes_eq a b) ≡ true → not (bytes_eq b a) ≡ true
bytes_differ_turn a b h = contra (bytes_eq a b) (bytes_eq b a) (λ same. bytes_true a b (sym (bytes_same b a same))) h

pub bytes_turn : (a b : List ℕ) → bytes_eq a b ≡ bytes_eq b a
bytes_turn a b = elim (cases_Bool (bytes_eq a b)) [
  | inl same ↦ same ∙ sym (bytes_true b a (sym (bytes_same a b same)))
  | inr other ↦ other ∙ sym (not-true (bytes_eq b a) (bytes_differ_turn a b (ap not other)))
]

-- ---- options

pub none_from_is_none : {A : Type 0} (o : Option A) → is_none o ≡ true → o ≡ None
none_from_is_none None e = refl
none_from_is_none (Some x) e = absurd (cc)

pub some-none : {A : Type 0} (x : A) → Some x ≡ None → ⊥
some-none x e = cc

pub nothing-added : {X : Type 0} (o : Option (List X)) → o ≡ option_map (λ before. before ++ []) o
nothing-added None = refl
nothing-added (Some xs) = ap Some (sym (append-nil xs))

pub added-added : {X : Type 0} (o : Option (List X)) (xs ys : List X) → option_map (λ before. before ++ ys) (option_map (λ before. before ++ xs) o) ≡ option_map (λ before. before ++ (xs ++ ys)) o
added-added None xs ys = refl
added-added (Some zs) xs ys = ap Some (append_assoc zs xs ys)

-- std's laws of tests and ours, whose arguments the goal shows
pub ruleset facts = (and_from, or_from, or_left, or_right, not-true, not-false, not_from_true, not_from_false, ltb-true, ltb-false, leb-true, leb-false, eqb-true, lt-ltb, le-ltb, le-leb, lt-leb, eq-eqb, ne_eqb, false_from_ne_true, and-true, and-false, or-true, or-false, or_without, or_swap, or_twice, beq-itself, T_both, pick, eqb-itself, eqb_turn, nat_cmp_less, nat_cmp_equal, nat_cmp_greater, is_lt_less, is_negative-pos, bytes_same, bytes_true, bytes_differ_turn, bytes_turn, none_from_is_none, nothing-added, added-added)
