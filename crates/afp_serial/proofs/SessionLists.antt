-- Lists of sessions seen by number and by link.
use Rattle.std.proofs.Common.{◌≡◌, ◌∙◌, inl, inr, refl, sym, ap, ℕ, Bool, true, false, cond, List, [], ◌∷◌, ◌++◌, map, Option, Some, None}
use Rattle.std.specs.Prelude.{nat_eq, not, filter, find}
use Rattle.std.specs.List.{list_any}
use Rattle.std.proofs.lemmas.Bool.{cond_both, eqb-true, eqb-false, eq-eqb, ne_eqb, false≢true, cond-true, cond-false, cases_eq, and_parts, not-true, or_parts, or_left, or_right}
use Rattle.afp_base.specs.Apart.{are_apart}
use Rattle.afp_serial.specs.declared.attachment.Attachment.{Attachment}
use Rattle.afp_serial.specs.declared.attachment.Attachment.TheVariants.{Attached, Detached}
use Rattle.afp_serial.specs.Answer.{link_number}
use Rattle.afp_serial.specs.Sound.{share_link}
use Rattle.afp_serial.specs.SessionViews.{session_of}
use Rattle.afp_serial.specs.World.{Session, is_on_link}

abbrev pub session_on : List Session → ℕ → Option Session
session_on ss link = find (λ s. is_on_link link s.place) ss

abbrev pub NumbersDiffer : List Session → Type 0
NumbersDiffer [] = Unit {0}
NumbersDiffer (s ∷ ss) = (session_of ss s.number ≡ None) × NumbersDiffer ss

abbrev pub with_one : List Session → Session → List Session
with_one ss s = map (λ x. cond (nat_eq x.number s.number) s x) ss

-- what is found has the number
pub of-number : (ss : List Session) (n : ℕ) (s : Session) → session_of ss n ≡ Some s → s.number ≡ n
of-number [] n s e = absurd (cc)
of-number (x ∷ ss) n s e = cond_both (nat_eq x.number n) (Some x) (session_of ss n) (λ o. o ≡ Some s → s.number ≡ n) (λ f g. let same : x ≡ s = cc in ap (λ (y : Session). y.number) (sym same) ∙ eqb-true x.number n f) (λ f g. of-number ss n s g) e

-- ---- filter

abbrev pub pick : (Session → Bool) → Option Session → Option Session
pick p None = None
pick p (Some s) = cond (p s) (Some s) None

of-filter-none : (p : Session → Bool) (ss : List Session) (n : ℕ) → session_of ss n ≡ None → session_of (filter p ss) n ≡ None
of-filter-none p [] n e = refl
of-filter-none p (x ∷ ss) n e = cond_both (nat_eq x.number n) (Some x) (session_of ss n) (λ o. o ≡ None → session_of (filter p (x ∷ ss)) n ≡ None) (λ f g. absurd (cc))
    (λ f g. cond_both (p x) (x ∷ filter p ss) (filter p ss) (λ xs. session_of xs n ≡ None) (λ q. cond-false (nat_eq x.number n) (Some x) (session_of (filter p ss) n) f ∙ of-filter-none p ss n g) (λ q. of-filter-none p ss n g)) e

-- the first element, by whether it has the number and whether it stays
filtered : (number stays : Bool) (x : Session) (found : Option Session) (rest : List Session) (n : ℕ) (p : Session → Bool) → nat_eq x.number n ≡ number → p x ≡ stays → (number ≡ true → session_of rest n ≡ None) → session_of rest n ≡ pick p found
    → session_of (cond stays (x ∷ rest) rest) n ≡ pick p (cond number (Some x) found)
filtered true true x found rest n p is passes none same = ap (λ b. cond b (Some x) (session_of rest n)) is ∙ sym (ap (λ b. cond b (Some x) None) passes)
filtered true false x found rest n p is passes none same = none refl ∙ sym (ap (λ b. cond b (Some x) None) passes)
filtered false true x found rest n p is passes none same = ap (λ b. cond b (Some x) (session_of rest n)) is ∙ same
filtered false false x found rest n p is passes none same = same

pub of-filter : (p : Session → Bool) (ss : List Session) (n : ℕ) → NumbersDiffer ss → session_of (filter p ss) n ≡ pick p (session_of ss n)
of-filter p [] n d = refl
of-filter p (x ∷ ss) n d = filtered (nat_eq x.number n) (p x) x (session_of ss n) (filter p ss) n p refl refl (λ e. of-filter-none p ss n (ap (session_of ss) (sym (eqb-true x.number n e)) ∙ d.0)) (of-filter p ss n d.1)

pub differ-filter : (p : Session → Bool) (ss : List Session) → NumbersDiffer ss → NumbersDiffer (filter p ss)
differ-filter p [] d = tt
differ-filter p (x ∷ ss) d = cond_both (p x) (x ∷ filter p ss) (filter p ss) NumbersDiffer (λ q. (of-filter-none p ss x.number d.0, differ-filter p ss d.1)) (λ q. differ-filter p ss d.1)

-- ---- map

abbrev pub changed : (Session → Session) → Option Session → Option Session
changed f None = None
changed f (Some s) = Some (f s)

changed-by : (b : Bool) (f : Session → Session) (x : Session) (found rest : Option Session) → rest ≡ changed f found → cond b (Some (f x)) rest ≡ changed f (cond b (Some x) found)
changed-by true f x found rest e = refl
changed-by false f x found rest e = e

pub of-map : (f : Session → Session) → ((s : Session) → (f s).number ≡ s.number) → (ss : List Session) (n : ℕ) → session_of (map f ss) n ≡ changed f (session_of ss n)
of-map f same [] n = refl
of-map f same (x ∷ ss) n =
    ap (λ m. cond (nat_eq m n) (Some (f x)) (session_of (map f ss) n)) (same x)
    ∙ changed-by (nat_eq x.number n) f x (session_of ss n) (session_of (map f ss) n) (of-map f same ss n)

pub differ-map : (f : Session → Session) → ((s : Session) → (f s).number ≡ s.number) → (ss : List Session) → NumbersDiffer ss → NumbersDiffer (map f ss)
differ-map f same [] d = tt
differ-map f same (x ∷ ss) d = (ap (session_of (map f ss)) (same x) ∙ of-map f same ss x.number ∙ ap (changed f) d.0, differ-map f same ss d.1)

-- ---- one more

abbrev pub or_else : Option Session → Option Session → Option Session
or_else None o = o
or_else (Some s) o = Some s

pushed-by : (b : Bool) (x : Session) (found rest last : Option Session) → rest ≡ or_else found last → cond b (Some x) rest ≡ or_else (cond b (Some x) found) last
pushed-by true x found rest last e = refl
pushed-by false x found rest last e = e

pub of-push : (ss : List Session) (s : Session) (n : ℕ) → session_of (ss ++ s ∷ []) n ≡ or_else (session_of ss n) (cond (nat_eq s.number n) (Some s) None)
of-push [] s n = refl
of-push (x ∷ ss) s n = pushed-by (nat_eq x.number n) x (session_of ss n) (session_of (ss ++ s ∷ []) n) (cond (nat_eq s.number n) (Some s) None) (of-push ss s n)

pub differ-push : (ss : List Session) (s : Session) → session_of ss s.number ≡ None → NumbersDiffer ss → NumbersDiffer (ss ++ s ∷ [])
differ-push [] s e d = (refl, tt)
differ-push (x ∷ ss) s e d = (of-push ss s x.number ∙ ap (λ o. or_else o (cond (nat_eq s.number x.number) (Some s) None)) d.0 ∙ cond-false (nat_eq s.number x.number) (Some s) None far, differ-push ss s rest d.1)
  where
    far : nat_eq s.number x.number ≡ false
    far = ne_eqb s.number x.number (λ same. absurd (let f : Some x ≡ None = sym (cond-true (nat_eq x.number s.number) (Some x) (session_of ss s.number) (eq-eqb x.number s.number (sym same))) ∙ e in cc))

    rest : session_of ss s.number ≡ None
    rest = sym (cond-false (nat_eq x.number s.number) (Some x) (session_of ss s.number) (ne_eqb x.number s.number (λ same. absurd (let f : Some x ≡ None = sym (cond-true (nat_eq x.number s.number) (Some x) (session_of ss s.number) (eq-eqb x.number s.number same)) ∙ e in cc)))) ∙ e

-- ---- links

on-is : (l : ℕ) (p : Attachment) → is_on_link l p ≡ true → p ≡ Attached (link_number l)
on-is l (Attached k) e = ap (λ j. Attached (link_number j)) (eqb-true k.0 l e)
on-is l (Detached m) e = absurd (cc)

is-on : (l : ℕ) (p : Attachment) → p ≡ Attached (link_number l) → is_on_link l p ≡ true
is-on l p e = ap (is_on_link l) e ∙ eq-eqb l l refl

-- who is found on a link has it, and is found by its number
pub at-found : (ss : List Session) (l : ℕ) (s : Session) → NumbersDiffer ss → session_on ss l ≡ Some s → (session_of ss s.number ≡ Some s) × (s.place ≡ Attached (link_number l))
at-found [] l s d e = absurd (cc)
at-found (x ∷ ss) l s d e =
    cond_both (is_on_link l x.place) (Some x) (session_on ss l) (λ o. o ≡ Some s → (session_of (x ∷ ss) s.number ≡ Some s) × (s.place ≡ Attached (link_number l)))
    (λ f g. let same : x ≡ s = cc in (ap (λ (y : Session). cond (nat_eq x.number y.number) (Some x) (session_of ss y.number)) (sym same) ∙ cond-true (nat_eq x.number x.number) (Some x) (session_of ss x.number) (eq-eqb x.number x.number refl) ∙ ap (λ y. Some y) same, ap (λ (y : Session). y.place) (sym same) ∙ on-is l x.place f))
    (λ f g. let r = at-found ss l s d.1 g in
    (cond-false (nat_eq x.number s.number) (Some x) (session_of ss s.number) (ne_eqb x.number s.number (λ same. absurd (let h : Some s ≡ None = sym r.0 ∙ ap (session_of ss) (sym same) ∙ d.0 in cc))) ∙ r.0, r.1)) e

-- where nobody is found on a link nobody has it
pub at-none : (ss : List Session) (l n : ℕ) (s : Session) → session_on ss l ≡ None → session_of ss n ≡ Some s → s.place ≡ Attached (link_number l) → ⊥
at-none [] l n s e f on = absurd (cc)
at-none (x ∷ ss) l n s e f on =
    cond_both (nat_eq x.number n) (Some x) (session_of ss n) (λ o. o ≡ Some s → ⊥)
    (λ g h. let same : x ≡ s = cc in let i : Some x ≡ None = sym (cond-true (is_on_link l x.place) (Some x) (session_on ss l) (is-on l x.place (ap (λ (y : Session). y.place) same ∙ on))) ∙ e in absurd (cc))
    (λ g h. at-none ss l n s (cond_both (is_on_link l x.place) (Some x) (session_on ss l) (λ o. o ≡ None → session_on ss l ≡ None) (λ i j. absurd (cc)) (λ i j. j) e) h on) f

-- who is found by any test passes it, and is found by its number
pub found-by : (p : Session → Bool) (ss : List Session) (s : Session) → NumbersDiffer ss → find p ss ≡ Some s → (session_of ss s.number ≡ Some s) × (p s ≡ true)
found-by p [] s d e = absurd (cc)
found-by p (x ∷ ss) s d e =
    cond_both (p x) (Some x) (find p ss) (λ o. o ≡ Some s → (session_of (x ∷ ss) s.number ≡ Some s) × (p s ≡ true))
    (λ f g. let same : x ≡ s = cc in (ap (λ (y : Session). cond (nat_eq x.number y.number) (Some x) (session_of ss y.number)) (sym same) ∙ cond-true (nat_eq x.number x.number) (Some x) (session_of ss x.number) (eq-eqb x.number x.number refl) ∙ ap (λ y. Some y) same, ap p (sym same) ∙ f))
    (λ f g. let r = found-by p ss s d.1 g in
    (cond-false (nat_eq x.number s.number) (Some x) (session_of ss s.number) (ne_eqb x.number s.number (λ same. absurd (let h : Some s ≡ None = sym r.0 ∙ ap (session_of ss) (sym same) ∙ d.0 in cc))) ∙ r.0, r.1)) e

-- without a number
pub of-without : (ss : List Session) (k n : ℕ) → NumbersDiffer ss → session_of (filter (λ x. not (nat_eq x.number k)) ss) n ≡ cond (nat_eq k n) None (session_of ss n)
of-without ss k n d = of-filter (λ x. not (nat_eq x.number k)) ss n d ∙ by (session_of ss n) (λ s e. of-number ss n s e)
  where
    by : (o : Option Session) → ((s : Session) → o ≡ Some s → s.number ≡ n) → pick (λ x. not (nat_eq x.number k)) o ≡ cond (nat_eq k n) None o
    by None is = cond_both (nat_eq k n) None None (λ x. None ≡ x) (λ e. refl) (λ e. refl)
    by (Some s) is = ap (λ m. cond (not (nat_eq m k)) (Some s) None) (is s refl) ∙ turned (nat_eq n k) (nat_eq k n) (swap n k)
      where
        turned : (a b : Bool) → a ≡ b → cond (not a) (Some s) None ≡ cond b None (Some s)
        turned true b e = ap (λ x. cond x None (Some s)) e
        turned false b e = ap (λ x. cond x None (Some s)) e

        swap : (i j : ℕ) → nat_eq i j ≡ nat_eq j i
        swap i j = elim (cases_eq i j) [
          | inl same ↦ eq-eqb i j same ∙ sym (eq-eqb j i (sym same))
          | inr other ↦ ne_eqb i j other ∙ sym (ne_eqb j i (λ e. other (sym e)))
        ]

-- with another session in place of one
pub of-with : (ss : List Session) (t s : Session) (n : ℕ) → session_of ss t.number ≡ Some s → session_of (with_one ss t) n ≡ cond (nat_eq t.number n) (Some t) (session_of ss n)
of-with ss t s n there = of-map (λ x. cond (nat_eq x.number t.number) t x) same ss n ∙ by (session_of ss n) refl
  where
    same : (x : Session) → (cond (nat_eq x.number t.number) t x).number ≡ x.number
    same x = cond_both (nat_eq x.number t.number) t x (λ y. y.number ≡ x.number) (λ e. sym (eqb-true x.number t.number e)) (λ e. refl)

    by : (o : Option Session) → session_of ss n ≡ o → changed (λ x. cond (nat_eq x.number t.number) t x) o ≡ cond (nat_eq t.number n) (Some t) o
    by None is = sym (cond-false (nat_eq t.number n) (Some t) None (ne_eqb t.number n (λ e. absurd (let f : Some s ≡ None = sym there ∙ ap (session_of ss) e ∙ is in cc))))
    by (Some x) is = elim (cases_eq t.number n) [
      | inl at_n ↦ ap (λ y. Some y) (cond-true (nat_eq x.number t.number) t x (eq-eqb x.number t.number (of-number ss n x is ∙ sym at_n))) ∙ sym (cond-true (nat_eq t.number n) (Some t) (Some x) (eq-eqb t.number n at_n))
      | inr off ↦ ap (λ y. Some y) (cond-false (nat_eq x.number t.number) t x (ne_eqb x.number t.number (λ e. off (sym e ∙ of-number ss n x is)))) ∙ sym (cond-false (nat_eq t.number n) (Some t) (Some x) (ne_eqb t.number n off))
    ]

pub differ-with : (ss : List Session) (t : Session) → NumbersDiffer ss → NumbersDiffer (with_one ss t)
differ-with ss t d = differ-map (λ x. cond (nat_eq x.number t.number) t x) (λ x. cond_both (nat_eq x.number t.number) t x (λ y. y.number ≡ x.number) (λ e. sym (eqb-true x.number t.number e)) (λ e. refl)) ss d

-- ---- from the tests of a sound world

none-numbered : (n : ℕ) (ss : List Session) → list_any (λ b. nat_eq n b.number) ss ≡ false → session_of ss n ≡ None
none-numbered n [] e = refl
none-numbered n (x ∷ ss) e =
    let p = or_parts (nat_eq n x.number) (list_any (λ b. nat_eq n b.number) ss) e in
    cond-false (nat_eq x.number n) (Some x) (session_of ss n) (ne_eqb x.number n (λ f. eqb-false n x.number p.0 (sym f))) ∙ none-numbered n ss p.1

pub numbers-from : (ss : List Session) → are_apart (λ (a b : Session). nat_eq a.number b.number) ss ≡ true → NumbersDiffer ss
numbers-from [] e = tt
numbers-from (x ∷ ss) e =
    let p = and_parts (not (list_any (λ b. nat_eq x.number b.number) ss)) (are_apart (λ (a b : Session). nat_eq a.number b.number) ss) e in
    (none-numbered x.number ss (not-true (list_any (λ b. nat_eq x.number b.number) ss) p.0), numbers-from ss p.1)

-- who is found by number passes no test that none passes
found-any : (p : Session → Bool) (ss : List Session) (n : ℕ) (s : Session) → session_of ss n ≡ Some s → p s ≡ true → list_any p ss ≡ true
found-any p [] n s e h = absurd (cc)
found-any p (x ∷ ss) n s e h = cond_both (nat_eq x.number n) (Some x) (session_of ss n) (λ o. o ≡ Some s → list_any p (x ∷ ss) ≡ true)
    (λ f g. or_left (p x) (list_any p ss) (let same : x ≡ s = cc in ap p same ∙ h)) (λ f g. or_right (p x) (list_any p ss) (found-any p ss n s g h)) e

shared : (s t : Session) (l : ℕ) → s.place ≡ Attached (link_number l) → t.place ≡ Attached (link_number l) → share_link s.place t.place ≡ true
shared s t l a b = (λ i. share_link (a i) (b i)) ∙ eq-eqb l l refl

pub links-from : (ss : List Session) → are_apart (λ (a b : Session). share_link a.place b.place) ss ≡ true → (m n l : ℕ) (s t : Session) → session_of ss m ≡ Some s → session_of ss n ≡ Some t → s.place ≡ Attached (link_number l) → t.place ≡ Attached (link_number l) → m ≡ n
links-from [] e m n l s t a b p q = absurd (cc)
links-from (x ∷ ss) e m n l s t a b p q =
    let parts = and_parts (not (list_any (λ b. share_link x.place b.place) ss)) (are_apart (λ (a b : Session). share_link a.place b.place) ss) e in
    let none : list_any (λ b. share_link x.place b.place) ss ≡ false = not-true (list_any (λ b. share_link x.place b.place) ss) parts.0 in
    elim (cases_eq x.number m) [
      | inl at_m ↦ elim (cases_eq x.number n) [
        | inl at_n ↦ sym at_m ∙ at_n
        | inr off_n ↦ absurd (false≢true (sym none ∙ found-any (λ b. share_link x.place b.place) ss n t (sym (cond-false (nat_eq x.number n) (Some x) (session_of ss n) (ne_eqb x.number n off_n)) ∙ b) (shared x t l (let f : Some x ≡ Some s = sym (cond-true (nat_eq x.number m) (Some x) (session_of ss m) (eq-eqb x.number m at_m)) ∙ a in let g : x ≡ s = cc in ap (λ (y : Session). y.place) g ∙ p) q)))
      ]
      | inr off_m ↦ elim (cases_eq x.number n) [
        | inl at_n ↦ absurd (false≢true (sym none ∙ found-any (λ b. share_link x.place b.place) ss m s (sym (cond-false (nat_eq x.number m) (Some x) (session_of ss m) (ne_eqb x.number m off_m)) ∙ a) (shared x s l (let f : Some x ≡ Some t = sym (cond-true (nat_eq x.number n) (Some x) (session_of ss n) (eq-eqb x.number n at_n)) ∙ b in let g : x ≡ t = cc in ap (λ (y : Session). y.place) g ∙ q) p)))
        | inr off_n ↦ links-from ss parts.1 m n l s t (sym (cond-false (nat_eq x.number m) (Some x) (session_of ss m) (ne_eqb x.number m off_m)) ∙ a) (sym (cond-false (nat_eq x.number n) (Some x) (session_of ss n) (ne_eqb x.number n off_n)) ∙ b) p q
      ]
    ]

-- a change of the session of a number is another session in its place

none-changed : (g : Session → Session) (n : ℕ) (ss : List Session) → session_of ss n ≡ None → map (λ x. cond (nat_eq x.number n) (g x) x) ss ≡ ss
none-changed g n [] e = refl
none-changed g n (x ∷ ss) e = by (nat_eq x.number n) refl e (λ h. none-changed g n ss h)
  where
    by : (b : Bool) → nat_eq x.number n ≡ b → cond b (Some x) (session_of ss n) ≡ None → (session_of ss n ≡ None → map (λ y. cond (nat_eq y.number n) (g y) y) ss ≡ ss)
        → cond (nat_eq x.number n) (g x) x ∷ map (λ y. cond (nat_eq y.number n) (g y) y) ss ≡ x ∷ ss
    by true f h rest = absurd (let bad : Some x ≡ None = h in cc)
    by false f h rest = (λ i. cond (f i) (g x) x ∷ rest h i)

pub put-changed : (ss : List Session) (s : Session) (f : Session → Session) → NumbersDiffer ss → session_of ss s.number ≡ Some s → map (λ x. cond (nat_eq x.number s.number) (f s) x) ss ≡ map (λ x. cond (nat_eq x.number s.number) (f x) x) ss
put-changed [] s f d e = refl
put-changed (x ∷ ss) s f d e = by (nat_eq x.number s.number) refl e (λ h. put-changed ss s f d.1 h)
  where
    by : (b : Bool) → nat_eq x.number s.number ≡ b → cond b (Some x) (session_of ss s.number) ≡ Some s
        → (session_of ss s.number ≡ Some s → map (λ y. cond (nat_eq y.number s.number) (f s) y) ss ≡ map (λ y. cond (nat_eq y.number s.number) (f y) y) ss)
        → cond b (f s) x ∷ map (λ y. cond (nat_eq y.number s.number) (f s) y) ss ≡ cond b (f x) x ∷ map (λ y. cond (nat_eq y.number s.number) (f y) y) ss
    by true g h rest =
        let first : Some x ≡ Some s = h in
        let same : x ≡ s = cc in
        let none : session_of ss s.number ≡ None = ap (session_of ss) (sym (eqb-true x.number s.number g)) ∙ d.0 in
        let tails = none-changed (λ y. f s) s.number ss none ∙ sym (none-changed f s.number ss none) in
        λ i. f (sym same i) ∷ tails i
    by false g h rest = ap (λ l. x ∷ l) (rest h)
