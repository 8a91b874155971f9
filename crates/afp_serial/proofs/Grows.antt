-- How histories grow, and what a teller's own steps are then.
use Rattle.std.proofs.Common.{◌≡◌, ℕ, ◌+◌, ◌<◌, ◌≤◌, suc, zero, true, List, [], ◌∷◌, ◌++◌, length, take, Option, Some, None, refl, sym, ap, ◌∙◌, subst, append_assoc, arith, length-append, append-nil}
use Rattle.std.specs.Prelude.{slice_get}
use Rattle.std.proofs.lemmas.List.{take-append-le}
use Rattle.std.proofs.lemmas.Bool.{and_from}
use Rattle.std.proofs.lemmas.List.Prefix.{front_fits}
use Rattle.afp_base.specs.Counts.{Rises}
use Rattle.afp_base.specs.declared.ids.LinkNumber.{LinkNumber}
use Rattle.afp_serial.specs.declared.ask.Ask.{Ask}
use Rattle.afp_serial.specs.declared.ask.Told.{Told}
use Rattle.afp_serial.specs.declared.ask.Told.TheVariants.{Opened, Reply, Live, Done, Displaced, Memory}
use Rattle.afp_serial.specs.declared.ask.Entry.{Entry}
use Rattle.afp_serial.specs.Answer.{answer, after, is_legal}
use Rattle.afp_serial.specs.World.{World}
use Rattle.afp_serial.specs.History.{entry, stand, is_lawful, faults_in, Own, own_at, own}
use Rattle.afp_serial.specs.Shown.{Rising, Shown, Stays, Adds, Asked}
use Rattle.afp_serial.specs.Went.{Step, step, step_of, steps_of, and_step, answered, Went}
use Rattle.afp_base.proofs.Facts.{left_true, right_true}

pub stand-append : (w : World) (h x : List Entry) → stand w (h ++ x) ≡ stand (stand w h) x
stand-append w [] x = refl
stand-append w (e ∷ es) x = stand-append (after w e) es x

pub lawful-snoc : (w : World) (h : List Entry) (e : Entry) → is_lawful w h ≡ true → is_legal (stand w h) e ≡ true → is_lawful w (h ++ e ∷ []) ≡ true
lawful-snoc w [] e l t = and_from (is_legal w e) true t refl
lawful-snoc w (x ∷ xs) e l t = and_from (is_legal w x) _ (left_true _ _ l) (lawful-snoc (after w x) xs e (right_true (is_legal w x) _ l) t)

pub faults-append : (h x : List Entry) → faults_in (h ++ x) ≡ faults_in h + faults_in x
faults-append [] x = omega arith
faults-append (e ∷ es) x = omega (arith, faults-append es x)

pub rises-more : (a n b m c : ℕ) → Rises n a b → Rises m b c → Rises (n + m) a c
rises-more a n b m c p q = (omega arith, omega arith)

pub rises-none : (a : ℕ) → Rises 0 a a
rises-none a = (omega arith, omega arith)

pub get-append : (h x : List Entry) (k : ℕ) → k < length h → slice_get (h ++ x) k ≡ slice_get h k
get-append [] x k l = absurd (omega arith)
get-append (e ∷ es) x zero l = refl
get-append (e ∷ es) x (suc k) l = get-append es x k (omega arith)

pub get-last : (h : List Entry) (e : Entry) → slice_get (h ++ e ∷ []) (length h) ≡ Some e
get-last [] e = refl
get-last (x ∷ xs) e = get-last xs e

pub take-all : (h x : List Entry) → take (length h) (h ++ x) ≡ h
take-all [] x = refl
take-all (e ∷ es) x = ap (λ (l : List Entry). e ∷ l) (take-all es x)

pub rising-bound : (from : ℕ) (ks : List ℕ) (n : ℕ) → Rising from ks n → from ≤ n
rising-bound from [] n r = r
rising-bound from (k ∷ ks) n r = let b = rising-bound (k + 1) ks n r.1 in omega arith

pub rising-snoc : (from : ℕ) (ks : List ℕ) (n k : ℕ) → Rising from ks n → n ≤ k → Rising from (ks ++ k ∷ []) (k + 1)
rising-snoc from [] n k r l = (omega arith, omega arith)
rising-snoc from (j ∷ js) n k r l = (r.0, rising-snoc (j + 1) js n k r.1 l)

own-step : (start : World) (h x : List Entry) (k : ℕ) (rest rest' : List Own) → k < length h → rest ≡ rest'
    → own_at start (h ++ x) k (slice_get (h ++ x) k) rest ≡ own_at start h k (slice_get h k) rest'
own-step start h x k rest rest' l same =
    let t : take k (h ++ x) ≡ take k h = take-append-le k h x (omega arith) in
    let s : slice_get (h ++ x) k ≡ slice_get h k = get-append h x k l in
    ap (λ (o : Option Entry). own_at start (h ++ x) k o rest) s ∙ by_cases (slice_get h k) t
  where
    by_cases : (o : Option Entry) → take k (h ++ x) ≡ take k h → own_at start (h ++ x) k o rest ≡ own_at start h k o rest'
    by_cases (Some e) t = λ i. (e, answer (stand start (t i)) e) ∷ same i
    by_cases None t = same

pub own-stable : (start : World) (h x : List Entry) (from : ℕ) (ks : List ℕ) → Rising from ks (length h) → own start (h ++ x) ks ≡ own start h ks
own-stable start h x from [] r = refl
own-stable start h x from (k ∷ ks) r = let b = rising-bound (k + 1) ks (length h) r.1 in own-step start h x k _ _ (omega arith) (own-stable start h x (k + 1) ks r.1)

own_at-append : (start : World) (h : List Entry) (k : ℕ) (o : Option Entry) (a b : List Own) → own_at start h k o (a ++ b) ≡ own_at start h k o a ++ b
own_at-append start h k None a b = refl
own_at-append start h k (Some e) a b = refl

pub own-append : (start : World) (h : List Entry) (ks js : List ℕ) → own start h (ks ++ js) ≡ own start h ks ++ own start h js
own-append start h [] js = refl
own-append start h (k ∷ ks) js = ap (own_at start h k (slice_get h k)) (own-append start h ks js) ∙ own_at-append start h k (slice_get h k) (own start h ks) (own start h js)

pub steps_of-append : (a b : List Own) → steps_of (a ++ b) ≡ steps_of a ++ steps_of b
steps_of-append [] b = refl
steps_of-append (o ∷ os) b = ap (λ (l : List Step). step_of o ∷ l) (steps_of-append os b)

and_step-append : (t : Told) (s : Step) (a b : List Step) → and_step t s (a ++ b) ≡ and_step t s a ++ b
and_step-append (Opened l) s a b = refl
and_step-append (Reply code block ends) s a b = refl
and_step-append (Live drain) s a b = refl
and_step-append Done s a b = refl
and_step-append Displaced s a b = refl
and_step-append Memory s a b = refl

pub answered-append : (a b : List Step) → answered (a ++ b) ≡ answered a ++ answered b
answered-append [] b = refl
answered-append (s ∷ ss) b = ap (and_step s.told s) (answered-append ss b) ∙ and_step-append s.told s (answered ss) (answered b)

own-last : (start : World) (h : List Entry) (e : Entry) → own start (h ++ e ∷ []) (length h ∷ []) ≡ (e, answer (stand start h) e) ∷ []
own-last start h e =
    ap (λ (o : Option Entry). own_at start (h ++ e ∷ []) (length h) o []) (get-last h e)
    ∙ ap (λ (l : List Entry). (e, answer (stand start l) e) ∷ []) (take-all h (e ∷ []))

pub rising-join : (from : ℕ) (ks : List ℕ) (n : ℕ) (js : List ℕ) (m : ℕ) → Rising from ks n → Rising n js m → Rising from (ks ++ js) m
rising-join from [] n js m r s = lower js m s
  where
    lower : (js : List ℕ) (m : ℕ) → Rising n js m → Rising from js m
    lower [] m s = omega arith
    lower (j ∷ js) m s = (omega arith, s.1)
rising-join from (k ∷ ks) n js m r s = (r.0, rising-join (k + 1) ks n js m r.1 s)

pub went-none : (a : Shown) → Went a [] a
went-none a = record { between = []; places = []; start = refl; history = sym (append-nil a.history); mine = sym (append-nil a.mine); within = omega arith; told = refl; faults = rises-none a.faults }

pub went-join : (a b c : Shown) (ss ts : List Step) → Went a ss b → Went b ts c → Went a (ss ++ ts) c
went-join a b c ss ts v w =
    let stable : own a.start c.history v.places ≡ own a.start b.history v.places =
    ap (λ (l : List Entry). own a.start l v.places) w.history ∙ own-stable a.start b.history w.between (length a.history) v.places v.within in
    let later : own a.start c.history w.places ≡ own b.start c.history w.places = ap (λ (s : World). own s c.history w.places) (sym v.start) in
    record {
      between = v.between ++ w.between;
      places = v.places ++ w.places;
      start = w.start ∙ v.start;
      history = w.history ∙ ap (λ (l : List Entry). l ++ w.between) v.history ∙ append_assoc a.history v.between w.between;
      mine = w.mine ∙ ap (λ (l : List ℕ). l ++ w.places) v.mine ∙ append_assoc a.mine v.places w.places;
      within = rising-join (length a.history) v.places (length b.history) w.places (length c.history) v.within w.within;
      told = ap steps_of (own-append a.start c.history v.places w.places ∙ (λ i. stable i ++ later i)) ∙ steps_of-append (own a.start b.history v.places) (own b.start c.history w.places)
          ∙ (λ i. v.told i ++ w.told i) ∙ sym (answered-append ss ts);
      faults = subst (λ n. Rises n a.faults c.faults) (sym (faults-append v.between w.between)) (rises-more a.faults (faults_in v.between) b.faults (faults_in w.between) c.faults v.faults w.faults);
    }

went-stays : (a b : Shown) (s : Step) → Stays a b → answered (s ∷ []) ≡ [] → Went a (s ∷ []) b
went-stays a b s w none = record {
  between = w.between;
  places = [];
  start = w.start;
  history = w.history;
  mine = w.mine ∙ sym (append-nil a.mine);
  within = front_fits b.history a.history w.between w.history;
  told = sym none;
  faults = w.faults;
}

went-adds : (a b : Shown) (now : ℕ) (link : LinkNumber) (ask : Ask) (told : Told) → Adds a now link ask told b → answered (step now link ask told ∷ []) ≡ step now link ask told ∷ [] → Went a (step now link ask told ∷ []) b
went-adds a b now link ask told w kept =
    let e : Entry = entry now link ask w.outcome in
    let before : List Entry = a.history ++ w.between in
    let k : ℕ = length before in
    let len : length before ≡ length a.history + length w.between = length-append a.history w.between in
    let reach : length b.history ≡ k + 1 = ap length w.history ∙ length-append before (e ∷ []) in
    record {
      between = w.between ++ e ∷ [];
      places = k ∷ [];
      start = w.start;
      history = w.history ∙ append_assoc a.history w.between (e ∷ []);
      mine = w.mine;
      within = (omega arith, omega arith);
      told = ap steps_of (ap (λ (l : List Entry). own a.start l (k ∷ [])) w.history ∙ own-last a.start before e ∙ ap (λ (t : Told). (e, t) ∷ []) (sym w.serial)) ∙ sym kept;
      faults = w.faults;
    }

-- one ask
pub went-one : (a b : Shown) (now : ℕ) (link : LinkNumber) (ask : Ask) (told : Told) → Asked a now link ask told b → Went a (step now link ask told ∷ []) b
went-one a b now link ask (Opened l) w = went-adds a b now link ask (Opened l) w refl
went-one a b now link ask (Reply code block ends) w = went-adds a b now link ask (Reply code block ends) w refl
went-one a b now link ask (Live drain) w = went-adds a b now link ask (Live drain) w refl
went-one a b now link ask Done w = went-adds a b now link ask Done w refl
went-one a b now link ask Displaced w = went-adds a b now link ask Displaced w refl
went-one a b now link ask Memory w = went-stays a b (step now link ask Memory) w refl

-- what is not told Memory is an entry
pub asked-adds : (a b : Shown) (now : ℕ) (link : LinkNumber) (ask : Ask) (told : Told) → (told ≡ Memory → ⊥) → Adds a now link ask told b → Asked a now link ask told b
asked-adds a b now link ask (Opened l) not w = w
asked-adds a b now link ask (Reply code block ends) not w = w
asked-adds a b now link ask (Live drain) not w = w
asked-adds a b now link ask Done not w = w
asked-adds a b now link ask Displaced not w = w
asked-adds a b now link ask Memory not w = absurd (not refl)
