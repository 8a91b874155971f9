-- The steps of a teller in its history.
use Rattle.std.proofs.Common.{◌≡◌, ◌∙◌, refl, sym, ap, subst, ℕ, zero, suc, Bool, false, ◌+◌, ◌-◌, ◌<◌, ◌≤◌, true, List, [], ◌∷◌, ◌++◌, length, take, Option, Some, arith, append_assoc, eq-eqb, length-append}
use Rattle.std.specs.Prelude.{◌&&◌, if◌then◌else◌, nat_eq, slice_get}
use Rattle.std.specs.List.{list_all}
use Rattle.std.proofs.lemmas.Bool.{and_from, and_parts, ne_eqb}
use Rattle.std.proofs.lemmas.List.Folds.{list_all-append}
use Rattle.afp_serial.proofs.Grows.{rising-bound, stand-append, take-all}
use Rattle.afp_serial.specs.declared.ask.Entry.{Entry}
use Rattle.afp_serial.specs.declared.ask.Told.{Told}
use Rattle.afp_serial.specs.declared.ask.Told.TheVariants.{Opened, Reply, Live, Done, Displaced, Memory}
use Rattle.afp_serial.specs.Answer.{after, answer, is_legal}
use Rattle.afp_serial.specs.History.{Own, entry, is_lawful, own, own_at, stand}
use Rattle.afp_serial.specs.Shown.{Rising}
use Rattle.afp_serial.specs.Went.{Step, and_step, answered, step_of, steps_of}
use Rattle.afp_serial.specs.World.{World}
use Rattle.once_across_breaks_code.specs.server.Asked.{AreOthers, AskedAlone, AskedAmong, AskedAt, AskedBy, BecomesEntry, IsEntry, OthersPassSince, SoleTellersAreAskedAlone, TellersAreAskedInOrder, others_in, world_of}

-- ---- places in a history

get-split : (h : List Entry) (k : ℕ) → k < length h → (others : List Entry) × (e : Entry) × (later : List Entry) × (h ≡ others ++ e ∷ later) × (length others ≡ k)
get-split [] k l = absurd (omega arith)
get-split (e ∷ es) zero l = ([], e, es, refl, refl)
get-split (x ∷ xs) (suc k) l = let r = get-split xs k (omega arith) in (x ∷ r.0, r.1, r.2, ap (λ (t : List Entry). x ∷ t) r.3, ap suc r.4)

get-here : (h : List Entry) (e : Entry) (later : List Entry) → slice_get (h ++ e ∷ later) (length h) ≡ Some e
get-here [] e later = refl
get-here (x ∷ xs) e later = get-here xs e later

pub lawful-parts : (w : World) (xs ys : List Entry) → is_lawful w (xs ++ ys) ≡ true → (is_lawful w xs ≡ true) × (is_lawful (stand w xs) ys ≡ true)
lawful-parts w [] ys l = (refl, l)
lawful-parts w (x ∷ xs) ys l =
    let p = and_parts (is_legal w x) (is_lawful (after w x) (xs ++ ys)) l in
    let q = lawful-parts (after w x) xs ys p.1 in
    (λ i. p.0 i && q.0 i, q.1)

pub lawful-append : (w : World) (xs ys : List Entry) → is_lawful w xs ≡ true → is_lawful (stand w xs) ys ≡ true → is_lawful w (xs ++ ys) ≡ true
lawful-append w [] ys p q = q
lawful-append w (x ∷ xs) ys p q = let l = and_parts (is_legal w x) (is_lawful (after w x) xs) p in and_from (is_legal w x) (is_lawful (after w x) (xs ++ ys)) l.0 (lawful-append (after w x) xs ys l.1 q)

-- an own entry, with what it was told
own-here : (start : World) (h : List Entry) (e : Entry) (later : List Entry) (ks : List ℕ) → own start (h ++ e ∷ later) (length h ∷ ks) ≡ (e, answer (stand start h) e) ∷ own start (h ++ e ∷ later) ks
own-here start h e later ks =
    ap (λ (o : Option Entry). own_at start (h ++ e ∷ later) (length h) o (own start (h ++ e ∷ later) ks)) (get-here h e later)
    ∙ ap (λ (l : List Entry). (e, answer (stand start l) e) ∷ own start (h ++ e ∷ later) ks) (take-all h (e ∷ later))

-- ---- which entries are those of others

pub all-of : (p q : Entry → Bool) (es : List Entry) → ((e : Entry) → p e ≡ true → q e ≡ true) → list_all p es ≡ true → list_all q es ≡ true
all-of p q [] weaker all = refl
all-of p q (e ∷ es) weaker all = let parts = and_parts (p e) (list_all p es) all in and_from (q e) (list_all q es) (weaker e parts.0) (all-of p q es weaker parts.1)

pub all-append : (p : Entry → Bool) (xs ys : List Entry) → list_all p xs ≡ true → list_all p ys ≡ true → list_all p (xs ++ ys) ≡ true
all-append p xs ys a b = list_all-append p xs ys ∙ and_from (list_all p xs) (list_all p ys) a b

-- where the teller has no place of its own
others-all : (k : ℕ) (es : List Entry) → others_in k [] es ≡ es
others-all k [] = refl
others-all k (e ∷ es) = ap (λ (l : List Entry). e ∷ l) (others-all (k + 1) es)

-- before its next place, and behind it
pass-split : (p : Entry → Bool) (k j : ℕ) (ks : List ℕ) (others : List Entry) (e : Entry) (later : List Entry) → j ≡ k + length others → list_all p (others_in k (j ∷ ks) (others ++ e ∷ later)) ≡ true
    → (list_all p others ≡ true) × (list_all p (others_in (j + 1) ks later) ≡ true)
pass-split p k j ks [] e later at all =
    let same : j ≡ k = omega (arith, at) in
    let here : others_in k (j ∷ ks) (e ∷ later) ≡ others_in (k + 1) ks later = ap (λ (b : Bool). if b then others_in (k + 1) ks later else e ∷ others_in (k + 1) (j ∷ ks) later) (eq-eqb j k same) in
    (refl, subst (λ (n : ℕ). list_all p (others_in (n + 1) ks later) ≡ true) (sym same) (subst (λ (l : List Entry). list_all p l ≡ true) here all))
pass-split p k j ks (o ∷ others) e later at all =
    let off : nat_eq j k ≡ false = ne_eqb j k (λ same. absurd (omega (arith, at, same))) in
    let here : others_in k (j ∷ ks) (o ∷ (others ++ e ∷ later)) ≡ o ∷ others_in (k + 1) (j ∷ ks) (others ++ e ∷ later) =
    ap (λ (b : Bool). if b then others_in (k + 1) ks (others ++ e ∷ later) else o ∷ others_in (k + 1) (j ∷ ks) (others ++ e ∷ later)) off in
    let parts = and_parts (p o) (list_all p (others_in (k + 1) (j ∷ ks) (others ++ e ∷ later))) (subst (λ (l : List Entry). list_all p l ≡ true) here all) in
    let rest = pass-split p (k + 1) j ks others e later (omega (arith, at)) parts.1 in
    (and_from (p o) (list_all p others) parts.0 rest.0, rest.1)

-- ---- a step among the entries of others

abbrev Among : (Entry → Bool) → World → Told → Step → List Step → List Entry → World → Type 0
Among p w t s ss es behind =
    (others : List Entry) × (first : List Entry) × (rest : List Entry) × (mid : World) × AreOthers p w others × AskedBy (stand w others) s t first mid × AskedAmong p mid ss rest behind
    × (es ≡ others ++ (first ++ rest))

-- what is shown of the later steps, wherever they begin
abbrev Later : (Entry → Bool) → World → List Step → Type 0
Later p start ss = (past rest : List Entry) (places : List ℕ) → is_lawful (stand start past) rest ≡ true → Rising (length past) places (length (past ++ rest)) → steps_of (own start (past ++ rest) places) ≡ answered ss
    → list_all p (others_in (length past) places rest) ≡ true
    → AskedAmong p (stand start past) ss rest (stand start (past ++ rest))

-- a step that became an entry
pub record Stood (p : Entry → Bool) (w : World) (s : Step) (ss : List Step) (es : List Entry) (behind : World) : Type 0 where
  pub others : List Entry
  pub e : Entry
  pub rest : List Entry
  pub mid : World
  pub lawful : AreOthers p w others
  pub is : IsEntry (stand w others) s e mid
  pub later : AskedAmong p mid ss rest behind
  pub all : es ≡ others ++ (e ∷ rest)

stood-here : (p : Entry → Bool) (start : World) (past others : List Entry) (e : Entry) (later : List Entry) (ks : List ℕ) (s : Step) (ss : List Step)
    → is_lawful (stand start past) (others ++ e ∷ later) ≡ true
    → Rising (length (past ++ others) + 1) ks (length (past ++ (others ++ e ∷ later)))
    → steps_of (own start (past ++ (others ++ e ∷ later)) (length (past ++ others) ∷ ks)) ≡ s ∷ answered ss
    → list_all p (others_in (length past) (length (past ++ others) ∷ ks) (others ++ e ∷ later)) ≡ true
    → Later p start ss
    → Stood p (stand start past) s ss (others ++ e ∷ later) (stand start (past ++ (others ++ e ∷ later)))
stood-here p start past others e later ks s ss lawful rising told pass next =
    let h : List Entry = past ++ others in
    let same : past ++ (others ++ e ∷ later) ≡ h ++ e ∷ later = sym (append_assoc past others (e ∷ later)) in
    let again : past ++ (others ++ e ∷ later) ≡ (h ++ e ∷ []) ++ later = same ∙ sym (append_assoc h (e ∷ []) later) in
    let steps : step_of (e, answer (stand start h) e) ∷ steps_of (own start (h ++ e ∷ later) ks) ≡ s ∷ answered ss =
    sym (ap steps_of (own-here start h e later ks)) ∙ sym (ap (λ (l : List Entry). steps_of (own start l (length h ∷ ks))) same) ∙ told in
    let head : step_of (e, answer (stand start h) e) ≡ s = cc in
    let tail : steps_of (own start (h ++ e ∷ later) ks) ≡ answered ss = cc in
    let w : World = stand start past in
    let here : stand start h ≡ stand w others = stand-append start past others in
    let left : stand start (h ++ e ∷ []) ≡ after (stand w others) e = stand-append start h (e ∷ []) ∙ ap (λ (v : World). after v e) here in
    let parts = lawful-parts w others (e ∷ later) lawful in
    let legal = and_parts (is_legal (stand w others) e) (is_lawful (after (stand w others) e) later) parts.1 in
    let long : length (h ++ e ∷ []) ≡ length h + 1 = length-append h (e ∷ []) in
    let split = pass-split p (length past) (length h) ks others e later (length-append past others) pass in
    record {
      others = others;
      e = e;
      rest = later;
      mid = stand start (h ++ e ∷ []);
      lawful = (parts.0, split.0);
      is = record {
        outcome = e.outcome;
        is = λ i. entry (head i).at (head i).link (head i).ask e.outcome;
        legal = legal.0;
        told = ap (λ (x : Step). x.told) (sym head) ∙ ap (λ (v : World). answer v e) here;
        left = left;
      };
      later = subst (λ (l : List Entry). AskedAmong p (stand start (h ++ e ∷ [])) ss later (stand start l)) (sym again)
          (next (h ++ e ∷ []) later ks (subst (λ (v : World). is_lawful v later ≡ true) (sym left) legal.1)
          (subst (λ (n : ℕ). Rising n ks (length ((h ++ e ∷ []) ++ later))) (sym long) (subst (λ (l : List Entry). Rising (length h + 1) ks (length l)) again rising))
          (ap (λ (l : List Entry). steps_of (own start l ks)) (append_assoc h (e ∷ []) later) ∙ tail)
          (subst (λ (n : ℕ). list_all p (others_in n ks later) ≡ true) (sym long) split.1));
      all = refl;
    }

stood : (p : Entry → Bool) (start : World) (past rest : List Entry) (places : List ℕ) (s : Step) (ss : List Step)
    → is_lawful (stand start past) rest ≡ true
    → Rising (length past) places (length (past ++ rest))
    → steps_of (own start (past ++ rest) places) ≡ s ∷ answered ss
    → list_all p (others_in (length past) places rest) ≡ true
    → Later p start ss
    → Stood p (stand start past) s ss rest (stand start (past ++ rest))
stood p start past rest [] s ss lawful rising told pass next = absurd (cc)
stood p start past rest (k ∷ ks) s ss lawful rising told pass next =
    let bound = rising-bound (k + 1) ks (length (past ++ rest)) rising.1 in
    let long = length-append past rest in
    let first = rising.0 in
    let r = get-split rest (k - length past) (omega (arith, bound, long, first)) in
    let place : k ≡ length (past ++ r.0) = let all = length-append past r.0 in let size = r.4 in omega (arith, all, size, first) in
    subst (λ (l : List Entry). Stood p (stand start past) s ss l (stand start (past ++ l))) (sym r.3)
    (stood-here p start past r.0 r.1 r.2 ks s ss (subst (λ (l : List Entry). is_lawful (stand start past) l ≡ true) r.3 lawful)
    (subst (λ (n : ℕ). Rising (n + 1) ks (length (past ++ (r.0 ++ r.1 ∷ r.2)))) place (subst (λ (l : List Entry). Rising (k + 1) ks (length (past ++ l))) r.3 rising.1))
    (subst (λ (n : ℕ). steps_of (own start (past ++ (r.0 ++ r.1 ∷ r.2)) (n ∷ ks)) ≡ s ∷ answered ss) place (subst (λ (l : List Entry). steps_of (own start (past ++ l) (k ∷ ks)) ≡ s ∷ answered ss) r.3 told))
    (subst (λ (n : ℕ). list_all p (others_in (length past) (n ∷ ks) (r.0 ++ r.1 ∷ r.2)) ≡ true) place (subst (λ (l : List Entry). list_all p (others_in (length past) (k ∷ ks) l) ≡ true) r.3 pass))
    next)

as-entry : (p : Entry → Bool) (w : World) (s : Step) (ss : List Step) (es : List Entry) (behind : World) → Stood p w s ss es behind
    → (others : List Entry) × (first : List Entry) × (rest : List Entry) × (mid : World) × AreOthers p w others × BecomesEntry (stand w others) s first mid × AskedAmong p mid ss rest behind
    × (es ≡ others ++ (first ++ rest))
as-entry p w s ss es behind x = (x.others, x.e ∷ [], x.rest, x.mid, x.lawful, (x.e, refl, x.is), x.later, x.all)

among-by : (p : Entry → Bool) (start : World) (past rest : List Entry) (places : List ℕ) (t : Told) (s : Step) (ss : List Step)
    → is_lawful (stand start past) rest ≡ true
    → Rising (length past) places (length (past ++ rest))
    → steps_of (own start (past ++ rest) places) ≡ and_step t s (answered ss)
    → list_all p (others_in (length past) places rest) ≡ true
    → Later p start ss
    → Among p (stand start past) t s ss rest (stand start (past ++ rest))
among-by p start past rest places (Opened l) s ss lawful rising told pass next = as-entry p (stand start past) s ss rest (stand start (past ++ rest)) (stood p start past rest places s ss lawful rising told pass next)
among-by p start past rest places (Reply code block ends) s ss lawful rising told pass next = as-entry p (stand start past) s ss rest (stand start (past ++ rest)) (stood p start past rest places s ss lawful rising told pass next)
among-by p start past rest places (Live drain) s ss lawful rising told pass next = as-entry p (stand start past) s ss rest (stand start (past ++ rest)) (stood p start past rest places s ss lawful rising told pass next)
among-by p start past rest places Done s ss lawful rising told pass next = as-entry p (stand start past) s ss rest (stand start (past ++ rest)) (stood p start past rest places s ss lawful rising told pass next)
among-by p start past rest places Displaced s ss lawful rising told pass next = as-entry p (stand start past) s ss rest (stand start (past ++ rest)) (stood p start past rest places s ss lawful rising told pass next)
among-by p start past rest places Memory s ss lawful rising told pass next = ([], [], rest, stand start past, (refl, refl), (refl, refl), next past rest places lawful rising told pass, refl)

-- as many steps as places
own-size : (start : World) (h : List Entry) (from : ℕ) (ks : List ℕ) → Rising from ks (length h) → length (steps_of (own start h ks)) ≡ length ks
own-size start h from [] r = refl
own-size start h from (k ∷ ks) r =
    let bound = rising-bound (k + 1) ks (length h) r.1 in
    let x = get-split h k (omega (arith, bound)) in
    let e : slice_get h k ≡ Some x.1 = (λ i. slice_get (x.3 i) (sym x.4 i)) ∙ get-here x.0 x.1 x.2 in
    let one : own start h (k ∷ ks) ≡ (x.1, answer (stand start (take k h)) x.1) ∷ own start h ks = ap (λ (o : Option Entry). own_at start h k o (own start h ks)) e in
    ap (λ (os : List Own). length (steps_of os)) one ∙ ap suc (own-size start h (k + 1) ks r.1)

no-places : (ks : List ℕ) → length ks ≡ 0 → ks ≡ []
no-places [] e = refl
no-places (k ∷ ks) e = absurd (omega (arith, e))

among : (p : Entry → Bool) (start : World) (ss : List Step) → Later p start ss
among p start [] past rest places lawful rising told pass =
    let none = no-places places (sym (own-size start (past ++ rest) (length past) places rising) ∙ ap length told) in
    ((lawful, subst (λ (l : List Entry). list_all p l ≡ true) (ap (λ (l : List ℕ). others_in (length past) l rest) none ∙ others-all (length past) rest) pass), stand-append start past rest)
among p start (s ∷ ss) past rest places lawful rising told pass = among-by p start past rest places s.told s ss lawful rising told pass (among p start ss)

pub in-order : TellersAreAskedInOrder
in-order p a b steps lawful others went =
    let lawful' : is_lawful a.start (a.history ++ went.between) ≡ true = sym (λ i. is_lawful (went.start i) (went.history i)) ∙ lawful in
    let parts = lawful-parts a.start a.history went.between lawful' in
    subst (λ (w : World). AskedAmong p (world_of a) steps went.between w) (sym (λ i. stand (went.start i) (went.history i)))
    (among p a.start steps a.history went.between went.places parts.1
    (subst (λ (l : List Entry). Rising (length a.history) went.places (length l)) went.history went.within)
    (subst (λ (l : List Entry). steps_of (own a.start l went.places) ≡ answered steps) went.history went.told)
    (others went.between went.places went.history went.mine))

-- ---- a teller that alone asks

-- how many entries a step becomes
size-by : (w : World) (t : Told) (s : Step) (ss : List Step) (first : List Entry) (mid : World) → AskedBy w s t first mid → length (and_step t s (answered ss)) ≡ length first + length (answered ss)
size-by w (Opened l) s ss first mid a = let e = ap length a.1 in omega (arith, e)
size-by w (Reply code block ends) s ss first mid a = let e = ap length a.1 in omega (arith, e)
size-by w (Live drain) s ss first mid a = let e = ap length a.1 in omega (arith, e)
size-by w Done s ss first mid a = let e = ap length a.1 in omega (arith, e)
size-by w Displaced s ss first mid a = let e = ap length a.1 in omega (arith, e)
size-by w Memory s ss first mid a = let e = ap length a.0 in omega (arith, e)

parts-long : (others first rest es : List Entry) → es ≡ others ++ (first ++ rest) → length es ≡ length others + (length first + length rest)
parts-long others first rest es all = let a = length-append others (first ++ rest) in let b = length-append first rest in let c = ap length all in omega (arith, a, b, c)

least : (p : Entry → Bool) (w : World) (steps : List Step) (es : List Entry) (behind : World) → AskedAmong p w steps es behind → length (answered steps) ≤ length es
least p w [] es behind x = omega arith
least p w (s ∷ ss) es behind (others, first, rest, mid, lawful, asked, later, all) =
    let a = size-by (stand w others) s.told s ss first mid asked in
    let b = least p mid ss rest behind later in
    let c = parts-long others first rest es all in
    omega (arith, a, b, c)

none-left : (es : List Entry) → length es ≡ 0 → es ≡ []
none-left [] e = refl
none-left (x ∷ xs) e = absurd (omega (arith, e))

alone : (p : Entry → Bool) (w : World) (steps : List Step) (es : List Entry) (behind : World) → AskedAmong p w steps es behind → length es ≡ length (answered steps) → AskedAlone w steps es behind
alone p w [] es behind x size = let none = none-left es size in (none, x.1 ∙ ap (stand w) none)
alone p w (s ∷ ss) es behind (others, first, rest, mid, lawful, asked, later, all) size =
    let a = size-by (stand w others) s.told s ss first mid asked in
    let b = least p mid ss rest behind later in
    let c = parts-long others first rest es all in
    let none : others ≡ [] = none-left others (omega (arith, a, b, c, size)) in
    (first, rest, mid, subst (λ (l : List Entry). AskedAt (stand w l) s first mid) none asked, alone p mid ss rest behind later (omega (arith, a, b, c, size)), all ∙ ap (λ (l : List Entry). l ++ (first ++ rest)) none)

pub all-true : (es : List Entry) → list_all (λ e. true) es ≡ true
all-true [] = refl
all-true (e ∷ es) = all-true es

pub in-order-alone : SoleTellersAreAskedAlone
in-order-alone a b steps lawful first last went =
    let places = own-size a.start b.history (length a.history) went.places went.within in
    let told = ap length went.told in
    let history = ap length went.history ∙ length-append a.history went.between in
    let mine = ap length went.mine ∙ length-append a.mine went.places in
    let p : Entry → Bool = λ e. true in
    alone p (world_of a) steps went.between (world_of b) (in-order p a b steps lawful (λ more places history' mine'. all-true (others_in (length a.history) places more)) went) (omega (arith, places, told, history, mine, first, last))
