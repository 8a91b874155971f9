-- What the steps of a teller without other askers say of its history.
use Rattle.std.proofs.Common.{◌≡◌, ℕ, ◌+◌, Bool, true, false, List, [], ◌∷◌, ◌++◌, zero, suc, length, map, refl, sym, ap, ◌∙◌, append-nil, append_assoc, length-append, arith}
use Rattle.std.specs.Prelude.{Option, Some, slice_get}
use Rattle.std.proofs.lemmas.List.{append_cancel_left}
use Rattle.afp_serial.specs.Answer.{answer, after}
use Rattle.afp_serial.specs.History.{Own, own, own_at, stand, answers, fault_of, faults_in}
use Rattle.afp_serial.specs.Shown.{Shown}
use Rattle.afp_serial.specs.Went.{Step, steps_of, answered, Went}
use Rattle.afp_serial.specs.World.{World}
use Rattle.afp_serial.specs.declared.ask.Entry.{Entry}
use Rattle.afp_serial.specs.declared.ask.Outcome.{Outcome}
use Rattle.afp_serial.specs.declared.ask.Outcome.TheVariants.{Done, Fault}
use Rattle.afp_serial.specs.declared.ask.Told.{Told}
use Rattle.afp_serial.specs.declared.ask.Told.TheVariants.{Opened, Reply, Live, Done as ToldDone, Displaced, Memory}
use Rattle.afp_serial.proofs.Grows.{faults-append, stand-append, take-all}
use Rattle.afp_server.specs.link.Tally.{and_told, answered_after}
use Rattle.capture_log_server.specs.Connections.{entries_of, told_of, AreServed}
use Rattle.capture_log_server.specs.Sole.{places_below}

-- every step was answered

step-false : (t : Told) → and_told t false ≡ false
step-false (Opened l) = refl
step-false (Reply code block ends) = refl
step-false (Live drain) = refl
step-false ToldDone = refl
step-false Displaced = refl
step-false Memory = refl

answered-false : (ss : List Step) → answered_after false ss ≡ true → false ≡ true
answered-false [] e = e
answered-false (s ∷ ss) e = answered-false ss (ap (λ (b : Bool). answered_after b ss) (sym (step-false s.told)) ∙ e)

answered-one : (t : Told) (s : Step) (ss : List Step) → s.told ≡ t → answered_after (and_told t true) ss ≡ true → answered (s ∷ ss) ≡ s ∷ answered ss
answered-one (Opened l) s ss is e = rw is
answered-one (Reply code block ends) s ss is e = rw is
answered-one (Live drain) s ss is e = rw is
answered-one ToldDone s ss is e = rw is
answered-one Displaced s ss is e = rw is
answered-one Memory s ss is e = absurd (cc (answered-false ss e))

later-answered : (t : Told) (ss : List Step) → answered_after (and_told t true) ss ≡ true → answered_after true ss ≡ true
later-answered (Opened l) ss e = e
later-answered (Reply code block ends) ss e = e
later-answered (Live drain) ss e = e
later-answered ToldDone ss e = e
later-answered Displaced ss e = e
later-answered Memory ss e = absurd (cc (answered-false ss e))

all-answered : (ss : List Step) → answered_after true ss ≡ true → answered ss ≡ ss
all-answered [] e = refl
all-answered (s ∷ ss) e = answered-one s.told s ss refl e ∙ ap (λ (l : List Step). s ∷ l) (all-answered ss (later-answered s.told ss e))

-- the places from n on

from : ℕ → ℕ → List ℕ
from n zero = []
from n (suc m) = n ∷ from (suc n) m

from-last : (n m : ℕ) → from n (suc m) ≡ from n m ++ (n + m) ∷ []
unfolding from
from-last n zero = let e : n + 0 ≡ n = omega arith in ap (λ (k : ℕ). k ∷ []) (sym e)
from-last n (suc m) = let e : suc n + m ≡ n + suc m = omega arith in
    ap (λ (l : List ℕ). n ∷ l) (from-last (suc n) m) ∙ ap (λ (k : ℕ). (n ∷ from (suc n) m) ++ k ∷ []) e

places-from : (n m : ℕ) → places_below (n + m) ≡ places_below n ++ from n m
unfolding from
places-from n zero = let e : n + 0 ≡ n = omega arith in ap places_below e ∙ sym (append-nil (places_below n))
places-from n (suc m) = let e : n + suc m ≡ suc (n + m) = omega arith in
    ap places_below e ∙ ap (λ (l : List ℕ). l ++ (n + m) ∷ []) (places-from n m) ∙ append_assoc (places_below n) (from n m) ((n + m) ∷ [])
    ∙ ap (λ (l : List ℕ). places_below n ++ l) (sym (from-last n m))

-- the entries from there on, each with its answer

owned : World → List Entry → List Own
owned w [] = []
owned w (e ∷ es) = (e, answer w e) ∷ owned (after w e) es

get-there : (h : List Entry) (e : Entry) (es : List Entry) → slice_get (h ++ e ∷ es) (length h) ≡ Some e
get-there [] e es = refl
get-there (x ∷ h) e es = get-there h e es

own-from : (start : World) (h es : List Entry) → own start (h ++ es) (from (length h) (length es)) ≡ owned (stand start h) es
unfolding from owned
own-from start h [] = refl
own-from start h (e ∷ es) =
    let last : length (h ++ e ∷ []) ≡ suc (length h) = omega (arith, length-append h (e ∷ [])) in
    let whole : (h ++ e ∷ []) ++ es ≡ h ++ e ∷ es = append_assoc h (e ∷ []) es in
    let rest : own start (h ++ e ∷ es) (from (suc (length h)) (length es)) ≡ owned (after (stand start h) e) es =
    ap (λ (l : List Entry). own start l (from (suc (length h)) (length es))) (sym whole)
    ∙ ap (λ (k : ℕ). own start ((h ++ e ∷ []) ++ es) (from k (length es))) (sym last)
    ∙ own-from start (h ++ e ∷ []) es
    ∙ ap (λ (w : World). owned w es) (stand-append start h (e ∷ [])) in
    ap (λ (o : Option Entry). own_at start (h ++ e ∷ es) (length h) o (own start (h ++ e ∷ es) (from (suc (length h)) (length es)))) (get-there h e es)
    ∙ ap (λ (l : List Entry). (e, answer (stand start l) e) ∷ own start (h ++ e ∷ es) (from (suc (length h)) (length es))) (take-all h (e ∷ es))
    ∙ ap (λ (l : List Own). (e, answer (stand start h) e) ∷ l) rest

-- an entry that met no fault

done : (e : Entry) → fault_of e.outcome ≡ 0 → record { link = e.link; at = e.at; ask = e.ask; outcome = Done } ≡ e
done e none = ap (λ (o : Outcome). record { link = e.link; at = e.at; ask = e.ask; outcome = o }) (is_done e.outcome none)
  where
    is_done : (o : Outcome) → fault_of o ≡ 0 → Done ≡ o
    is_done Done none = refl
    is_done Fault none = absurd (cc none)

entries-owned : (w : World) (es : List Entry) → faults_in es ≡ 0 → entries_of (steps_of (owned w es)) ≡ es
unfolding owned
entries-owned w [] none = refl
entries-owned w (e ∷ es) none =
    let first : fault_of e.outcome ≡ 0 = omega arith in
    let rest : faults_in es ≡ 0 = omega arith in
    ap (λ (x : Entry). x ∷ entries_of (steps_of (owned (after w e) es))) (done e first) ∙ ap (λ (l : List Entry). e ∷ l) (entries-owned (after w e) es rest)

told-owned : (w : World) (es : List Entry) → map told_of (steps_of (owned w es)) ≡ answers w es
unfolding owned
told-owned w [] = refl
told-owned w (e ∷ es) = ap (λ (l : List Told). answer w e ∷ l) (told-owned (after w e) es)

-- A teller that alone asks, and whose asks met no fault, has asked these steps, each of which was answered.
pub record Asks (a : Shown) (steps : List Step) (b : Shown) : Type 0 where
  pub history : b.history ≡ a.history ++ entries_of steps
  pub served : AreServed (stand a.start a.history) steps

pub asks : (a b : Shown) (steps : List Step) → a.mine ≡ places_below (length a.history) → b.mine ≡ places_below (length b.history) → faults_in b.history ≡ 0 → Went a steps b → answered_after true steps ≡ true
    → Asks a steps b
asks a b steps mine theirs none went all =
    let size : length b.history ≡ length a.history + length went.between = ap length went.history ∙ length-append a.history went.between in
    let places : went.places ≡ from (length a.history) (length went.between) =
    append_cancel_left (places_below (length a.history)) went.places (from (length a.history) (length went.between))
    (ap (λ (l : List ℕ). l ++ went.places) (sym mine) ∙ sym went.mine ∙ theirs ∙ ap places_below size ∙ places-from (length a.history) (length went.between)) in
    let steps_are : steps_of (owned (stand a.start a.history) went.between) ≡ steps =
    ap steps_of (sym (own-from a.start a.history went.between)
    ∙ ap (λ (l : List ℕ). own a.start (a.history ++ went.between) l) (sym places)
    ∙ ap (λ (l : List Entry). own a.start l went.places) (sym went.history))
    ∙ went.told ∙ all-answered steps all in
    let faultless : faults_in went.between ≡ 0 = omega (arith, ap faults_in went.history, faults-append a.history went.between, none) in
    let entries : entries_of steps ≡ went.between = ap entries_of (sym steps_are) ∙ entries-owned (stand a.start a.history) went.between faultless in
    record {
      history = went.history ∙ ap (λ (l : List Entry). a.history ++ l) (sym entries);
      served = ap (λ (l : List Step). map told_of l) (sym steps_are) ∙ told-owned (stand a.start a.history) went.between ∙ ap (λ (l : List Entry). answers (stand a.start a.history) l) (sym entries);
    }
