-- Each step keeps the rule.
use Rattle.std.proofs.Common.{◌≡◌, ◌≢◌, ℕ, zero, suc, ◌+◌, ◌-◌, ◌/◌, ◌%◌, ◌^◌, ◌<◌, ◌≤◌, eqb, eq-eqb, ne_eqb, Bool, true, false, ◌⊎◌, ⊎_elim, inl, inr, Option, Some, List, [], ◌∷◌, ◌++◌, length, set, refl, sym, ap, ◌∙◌, subst, arith, append_assoc, append-nil, length-append}
use Rattle.std.specs.Prelude.{nat_le, slice_index, slice_set, MatchBool, sum}
use Rattle.std.proofs.Math.Nat.{mod-add-mod}
use Rattle.std.proofs.lemmas.Bool.{leb-true}
use mathlib.Core.Option.{Option as Maybe, none, some, some-injective, some-ne-none}
use mathlib.Core.Logic.{dite}
use native.Mathlib.Decide.{ℕ_discrete}
use lib.ListN.{get_elem?}
use Rattle.atomic_table.specs.Table.{State, Act, Valid, stepped, carried_after, step, keeps, takes, gives, Allows, Splits, Joins, Final, Seen, opening}
use Rattle.atomic_table.proofs.Lists.{at_set, set_else, set_again, at_longer, at_snoc, one_turn}
use Rattle.afp_base.specs.Counts.{Rises, last_count}
use Rattle.afp_serial.specs.declared.ask.Told.{Told}
use Rattle.afp_serial.specs.declared.ask.Told.TheVariants.{Opened, Reply, Live, Done, Displaced, Memory}
use Rattle.afp_serial.specs.declared.ask.Outcome.{Outcome}
use Rattle.afp_serial.specs.declared.ask.Entry.{Entry}
use Rattle.afp_serial.specs.History.{entry, is_lawful, faults_in}
use Rattle.afp_serial.specs.Shown.{Rising}
use Rattle.afp_serial.proofs.Grows.{faults-append, rises-more, rises-none, rising-snoc}
use Rattle.afp_core.specs.turns.ServerState.{ServerState}
use Rattle.afp_core.specs.turns.Turn.{Turned, TakesTurn}
use Rattle.afp_core.proofs.OfTurns.TurnLemmas.{turn-faults, turn-lawful}
use Rattle.afp_desk.specs.desk.StandsFor.{StandsFor}
use Rattle.afp_desk.specs.declared.desk.view.Stage.{Stage}
use Rattle.afp_desk.specs.declared.desk.view.Stage.TheVariants.{Idle, Waiting, Served}
use Rattle.afp_desk.specs.declared.desk.view.View.{View}
use Rattle.afp_desk.specs.desk.Totals.{total, one_if, times}
use Rattle.afp_desk.specs.desk.Rule.{all_shares, newcomer, left_of, right_of, echo_of, both_of, spent, waits_in, holds_in, share_of, waits, holds_ticket, has_place, one_between, Knows, Fits, IsSpent, IsOut, IsKept}
use Rattle.afp_desk.specs.desk.Plays.{Mine, at_stage, ticket_in, Draws, served_view, Takes, Looks, Glances, settled_if, settled, Settles, Call, added_view, Enters, DecidesAs, Decides}
use Rattle.afp_desk.specs.desk.Calls.{IsServed, IsWaiting}
use Rattle.afp_desk.proofs.OfDesk.Growing.{rising-more, lawful-part, stands-more, stands-none}
use Rattle.afp_desk.proofs.OfDesk.Totals.{leb-false, total-set, total-snoc, total-one, total-two, total-less, one-same, times-append, times-merge, rising-merge, between-in, between-drawn, between-served, between-range, between-most, between-none, total-alone, times-above}

abbrev S : Type 0
S = Option ServerState

abbrev St : Type 0
St = State S View

-- what holds of each seat, after one has changed
each-set : (P : View → Type 0) (views : List View) (id : ℕ) (w : View) → P w → ((j : ℕ) (u : View) → j ≢ id → get_elem? views j ≡ some u → P u) → (j : ℕ) (u : View) → get_elem? (set views id w) j ≡ some u → P u
each-set P views id w here others j u e = ⊎_elim (λ (t : (j ≡ id) × (w ≡ u)). subst P t.1 here) (λ (t : (j ≢ id) × (get_elem? views j ≡ some u)). others j u t.0 t.1) (at_set views id j w u e)

set-there : (views : List View) (id : ℕ) (v w : View) → get_elem? views id ≡ some v → get_elem? (set views id w) id ≡ some w
set-there [] id v w e = absurd (some-ne-none v (sym e))
set-there (x ∷ xs) zero v w e = refl
set-there (x ∷ xs) (suc i) v w e = set-there xs i v w e

same-view : (views : List View) (id : ℕ) (v w : View) → get_elem? views id ≡ some v → get_elem? views id ≡ some w → v ≡ w
same-view views id v w a b = some-injective v w (sym a ∙ b)

idle-served : (t : ℕ) (st : Stage) → st ≡ Idle → st ≡ Served t → ⊥
idle-served t st a b = cc

waiting-served : (t u : ℕ) (st : Stage) → st ≡ Waiting t → st ≡ Served u → ⊥
waiting-served t u st a b = cc

-- the seat that has the core out is another than one that is not served
out-stays : (views : List View) (homes : List (Maybe S)) (id : ℕ) (v w : View) → get_elem? views id ≡ some v → ((t : ℕ) → v.stage ≡ Served t → ⊥) → IsOut views homes → IsOut (set views id w) homes
out-stays views homes id v w at not o = record {
  seat = o.seat;
  view = o.view;
  ticket = o.ticket;
  there = set_else views id o.seat w (λ same. not o.ticket (ap (λ (u : View). u.stage) (same-view views id v o.view at (subst (λ j. get_elem? views j ≡ some o.view) same o.there)) ∙ o.served)) ∙ o.there;
  served = o.served;
  gone = o.gone;
}

-- the core is in its slot
abbrev HasCore : ServerState → List (Maybe S) → Type 0
HasCore core homes = homes ≡ some (Some core) ∷ []

home-stays : (core : ServerState) (views : List View) (homes : List (Maybe S)) (id : ℕ) (v w : View) → get_elem? views id ≡ some v → ((t : ℕ) → v.stage ≡ Served t → ⊥)
    → HasCore core homes ⊎ IsOut views homes → HasCore core homes ⊎ IsOut (set views id w) homes
home-stays core views homes id v w at not home = ⊎_elim (λ (c : HasCore core homes). inl c) (λ (o : IsOut views homes). inr (out-stays views homes id v w at not o)) home

next-word : (n : ℕ) → (n % 2 ^ 64 + 1) % 2 ^ 64 ≡ (n + 1) % 2 ^ 64
next-word n = mod-add-mod n (2 ^ 64) 1

first-none : (xs ys : List Entry) → xs ++ ys ≡ [] → xs ≡ []
first-none [] ys e = refl
first-none (x ∷ xs) ys e = absurd (cc)

second-none : (xs ys : List Entry) → xs ++ ys ≡ [] → ys ≡ []
second-none [] ys e = e
second-none (x ∷ xs) ys e = absurd (cc)

module _ (start : ServerState) where
  pub draws : (slots id : ℕ) (me : Mine) → me.0.stage ≡ Idle → 0 < me.0.share → Allows (IsKept start) slots id me 0 (λ n. (n + 1) % 2 ^ 64) (Draws (step slots 0 1 0 none) me)
  draws slots id me idle live s r _ at _ =
      let v : View = me.0 in
      let w : View = at_stage v (Waiting r.drawn) in
      let f = r.seats id v at live in
      let not_waiting : waits v ≡ 0 = ap waits_in idle in
      let behind : r.serving ≤ r.drawn = (let e = r.waiting in omega arith) in (
        w,
        keeps,
        tt,
        record {
          history = r.history;
          core = r.core;
          serving = r.serving;
          drawn = r.drawn + 1;
          words = ap (λ ws. slice_set ws 0 ((slice_index ws 0 + 1) % 2 ^ 64)) r.words ∙ ap (λ n. n ∷ (r.serving % 2 ^ 64) ∷ []) (next-word r.drawn);
          lawful = r.lawful;
          stands = r.stands;
          begun = r.begun;
          risen = r.risen;
          shares = let t = total-set share_of s.views id v w at in let e = r.shares in omega arith;
          waiting = let t = total-set waits s.views id v w at in let e = r.waiting in omega arith;
          tickets = λ x. let t = total-set (holds_ticket x) s.views id v w at in let none : holds_ticket x v ≡ 0 = ap (holds_in x) idle in let e = r.tickets x in let b = between-drawn r.serving r.drawn x behind in omega arith;
          places = λ k. let t = total-set (has_place k) s.views id v w at in let e = r.places k in omega arith;
          seats = each-set (λ u. 0 < u.share → Fits start r.history r.core r.serving u) s.views id w
              (λ _. record { same_start = f.same_start; seen = f.seen; other = f.other; mine = f.mine; served = λ t e. absurd (cc) })
              (λ j u _ there. r.seats j u there);
          spent = each-set (λ u. u.share ≡ 0 → IsSpent u) s.views id w (λ z. absurd (omega arith)) (λ j u _ there. r.spent j u there);
          home = home-stays r.core s.views s.homes id v w at (λ t. idle-served t v.stage idle) r.home;
        },
        record { ticket = r.drawn; number = ap (λ ws. slice_index ws 0) r.words; after = refl },
      )

  waits-most : (st : Stage) → waits_in st ≤ 1
  waits-most Idle = omega arith
  waits-most (Waiting t) = omega arith
  waits-most (Served t) = omega arith

  module _ (s : St) (r : IsKept start s) where
    -- a seat that waits or is served is not spent
    live-of : (j : ℕ) (u : View) → get_elem? s.views j ≡ some u → (u.stage ≡ Idle → ⊥) → 0 < u.share
    live-of j u e busy = dite (ℕ_discrete u.share 0) (λ z. absurd (busy (r.spent j u e z).idle)) (λ n. omega arith)

    waits-least : (j : ℕ) (u : View) → get_elem? s.views j ≡ some u → waits u ≤ share_of u
    waits-least j u e = dite (ℕ_discrete u.share 0)
        (λ z. let w : waits u ≡ 0 = ap waits_in (r.spent j u e z).idle in omega arith)
        (λ n. let w = waits-most u.stage in omega arith)

    crowd : r.drawn ≤ r.serving + 2 ^ 32
    crowd = let a = total-less waits share_of s.views waits-least in let b = r.shares in let c = r.waiting in omega arith

    holder : (j : ℕ) (u : View) (t : ℕ) → get_elem? s.views j ≡ some u → holds_ticket t u ≡ 1 → (r.serving ≤ t) × (t < r.drawn)
    holder j u t e h = between-range r.serving r.drawn t (let a = total-one (holds_ticket t) s.views j u e in let b = r.tickets t in omega arith)

    one-holder : (i j : ℕ) (u v : View) (t : ℕ) → i ≢ j → get_elem? s.views i ≡ some u → get_elem? s.views j ≡ some v → holds_ticket t u ≡ 1 → holds_ticket t v ≡ 1 → ⊥
    one-holder i j u v t n a b p q = let two = total-two (holds_ticket t) s.views i j u v n a b in let e = r.tickets t in let m = between-most r.serving r.drawn t in absurd (omega arith)

    -- the seat that is served has the ticket that is served
    served-ticket : (j : ℕ) (u : View) (t : ℕ) → get_elem? s.views j ≡ some u → u.stage ≡ Served t → t ≡ r.serving
    served-ticket j u t e is = ((r.seats j u e (live-of j u e (λ i. idle-served t u.stage i is))).served t is).0

    no-other : (id : ℕ) (v : View) → get_elem? s.views id ≡ some v → holds_ticket r.serving v ≡ 1 → (j : ℕ) (u : View) (t : ℕ) → j ≢ id → get_elem? s.views j ≡ some u → u.stage ≡ Served t → ⊥
    no-other id v at mine j u t n e is =
        let same = served-ticket j u t e is in
        one-holder j id u v r.serving n e at (ap (holds_in r.serving) is ∙ one-same r.serving t (sym same)) mine

    -- the ticket in a seat is served where the words are equal
    turn-came : (id : ℕ) (v : View) (t : ℕ) → get_elem? s.views id ≡ some v → v.stage ≡ Waiting t → r.serving % 2 ^ 64 ≡ t % 2 ^ 64 → r.serving ≡ t
    turn-came id v t at is same =
        let h : holds_ticket t v ≡ 1 = ap (holds_in t) is ∙ one-same t t refl in
        let range = holder id v t at h in
        let c = crowd in
        one_turn r.serving t (2 ^ 64) range.0 (omega arith) same

    unmoved : (i id : ℕ) (me : Mine) → get_elem? s.views id ≡ some me.0 → set s.words i (slice_index s.words i) ≡ s.words → IsKept start record { words = set s.words i (slice_index s.words i); homes = s.homes; views = set s.views id me.0 }
    unmoved i id me at words = subst (λ (x : List ℕ × List View). IsKept start record { words = x.0; homes = s.homes; views = x.1 }) (λ k. (sym words k, sym (set_again s.views id me.0 at) k)) r

    same-first : set s.words 0 (slice_index s.words 0) ≡ s.words
    same-first = ap (λ ws. set ws 0 (slice_index ws 0)) r.words ∙ sym r.words

    same-word : set s.words 1 (slice_index s.words 1) ≡ s.words
    same-word = ap (λ ws. set ws 1 (slice_index ws 1)) r.words ∙ sym r.words

    took : (id : ℕ) (me : Mine) (t : ℕ) → me.0.stage ≡ Waiting t → 0 < me.0.share → me.1 ≡ [] → get_elem? s.views id ≡ some me.0 → r.serving ≡ t → HasCore r.core s.homes
        → (w : View) × (a : Act S) × Valid s.homes me.1 a × IsKept start (stepped s 1 (slice_index s.words 1) id me.1 w a) × Takes me (w, carried_after me.1 a)
    took id me t is live empty at came c =
        let v : View = me.0 in
        let f = r.seats id v at live in
        let h : List Entry = v.seen ++ f.seen.rest in
        let all : r.history ≡ h = f.seen.begins in
        let w : View = served_view v h r.core in
        let ticket : ticket_in v.stage ≡ t = ap ticket_in is in
        let long : length h ≡ length v.seen + length f.seen.rest = length-append v.seen f.seen.rest in
        let long' : length r.history ≡ length v.other + length f.other.rest = ap length f.other.begins ∙ length-append v.other f.other.rest in
        let whole : length r.history ≡ length h = ap length all in (
          w,
          takes 0 (Some r.core),
          ap (λ hs. get_elem? hs 0) c,
          record {
            history = r.history;
            core = r.core;
            serving = r.serving;
            drawn = r.drawn;
            words = same-word ∙ r.words;
            lawful = r.lawful;
            stands = r.stands;
            begun = r.begun;
            risen = r.risen;
            shares = let t = total-set share_of s.views id v w at in let e = r.shares in omega arith;
            waiting = let t = total-set waits s.views id v w at in let e = r.waiting in let one : waits v ≡ 1 = ap waits_in is in omega arith;
            tickets = λ x. let s' = total-set (holds_ticket x) s.views id v w at in let one : holds_ticket x v ≡ holds_ticket x w = ap (holds_in x) is ∙ ap (λ n. one_if (eqb x n)) (sym ticket) in let e = r.tickets x in omega arith;
            places = λ k. let t = total-set (has_place k) s.views id v w at in let e = r.places k in omega arith;
            seats = each-set (λ u. 0 < u.share → Fits start r.history r.core r.serving u) s.views id w
                (λ _. record {
                  same_start = f.same_start;
                  seen = record { rest = []; begins = all ∙ sym (append-nil h); rises = rises-none (sum r.core.faults); latest = λ _. refl };
                  other = f.other;
                  mine = rising-more 0 v.mine _ _ (omega arith) f.mine;
                  served = λ u e. ((let same : ticket_in v.stage ≡ u = ap ticket_in e in sym same ∙ ticket ∙ sym came), sym all, refl);
                })
                (λ j u _ there. r.seats j u there);
            spent = each-set (λ u. u.share ≡ 0 → IsSpent u) s.views id w (λ z. absurd (omega arith)) (λ j u _ there. r.spent j u there);
            home = inr record { seat = id; view = w; ticket = ticket_in v.stage; there = set-there s.views id v w at; served = refl; gone = ap (λ hs. set hs 0 none) c };
          },
          record {
            core = r.core;
            rest = f.seen.rest;
            after = refl;
            stands = subst (λ (x : ServerState × List Entry). StandsFor x.0 x.1 r.core) (λ i. (sym f.same_start i, all i)) r.stands;
            lawful = subst (λ (x : ServerState × List Entry). is_lawful x.0.world x.1 ≡ true) (λ i. (sym f.same_start i, all i)) r.lawful;
            within = rising-more 0 v.mine _ _ (omega arith) f.mine;
            rises = f.seen.rises;
          },
        )

    looks-at : (id : ℕ) (me : Mine) (t : ℕ) → me.0.stage ≡ Waiting t → 0 < me.0.share → me.1 ≡ [] → get_elem? s.views id ≡ some me.0
        → (w : View) × (a : Act S) × Valid s.homes me.1 a × IsKept start (stepped s 1 (slice_index s.words 1) id me.1 w a) × MatchBool (eqb (slice_index s.words 1) (ticket_in me.0.stage % 2 ^ 64)) (Takes me (w, carried_after me.1 a)) ((w, carried_after me.1 a) ≡ me)
    looks-at id me t is live empty at = dite (ℕ_discrete (slice_index s.words 1) (ticket_in me.0.stage % 2 ^ 64))
        (λ hit.
        let came = turn-came id me.0 t at is (sym (ap (λ ws. slice_index ws 1) r.words) ∙ hit ∙ ap (λ st. ticket_in st % 2 ^ 64) is) in
        let mine : holds_ticket r.serving me.0 ≡ 1 = ap (holds_in r.serving) is ∙ one-same r.serving t came in
        let core = ⊎_elim (λ (c : HasCore r.core s.homes). c)
        (λ (o : IsOut s.views s.homes). absurd (no-other id me.0 at mine o.seat o.view o.ticket
        (λ same. waiting-served t o.ticket me.0.stage is (ap (λ (u : View). u.stage) (same-view s.views id me.0 o.view at (subst (λ j. get_elem? s.views j ≡ some o.view) same o.there)) ∙ o.served))
        o.there o.served))
        r.home in
        let k = took id me t is live empty at came core in
        (k.0, k.1, k.2, k.3, subst (λ b. MatchBool b (Takes me (k.0, carried_after me.1 k.1)) ((k.0, carried_after me.1 k.1) ≡ me)) (sym (eq-eqb _ _ hit)) k.4))
        (λ miss. (me.0, keeps, tt, unmoved 1 id me at same-word, subst (λ b. MatchBool b (Takes me me) (me ≡ me)) (sym (ne_eqb _ _ miss)) refl))

  pub looks : (slots id : ℕ) (me : Mine) (t : ℕ) → me.0.stage ≡ Waiting t → 0 < me.0.share → me.1 ≡ [] → Allows (IsKept start) slots id me 1 (λ n. n) (Looks (step slots 1 0 0 none) me)
  looks slots id me t is live empty s r _ at _ = looks-at s r id me t is live empty at

  pub glances : (slots id : ℕ) (me : Mine) → Allows (IsKept start) slots id me 0 (λ n. n) (Glances (step slots 0 0 0 none) me)
  glances slots id me s r _ at _ = (me.0, keeps, tt, unmoved s r 0 id me at (same-first s r), refl)

  -- what was known goes on to be known as the history grows
  knows-more : (h ext : List Entry) (c d : ServerState) (seen : List Entry) (then : ServerState) → Rises (faults_in ext) (sum c.faults) (sum d.faults) → (ext ≡ [] → c ≡ d) → Knows h c seen then → Knows (h ++ ext) d seen then
  knows-more h ext c d seen then up still k = record {
    rest = k.rest ++ ext;
    begins = ap (λ (l : List Entry). l ++ ext) k.begins ∙ append_assoc seen k.rest ext;
    rises = subst (λ n. Rises n (sum then.faults) (sum d.faults)) (sym (faults-append k.rest ext)) (rises-more (sum then.faults) (faults_in k.rest) (sum c.faults) (faults_in ext) (sum d.faults) k.rises up);
    latest = λ none. k.latest (first-none k.rest ext none) ∙ still (second-none k.rest ext none);
  }

  put-home : (s : St) (r : IsKept start s) (c : ServerState) → set s.homes 0 (some (Some c)) ≡ some (Some c) ∷ []
  put-home s r c = ⊎_elim (λ (t : HasCore r.core s.homes). ap (λ hs. set hs 0 (some (Some c))) t) (λ (o : IsOut s.views s.homes). ap (λ hs. set hs 0 (some (Some c))) o.gone) r.home

  -- the end of a turn, which adds ext to the history
  ends : (slots id : ℕ) (v w : View) (t : ℕ) (core : ServerState) (ext : List Entry) (s : St) (r : IsKept start s) → get_elem? s.views id ≡ some v → 0 < v.share → v.stage ≡ Served t
      → w.share ≡ v.share → w.stage ≡ Idle → ((k : ℕ) → has_place k w + one_between 0 (length r.history) k ≡ has_place k v + one_between 0 (length (r.history ++ ext)) k)
      → is_lawful start.world (r.history ++ ext) ≡ true → Rises (faults_in ext) (sum r.core.faults) (sum core.faults) → (ext ≡ [] → r.core ≡ core) → StandsFor start (r.history ++ ext) core
      → (Fits start r.history r.core r.serving v → Fits start (r.history ++ ext) core (r.serving + 1) w)
      → IsKept start (stepped s 1 ((slice_index s.words 1 + 1) % 2 ^ 64) id ((0, Some core) ∷ []) w gives)
  ends slots id v w t core ext s r at live is share idle place law up still stands fits =
      let f = r.seats id v at live in
      let ticket : t ≡ r.serving = (f.served t is).0 in
      let mine : holds_ticket r.serving v ≡ 1 = ap (holds_in r.serving) is ∙ one-same r.serving t (sym ticket) in
      let ahead : r.serving < r.drawn = (holder s r id v r.serving at mine).1 in
      record {
        history = r.history ++ ext;
        core = core;
        serving = r.serving + 1;
        drawn = r.drawn;
        words = ap (λ ws. slice_set ws 1 ((slice_index ws 1 + 1) % 2 ^ 64)) r.words ∙ ap (λ n. (r.drawn % 2 ^ 64) ∷ n ∷ []) (next-word r.serving);
        lawful = law;
        stands = stands;
        begun = λ none. r.begun (first-none r.history ext none) ∙ still (second-none r.history ext none);
        risen = subst (λ n. Rises n (sum start.faults) (sum core.faults)) (sym (faults-append r.history ext)) (rises-more (sum start.faults) (faults_in r.history) (sum r.core.faults) (faults_in ext) (sum core.faults) r.risen up);
        shares = let t = total-set share_of s.views id v w at in let e = r.shares in omega arith;
        waiting = let t = total-set waits s.views id v w at in let e = r.waiting in let one : waits v ≡ 1 = ap waits_in is in let none : waits w ≡ 0 = ap waits_in idle in omega arith;
        tickets = λ x. let s' = total-set (holds_ticket x) s.views id v w at in let none : holds_ticket x w ≡ 0 = ap (holds_in x) idle in
            let one : holds_ticket x v ≡ one_if (eqb x r.serving) = ap (holds_in x) is ∙ ap (λ n. one_if (eqb x n)) ticket in let b = between-served r.serving r.drawn x ahead in let e = r.tickets x in omega arith;
        places = λ k. let t = total-set (has_place k) s.views id v w at in let e = r.places k in let p = place k in omega arith;
        seats = each-set (λ u. 0 < u.share → Fits start (r.history ++ ext) core (r.serving + 1) u) s.views id w
            (λ _. fits f)
            (λ j u other there alive. let g = r.seats j u there alive in record {
              same_start = g.same_start;
              seen = knows-more r.history ext r.core core u.seen u.core up still g.seen;
              other = knows-more r.history ext r.core core u.other u.other_core up still g.other;
              mine = g.mine;
              served = λ x e. absurd (no-other s r id v at mine j u x other there e);
            });
        spent = each-set (λ u. u.share ≡ 0 → IsSpent u) s.views id w (λ z. absurd (omega arith)) (λ j u _ there. r.spent j u there);
        home = inl (put-home s r core);
      }

  enters-at : (slots id : ℕ) (c : Call) (v : View) (t : ℕ) (core : ServerState) (o : Outcome) → v.stage ≡ Served t → 0 < v.share → Turned v.core (entry c.now c.link c.ask o) c.told core → (s : St) (r : IsKept start s) → get_elem? s.views id ≡ some v
      → (w : View) × (a : Act S) × Valid s.homes ((0, Some core) ∷ []) a × IsKept start (stepped s 1 ((slice_index s.words 1 + 1) % 2 ^ 64) id ((0, Some core) ∷ []) w a) × Enters c (v, (0, Some core) ∷ []) (w, carried_after ((0, Some core) ∷ []) a)
  enters-at slots id c v t core o is live turn s r at =
      let f = r.seats id v at live in
      let e : Entry = entry c.now c.link c.ask o in
      let w : View = added_view v e core in
      let known = f.served t is in
      let whole : v.seen ≡ r.history = known.1 in
      let same : v.core ≡ r.core = known.2 in
      let turned : Turned r.core e c.told core = subst (λ (x : ServerState). Turned x e c.told core) same turn in
      let n : length v.seen ≡ length r.history = ap length whole in
      let longer : length (r.history ++ e ∷ []) ≡ length r.history + 1 = length-append r.history (e ∷ []) in
      let longer' : length (v.seen ++ e ∷ []) ≡ length v.seen + 1 = length-append v.seen (e ∷ []) in
      let within_other : length r.history ≡ length v.other + length f.other.rest = ap length f.other.begins ∙ length-append v.other f.other.rest in
      let up : Rises (faults_in (e ∷ [])) (sum r.core.faults) (sum core.faults) = turn-faults r.core core e c.told turned in
      let law : is_lawful start.world (r.history ++ e ∷ []) ≡ true = turn-lawful start.world r.history r.core core e c.told r.stands.world turned r.lawful in
      let place : (k : ℕ) → has_place k w + one_between 0 (length r.history) k ≡ has_place k v + one_between 0 (length (r.history ++ e ∷ [])) k =
      λ k. let a = times-append k v.mine (length v.seen ∷ []) in
      let b = between-drawn 0 (length r.history) k (omega arith) in
      let same : one_between 0 (length (r.history ++ e ∷ [])) k ≡ one_between 0 (length r.history + 1) k = ap (λ x. one_between 0 x k) longer in
      let here : one_if (eqb k (length v.seen)) ≡ one_if (eqb k (length r.history)) = ap (λ x. one_if (eqb k x)) n in
      omega arith in (
        w,
        gives,
        tt,
        ends slots id v w t core (e ∷ []) s r at live is refl refl place law up (λ none. absurd (cc)) (stands-more start r.core core r.history e c.told r.stands turned)
            (λ g. record {
              same_start = g.same_start;
              seen = record { rest = []; begins = ap (λ (l : List Entry). l ++ e ∷ []) (sym whole) ∙ sym (append-nil (v.seen ++ e ∷ [])); rises = rises-none (sum core.faults); latest = λ _. refl };
              other = knows-more r.history (e ∷ []) r.core core v.other v.other_core up (λ none. absurd (cc)) g.other;
              mine = rising-more 0 (v.mine ++ length v.seen ∷ []) (length v.seen + 1) _ (omega arith) (rising-snoc 0 v.mine (length v.seen) (length v.seen) (rising-more 0 v.mine _ (length v.seen) (omega arith) g.mine) (omega arith));
              served = λ x d. absurd (cc);
            }),
        record { outcome = o; core = core; slot = refl; after = refl; turned = turn },
      )

  memory-at : (slots id : ℕ) (v : View) (t : ℕ) (core : ServerState) → v.stage ≡ Served t → 0 < v.share → core ≡ v.core → (s : St) (r : IsKept start s) → get_elem? s.views id ≡ some v
      → IsKept start (stepped s 1 ((slice_index s.words 1 + 1) % 2 ^ 64) id ((0, Some core) ∷ []) (at_stage v Idle) gives)
  memory-at slots id v t core is live same s r at =
      let f = r.seats id v at live in
      let known = f.served t is in
      let whole : v.seen ≡ r.history = known.1 in
      let h : r.history ++ [] ≡ r.history = append-nil r.history in
      let still : r.core ≡ core = sym (same ∙ known.2) in
      let up : Rises 0 (sum r.core.faults) (sum core.faults) = subst (λ (x : ServerState). Rises 0 (sum r.core.faults) (sum x.faults)) still (rises-none (sum r.core.faults)) in
      ends slots id v (at_stage v Idle) t core [] s r at live is refl refl
      (λ k. let e : one_between 0 (length (r.history ++ [])) k ≡ one_between 0 (length r.history) k = ap (λ (l : List Entry). one_between 0 (length l) k) h in omega arith)
      (subst (λ (l : List Entry). is_lawful start.world l ≡ true) (sym h) r.lawful)
      up
      (λ _. still)
      (subst (λ (x : ServerState × List Entry). StandsFor start x.1 x.0) (λ i. (still i, sym h i)) r.stands)
      (λ g. record {
        same_start = g.same_start;
        seen = knows-more r.history [] r.core core v.seen v.core up (λ _. still) g.seen;
        other = knows-more r.history [] r.core core v.other v.other_core up (λ _. still) g.other;
        mine = g.mine;
        served = λ x d. absurd (cc);
      })

  decides-as : (slots id : ℕ) (c : Call) (told : Told) (v : View) (t : ℕ) (core : ServerState) → c.told ≡ told → v.stage ≡ Served t → 0 < v.share → TakesTurn v.core c.now c.link c.ask told core → (s : St) (r : IsKept start s) → get_elem? s.views id ≡ some v
      → (w : View) × (a : Act S) × Valid s.homes ((0, Some core) ∷ []) a × IsKept start (stepped s 1 ((slice_index s.words 1 + 1) % 2 ^ 64) id ((0, Some core) ∷ []) w a) × DecidesAs told c (v, (0, Some core) ∷ []) (w, carried_after ((0, Some core) ∷ []) a)
  decides-as slots id c Memory v t core is' is live turn s r at = (at_stage v Idle, gives, tt, memory-at slots id v t core is live turn.same s r at, refl)
  decides-as slots id c (Opened l) v t core is' is live turn s r at = enters-at slots id c v t core turn.0 is live (subst (λ (x : Told). Turned v.core (entry c.now c.link c.ask turn.0) x core) (sym is') turn.1) s r at
  decides-as slots id c (Reply code block ends) v t core is' is live turn s r at = enters-at slots id c v t core turn.0 is live (subst (λ (x : Told). Turned v.core (entry c.now c.link c.ask turn.0) x core) (sym is') turn.1) s r at
  decides-as slots id c (Live drain) v t core is' is live turn s r at = enters-at slots id c v t core turn.0 is live (subst (λ (x : Told). Turned v.core (entry c.now c.link c.ask turn.0) x core) (sym is') turn.1) s r at
  decides-as slots id c Done v t core is' is live turn s r at = enters-at slots id c v t core turn.0 is live (subst (λ (x : Told). Turned v.core (entry c.now c.link c.ask turn.0) x core) (sym is') turn.1) s r at
  decides-as slots id c Displaced v t core is' is live turn s r at = enters-at slots id c v t core turn.0 is live (subst (λ (x : Told). Turned v.core (entry c.now c.link c.ask turn.0) x core) (sym is') turn.1) s r at

  pub decides : (slots id : ℕ) (c : Call) (v : View) (t : ℕ) (core : ServerState) → v.stage ≡ Served t → 0 < v.share → TakesTurn v.core c.now c.link c.ask c.told core
      → Allows (IsKept start) slots id (v, (0, Some core) ∷ []) 1 (λ n. (n + 1) % 2 ^ 64) (Decides c (step slots 1 1 0 none) (v, (0, Some core) ∷ []))
  decides slots id c v t core is live turn s r _ at _ = decides-as slots id c c.told v t core refl is live turn s r at

  -- a step that changes no word and no history
  reseated : (i id : ℕ) (v w : View) (s : St) (r : IsKept start s) → set s.words i (slice_index s.words i) ≡ s.words → get_elem? s.views id ≡ some v → 0 < v.share → v.stage ≡ Idle
      → w.share ≡ v.share → w.stage ≡ v.stage → w.mine ≡ v.mine → (Fits start r.history r.core r.serving v → Fits start r.history r.core r.serving w)
      → IsKept start record { words = set s.words i (slice_index s.words i); homes = s.homes; views = set s.views id w }
  reseated i id v w s r word at live idle share stage mine fits = record {
    history = r.history;
    core = r.core;
    serving = r.serving;
    drawn = r.drawn;
    words = word ∙ r.words;
    lawful = r.lawful;
    stands = r.stands;
    begun = r.begun;
    risen = r.risen;
    shares = let t = total-set share_of s.views id v w at in let e = r.shares in omega arith;
    waiting = let t = total-set waits s.views id v w at in let e = r.waiting in let same : waits w ≡ waits v = ap waits_in stage in omega arith;
    tickets = λ x. let t = total-set (holds_ticket x) s.views id v w at in let e = r.tickets x in let same : holds_ticket x w ≡ holds_ticket x v = ap (holds_in x) stage in omega arith;
    places = λ k. let t = total-set (has_place k) s.views id v w at in let e = r.places k in let same : has_place k w ≡ has_place k v = ap (times k) mine in omega arith;
    seats = each-set (λ u. 0 < u.share → Fits start r.history r.core r.serving u) s.views id w (λ _. fits (r.seats id v at live)) (λ j u _ there. r.seats j u there);
    spent = each-set (λ u. u.share ≡ 0 → IsSpent u) s.views id w (λ z. absurd (omega arith)) (λ j u _ there. r.spent j u there);
    home = home-stays r.core s.views s.homes id v w at (λ t. idle-served t v.stage idle) r.home;
  }

  -- of two beginnings of one list the shorter begins the longer
  pub begins-longer : (h a b ra rb : List Entry) → h ≡ a ++ ra → h ≡ b ++ rb → length a ≤ length b → (rest : List Entry) × (b ≡ a ++ rest)
  begins-longer h [] b ra rb p q l = (b, refl)
  begins-longer h (x ∷ xs) [] ra rb p q l = absurd (omega arith)
  begins-longer h (x ∷ xs) (y ∷ ys) ra rb p q l =
      let same : x ∷ (xs ++ ra) ≡ y ∷ (ys ++ rb) = sym p ∙ q in
      let head : x ≡ y = cc in
      let tail : xs ++ ra ≡ ys ++ rb = cc in
      let t = begins-longer (ys ++ rb) xs ys ra rb (sym tail) refl (omega arith) in
      (t.0, λ i. sym head i ∷ t.1 i)

  no-other-known : (h : List Entry) (c : ServerState) → Rises (faults_in h) (sum start.faults) (sum c.faults) → (h ≡ [] → start ≡ c) → Knows h c [] start
  no-other-known h c up begun = record { rest = h; begins = refl; rises = up; latest = begun }

  settles-if : (b : Bool) (slots id : ℕ) (me : Mine) → nat_le (length me.0.seen) (length me.0.other) ≡ b → me.0.stage ≡ Idle → 0 < me.0.share → (s : St) (r : IsKept start s) → get_elem? s.views id ≡ some me.0
      → IsKept start record { words = set s.words 1 (slice_index s.words 1); homes = s.homes; views = set s.views id (settled_if b me.0) }
      × ((rest : List Entry) × ((settled_if b me.0).seen ≡ me.0.seen ++ rest)) × ((rest : List Entry) × ((settled_if b me.0).seen ≡ me.0.other ++ rest))
      × (is_lawful me.0.start.world (settled_if b me.0).seen ≡ true) × Rising 0 me.0.mine (length (settled_if b me.0).seen)
  settles-if true slots id me is idle live s r at =
      let v = me.0 in
      let f = r.seats id v at live in
      let le : length v.seen ≤ length v.other = leb-true _ _ is in
      let short = begins-longer r.history v.seen v.other f.seen.rest f.other.rest f.seen.begins f.other.begins le in (
        reseated 1 id v (settled_if true v) s r (same-word s r) at live idle refl refl refl
            (λ g. record {
              same_start = g.same_start;
              seen = g.other;
              other = subst (λ (x : ServerState). Knows r.history r.core [] x) (sym g.same_start) (no-other-known r.history r.core r.risen r.begun);
              mine = rising-more 0 v.mine _ _ (omega arith) g.mine;
              served = λ t e. absurd (idle-served t v.stage idle e);
            }),
        short,
        ([], sym (append-nil v.other)),
        lawful-part v.start.world v.other f.other.rest (subst (λ (x : ServerState × List Entry). is_lawful x.0.world x.1 ≡ true) (λ i. (sym f.same_start i, f.other.begins i)) r.lawful),
        rising-more 0 v.mine _ _ (omega arith) f.mine,
      )
  settles-if false slots id me is idle live s r at =
      let v = me.0 in
      let f = r.seats id v at live in
      let gt : length v.other < length v.seen = leb-false _ _ is in
      let short = begins-longer r.history v.other v.seen f.other.rest f.seen.rest f.other.begins f.seen.begins (omega arith) in (
        reseated 1 id v (settled_if false v) s r (same-word s r) at live idle refl refl refl
            (λ g. record {
              same_start = g.same_start;
              seen = g.seen;
              other = subst (λ (x : ServerState). Knows r.history r.core [] x) (sym g.same_start) (no-other-known r.history r.core r.risen r.begun);
              mine = rising-more 0 v.mine _ _ (omega arith) g.mine;
              served = λ t e. absurd (idle-served t v.stage idle e);
            }),
        ([], sym (append-nil v.seen)),
        short,
        lawful-part v.start.world v.seen f.seen.rest (subst (λ (x : ServerState × List Entry). is_lawful x.0.world x.1 ≡ true) (λ i. (sym f.same_start i, f.seen.begins i)) r.lawful),
        rising-more 0 v.mine _ _ (omega arith) f.mine,
      )

  pub settles : (slots id : ℕ) (me : Mine) → me.0.stage ≡ Idle → 0 < me.0.share → Allows (IsKept start) slots id me 1 (λ n. n) (Settles (step slots 1 0 0 none) me)
  settles slots id me idle live s r _ at _ =
      let k = settles-if (nat_le (length me.0.seen) (length me.0.other)) slots id me refl idle live s r at in
      (settled me.0, keeps, tt, k.0, record { after = refl; rest = k.1.0; one = k.1.1; other_rest = k.2.0; other = k.2.1; lawful = k.3; within = k.4; small = let o = total-one share_of s.views id me.0 at in let e = r.shares in omega arith })

  -- two halves
  pub splits : (id : ℕ) (v : View) → v.stage ≡ Idle → 2 ≤ v.share → Splits (IsKept start) id v (left_of v) (right_of v)
  splits id v idle two s r at =
      let l = left_of v in
      let w = right_of v in
      let views = set s.views id l in
      let f = r.seats id v at (omega arith) in
      let halves : (v.share - v.share / 2) + v.share / 2 ≡ v.share = omega arith in
      let each = λ (P : View → Type 0) (left : P l) (right : P w) (rest : (j : ℕ) (u : View) → j ≢ id → get_elem? s.views j ≡ some u → P u) (j : ℕ) (u : View) (e : get_elem? (views ++ w ∷ []) j ≡ some u).
      ⊎_elim (λ (t : get_elem? views j ≡ some u). each-set P s.views id l left rest j u t) (λ (t : w ≡ u). subst P t right) (at_snoc views w u j e) in
      record {
        history = r.history;
        core = r.core;
        serving = r.serving;
        drawn = r.drawn;
        words = r.words;
        lawful = r.lawful;
        stands = r.stands;
        begun = r.begun;
        risen = r.risen;
        shares = let a = total-snoc share_of views w in let t = total-set share_of s.views id v l at in let e = r.shares in omega arith;
        waiting = let a = total-snoc waits views w in let t = total-set waits s.views id v l at in let e = r.waiting in let none : waits v ≡ 0 = ap waits_in idle in omega arith;
        tickets = λ x. let a = total-snoc (holds_ticket x) views w in let t = total-set (holds_ticket x) s.views id v l at in let e = r.tickets x in let none : holds_ticket x v ≡ 0 = ap (holds_in x) idle in omega arith;
        places = λ k. let a = total-snoc (has_place k) views w in let t = total-set (has_place k) s.views id v l at in let e = r.places k in omega arith;
        seats = each (λ u. 0 < u.share → Fits start r.history r.core r.serving u)
            (λ _. record { same_start = f.same_start; seen = f.seen; other = f.other; mine = f.mine; served = f.served })
            (λ _. record { same_start = f.same_start; seen = f.seen; other = f.other; mine = omega arith; served = f.served })
            (λ j u _ there. r.seats j u there);
        spent = each (λ u. u.share ≡ 0 → IsSpent u) (λ z. absurd (omega arith)) (λ z. absurd (omega arith)) (λ j u _ there. r.spent j u there);
        home = ⊎_elim (λ (c : HasCore r.core s.homes). inl c)
            (λ (o : IsOut s.views s.homes). let p = out-stays s.views s.homes id v l at (λ t. idle-served t v.stage idle) o in
            inr record { seat = p.seat; view = p.view; ticket = p.ticket; there = at_longer views (w ∷ []) p.seat p.view p.there; served = p.served; gone = p.gone })
            r.home;
      }

  -- a spent seat beside it
  pub echoes : (id : ℕ) (v : View) → v.stage ≡ Idle → Splits (IsKept start) id v v (echo_of v)
  echoes id v idle s r at =
      let w = echo_of v in
      let views = set s.views id v in
      let same : views ≡ s.views = set_again s.views id v at in
      let each = λ (P : View → Type 0) (right : P w) (rest : (j : ℕ) (u : View) → get_elem? s.views j ≡ some u → P u) (j : ℕ) (u : View) (e : get_elem? (views ++ w ∷ []) j ≡ some u).
      ⊎_elim (λ (t : get_elem? views j ≡ some u). rest j u (subst (λ (l : List View). get_elem? l j ≡ some u) same t)) (λ (t : w ≡ u). subst P t right) (at_snoc views w u j e) in
      record {
        history = r.history;
        core = r.core;
        serving = r.serving;
        drawn = r.drawn;
        words = r.words;
        lawful = r.lawful;
        stands = r.stands;
        begun = r.begun;
        risen = r.risen;
        shares = let a = total-snoc share_of views w in let t = ap (total share_of) same in let e = r.shares in omega arith;
        waiting = let a = total-snoc waits views w in let t = ap (total waits) same in let e = r.waiting in let none : waits v ≡ 0 = ap waits_in idle in omega arith;
        tickets = λ x. let a = total-snoc (holds_ticket x) views w in let t = ap (total (holds_ticket x)) same in let e = r.tickets x in let none : holds_ticket x v ≡ 0 = ap (holds_in x) idle in omega arith;
        places = λ k. let a = total-snoc (has_place k) views w in let t = ap (total (has_place k)) same in let e = r.places k in omega arith;
        seats = each (λ u. 0 < u.share → Fits start r.history r.core r.serving u) (λ z. absurd (omega arith)) (λ j u there. r.seats j u there);
        spent = each (λ u. u.share ≡ 0 → IsSpent u) (λ _. record { idle = idle; none = refl }) (λ j u there. r.spent j u there);
        home = ⊎_elim (λ (c : HasCore r.core s.homes). inl c)
            (λ (o : IsOut s.views s.homes). inr record { seat = o.seat; view = o.view; ticket = o.ticket; there = at_longer views (w ∷ []) o.seat o.view (subst (λ (l : List View). get_elem? l o.seat ≡ some o.view) (sym same) o.there); served = o.served; gone = o.gone })
            r.home;
      }

  -- one seat with the places, the shares and the histories of both
  pub joins : (id : ℕ) (v : View) (other : ℕ) (u : View) → v.stage ≡ Idle → u.stage ≡ Idle → 0 < v.share → 0 < u.share → length v.other ≡ 0 → length u.other ≡ 0 → Joins (IsKept start) id v other u (both_of v u) spent
  joins id v other u idle idle' live live' bare bare' s r at apart there =
      let b = both_of v u in
      let views = set s.views id b in
      let ne : id ≢ other = λ e. apart (sym e) in
      let there' : get_elem? s.views other ≡ some u = sym (set_else s.views id other b apart) ∙ there in
      let f = r.seats id v at live in
      let g = r.seats other u there' live' in
      let once : (k : ℕ) → times k v.mine + times k u.mine ≤ 1 = λ k. let t = total-two (has_place k) s.views id other v u ne at there' in let e = r.places k in let m = between-most 0 (length r.history) k in omega arith in
      let each = λ (P : View → Type 0) (here : P b) (gone : P spent) (rest : (j : ℕ) (x : View) → get_elem? s.views j ≡ some x → P x).
      each-set P views other spent gone (λ j x _ e. each-set P s.views id b here (λ i y _ d. rest i y d) j x e) in
      record {
        history = r.history;
        core = r.core;
        serving = r.serving;
        drawn = r.drawn;
        words = r.words;
        lawful = r.lawful;
        stands = r.stands;
        begun = r.begun;
        risen = r.risen;
        shares = let a = total-set share_of views other u spent there in let t = total-set share_of s.views id v b at in let e = r.shares in omega arith;
        waiting = let a = total-set waits views other u spent there in let t = total-set waits s.views id v b at in let e = r.waiting in let gone : waits u ≡ 0 = ap waits_in idle' in omega arith;
        tickets = λ x. let a = total-set (holds_ticket x) views other u spent there in let t = total-set (holds_ticket x) s.views id v b at in let e = r.tickets x in let gone : holds_ticket x u ≡ 0 = ap (holds_in x) idle' in omega arith;
        places = λ k. let a = total-set (has_place k) views other u spent there in let t = total-set (has_place k) s.views id v b at in let e = r.places k in let m = times-merge k v.mine u.mine in omega arith;
        seats = each (λ x. 0 < x.share → Fits start r.history r.core r.serving x)
            (λ _. record {
              same_start = f.same_start;
              seen = f.seen;
              other = g.seen;
              mine = rising-merge 0 v.mine u.mine _ (rising-more 0 v.mine _ _ (omega arith) f.mine) (rising-more 0 u.mine _ _ (omega arith) g.mine) once;
              served = f.served;
            })
            (λ z. absurd (omega arith))
            (λ j x e. r.seats j x e);
        spent = each (λ x. x.share ≡ 0 → IsSpent x) (λ z. absurd (omega arith)) (λ _. record { idle = refl; none = refl }) (λ j x e. r.spent j x e);
        home = home-stays r.core views s.homes other u spent there (λ t. idle-served t u.stage idle') (home-stays r.core s.views s.homes id v b at (λ t. idle-served t v.stage idle) r.home);
      }

  -- the table at the start
  pub begins : start.entries ≤ last_count → start.opened ≤ last_count → IsKept start (opening (0 ∷ 0 ∷ []) (Some start ∷ []) (newcomer start))
  begins entries opened = record {
    history = [];
    core = start;
    serving = 0;
    drawn = 0;
    words = refl;
    lawful = refl;
    stands = stands-none start entries opened;
    begun = λ _. refl;
    risen = rises-none (sum start.faults);
    shares = refl;
    waiting = refl;
    tickets = λ t. sym (between-none 0 t);
    places = λ k. sym (between-none 0 k);
    seats = only (λ u. 0 < u.share → Fits start [] start 0 u) (λ _. record {
      same_start = refl;
      seen = record { rest = []; begins = refl; rises = rises-none (sum start.faults); latest = λ _. refl };
      other = record { rest = []; begins = refl; rises = rises-none (sum start.faults); latest = λ _. refl };
      mine = omega arith;
      served = λ t e. absurd (cc);
    });
    spent = only (λ u. u.share ≡ 0 → IsSpent u) (λ z. absurd (omega arith));
    home = inl refl;
  }
    where
      only : (P : View → Type 0) → P (newcomer start) → (j : ℕ) (u : View) → get_elem? (newcomer start ∷ []) j ≡ some u → P u
      only P p zero u e = subst P (some-injective _ _ e) p
      only P p (suc j) u e = absurd (some-ne-none u (sym e))

  -- what is left at the end, with a seat that has all shares
  pub record IsLast (v : View) (xs : List S) : Type 0 where
    pub there : get_elem? xs 0 ≡ some (Some v.core)
    pub stands : StandsFor v.start v.seen v.core
    pub risen : Rises (faults_in v.seen) (sum v.start.faults) (sum v.core.faults)
    pub all_mine : (k : ℕ) → k < length v.seen → times k v.mine ≡ 1

  pub closes : (id : ℕ) (v : View) (ws : List ℕ) (xs : List S) → v.stage ≡ Idle → v.share ≡ all_shares → length v.other ≡ 0 → Final (Seen (IsKept start) id v) ws xs → IsLast v xs
  closes id v ws xs idle full bare end =
      let s = end.0 in
      let r = end.1.0 in
      let at = end.1.1 in
      let f = r.seats id v at (omega arith) in
      let poor : (j : ℕ) (u : View) → j ≢ id → get_elem? s.views j ≡ some u → u.share ≡ 0 =
      λ j u n e. let two = total-two share_of s.views id j v u (λ d. n (sym d)) at e in let a = r.shares in omega arith in
      let alone : (k : ℕ) → times k v.mine ≡ one_between 0 (length r.history) k =
      λ k. sym (total-alone (has_place k) s.views id v at (λ j u n e. ap (times k) (r.spent j u e (poor j u n e)).none)) ∙ r.places k in
      let c = ⊎_elim (λ (c : HasCore r.core s.homes). c)
      (λ (o : IsOut s.views s.homes). absurd (dite (ℕ_discrete o.seat id)
      (λ same. idle-served o.ticket v.stage idle (ap (λ (u : View). u.stage) (same-view s.views id v o.view at (subst (λ j. get_elem? s.views j ≡ some o.view) same o.there)) ∙ o.served))
      (λ n. idle-served o.ticket o.view.stage (r.spent o.seat o.view o.there (poor o.seat o.view n o.there)).idle o.served)))
      r.home in
      let long : length r.history ≡ length v.seen + length f.seen.rest = ap length f.seen.begins ∙ length-append v.seen f.seen.rest in
      let empty : length f.seen.rest ≡ 0 = dite (ℕ_discrete (length f.seen.rest) 0) (λ z. z)
      (λ n. let one = alone (length v.seen) in let in_it = between-in 0 (length r.history) (length v.seen) (omega arith) (omega arith) in
      let out = times-above 0 v.mine _ (length v.seen) f.mine (omega arith) in absurd (omega arith)) in
      let core : v.core ≡ r.core = f.seen.latest (none-left f.seen.rest empty) in
      let whole : r.history ≡ v.seen = f.seen.begins ∙ ap (λ (l : List Entry). v.seen ++ l) (none-left f.seen.rest empty) ∙ append-nil v.seen in
      record {
        there = subst (λ (x : ServerState). get_elem? xs 0 ≡ some (Some x)) (sym core) (end.4 0 (Some r.core) (ap (λ hs. get_elem? hs 0) c));
        stands = subst (λ (x : ServerState × List Entry × ServerState). StandsFor x.0 x.1 x.2) (λ i. (sym f.same_start i, whole i, sym core i)) r.stands;
        risen = subst (λ (x : ServerState × List Entry × ServerState). Rises (faults_in x.1) (sum x.0.faults) (sum x.2.faults)) (λ i. (sym f.same_start i, whole i, sym core i)) r.risen;
        all_mine = λ k l. alone k ∙ between-in 0 (length r.history) k (omega arith) (let n : length r.history ≡ length v.seen = ap length whole in omega arith);
      }
    where
      none-left : (l : List Entry) → length l ≡ 0 → l ≡ []
      none-left [] e = refl
      none-left (x ∷ xs) e = absurd (omega arith)

  -- the same at a seat that is known by equations
  pub decides-me : (slots id : ℕ) (made c : Call) (me : Mine) (core : ServerState) → made ≡ c → IsServed me → me.1 ≡ (0, Some core) ∷ [] → TakesTurn me.0.core c.now c.link c.ask c.told core
      → Allows (IsKept start) slots id me 1 (λ n. (n + 1) % 2 ^ 64) (Decides made (step slots 1 1 0 none) me)
  decides-me slots id made c me core same served slot turn =
      subst (λ (x : Call × List (ℕ × S)). Allows (IsKept start) slots id (me.0, x.1) 1 (λ n. (n + 1) % 2 ^ 64) (Decides x.0 (step slots 1 1 0 none) (me.0, x.1)))
      (λ i. (sym same i, sym slot i)) (decides slots id c me.0 (ticket_in me.0.stage) core served.served served.live turn)

  pub looks-me : (slots id : ℕ) (me me' : Mine) (number : ℕ) → me' ≡ me → IsWaiting me number → Allows (IsKept start) slots id me' 1 (λ n. n) (Looks (step slots 1 0 0 none) me')
  looks-me slots id me me' number same w = subst (λ (x : Mine). Allows (IsKept start) slots id x 1 (λ n. n) (Looks (step slots 1 0 0 none) x)) (sym same) (looks slots id me (ticket_in me.0.stage) w.waits w.live w.empty)

  -- the same, at a seat that is known by equations
  pub closes-as : (id id' : ℕ) (v v' : View) (ws : List ℕ) (xs : List S) → id' ≡ id → v' ≡ v → v.stage ≡ Idle → v.share ≡ all_shares → length v.other ≡ 0 → Final (Seen (IsKept start) id' v') ws xs → IsLast v xs
  closes-as id id' v v' ws xs at same idle full bare end = closes id v ws xs idle full bare (subst (λ (x : ℕ × View). Final (Seen (IsKept start) x.0 x.1) ws xs) (λ i. (at i, same i)) end)
