-- A step, and all of them.
use Rattle.std.proofs.Common.{◌≡◌, ◌∙◌, refl, sym, ap, subst, ℕ, zero, suc, ◌+◌, ◌-◌, ◌<◌, ◌≤◌, ◌^◌, Bool, true, false, cond, List, [], ◌∷◌, ◌++◌, Option, Some, None, inl, inr, append-nil, append_assoc, arith, lit<}
use Rattle.std.specs.Prelude.{◌==◌, ◌%◌, count_by, map, not, Result, Ok, Err, IfOk, OnOk}
use Rattle.std.proofs.lemmas.Bool.{cases_lt, cond_both, eqb-false}
use Rattle.std.proofs.lemmas.List.{map-append}
use Rattle.std.proofs.lemmas.List.Sums.{sum_by-cons}
use Rattle.afp_base.specs.declared.bytes.OutOfMemory.{OutOfMemory}
use Rattle.afp_calls_grammar.specs.declared.grammar.call.Call.{Call}
use Rattle.afp_client.specs.session.State.{is_of_opening}
use Rattle.afp_serial.proofs.Grows.{stand-append}
use Rattle.afp_serial.specs.Answer.{answer}
use Rattle.afp_serial.specs.History.{stand}
use Rattle.afp_serial.specs.Shown.{Shown}
use Rattle.afp_serial.specs.World.{World}
use Rattle.afp_serial.specs.declared.ask.Entry.{Entry}
use Rattle.afp_serial.specs.declared.ask.Told.{Told}
use Rattle.dsi_session.specs.RequestIds.{id_after}
use Rattle.capture_made.specs.requests.Drawing.{drawn, next_state}
use Rattle.capture_made.specs.requests.Requests.{call_of, close_fork, create_file, delete, enumerate, lock, most_steps, open_fork, rename, write}
use Rattle.once_across_breaks.specs.same.Steps.{Step, all_asks, breaks_in, calls_on, first_asks, is_broken, is_ok, last_ask, link_behind, results, step_asks}
use Rattle.once_across_breaks.specs.declared.same.breaks.Break.{Break}
use Rattle.once_across_breaks_drill.specs.steps.Drilling.{Drawn, drawn_after, drill_steps, first_drawn, id_behind, next_step, steps_from}
use Rattle.once_across_breaks_drill.specs.declared.steps.steps.DrillStep.{DrillStep}
use Rattle.once_across_breaks_drill.specs.rounds.Linked.{Asks, IsAnswered, IsLinked, as_told}
use Rattle.once_across_breaks_drill.specs.declared.rounds.calls.Answered.{Answered}
use Rattle.once_across_breaks_drill.specs.declared.rounds.opening.Linked.{Linked}
use Rattle.once_across_breaks_drill.specs.declared.run.breaking.Reached.{Reached}
use Rattle.once_across_breaks_drill.specs.declared.run.counting.Counts.{Counts}
use Rattle.once_across_breaks_drill.specs.declared.run.stepping.Going.{Going}
use Rattle.once_across_breaks_drill.specs.run.lemma.Going.{CountsStep, GoesStep, HasLeft, MakesStep, Reaches, RunsSteps, is_refused, no_counts, one_if, step_at, step_of, told_in}

-- what holds anyway holds where a result is Ok
pub on-ok : {A : Type 0} {E : Type 0} (r : Result A E) (P : Type 0) → P → OnOk r P
on-ok (Ok x) P p = p
on-ok (Err e) P p = tt

-- ---- a step

-- no call of a step is one of an opening
pub no-opening : (o a b : ℕ) → is_of_opening (call_of o a b) ≡ false
no-opening o a b = by (o == 0) (o == 1) (o == 2) (o == 3) (o == 4) (o == 5) (o == 6)
  where
    by : (b0 b1 b2 b3 b4 b5 b6 : Bool)
        → is_of_opening (cond b0 (create_file a) (cond b1 (delete a) (cond b2 (rename a b) (cond b3 (open_fork a b) (cond b4 (close_fork a) (cond b5 (lock a b) (cond b6 (write a b) enumerate))))))) ≡ false
    by true b1 b2 b3 b4 b5 b6 = refl
    by false true b2 b3 b4 b5 b6 = refl
    by false false true b3 b4 b5 b6 = refl
    by false false false true b4 b5 b6 = refl
    by false false false false true b5 b6 = refl
    by false false false false false true b6 = refl
    by false false false false false false true = refl
    by false false false false false false false = refl

pub step-no-opening : (d : Drawn) (call : Call) → call ≡ (next_step d).call → is_of_opening call ≡ false
step-no-opening d call is = ap is_of_opening is ∙ no-opening ((drawn (next_state d.state)).o % 8) (drawn (next_state d.state)).a (drawn (next_state d.state)).b

-- the step that was drawn
pub drawn-step : (d : Drawn) (s : DrillStep) → s.at ≡ (next_step d).moment → s.call ≡ (next_step d).call → s.breaks ≡ (next_step d).breaks → step_of d.id s ≡ next_step d
drawn-step d s at call breaks = λ i. record { moment = at i; id = d.id; call = call i; breaks = breaks i }

pub makes-step : (now : ℕ) (token : List ℕ) (id : ℕ) (call : Call) (breaks : Break) (old asked : Linked) (out after : List ℕ) (t v u : Shown) (r : Reached) (a : Answered)
    → Asks token id call old out asked after → Reaches now token id (id_after id) call breaks asked t r v → IsAnswered now token id (id_after id) call r.linked v a u → MakesStep token (step_at now id call breaks) old t a u
makes-step now token id call breaks old asked out after t v u r a x y z =
    let s : Step = step_at now id call breaks in
    let link : r.linked.link ≡ link_behind old.link breaks = y.link ∙ ap (λ (n : ℕ). link_behind n breaks) x.link in
    let stands : stand v.start v.history ≡ stand (stand t.start t.history) (first_asks token old.link s breaks) =
    (λ i. stand (y.start i) (y.history i)) ∙ stand-append t.start t.history (first_asks token asked.link s breaks) ∙ ap (λ (n : ℕ). stand (stand t.start t.history) (first_asks token n s breaks)) x.link in
    record {
      linked = z.linked;
      link = z.link ∙ link;
      told = z.told ∙ (λ i. answer (stands i) (calls_on (link i) now id call));
      start = z.start ∙ y.start;
      history = z.history
          ∙ ap (λ (h : List Entry). h ++ calls_on r.linked.link now id call ∷ []) y.history
          ∙ append_assoc t.history (first_asks token asked.link s breaks) (calls_on r.linked.link now id call ∷ [])
          ∙ (λ i. t.history ++ (first_asks token (x.link i) s breaks ++ calls_on (link i) now id call ∷ []));
    }

pub goes-step : (token : List ℕ) (d : Drawn) (s : DrillStep) (old g : Going) (a : Answered) (t u : Shown) → step_of d.id s ≡ next_step d → MakesStep token (step_of d.id s) old.linked t a u
    → g.linked ≡ a.linked → CountsStep s.breaks (is_ok (as_told a.answer)) old.counts g.counts → g.results.items ≡ old.results.items ++ a.answer ∷ [] → GoesStep token (next_step d) old t g u
goes-step token d s old g a t u is made linked counts kept =
    subst (λ (x : Step). GoesStep token x old t g u) is
    (record {
      linked = subst (λ (l : Linked). IsLinked token None (id_after d.id) l) (sym linked) made.linked;
      link = ap (λ (l : Linked). l.link) linked ∙ made.link;
      counts = subst (λ (o : Told). CountsStep s.breaks (is_ok o) old.counts g.counts) made.told counts;
      kept = ap (map as_told) kept ∙ map-append as_told old.results.items (a.answer ∷ []) ∙ ap (λ (o : Told). map as_told old.results.items ++ o ∷ []) made.told;
      start = made.start;
      history = made.history;
    })

-- what holds of each step holds of the one that is made
pub step-goes : (r : Result Going OutOfMemory) (old : Going) (a : Answered) (breaks : Break) (d : Drawn) (t u : Shown)
    → IfOk r (λ g. g.linked ≡ a.linked) → IfOk r (λ g. CountsStep breaks (is_ok (as_told a.answer)) old.counts g.counts) → IfOk r (λ g. g.results.items ≡ old.results.items ++ a.answer ∷ [])
    → ((g : Going) (token : List ℕ) → d.id < 2 ^ 16 → IsLinked token None d.id old.linked → g.linked ≡ a.linked → CountsStep breaks (is_ok (as_told a.answer)) old.counts g.counts → g.results.items ≡ old.results.items ++ a.answer ∷ []
    → GoesStep token (next_step d) old t g u)
    → IfOk r (λ g. (token : List ℕ) → d.id < 2 ^ 16 → IsLinked token None d.id old.linked → GoesStep token (next_step d) old t g u)
step-goes (Ok g) old a breaks d t u linked counts kept goes = λ token small is. goes g token small is linked counts kept
step-goes (Err e) old a breaks d t u linked counts kept goes = tt

-- ---- all steps

id-small : (id : ℕ) → id < 2 ^ 16 → id_after id < 2 ^ 16
id-small id word = cond_both (id == 65535) 0 (id + 1) (λ n. n < 2 ^ 16) (λ last. lit< tt) (λ other. elim (cases_lt id 65535) [
  | inl less ↦ omega (arith, less)
  | inr more ↦ absurd (eqb-false id 65535 other (omega (arith, word, more)))
])

pub has-all : (token : List ℕ) (number steps : ℕ) (t : Shown) (g : Going) (d : Drawn) → g.counts ≡ no_counts → d ≡ first_drawn number → IsLinked token None 4 g.linked
    → HasLeft token number steps g.linked (map as_told g.results.items) t steps d g t
has-all token number steps t g d counts is linked =
    let none : (c : Counts) → c ≡ no_counts → HasLeft token number steps g.linked (map as_told g.results.items) t steps (first_drawn number) (record { linked = g.linked; counts = c; results = g.results }) t = λ c same.
    let breaks = ap (λ (x : Counts). x.breaks) same in
    let ok = ap (λ (x : Counts). x.ok) same in
    let refused = ap (λ (x : Counts). x.refused) same in
    record {
      ids = refl;
      kept = refl;
      made = omega arith;
      small = lit< tt;
      linked = linked;
      start = refl;
      history = refl;
      breaks = from-none c.breaks (breaks_in (drill_steps number steps)) breaks;
      ok = from-none c.ok (count_by is_ok (results (stand t.start t.history) token g.linked.link (drill_steps number steps))) ok;
      refused = from-none c.refused (count_by is_refused (results (stand t.start t.history) token g.linked.link (drill_steps number steps))) refused;
      all = omega (arith, ok, refused);
    } in
    subst (λ (x : Drawn). HasLeft token number steps g.linked (map as_told g.results.items) t steps x g t) (sym is) (none g.counts counts)
  where
    from-none : (a b : ℕ) → a ≡ 0 → a + b ≡ b
    from-none a b h = omega (arith, h)

pub has-next : (token : List ℕ) (number steps : ℕ) (first : Linked) (before : List Told) (t : Shown) (n : ℕ) (d : Drawn) (g g' : Going) (v u : Shown) → HasLeft token number steps first before t (suc n) d g v → GoesStep token (next_step d) g v g' u
    → HasLeft token number steps first before t n (drawn_after d) g' u
has-next token number steps first before t n d g g' v u x y =
    let s : Step = next_step d in
    let rest : List Step = steps_from (drawn_after d) n in
    let w : World = stand v.start v.history in
    let told : Told = told_in v token g.linked.link s in
    let later : List Told = results (stand w (step_asks token g.linked.link s)) token (link_behind g.linked.link s.breaks) rest in
    let stands : stand u.start u.history ≡ stand w (step_asks token g.linked.link s) = (λ i. stand (y.start i) (y.history i)) ∙ stand-append v.start v.history (step_asks token g.linked.link s) in
    let same : results (stand u.start u.history) token g'.linked.link rest ≡ later = λ i. results (stands i) token (y.link i) rest in
    let made : d.made + suc n ≡ steps = x.made in
    let breaks : g.counts.breaks + (is_broken s.breaks + breaks_in rest) ≡ breaks_in (drill_steps number steps) = x.breaks in
    let breaks' = y.counts.breaks_are in
    let ok : g.counts.ok + (one_if (is_ok told) + count_by is_ok later) ≡ count_by is_ok (results (stand t.start t.history) token first.link (drill_steps number steps)) =
    ap (λ (m : ℕ). g.counts.ok + m) (sym (sum_by-cons (λ (a : Told). cond (is_ok a) 1 0) told later)) ∙ x.ok in
    let ok' = y.counts.ok_is in
    let refused : g.counts.refused + (one_if (is_refused told) + count_by is_refused later) ≡ count_by is_refused (results (stand t.start t.history) token first.link (drill_steps number steps)) =
    ap (λ (m : ℕ). g.counts.refused + m) (sym (sum_by-cons (λ (a : Told). cond (is_refused a) 1 0) told later)) ∙ x.refused in
    let refused' = y.counts.refused_is in
    let one : one_if (is_ok told) + one_if (is_refused told) ≡ 1 = both (is_ok told) in
    record {
      ids = x.ids;
      kept = (λ i. y.kept i ++ same i) ∙ append_assoc (map as_told g.results.items) (told ∷ []) later ∙ x.kept;
      made = omega (arith, made);
      small = id-small d.id x.small;
      linked = y.linked;
      start = y.start ∙ x.start;
      history = (λ i. y.history i ++ all_asks token (y.link i) rest) ∙ append_assoc v.history (step_asks token g.linked.link s) (all_asks token (link_behind g.linked.link s.breaks) rest) ∙ x.history;
      breaks = omega (arith, breaks, breaks');
      ok = ap (λ (l : List Told). g'.counts.ok + count_by is_ok l) same ∙ add-on g'.counts.ok g.counts.ok (one_if (is_ok told)) (count_by is_ok later) ok' ∙ ok;
      refused = ap (λ (l : List Told). g'.counts.refused + count_by is_refused l) same ∙ add-on g'.counts.refused g.counts.refused (one_if (is_refused told)) (count_by is_refused later) refused' ∙ refused;
      all = all-on steps n (one_if (is_ok told)) (one_if (is_refused told)) g.counts.ok g.counts.refused g'.counts.ok g'.counts.refused ok' refused' one x.all;
    }
  where
    both : (b : Bool) → one_if b + one_if (not b) ≡ 1
    both true = refl
    both false = refl

    add-on : (new old one more : ℕ) → new ≡ old + one → new + more ≡ old + (one + more)
    add-on new old one more is = omega (arith, is)

    all-on : (steps n a b x y x' y' : ℕ) → x' ≡ x + a → y' ≡ y + b → a + b ≡ 1 → x + y + suc n ≡ steps → x' + y' + n ≡ steps
    all-on steps n a b x y x' y' p q r e = omega (arith, p, q, r, e)

-- one less is left
pub has-less : (token : List ℕ) (number steps : ℕ) (first : Linked) (before : List Told) (t : Shown) (left : ℕ) (d : Drawn) (g g' : Going) (v u : Shown) → 0 < left → HasLeft token number steps first before t left d g v → GoesStep token (next_step d) g v g' u
    → HasLeft token number steps first before t (left - 1) (drawn_after d) g' u
has-less token number steps first before t zero d g g' v u some x y = absurd (no some)
  where
    no : 0 < 0 → ⊥
    no h = omega (arith, h)
has-less token number steps first before t (suc n) d g g' v u some x y =
    let same : n ≡ suc n - 1 = omega arith in
    subst (λ (k : ℕ). HasLeft token number steps first before t k (drawn_after d) g' u) same (has-next token number steps first before t n d g g' v u x y)

pub runs-steps : (token : List ℕ) (number steps : ℕ) (first : Linked) (before : List Told) (t : Shown) (left : ℕ) (d : Drawn) (g : Going) (u : Shown) → left ≡ 0 → HasLeft token number steps first before t left d g u
    → RunsSteps token number steps first before t g u
runs-steps token number steps first before t left d g u none h =
    let x : HasLeft token number steps first before t 0 d g u = subst (λ (k : ℕ). HasLeft token number steps first before t k d g u) none h in
    let breaks : g.counts.breaks + 0 ≡ breaks_in (drill_steps number steps) = x.breaks in
    let ok : g.counts.ok + 0 ≡ count_by is_ok (results (stand t.start t.history) token first.link (drill_steps number steps)) = x.ok in
    let refused : g.counts.refused + 0 ≡ count_by is_refused (results (stand t.start t.history) token first.link (drill_steps number steps)) = x.refused in
    let all = x.all in
    let ids : d.id ≡ id_behind 4 steps = x.ids in
    record {
      linked = subst (λ (n : ℕ). IsLinked token None n g.linked) ids x.linked;
      kept = sym (append-nil (map as_told g.results.items)) ∙ x.kept;
      start = x.start;
      history = sym (append-nil u.history) ∙ x.history;
      breaks = omega (arith, breaks);
      ok = plus-none g.counts.ok ∙ ok;
      refused = plus-none g.counts.refused ∙ refused;
      all = omega (arith, all);
    }
  where
    plus-none : (n : ℕ) → n ≡ n + 0
    plus-none n = omega arith

-- more steps may be drawn
pub more-left : (token : List ℕ) (number steps : ℕ) (first : Linked) (before : List Told) (t : Shown) (left : ℕ) (d : Drawn) (g : Going) (u : Shown) → steps ≤ most_steps → 0 < left → HasLeft token number steps first before t left d g u → d.made < most_steps
more-left token number steps first before t left d g u most some x = let made = x.made in omega (arith, most, some, made)
