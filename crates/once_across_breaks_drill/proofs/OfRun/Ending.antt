-- The beginning of a drill, and what all of it comes to.
use Rattle.std.proofs.Common.{◌≡◌, ◌∙◌, refl, sym, ap, subst, ℕ, suc, ◌+◌, List, [], ◌∷◌, ◌++◌, Some, None, arith, lit<}
use Rattle.std.specs.Prelude.{true, codes, count_by, drop, map}
use Rattle.afp_calls_grammar.specs.grammar.Call.{IsSpellable, IsTypedCall}
use Rattle.afp_calls_grammar.specs.declared.grammar.call.Call.{Call}
use Rattle.afp_calls_grammar.specs.declared.grammar.call.Call.TheVariants.{OpenVol}
use Rattle.afp_serial.specs.Answer.{answer}
use Rattle.afp_serial.specs.History.{opened_in, stand}
use Rattle.afp_serial.specs.Household.{Household}
use Rattle.afp_serial.specs.Shown.{Shown}
use Rattle.afp_serial.specs.Token.{session_token}
use Rattle.afp_serial.specs.World.{World, fresh_world}
use Rattle.afp_serial.specs.declared.ask.Entry.{Entry}
use Rattle.afp_serial.specs.declared.ask.Told.{Told}
use Rattle.capture_made.specs.requests.Requests.{first_moment, open_volume}
use Rattle.once_across_breaks.proofs.OfSame.Changing.{back-append, opened-append}
use Rattle.once_across_breaks.specs.same.Laws.{BreaksChangeNothing, TellsFirstOpening}
use Rattle.once_across_breaks.specs.same.Steps.{Step, all_asks, back_in, breaks_in, calls_on, is_ok, opens, results}
use Rattle.once_across_breaks_drill.specs.steps.Drilling.{drill_steps, first_world, house, token, undisturbed, volume_told}
use Rattle.once_across_breaks_drill.specs.rounds.Linked.{Asks, IsAnswered, IsFirstLink, WaitsFor, as_told}
use Rattle.once_across_breaks_drill.specs.declared.rounds.calls.Answered.{Answered}
use Rattle.once_across_breaks_drill.specs.declared.rounds.opening.Linked.{Linked}
use Rattle.once_across_breaks_drill.specs.run.Drilled.{IsDrilled, steps_told}
use Rattle.once_across_breaks_drill.specs.declared.run.breaking.Reached.{Reached}
use Rattle.once_across_breaks_drill.specs.declared.run.drilling.Drilled.{Drilled}
use Rattle.once_across_breaks_drill.specs.declared.run.stepping.Going.{Going}
use Rattle.once_across_breaks_drill.specs.run.lemma.Going.{AsksVolume, Begins, EndsCounts, RunsSteps, is_refused}
use Rattle.once_across_breaks_drill.proofs.OfRun.Reaching.{waits-for}

pub asks-volume : (tok : List ℕ) (call : Call) (old l : Linked) (out after : List ℕ) → call ≡ open_volume → out ≡ [] → Asks tok 3 call old out l after → AsksVolume tok old (record { linked = l; request = after })
asks-volume tok call old l out after is empty x = record { waits = subst (λ (k : Call). WaitsFor tok 3 4 k l after) is (waits-for tok 3 call old l out after empty x); link = x.link }

pub begins : (hs : Household) (now : ℕ) (l : Linked) (r : Reached) (a : Answered) (t u : Shown) → IsFirstLink hs now l t → AsksVolume (session_token hs.token_key 1) l r
    → IsAnswered now (session_token hs.token_key 1) 3 4 open_volume r.linked t a u → Begins hs now a u
begins hs now l r a t u x y z =
    let link : r.linked.link ≡ 1 = y.link ∙ x.link in
    record {
      linked = z.linked;
      link = z.link ∙ link;
      told = z.told ∙ (λ i. answer (stand (x.start i) (x.history i)) (calls_on (link i) now 3 open_volume));
      start = z.start ∙ x.start;
      history = z.history ∙ (λ i. x.history i ++ calls_on (link i) now 3 open_volume ∷ []);
    }

-- ---- all of it

pub begun : (hs : Household) (now : ℕ) (a : Answered) (v : Shown) → hs ≡ house → now ≡ first_moment → Begins hs now a v → Begins house first_moment a v
begun hs now a v is at x = subst (λ (h : Household). Begins h first_moment a v) is (subst (λ (n : ℕ). Begins hs n a v) at x)

pub volume-typed : IsTypedCall (OpenVol 0x20 (codes "Share"))
volume-typed = (tt, (tt, (lit< tt, (tt, tt))))

pub volume-spellable : IsSpellable (OpenVol 0x20 (codes "Share"))
volume-spellable = record { fields = (tt, (tt, (tt, (lit< tt, tt)))); encloses = tt }

one-more : (n : ℕ) → 1 + n ≡ suc n
one-more n = omega arith

none-more : (n : ℕ) → 0 + n ≡ n
none-more n = omega arith

opened-all : (start : World) (first all : List Entry) (n : ℕ) → opened_in start first ≡ 1 → opened_in (stand start first) all ≡ n → opened_in start (first ++ all) ≡ suc n
opened-all start first all n one more = opened-append start first all ∙ (λ i. one i + more i) ∙ one-more n

back-all : (start : World) (first all : List Entry) (n : ℕ) → back_in start first ≡ 0 → back_in (stand start first) all ≡ n → back_in start (first ++ all) ≡ n
back-all start first all n none more = back-append start first all ∙ (λ i. none i + more i) ∙ none-more n

pub drilled : {T F : Type 0} (number steps : ℕ) (d : Drilled T F) (a : Answered) (before : List Told) (g : Going) (v u : Shown)
    → TellsFirstOpening house first_moment 0x20 (codes "Share") → BreaksChangeNothing first_world token 1 (drill_steps number steps) → Begins house first_moment a v → before ≡ as_told a.answer ∷ [] → RunsSteps token number steps a.linked before v g u
    → EndsCounts steps g d.commands d.breaks d.ok d.refused → d.run.client.state ≡ g.linked.caller → d.run.results.items ≡ g.results.items → d.run.answered ≡ true → IsDrilled number steps d u
drilled number steps d a before g v u first law x alone y counts client kept answered =
    let start : World = fresh_world house first_moment in
    let opening : List Entry = opens first_moment 0x20 (codes "Share") in
    let all : List Step = drill_steps number steps in
    let stands : stand v.start v.history ≡ first_world = λ i. stand (x.start i) (x.history i) in
    let start_is : u.start ≡ start = y.start ∙ x.start in
    let history : u.history ≡ opening ++ all_asks token 1 all = y.history ∙ (λ i. x.history i ++ all_asks token (x.link i) all) in
    let breaks_are : d.breaks ≡ breaks_in all = counts.breaks_are ∙ y.breaks in
    let rest : results (stand v.start v.history) token a.linked.link all ≡ undisturbed number steps = (λ i. results (stands i) token (x.link i) all) ∙ law.told in
    let told : map as_told d.run.results.items ≡ volume_told ∷ undisturbed number steps =
    ap (map as_told) kept ∙ y.kept ∙ (λ i. alone i ++ rest i) ∙ ap (λ (o : Told). o ∷ undisturbed number steps) x.told in
    let behind : undisturbed number steps ≡ steps_told d.run.results.items = sym (ap (drop 1) told) in
    let ok : d.ok ≡ count_by is_ok (undisturbed number steps) = counts.ok_is ∙ y.ok ∙ ap (count_by is_ok) rest in
    let refused : d.refused ≡ count_by is_refused (undisturbed number steps) = counts.refused_is ∙ y.refused ∙ ap (count_by is_refused) rest in
    record {
      client = client ∙ y.linked.state;
      results = told;
      answered = answered;
      commands = counts.commands_are;
      breaks = breaks_are;
      ok = ok;
      refused = refused;
      ok_of = ok ∙ ap (count_by is_ok) behind;
      refused_of = refused ∙ ap (count_by is_refused) behind;
      all = (λ i. counts.ok_is i + counts.refused_is i) ∙ y.all;
      start = start_is;
      history = history;
      opened = (λ i. opened_in (start_is i) (history i)) ∙ opened-all start opening (all_asks token 1 all) (breaks_in all) first.opened law.opened ∙ ap suc (sym breaks_are);
      back = (λ i. back_in (start_is i) (history i)) ∙ back-all start opening (all_asks token 1 all) (breaks_in all) first.back law.back ∙ sym breaks_are;
    }
