-- What comes of schedules that do not meet a premise.
use Rattle.std.proofs.Common.{◌≡◌, ◌∙◌, refl, sym, ap, subst, ℕ, zero, suc, ◌+◌, true, false, List, [], ◌∷◌, ◌++◌, Option, Some, None, arith, append-nil}
use Rattle.std.specs.Prelude.{nat_eq, nat_lt, ◌*◌}
use Rattle.std.proofs.lemmas.Bool.{cond-true, eq-eqb}
use Rattle.once_across_breaks.specs.once.Messages.{Answer, Call, Does, Done, Fine, NoMemory, Other, kept}
use Rattle.once_across_breaks.specs.once.Server.{Entry, set}
use Rattle.once_across_breaks.specs.once.Run.{Asks, Client, Coming, Event, Going, Idle, Link, Ready, Run, Slot, Wait, Commands, ToClient, ToServer, id_of, run_of, start, step, takes, takes_for, takes_reply, to_client, with_client, with_result, with_slot}
use Rattle.once_across_breaks.specs.once.Once.{effective}
use Rattle.once_across_breaks.specs.once.Counting.{Counting, counting, empty}
use Rattle.once_across_breaks.specs.once.Example.{FirstIsKept, SecondIsKept, calm, first_done, first_sent, second_sent}
use Rattle.once_across_breaks.specs.once.Premises.{AnOldAnswerIsTold, OthersAskedOnTheLink, OthersTookTheSession, around_run, lacks, many, missed, until_told}
use Rattle.once_across_breaks.proofs.OfOnce.Examples.{first-kept, second-kept}
use Rattle.once_across_breaks.proofs.OfOnce.Steps.{kept-push}

pub others-took : OthersTookTheSession
others-took = record { first = first-kept; token = refl; results = refl; effects = refl }

pub others-asked : OthersAskedOnTheLink
others-asked = record { first = first-kept; token = refl; results = refl; effects = refl }

-- ---- a client that is ready on its first link, whatever its other links are

abbrev linked : Slot → Link
linked slot = record { number = Some 1; ended = false; slot = slot; got = true }

abbrev client : ℕ → Option Wait → List Done → ℕ → Client
client drawn wait results row =
    record { stage = Ready; tries = 0; opening_id = 2; token = Some (1 ∷ []); first = 3; drawn = drawn; wait = wait; results = results; row = row }

abbrev at : (ℕ → Link) → Slot → Client → Counting → List Entry → Run Counting
at f slot c w h = record { client = c; top = 0; links = set f 0 (linked slot); world = w; history = h }

abbrev waits : ℕ → Call → ℕ → Wait
waits seq call tries = record { id = id_of 3 seq; seq = seq; call = call; tries = tries }

abbrev miss : ℕ → Call → Done
miss seq call = record { id = id_of 3 seq; call = call; answer = NoMemory }

-- a property of the run behind the rest of a schedule
abbrev Behind : (Run Counting → Type 0) → List Event → Run Counting → Type 0
Behind P rest run = P (run_of counting run rest)

-- a request of a command, and what is told of it
abbrev asks : ℕ → Call → Slot
asks id call = Coming (Asks id (Does call) false)

abbrev lacking : (ℕ → Link) → ℕ → ℕ → ℕ → Call → List Done → Counting → List Entry → Run Counting
lacking f d t row call results w h = at (set f 0 (linked (asks (id_of 3 d) call))) (Going (Asks (id_of 3 d) (Does call) false) NoMemory) (client (suc d) (Some (waits d call t)) results row) w h

-- it is the one that waits
takes-own : (P : Run Counting → Type 0) (rest : List Event) (run : Run Counting) (w : Wait) (a : Answer) → Behind P rest (takes_reply run w a) → Behind P rest (takes_for run (Some w) (Asks w.id (Does w.call) false) a)
takes-own P rest run w a goes = subst (Behind P rest) (sym (cond-true (nat_eq w.id w.id) (takes_reply run w a) run (eq-eqb w.id w.id refl))) goes

-- a request that is told want of memory is written under the next id
lacks-again : (P : Run Counting → Type 0) (rest : List Event) (f : ℕ → Link) (d t row : ℕ) (call : Call) (results : List Done) (w : Counting) (h : List Entry)
    → nat_lt t 3 ≡ true
    → ((g : ℕ → Link) → Behind P rest (at g (asks (id_of 3 (suc d)) call) (client (suc (suc d)) (Some (waits (suc d) call (suc t))) results (suc row)) w h))
    → Behind P (lacks rest) (at f (asks (id_of 3 d) call) (client (suc d) (Some (waits d call t)) results row) w h)
lacks-again P rest f d t row call results w h few goes =
    let run : Run Counting = lacking f d t row call results w h in
    takes-own P rest run (waits d call t) NoMemory
    (subst (Behind P rest)
    (sym (cond-true (nat_lt t 3) (at run.links (asks (id_of 3 (suc d)) call) (client (suc (suc d)) (Some (waits (suc d) call (suc t))) results (suc row)) w h)
    (at run.links Idle (client (suc d) None (results ++ miss d call ∷ []) (suc row)) w h) few))
    (goes run.links))

-- the fourth time it is the result
lacks-told : (P : Run Counting → Type 0) (rest : List Event) (f : ℕ → Link) (d row : ℕ) (call : Call) (results : List Done) (w : Counting) (h : List Entry)
    → ((g : ℕ → Link) → Behind P rest (at g Idle (client (suc d) None (results ++ miss d call ∷ []) (suc row)) w h))
    → Behind P (lacks rest) (at f (asks (id_of 3 d) call) (client (suc d) (Some (waits d call 3)) results row) w h)
lacks-told P rest f d row call results w h goes =
    let run : Run Counting = lacking f d 3 row call results w h in
    takes-own P rest run (waits d call 3) NoMemory (goes run.links)

-- three of four
lacks-thrice : (P : Run Counting → Type 0) (rest : List Event) (f : ℕ → Link) (d row : ℕ) (call : Call) (results : List Done) (w : Counting) (h : List Entry)
    → ((g : ℕ → Link) → Behind P rest (at g (asks (id_of 3 (suc (suc (suc d)))) call) (client (suc (suc (suc (suc d)))) (Some (waits (suc (suc (suc d))) call 3)) results (suc (suc (suc row)))) w h))
    → Behind P (Commands call ∷ lacks (lacks (lacks rest))) (at f Idle (client d None results row) w h)
lacks-thrice P rest f d row call results w h goes =
    lacks-again P (lacks (lacks rest)) (set f 0 (linked Idle)) d 0 row call results w h refl
    (λ g. lacks-again P (lacks rest) g (suc d) 1 (suc row) call results w h refl
    (λ g. lacks-again P rest g (suc (suc d)) 2 (suc (suc row)) call results w h refl goes))

-- ---- many such commands

abbrev small : SecondIsKept → Call
small q = Other (record { sent = second_sent; kept = q })

unfoldable behind : ℕ → ℕ → ℕ
behind zero d = d
behind (suc n) d = behind n (suc (suc (suc (suc d))))

unfoldable results_behind : SecondIsKept → ℕ → ℕ → List Done → List Done
results_behind q zero d results = results
results_behind q (suc n) d results = results_behind q n (suc (suc (suc (suc d)))) (results ++ miss (suc (suc (suc d))) (small q) ∷ [])

missed-goes : (P : Run Counting → Type 0) (q : SecondIsKept) (rest : List Event) (n : ℕ) (f : ℕ → Link) (d row : ℕ) (results : List Done) (w : Counting) (h : List Entry)
    → ((g : ℕ → Link) → Behind P rest (at g Idle (client (behind n d) None (results_behind q n d results) (behind n row)) w h))
    → Behind P (missed q n rest) (at f Idle (client d None results row) w h)
unfolding missed behind results_behind
missed-goes P q rest zero f d row results w h goes = goes f
missed-goes P q rest (suc n) f d row results w h goes =
    lacks-thrice P (lacks (missed q n rest)) f d row (small q) results w h
    (λ g. lacks-told P (missed q n rest) g (suc (suc (suc d))) (suc (suc (suc row))) (small q) results w h
    (λ g. missed-goes P q rest n g (suc (suc (suc (suc d)))) (suc (suc (suc (suc row)))) (results ++ miss (suc (suc (suc d))) (small q) ∷ []) w h goes))

behind-is : (n d : ℕ) → behind n d ≡ d + 4 * n
unfolding behind
behind-is zero d = omega arith
behind-is (suc n) d = let more = behind-is n (suc (suc (suc (suc d)))) in omega (arith, more)

kept-behind : (q : SecondIsKept) (n d : ℕ) (results : List Done) → kept (results_behind q n d results) ≡ kept results
unfolding results_behind
kept-behind q zero d results = refl
kept-behind q (suc n) d results =
    kept-behind q n (suc (suc (suc (suc d)))) (results ++ miss (suc (suc (suc d))) (small q) ∷ []) ∙ kept-push results (miss (suc (suc (suc d))) (small q)) ∙ append-nil (kept results)

-- ---- the command whose id has come round

abbrev own : FirstIsKept → Call
own p = Other (record { sent = first_sent; kept = p })

-- the client is about to be told the command's first result
abbrev prior : FirstIsKept → Run Counting
prior p = run_of counting (start empty) (until_told p)

-- behind all
record Ends (p : FirstIsKept) (run : Run Counting) : Type 0 where
  pub results : kept run.client.results ≡ first_done p 3 0 ∷ first_done p 3 0 ∷ []
  pub ran : run.world.ran ≡ 1
  pub effects : effective counting 1 empty run.history ≡ first_done p 3 0 ∷ []

repeat-ends : (p : FirstIsKept) (f : ℕ → Link) (drawn seq row : ℕ) (results : List Done) (id : ℕ) → id ≡ 3 → kept results ≡ first_done p 3 0 ∷ []
    → Behind (Ends p) (ToServer 0 6 calm ∷ ToClient ∷ []) (at f (asks id (own p)) (client drawn (Some (record { id = id; seq = seq; call = own p; tries = 3 })) results row) (prior p).world (prior p).history)
repeat-ends p f drawn seq row results id is before =
    subst (λ i. Behind (Ends p) (ToServer 0 6 calm ∷ ToClient ∷ []) (at f (asks i (own p)) (client drawn (Some (record { id = i; seq = seq; call = own p; tries = 3 })) results row) (prior p).world (prior p).history))
    (sym is) (record { results = kept-push results (first_done p 3 0) ∙ ap (λ rs. rs ++ first_done p 3 0 ∷ []) before; ran = refl; effects = refl })

-- ---- from the start

runs-on : (run : Run Counting) (events rest : List Event) → run_of counting run (events ++ rest) ≡ run_of counting (run_of counting run events) rest
runs-on run [] rest = refl
runs-on run (e ∷ events) rest = runs-on (step counting run e) events rest

-- a client on its first link has written nothing
idle-is : (run : Run Counting) (c : Client) → run.top ≡ 0 → with_slot (run.links 0) Idle ≡ linked Idle → with_client run c Idle ≡ at run.links Idle c run.world run.history
idle-is run c top link =
    (λ i. record { client = c; top = top i; links = set run.links (top i) (with_slot (run.links (top i)) Idle); world = run.world; history = run.history })
    ∙ (λ i. record { client = c; top = 0; links = set run.links 0 (link i); world = run.world; history = run.history })

-- the first result is taken
first-told : (P : Run Counting → Type 0) (rest : List Event) (run : Run Counting) (call : Call) (block : List ℕ)
    → run.top ≡ 0 → run.client ≡ client 1 (Some (waits 0 call 0)) [] 0 → (run.links 0).slot ≡ Going (Asks 3 (Does call) false) (Fine block) → with_slot (run.links 0) Idle ≡ linked Idle
    → Behind P rest (at run.links Idle (client 1 None (record { id = 3; call = call; answer = Fine block } ∷ []) 0) run.world run.history)
    → Behind P (ToClient ∷ rest) run
first-told P rest run call block top is going link goes =
    let done : Client = client 1 None (record { id = 3; call = call; answer = Fine block } ∷ []) 0 in
    subst (λ t. P (run_of counting (to_client run (run.links t).slot) rest)) (sym top)
    (subst (λ x. P (run_of counting (to_client run x) rest)) (sym going)
    (subst (λ x. P (run_of counting (takes run x (Asks 3 (Does call) false) (Fine block)) rest)) (sym (ap (λ (c : Client). c.stage) is))
    (subst (λ x. P (run_of counting (takes_for run x (Asks 3 (Does call) false) (Fine block)) rest)) (sym (ap (λ (c : Client). c.wait) is))
    (subst (Behind P rest) (sym (ap (λ c. with_client run (with_result c (waits 0 call 0) (Fine block)) Idle) is ∙ idle-is run done top link)) goes))))

-- behind the first result
round-ends : (p : FirstIsKept) (q : SecondIsKept) (n : ℕ) → id_of 3 (suc (suc (suc (behind n 1)))) ≡ 3
    → Behind (Ends p) (missed q n (Commands (own p) ∷ lacks (lacks (lacks (ToServer 0 6 calm ∷ ToClient ∷ []))))) (at (prior p).links Idle (client 1 None (first_done p 3 0 ∷ []) 0) (prior p).world (prior p).history)
round-ends p q n is =
    missed-goes (Ends p) q (Commands (own p) ∷ lacks (lacks (lacks (ToServer 0 6 calm ∷ ToClient ∷ [])))) n (prior p).links 1 0 (first_done p 3 0 ∷ []) (prior p).world (prior p).history
    (λ g. lacks-thrice (Ends p) (ToServer 0 6 calm ∷ ToClient ∷ []) g (behind n 1) (behind n 0) (own p) (results_behind q n 1 (first_done p 3 0 ∷ [])) (prior p).world (prior p).history
    (λ k. repeat-ends p k (suc (suc (suc (suc (behind n 1))))) (suc (suc (suc (behind n 1)))) (suc (suc (suc (behind n 0)))) (results_behind q n 1 (first_done p 3 0 ∷ []))
    (id_of 3 (suc (suc (suc (behind n 1))))) is (kept-behind q n 1 (first_done p 3 0 ∷ []))))

whole-ends : (p : FirstIsKept) (q : SecondIsKept) (n : ℕ) → id_of 3 (suc (suc (suc (behind n 1)))) ≡ 3 → Ends p (around_run p q n)
whole-ends p q n is =
    let rest : List Event = missed q n (Commands (own p) ∷ lacks (lacks (lacks (ToServer 0 6 calm ∷ ToClient ∷ [])))) in
    subst (Ends p) (sym (runs-on (start empty) (until_told p) (ToClient ∷ rest)))
    (first-told (Ends p) rest (prior p) (own p) (0 ∷ []) refl refl refl refl (round-ends p q n is))

-- the ids come round
comes-round : id_of 3 (suc (suc (suc (behind many 1)))) ≡ 3
comes-round = ap (λ x. id_of 3 (suc (suc (suc x)))) (behind-is many 1)

pub old-answer : AnOldAnswerIsTold
old-answer =
    let ends : Ends first-kept (around_run first-kept second-kept many) = whole-ends first-kept second-kept many comes-round in
    record { first = first-kept; second = second-kept; results = ends.results; ran = ends.ran; effects = ends.effects }
