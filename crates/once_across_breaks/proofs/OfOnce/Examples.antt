-- The schedule meets the premises.
use Rattle.std.proofs.Common.{◌≡◌, ℕ, Bool, true, false, List, [], ◌∷◌, refl, sym, ◌∙◌}
use Rattle.std.specs.Prelude.{nat_lt, ◌&&◌, not}
use Rattle.std.proofs.lemmas.Bool.{ltb-true, and_parts, true≢false, false≢true, not-true}
use Rattle.once_across_breaks.specs.once.Server.{Machine}
use Rattle.once_across_breaks.specs.once.Run.{Run, Event, Commands, ToServer, ToClient, Quiet, Loses, Drains, Ends, Breaks, Others, step, start}
use Rattle.once_across_breaks.specs.once.Once.{AllAllowed, Allowed}
use Rattle.afp_calls_grammar.specs.grammar.Spelt.{spelt_call}
use Rattle.once_across_breaks.specs.once.Counting.{counting, empty}
use Rattle.once_across_breaks.specs.once.Example.{FirstIsKept, RunsOnce, RunsTwice, SecondIsKept, broken}

abbrev is_calm : Event → Bool
is_calm (Commands call) = true
is_calm (ToServer link moment wish) = not wish.memory
is_calm ToClient = true
is_calm (Quiet link moment wish) = true
is_calm (Loses link moment wish) = true
is_calm (Drains link moment wish) = true
is_calm (Ends link) = true
is_calm Breaks = true
is_calm (Others e) = false

abbrev all_calm : {W : Type 0} → Machine W → Run W → List Event → Bool
all_calm m run [] = true
all_calm m run (e ∷ es) = is_calm e && (nat_lt (step m run e).client.row 1900 && all_calm m (step m run e) es)

calm-allowed : {W : Type 0} (m : Machine W) (n : ℕ) (run : Run W) (e : Event) → is_calm e ≡ true → Allowed m n run e
calm-allowed m n run (Commands call) c = tt
calm-allowed m n run (ToServer link moment wish) c = λ e f. absurd (true≢false (sym e ∙ not-true wish.memory c))
calm-allowed m n run ToClient c = tt
calm-allowed m n run (Quiet link moment wish) c = tt
calm-allowed m n run (Loses link moment wish) c = tt
calm-allowed m n run (Drains link moment wish) c = tt
calm-allowed m n run (Ends link) c = tt
calm-allowed m n run Breaks c = tt
calm-allowed m n run (Others e) c = absurd (false≢true c)

calm-all : {W : Type 0} (m : Machine W) (n : ℕ) (run : Run W) (events : List Event) → all_calm m run events ≡ true → AllAllowed m n run events
calm-all m n run [] c = tt
calm-all m n run (e ∷ es) c =
    let a = and_parts (is_calm e) (nat_lt (step m run e).client.row 1900 && all_calm m (step m run e) es) c in
    let b = and_parts (nat_lt (step m run e).client.row 1900) (all_calm m (step m run e) es) a.1 in
    (calm-allowed m n run e a.0, ltb-true (step m run e).client.row 1900 b.0, calm-all m n (step m run e) es b.1)

pub first-kept : FirstIsKept
unfolding spelt_call
first-kept = refl

pub second-kept : SecondIsKept
unfolding spelt_call
second-kept = refl

pub runs-once : RunsOnce
runs-once = record { first = first-kept; second = second-kept; token = refl; results = refl; ran = refl; effects = refl; allowed = calm-all counting 1 (start empty) (broken first-kept second-kept) refl }

pub runs-twice : RunsTwice
runs-twice = record { first = first-kept; results = refl; ran = refl; effects = refl }
