-- One call more, with its answer.
use Rattle.std.proofs.Common.{◌≡◌, List, [], ◌∷◌, ◌++◌, length, refl, ap, arith}
use Rattle.afp_calls_grammar.specs.declared.grammar.call.Call.{Call}
use Rattle.client_script_commands.specs.declared.parts.asker.Answer.{Answer}
use Rattle.client_script_commands.specs.parts.Parts.{Exchange}
use Rattle.client_script_run.specs.asker.Read.{zipped}

zipped_onto : (calls : List Call) (answers : List Answer) (call : Call) (answer : Answer) → length calls ≡ length answers
    → zipped (calls ++ call ∷ []) (answers ++ answer ∷ []) ≡ zipped calls answers ++ (record { call = call; answer = answer }) ∷ []
zipped_onto [] [] call answer h = refl
zipped_onto [] (a ∷ answers) call answer h = absurd (omega (arith, h))
zipped_onto (c ∷ calls) [] call answer h = absurd (omega (arith, h))
zipped_onto (c ∷ calls) (a ∷ answers) call answer h = ap (λ (rest : List Exchange). (record { call = c; answer = a }) ∷ rest) (zipped_onto calls answers call answer (omega (arith, h)))

pub zipped_more : (calls calls_now : List Call) (answers answers_now : List Answer) (call : Call) (answer : Answer) → length calls ≡ length answers
    → calls_now ≡ calls ++ call ∷ [] → answers_now ≡ answers ++ answer ∷ [] → zipped calls_now answers_now ≡ zipped calls answers ++ (record { call = call; answer = answer }) ∷ []
zipped_more calls calls_now answers answers_now call answer h e f = rw e (rw f (zipped_onto calls answers call answer h))
