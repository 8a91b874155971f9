use Rattle.std.proofs.Common.{◌≡◌, subst, [], ◌∷◌}
use Rattle.afp_calls_grammar.specs.declared.grammar.call.Call.{Call}
use Rattle.client_script_commands.specs.parts.Parts.{with_more}
use Rattle.client_files.proofs.VerifyLemmas.{once_verified, places_of}
use Rattle.client_files.proofs.verify.verify_once.Goals as goal

pub returns-in-Ok-clause-verifies : goal.returns-in-Ok-clause-verifies
returns-in-Ok-clause-verifies g c =
    once_verified c.args.reference c.args.count c.args.from _ _ c.in-Ok.answer _ _ _
    (subst (λ (call : Call). g.A.Asker.exchanges c.ask.new.self ≡ with_more (g.A.Asker.exchanges c.args.asker.now) ((record { call = call; answer = c.in-Ok.answer }) ∷ [])) c.read_at-call.ensures.call c.in-Ok.ensures.asks)
    c.take_answer.ensures.takes

pub returns-in-Ok-clause-places : goal.returns-in-Ok-clause-places
returns-in-Ok-clause-places g c = λ n e. places_of _ _ _ _ _ _ n _ _ e (returns-in-Ok-clause-verifies g c)
