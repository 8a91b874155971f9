use Rattle.std.proofs.Common.{◌≡◌, subst, [], ◌∷◌}
use Rattle.afp_calls_grammar.specs.declared.grammar.call.Call.{Call}
use Rattle.client_script_commands.specs.parts.Parts.{with_more}
use Rattle.client_files.proofs.GetLemmas.{once_told}
use Rattle.client_files.proofs.get.get_once.Goals as goal

pub returns-in-Ok-clause-gets : goal.returns-in-Ok-clause-gets
returns-in-Ok-clause-gets g c =
    once_told c.args.reference c.args.count c.args.from _ _ c.in-Ok.answer _ _ _
    (subst (λ (call : Call). g.A.Asker.exchanges c.ask.new.self ≡ with_more (g.A.Asker.exchanges c.args.asker.now) ((record { call = call; answer = c.in-Ok.answer }) ∷ [])) c.read_at-call.ensures.call c.in-Ok.ensures.asks)
    c.take_answer.ensures
