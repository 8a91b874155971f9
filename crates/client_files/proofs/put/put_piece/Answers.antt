use Rattle.std.proofs.Common.{◌≡◌, subst, [], ◌∷◌, arith}
use Rattle.afp_calls_grammar.specs.declared.grammar.call.Call.{Call}
use Rattle.client_script_commands.specs.parts.Parts.{with_more}
use Rattle.client_files.proofs.PutLemmas.{once_written}
use Rattle.client_files.proofs.put.put_piece.Goals as goal

pub returns-in-Ok-clause-puts : goal.returns-in-Ok-clause-puts
returns-in-Ok-clause-puts g c =
    once_written c.args.reference c.args.from c.args.piece.now _ c.in-Ok.answer _ _
    (subst (λ (call : Call). g.A.Asker.exchanges c.ask.new.self ≡ with_more (g.A.Asker.exchanges c.args.asker.now) ((record { call = call; answer = c.in-Ok.answer }) ∷ [])) c.write_at-call.ensures.call c.in-Ok.ensures.asks)
    (omega (arith, c.if-size-from.false, c.requires.from))
    c.take_answer.ensures
