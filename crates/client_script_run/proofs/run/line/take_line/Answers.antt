use Rattle.std.proofs.Common.{subst, Err, refl}
use Rattle.client_script_commands.specs.parts.Parts.{Comes}
use Rattle.client_script_commands.specs.declared.parts.asker.Stop.{Stop}
use Rattle.client_script_commands.specs.ls.Ls.{IsSaid}
use Rattle.client_script_run.specs.line.Run.{line_part, said_by}
use Rattle.client_script_run.proofs.OfRun.ScriptLemmas.{lacks_all, lacks_own, lacks_refused, takes_bad, takes_wait}
use Rattle.client_script_run.proofs.run.line.take_line.Goals as goal

pub returns-in-Nothing : goal.returns-in-Nothing
returns-in-Nothing g c =
    lacks_own g.row.A-End.Denot (g.A.Asker.exchanges c.args.asker.now) (g.A.Asker.exchanges c.run_line.new.asker) (line_part c.args.mounted.now c.args.line.now) c.in-Ok.text
    (g.O.Sink.sink_state c.args.out.now) (g.O.Sink.sink_state c.print_told.new.out) c.in-Ok.ensures.comes c.in-Nothing.ensures

pub returns-in-Nothing-print_refusal : goal.returns-in-Nothing-print_refusal
returns-in-Nothing-print_refusal g c =
    let before = g.A.Asker.exchanges c.args.asker.now in
    let after = g.A.Asker.exchanges c.run_line.new.asker in
    let part = line_part c.args.mounted.now c.args.line.now in
    lacks_refused g.row.A-End.Denot before after part c.in-Err-Refused.code (g.O.Sink.sink_state c.args.out.now) (g.O.Sink.sink_state c.print_refusal.new.out)
    (subst (λ (s : Stop g.row.A-End.Denot). Comes before part (Err s) after) c.in-Err-Refused.field-0-is c.in-Err-Refused.ensures.comes) c.in-Nothing-print_refusal.ensures

pub returns-in-Err-Memory : goal.returns-in-Err-Memory
returns-in-Err-Memory g c =
    let before = g.A.Asker.exchanges c.args.asker.now in
    let after = g.A.Asker.exchanges c.run_line.new.asker in
    let part = line_part c.args.mounted.now c.args.line.now in
    lacks_all g.row.A-End.Denot before after part (g.O.Sink.sink_state c.args.out.now) (g.O.Sink.sink_state c.args.out.now)
    (subst (λ (s : Stop g.row.A-End.Denot). Comes before part (Err s) after) c.in-Err-Memory.field-0-is c.in-Err-Memory.ensures.comes) refl

pub returns-in-Err-Ended : goal.returns-in-Err-Ended
returns-in-Err-Ended g c =
    let before = g.A.Asker.exchanges c.args.asker.now in
    let after = g.A.Asker.exchanges c.run_line.new.asker in
    let part = line_part c.args.mounted.now c.args.line.now in
    takes_wait c.args.mounted.now c.args.line.now before after c.in-Err-Ended.end c.new-said.result c.run_line.new.said (g.O.Sink.sink_state c.args.out.now)
    (subst (λ (s : Stop g.row.A-End.Denot). Comes before part (Err s) after) c.in-Err-Ended.field-0-is c.in-Err-Ended.ensures.comes)
    (subst (λ (s : Stop g.row.A-End.Denot). IsSaid (said_by c.args.mounted.now c.args.line.now) before c.new-said.result (Err s) c.run_line.new.said after) c.in-Err-Ended.field-0-is c.in-Err-Ended.ensures.said)
    c.new-said.ensures

pub returns-in-Err-BadReply : goal.returns-in-Err-BadReply
returns-in-Err-BadReply g c =
    let before = g.A.Asker.exchanges c.args.asker.now in
    let after = g.A.Asker.exchanges c.run_line.new.asker in
    let part = line_part c.args.mounted.now c.args.line.now in
    takes_bad g.row.A-End.Denot c.args.mounted.now c.args.line.now before after c.new-said.result c.run_line.new.said (g.O.Sink.sink_state c.args.out.now)
    (subst (λ (s : Stop g.row.A-End.Denot). Comes before part (Err s) after) c.in-Err-BadReply.field-0-is c.in-Err-BadReply.ensures.comes)
    (subst (λ (s : Stop g.row.A-End.Denot). IsSaid (said_by c.args.mounted.now c.args.line.now) before c.new-said.result (Err s) c.run_line.new.said after) c.in-Err-BadReply.field-0-is c.in-Err-BadReply.ensures.said)
    c.new-said.ensures
