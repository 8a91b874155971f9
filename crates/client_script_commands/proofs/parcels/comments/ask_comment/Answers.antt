use Rattle.client_script_commands.specs.declared.parts.asker.Stop.TheVariants as stops
use Rattle.std.proofs.Common.{Err, refl}
use Rattle.client_script_commands.proofs.OfParcels.CommentLemmas.{comment_none, comment_refused}
use Rattle.client_script_commands.proofs.parcels.comments.ask_comment.Goals as goal

pub returns-in-ItemNotFound-clause-told : goal.returns-in-ItemNotFound-clause-told
returns-in-ItemNotFound-clause-told g c =
    comment_none {E = g.row.A-End.Denot} c.args.call (g.A.Asker.exchanges c.args.asker.now) c.in-Ok.answer (g.A.Asker.exchanges c.ask.new.asker) c.in-Ok.ensures.tells c.in-ItemNotFound.is

pub returns-in_default : goal.returns-in_default
returns-in_default g c =
    let mid = g.A.Asker.exchanges c.ask.new.asker in
    let refused = c.parts_end.ensures.refused mid c.in-Ok.answer.code (Err (stops.Refused c.in-Ok.answer.code)) refl in
    record {
      told = comment_refused {E = g.row.A-End.Denot} c.args.call (g.A.Asker.exchanges c.args.asker.now) c.in-Ok.answer mid (stops.Refused c.in-Ok.answer.code) c.in-Ok.ensures.tells c.in_default.not-Ok c.in_default.not-ItemNotFound refused;
      is = tt;
    }
