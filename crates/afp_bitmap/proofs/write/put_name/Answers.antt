use Rattle.std.proofs.lemmas.Result.{on_ok_weaker, on_err_weaker}
use Rattle.std.proofs.Common.{arith, ◌++◌}
use Rattle.afp_bitmap.proofs.InPlace.{named_behind, kept_behind}
use Rattle.afp_bitmap.proofs.write.put_name.Goals as goal

pub returns-clause-ok : goal.returns-clause-ok
returns-clause-ok c =
    let is = rw c.as_slice.ensures at c.patch.ensures in
    on_ok_weaker c.put_padded.result
    (named_behind c.args.base c.args.spot.at c.args.out.now c.patch.new.out c.put_padded.new.out (c.args.head.now ++ c.args.spot.name.now) (omega (arith, c.requires.inside)) is)
    c.put_padded.ensures.ok

pub returns-clause-err : goal.returns-clause-err
returns-clause-err c =
    on_err_weaker c.put_padded.result
    (kept_behind c.args.base c.args.spot.at _ c.args.out.now c.patch.new.out c.put_padded.new.out (omega (arith, c.requires.inside)) c.patch.ensures)
    c.put_padded.ensures.err
