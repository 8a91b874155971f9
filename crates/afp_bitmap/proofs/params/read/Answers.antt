use Rattle.std.proofs.Common.{◌≡◌, arith}
use Rattle.std.proofs.lemmas.Result.{err_from_is_err_and}
use Rattle.afp_bitmap.proofs.Walks.{bind_fails, bind_ok}
use Rattle.afp_bitmap.specs.lemma.Read.{reading}
use Rattle.afp_bitmap.proofs.params.read.Goals as goal

pub returns-in_err-read_volume-in-0 : goal.returns-in_err-read_volume-in-0
unfolding reading
returns-in_err-read_volume-in-0 c =
    let p = err_from_is_err_and c.from_residual.result c.from_residual.ensures.1 in
    rw (p.1, p.2, c.in-0.is) (bind_fails c.in_err-read_volume-in-0.field-0.0 _ _ c.in_err-read_volume-in-0.ensures)

pub returns-in_err-read_file-in-1 : goal.returns-in_err-read_file-in-1
unfolding reading
returns-in_err-read_file-in-1 c =
    let p = err_from_is_err_and c.from_residual-in_err-read_file-in-1.result c.from_residual-in_err-read_file-in-1.ensures.1 in
    rw (p.1, p.2, c.in-1.is) (bind_fails c.in_err-read_file-in-1.field-0.0 _ _ c.in_err-read_file-in-1.ensures)

pub returns-in_err-read_dir-in_default : goal.returns-in_err-read_dir-in_default
unfolding reading
returns-in_err-read_dir-in_default c =
    let p = err_from_is_err_and c.from_residual-in_err-read_dir-in_default.result c.from_residual-in_err-read_dir-in_default.ensures.1 in
    let two : c.args.kind ≡ 2 = omega arith in
    rw (p.1, p.2, two) (bind_fails c.in_err-read_dir-in_default.field-0.0 _ _ c.in_err-read_dir-in_default.ensures)

pub returns-in_ok-read_volume-in-0 : goal.returns-in_ok-read_volume-in-0
unfolding reading
returns-in_ok-read_volume-in-0 c = rw c.in-0.is (bind_ok _ _ _ c.in_ok-read_volume-in-0.ensures)

pub returns-in_ok-read_file-in-1 : goal.returns-in_ok-read_file-in-1
unfolding reading
returns-in_ok-read_file-in-1 c = rw c.in-1.is (bind_ok _ _ _ c.in_ok-read_file-in-1.ensures)

pub returns-in_ok-read_dir-in_default : goal.returns-in_ok-read_dir-in_default
unfolding reading
returns-in_ok-read_dir-in_default c =
    let two : c.args.kind ≡ 2 = omega arith in
    rw two (bind_ok _ _ _ c.in_ok-read_dir-in_default.ensures)
