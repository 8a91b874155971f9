use Rattle.std.proofs.Common.{refl}
use Rattle.std.proofs.lemmas.Result.{err_from_is_err_and}
use Rattle.afp_replies.proofs.Spellings.{text_took, text_cut, counted_stops}
use Rattle.afp_replies.proofs.cursor.Cursor.counted_piece.Goals as goal

pub returns-in_err-head : goal.returns-in_err-head
returns-in_err-head c =
    let p = err_from_is_err_and c.from_residual.result c.from_residual.ensures.1 in
    rw (p.1, p.2) (counted_stops _ _ _ _ _ c.in_err-head.ensures)

pub returns-then-rest-count : goal.returns-then-rest-count
returns-then-rest-count c = (
  text_cut _ _ _ _ _ _ c.read_uint-count.ensures c.in_ok-head.ensures c.rest.ensures c.if-rest-count.true,
  c.place-at.ensures.place,
)

pub returns : goal.returns
returns c = text_took _ _ _ _ _ _ _ _ c.read_uint-count.ensures c.in_ok-head.ensures c.in_ok-text.ensures refl
